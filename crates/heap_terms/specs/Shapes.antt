-- What a word is. The low bits say of which form it is; what a list or an object is made of stands in the heap.
use Rattle.std.specs.Prelude.{ℕ, zero, suc, ◌+◌, ◌-◌, ◌*◌, ◌/◌, ◌%◌, ℤ, List, [], ◌∷◌, map, length, take, drop, slice_get, Option, Some, None, ◌&&◌, nat_eq, nat_le, nat_lt, if◌then◌else◌}
use Rattle.region_memory.specs.declared.layout.TheConstants.{HEAP_END}
use Rattle.hipe_terms.specs.Shown.{Names}
use Rattle.heap_terms.specs.declared.tags.TheConstants.{INTEGER_TAG, INTEGER_SCALE, ATOM_TAG, ATOM_SCALE, NIL_WORD, CONS_TAG, OBJECT_TAG, POINTER_SCALE, TUPLE_HEADER, FUN_HEADER, HEADER_SCALE}
use Rattle.heap_terms.specs.Integers.{integer_in}

-- what is known of a program where its words are read: its atoms by number, the names of its definitions, and how many functions it has
pub record Symbols : Type 0 where
  pub atoms : List (List ℕ)
  pub definitions : Names
  pub functions : ℕ

-- a word, and the number of the heap's word below which an object must begin for the word to refer to it
pub record Reference : Type 0 where
  pub below : ℕ
  pub word : ℕ

-- one level of a term, with something in the place of each part
pub data Shape (X : Type 0) : Type 0 where
  Integer : (value : ℤ) → Shape X
  Atom : (name : List ℕ) → Shape X
  Nil : Shape X
  Cons : (head tail : X) → Shape X
  Tuple : (elements : List X) → Shape X
  Fun : (number : ℕ) (captured : List X) → Shape X

-- the address of the heap's first word
abbrev pub heap_begin : List ℕ → ℕ
heap_begin heap = HEAP_END - 8 * length heap

-- the words of an object, which refer below it
abbrev pub parts : ℕ → List ℕ → List Reference
parts below words = map (λ w. record { below = below; word = w }) words

-- so many words of the heap from this one on, if it has as many
abbrev pub words_from : List ℕ → ℕ → ℕ → Option (List ℕ)
words_from heap i n = if nat_le (i + n) (length heap) then Some (take n (drop i heap)) else None

-- the atom with this number
abbrev pub atom_shape : Option (List ℕ) → Option (Shape Reference)
atom_shape None = None
atom_shape (Some name) = Some (Atom name)

-- two words of the heap are the first element and the rest of a list
abbrev pub cons_shape : ℕ → Option (List ℕ) → Option (Shape Reference)
cons_shape below (Some (head ∷ (tail ∷ []))) = Some (Cons (record { below = below; word = head }) (record { below = below; word = tail }))
cons_shape below _ = None

abbrev pub tuple_shape : ℕ → Option (List ℕ) → Option (Shape Reference)
tuple_shape below None = None
tuple_shape below (Some words) = Some (Tuple (parts below words))

-- the first word of a fun behind its header is the integer of its function's number
abbrev pub fun_shape : ℕ → ℕ → Option (List ℕ) → Option (Shape Reference)
fun_shape functions below (Some (number ∷ words)) =
    if nat_eq (number % INTEGER_SCALE) INTEGER_TAG && nat_lt (number / INTEGER_SCALE) functions then Some (Fun (number / INTEGER_SCALE) (parts below words)) else None
fun_shape functions below _ = None

-- an object by its header, which has the number of a tuple's elements or of a fun's captured values above its low bits
abbrev pub object_shape : Symbols → List ℕ → ℕ → Option ℕ → Option (Shape Reference)
object_shape symbols heap i None = None
object_shape symbols heap i (Some header) =
    if nat_eq (header % HEADER_SCALE) TUPLE_HEADER then tuple_shape i (words_from heap (suc i) (header / HEADER_SCALE))
    else if nat_eq (header % HEADER_SCALE) FUN_HEADER then fun_shape symbols.functions i (words_from heap (suc i) (suc (header / HEADER_SCALE)))
    else None

-- the heap's word at an address, by number, where it is lower than the limit
abbrev pub lower : List ℕ → ℕ → ℕ → Option ℕ
lower heap below address =
    if nat_le (heap_begin heap) address && nat_lt ((address - heap_begin heap) / 8) below
    then Some ((address - heap_begin heap) / 8)
    else None

abbrev pub cons_at : List ℕ → Option ℕ → Option (Shape Reference)
cons_at heap None = None
cons_at heap (Some i) = cons_shape i (words_from heap i 2)

abbrev pub object_at : Symbols → List ℕ → Option ℕ → Option (Shape Reference)
object_at symbols heap None = None
object_at symbols heap (Some i) = object_shape symbols heap i (slice_get heap i)

-- By its low bits: an integer and an atom's number stand above their tags, nil is one word, and a list, a tuple and a fun are the address
-- of their first word with a tag added.
unfoldable pub shape_at : Symbols → List ℕ → Reference → Option (Shape Reference)
shape_at symbols heap at =
    if nat_eq (at.word % INTEGER_SCALE) INTEGER_TAG then Some (Integer (integer_in at.word))
    else if nat_eq (at.word % ATOM_SCALE) ATOM_TAG then atom_shape (slice_get symbols.atoms (at.word / ATOM_SCALE))
    else if nat_eq at.word NIL_WORD then Some Nil
    else if nat_eq (at.word % POINTER_SCALE) CONS_TAG then cons_at heap (lower heap at.below (at.word - CONS_TAG))
    else if nat_eq (at.word % POINTER_SCALE) OBJECT_TAG then object_at symbols heap (lower heap at.below (at.word - OBJECT_TAG))
    else None

-- the shape with something made of each part
abbrev pub shape_map : (X Y : Type 0) → (X → Y) → Shape X → Shape Y
shape_map X Y f (Integer value) = Integer value
shape_map X Y f (Atom name) = Atom name
shape_map X Y f Nil = Nil
shape_map X Y f (Cons head tail) = Cons (f head) (f tail)
shape_map X Y f (Tuple elements) = Tuple (map f elements)
shape_map X Y f (Fun number captured) = Fun number (map f captured)

abbrev pub option_map : (X Y : Type 0) → (X → Y) → Option (Shape X) → Option (Shape Y)
option_map X Y f None = None
option_map X Y f (Some s) = Some (shape_map X Y f s)

-- What is made of a reference: a step makes it of the reference, of its shape, and of what is made of the parts. As references fall, as
-- many levels as the limit says are enough, and one more.
unfoldable pub folded : (X : Type 0) → (Reference → Option (Shape X) → X) → (Reference → Option (Shape Reference)) → ℕ → Reference → X
folded X step see zero at = step at None
folded X step see (suc n) at = step at (option_map Reference X (folded X step see n) (see at))

abbrev pub made_of : (X : Type 0) → (Reference → Option (Shape X) → X) → Symbols → List ℕ → Reference → X
made_of X step symbols heap at = folded X step (shape_at symbols heap) (suc at.below) at

-- a word outside the heap, as in a register, may refer to every object
abbrev pub from_outside : List ℕ → ℕ → Reference
from_outside heap w = record { below = length heap; word = w }
