-- What is made of a reference, by its shape and by what is made of the parts.
use Rattle.std.proofs.Common.{◌≡◌, ℕ, zero, suc, ◌+◌, ◌-◌, ◌/◌, ◌%◌, ◌<◌, Bool, true, false, nat_lt, nat_eq, ◌&&◌, if◌then◌else◌, List, [], ◌∷◌, map, length, Option, Some, None, slice_get, refl, sym, ap, ap₂, subst, ⊎_elim, arith}
use Rattle.std.proofs.lemmas.Bool.{cases_lt}
use Rattle.std.proofs.lemmas.Option.{slice_get_past}
use Rattle.hipe_terms.specs.Terms.{Term}
use Rattle.heap_terms.specs.declared.tags.TheConstants.{INTEGER_TAG, INTEGER_SCALE, ATOM_TAG, ATOM_SCALE, NIL_WORD, CONS_TAG, OBJECT_TAG, POINTER_SCALE, TUPLE_HEADER, FUN_HEADER, HEADER_SCALE}
use Rattle.heap_terms.specs.Shapes.{Symbols, Reference, Shape, Integer, Atom, Nil, Cons, Tuple, Fun, parts, shape_at, option_map, folded, made_of, lower, words_from, atom_shape, cons_shape, tuple_shape, fun_shape, object_shape, cons_at, object_at}
use Rattle.heap_terms.specs.Parts.{parts_in, size_step, size_below}
use Rattle.heap_terms.specs.Terms.{term_step, term_below}

-- these refer below this
abbrev pub AllBelow : ℕ → List Reference → Type 0
AllBelow limit [] = Unit {0}
AllBelow limit (p ∷ ps) = (p.below < limit) × AllBelow limit ps

-- each part of a shape refers below this
abbrev pub Falls : ℕ → Option (Shape Reference) → Type 0
Falls limit s = AllBelow limit (parts_in Reference s)

-- ---- what is made of the parts is all that counts

abbrev Same : (X : Type 0) → ℕ → (Reference → X) → (Reference → X) → Type 0
Same X limit f g = (p : Reference) → p.below < limit → f p ≡ g p

all_same : (X : Type 0) (limit : ℕ) (f g : Reference → X) (ps : List Reference) → Same X limit f g → AllBelow limit ps → map f ps ≡ map g ps
all_same X limit f g [] same h = refl
all_same X limit f g (p ∷ ps) same h = ap₂ (λ x xs. x ∷ xs) (same p h.0) (all_same X limit f g ps same h.1)

shape_same : (X : Type 0) (limit : ℕ) (f g : Reference → X) (s : Option (Shape Reference)) → Same X limit f g → Falls limit s
    → option_map Reference X f s ≡ option_map Reference X g s
shape_same X limit f g None same h = refl
shape_same X limit f g (Some (Integer value)) same h = refl
shape_same X limit f g (Some (Atom name)) same h = refl
shape_same X limit f g (Some Nil) same h = refl
shape_same X limit f g (Some (Cons head tail)) same h = ap₂ (λ x y. Some (Cons x y)) (same head h.0) (same tail h.1.0)
shape_same X limit f g (Some (Tuple elements)) same h = ap (λ xs. Some (Tuple xs)) (all_same X limit f g elements same h)
shape_same X limit f g (Some (Fun number captured)) same h = ap (λ xs. Some (Fun number xs)) (all_same X limit f g captured same h)

-- one more level than the limit is enough
enough_levels : (X : Type 0) (step : Reference → Option (Shape X) → X) (see : Reference → Option (Shape Reference))
    → ((p : Reference) → Falls p.below (see p)) → (m n : ℕ) (at : Reference) → at.below < m → at.below < n
    → folded X step see m at ≡ folded X step see n at
unfolding folded
enough_levels X step see falls zero n at h i = absurd (omega arith)
enough_levels X step see falls (suc m) zero at h i = absurd (omega arith)
enough_levels X step see falls (suc m) (suc n) at h i =
    ap (step at) (shape_same X at.below (folded X step see m) (folded X step see n) (see at)
    (λ p k. enough_levels X step see falls m n p (omega arith) (omega arith)) (falls at))

-- ---- a shape's parts refer below its reference's own limit, and below the heap's end

-- the number of a word, where there is one, is lower than this
abbrev Lower : ℕ → Option ℕ → Type 0
Lower limit None = Unit {0}
Lower limit (Some i) = i < limit

falls_if : (limit : ℕ) (b : Bool) (s t : Option (Shape Reference)) → Falls limit s → Falls limit t → Falls limit (if b then s else t)
falls_if limit true s t h i = h
falls_if limit false s t h i = i

parts_below : (limit below : ℕ) (ws : List ℕ) → below < limit → AllBelow limit (parts below ws)
parts_below limit below [] h = tt
parts_below limit below (w ∷ ws) h = (h, parts_below limit below ws h)

atom_falls : (limit : ℕ) (a : Option (List ℕ)) → Falls limit (atom_shape a)
atom_falls limit None = tt
atom_falls limit (Some name) = tt

cons_falls : (limit below : ℕ) (words : Option (List ℕ)) → below < limit → Falls limit (cons_shape below words)
cons_falls limit below None h = tt
cons_falls limit below (Some []) h = tt
cons_falls limit below (Some (head ∷ [])) h = tt
cons_falls limit below (Some (head ∷ (tail ∷ []))) h = (h, (h, tt))
cons_falls limit below (Some (head ∷ (tail ∷ (other ∷ others)))) h = tt

tuple_falls : (limit below : ℕ) (words : Option (List ℕ)) → below < limit → Falls limit (tuple_shape below words)
tuple_falls limit below None h = tt
tuple_falls limit below (Some ws) h = parts_below limit below ws h

fun_falls : (limit functions below : ℕ) (words : Option (List ℕ)) → below < limit → Falls limit (fun_shape functions below words)
fun_falls limit functions below None h = tt
fun_falls limit functions below (Some []) h = tt
fun_falls limit functions below (Some (number ∷ ws)) h =
    falls_if limit (nat_eq (number % INTEGER_SCALE) INTEGER_TAG && nat_lt (number / INTEGER_SCALE) functions) (Some (Fun (number / INTEGER_SCALE) (parts below ws))) None (parts_below limit below ws h) tt

header_falls : (limit : ℕ) (symbols : Symbols) (heap : List ℕ) (i : ℕ) (header : Option ℕ) → i < limit → Falls limit (object_shape symbols heap i header)
header_falls limit symbols heap i None h = tt
header_falls limit symbols heap i (Some header) h =
    falls_if limit (nat_eq (header % HEADER_SCALE) TUPLE_HEADER) _ _
    (tuple_falls limit i (words_from heap (suc i) (header / HEADER_SCALE)) h)
    (falls_if limit (nat_eq (header % HEADER_SCALE) FUN_HEADER) _ _ (fun_falls limit symbols.functions i (words_from heap (suc i) (suc (header / HEADER_SCALE))) h) tt)

cons_at_falls : (limit : ℕ) (heap : List ℕ) (i : Option ℕ) → Lower limit i → Falls limit (cons_at heap i)
cons_at_falls limit heap None h = tt
cons_at_falls limit heap (Some i) h = cons_falls limit i (words_from heap i 2) h

object_at_falls : (limit : ℕ) (symbols : Symbols) (heap : List ℕ) (i : Option ℕ) → Lower limit i → Falls limit (object_at symbols heap i)
object_at_falls limit symbols heap None h = tt
object_at_falls limit symbols heap (Some i) h = header_falls limit symbols heap i (slice_get heap i) h

lower_is : (heap : List ℕ) (below address : ℕ) → Lower below (lower heap below address)
lower_is heap below address = grind (arith)

pub shape_falls : (symbols : Symbols) (heap : List ℕ) (at : Reference) → Falls at.below (shape_at symbols heap at)
unfolding shape_at
shape_falls symbols heap at =
    falls_if at.below (nat_eq (at.word % INTEGER_SCALE) INTEGER_TAG) _ _ tt
    (falls_if at.below (nat_eq (at.word % ATOM_SCALE) ATOM_TAG) _ _ (atom_falls at.below (slice_get symbols.atoms (at.word / ATOM_SCALE)))
    (falls_if at.below (nat_eq at.word NIL_WORD) _ _ tt
    (falls_if at.below (nat_eq (at.word % POINTER_SCALE) CONS_TAG) _ _ (cons_at_falls at.below heap (lower heap at.below (at.word - CONS_TAG)) (lower_is heap at.below (at.word - CONS_TAG)))
    (falls_if at.below (nat_eq (at.word % POINTER_SCALE) OBJECT_TAG) _ _ (object_at_falls at.below symbols heap (lower heap at.below (at.word - OBJECT_TAG)) (lower_is heap at.below (at.word - OBJECT_TAG))) tt))))

no_words : (heap : List ℕ) (i n : ℕ) → length heap < i + n → words_from heap i n ≡ None
no_words heap i n h = grind (arith)

cons_in_heap : (heap : List ℕ) (i : Option ℕ) → Falls (length heap) (cons_at heap i)
cons_in_heap heap None = tt
cons_in_heap heap (Some i) =
    ⊎_elim (λ h. cons_falls (length heap) i (words_from heap i 2) h)
    (λ h. subst (λ ws. Falls (length heap) (cons_shape i ws)) (sym (no_words heap i 2 (omega arith))) tt)
    (cases_lt i (length heap))

object_in_heap : (symbols : Symbols) (heap : List ℕ) (i : Option ℕ) → Falls (length heap) (object_at symbols heap i)
object_in_heap symbols heap None = tt
object_in_heap symbols heap (Some i) =
    ⊎_elim (λ h. header_falls (length heap) symbols heap i (slice_get heap i) h)
    (λ h. subst (λ header. Falls (length heap) (object_shape symbols heap i header)) (sym (slice_get_past heap i h)) tt)
    (cases_lt i (length heap))

pub shape_in_heap : (symbols : Symbols) (heap : List ℕ) (at : Reference) → Falls (length heap) (shape_at symbols heap at)
unfolding shape_at
shape_in_heap symbols heap at =
    falls_if (length heap) (nat_eq (at.word % INTEGER_SCALE) INTEGER_TAG) _ _ tt
    (falls_if (length heap) (nat_eq (at.word % ATOM_SCALE) ATOM_TAG) _ _ (atom_falls (length heap) (slice_get symbols.atoms (at.word / ATOM_SCALE)))
    (falls_if (length heap) (nat_eq at.word NIL_WORD) _ _ tt
    (falls_if (length heap) (nat_eq (at.word % POINTER_SCALE) CONS_TAG) _ _ (cons_in_heap heap (lower heap at.below (at.word - CONS_TAG)))
    (falls_if (length heap) (nat_eq (at.word % POINTER_SCALE) OBJECT_TAG) _ _ (object_in_heap symbols heap (lower heap at.below (at.word - OBJECT_TAG))) tt))))

-- ---- the equation by which all else goes

pub made_is : (X : Type 0) (step : Reference → Option (Shape X) → X) (symbols : Symbols) (heap : List ℕ) (at : Reference)
    → made_of X step symbols heap at ≡ step at (option_map Reference X (made_of X step symbols heap) (shape_at symbols heap at))
unfolding folded
made_is X step symbols heap at =
    ap (step at) (shape_same X at.below (folded X step (shape_at symbols heap) at.below) (made_of X step symbols heap) (shape_at symbols heap at)
    (λ p h. enough_levels X step (shape_at symbols heap) (shape_falls symbols heap) at.below (suc p.below) p h (omega arith)) (shape_falls symbols heap at))

pub term_is : (symbols : Symbols) (heap : List ℕ) (at : Reference)
    → term_below symbols heap at ≡ term_step at (option_map Reference (Option Term) (term_below symbols heap) (shape_at symbols heap at))
unfolding term_below
term_is symbols heap at = made_is (Option Term) term_step symbols heap at

pub size_is : (symbols : Symbols) (heap : List ℕ) (at : Reference)
    → size_below symbols heap at ≡ size_step at (option_map Reference ℕ (size_below symbols heap) (shape_at symbols heap at))
unfolding size_below
size_is symbols heap at = made_is ℕ size_step symbols heap at

pub ruleset levels = (term_is, size_is)
