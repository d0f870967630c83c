-- The order of two words, by the order of terms: number < atom < fun < tuple < nil < list. Both are followed from the left as far as the
-- answer needs; where a word on the way is no term, there is no answer.
use Rattle.std.specs.Prelude.{ℕ, List, [], ◌∷◌, length, Option, Some, None}
use Rattle.std.specs.Ordering.{nat_cmp, int_cmp}
use Rattle.std.specs.Cmp.Lexicographic.{slice_cmp}
use Rattle.std.specs.declared.cmp.Ordering.{Ordering}
use Rattle.std.specs.declared.cmp.Ordering.TheVariants.{Less, Equal, Greater}
use Rattle.heap_terms.specs.Shapes.{Symbols, Reference, Shape, Integer, Atom, Nil, Cons, Tuple, Fun, shape_at, made_of, from_outside}

-- the next one, where these are equal
abbrev pub then_on : Option Ordering → Option Ordering → Option Ordering
then_on None next = None
then_on (Some Less) next = Some Less
then_on (Some Equal) next = next
then_on (Some Greater) next = Some Greater

-- the order of one reference to any other
abbrev pub Comparer : Type 0
Comparer = Reference → Option Ordering

abbrev pub all_compared : List Comparer → List Reference → Option Ordering
all_compared [] [] = Some Equal
all_compared [] (b ∷ bs) = Some Less
all_compared (c ∷ cs) [] = Some Greater
all_compared (c ∷ cs) (b ∷ bs) = then_on (c b) (all_compared cs bs)

-- the place of a kind among the kinds
abbrev pub rank : (X : Type 0) → Shape X → ℕ
rank X (Integer n) = 0
rank X (Atom a) = 1
rank X (Fun f ts) = 2
rank X (Tuple ts) = 3
rank X Nil = 4
rank X (Cons a b) = 5

abbrev pub shapes_compared : Shape Comparer → Shape Reference → Option Ordering
shapes_compared (Integer m) (Integer n) = Some (int_cmp m n)
shapes_compared (Atom a) (Atom b) = Some (slice_cmp nat_cmp a b)
shapes_compared (Fun f cs) (Fun g bs) = then_on (Some (nat_cmp f g)) (all_compared cs bs)
shapes_compared (Tuple cs) (Tuple bs) = then_on (Some (nat_cmp (length cs) (length bs))) (all_compared cs bs)
shapes_compared (Cons c d) (Cons a b) = then_on (c a) (d b)
shapes_compared s t = Some (nat_cmp (rank Comparer s) (rank Reference t))

abbrev pub compared_to : Shape Comparer → Option (Shape Reference) → Option Ordering
compared_to s None = None
compared_to s (Some t) = shapes_compared s t

abbrev pub compare_step : (Reference → Option (Shape Reference)) → Reference → Option (Shape Comparer) → Comparer
compare_step see a None b = None
compare_step see a (Some s) b = compared_to s (see b)

unfoldable pub compared_below : Symbols → List ℕ → Reference → Comparer
compared_below symbols heap a = made_of Comparer (compare_step (shape_at symbols heap)) symbols heap a

-- the order of two words outside the heap
abbrev pub compared : Symbols → List ℕ → ℕ → ℕ → Option Ordering
compared symbols heap a b = compared_below symbols heap (from_outside heap a) (from_outside heap b)
