-- What is still to be compared, and the order that it gives.
use Rattle.std.specs.Prelude.{ℕ, ◌+◌, List, [], ◌∷◌, length, map, Bool, true, false, Option, Some}
use Rattle.std.specs.Ordering.{nat_cmp, int_cmp, ordering_then}
use Rattle.std.specs.Cmp.Lexicographic.{slice_cmp}
use Rattle.std.specs.declared.cmp.Ordering.{Ordering}
use Rattle.std.specs.declared.cmp.Ordering.TheVariants.{Less, Equal, Greater}
use Rattle.heap_terms.specs.Parts.{size_of_all, size_below}
use Rattle.heap_terms.specs.Seen.{reference_of}
use Rattle.heap_terms.specs.Shapes.{Symbols, Reference, Shape, Integer, Atom, Cons, Tuple, Fun, parts}
use Rattle.machine_services.specs.Comparing.{Comparer, then_on, all_compared, rank, compared_below}
use Rattle.machine_services.specs.declared.compare.Pending.{Pending as PendingWords}
use Rattle.machine_services.specs.declared.compare.Pending.TheVariants as pending

-- one reference with another, or the parts of an object with those of another
pub data Pending : Type 0 where
  Pair : (left right : Reference) → Pending
  Parts : (left right : List Reference) → Pending

abbrev pub pending_seen : PendingWords → Pending
pending_seen (pending.Pair left right) = Pair (reference_of left) (reference_of right)
pending_seen (pending.Parts left right) = Parts (parts left.below left.words.now) (parts right.below right.words.now)

abbrev pub pending_order : (Reference → Comparer) → Pending → Option Ordering
pending_order c (Pair left right) = c left right
pending_order c (Parts left right) = all_compared (map c left) right

-- the first that decides, from the last on
abbrev pub order_last : (Reference → Comparer) → List Pending → Option Ordering
order_last c [] = Some Equal
order_last c (p ∷ ps) = then_on (order_last c ps) (pending_order c p)

-- the order of two references by what is pending
abbrev pub order_pending : Symbols → List ℕ → List PendingWords → Option Ordering
order_pending symbols heap ps = order_last (compared_below symbols heap) (map pending_seen ps)

-- whether what comes later doesn't count
abbrev pub decides : Option Ordering → Bool
decides (Some Equal) = false
decides r = true

-- how much there is to follow on the left
abbrev pub pending_size : (Reference → ℕ) → Pending → ℕ
pending_size size (Pair left right) = size left
pending_size size (Parts left right) = size_of_all (map size left)

abbrev pub size_last : (Reference → ℕ) → List Pending → ℕ
size_last size [] = 0
size_last size (p ∷ ps) = pending_size size p + size_last size ps

abbrev pub size_pending : Symbols → List ℕ → List PendingWords → ℕ
size_pending symbols heap ps = size_last (size_below symbols heap) (map pending_seen ps)

-- the place of a shape's kind among the kinds
abbrev pub rank_of : Shape Reference → ℕ
rank_of s = rank Reference s

-- of two shapes of one kind, what shows without their parts
abbrev pub kind_order : Shape Reference → Shape Reference → Ordering
kind_order (Integer m) (Integer n) = int_cmp m n
kind_order (Atom a) (Atom b) = slice_cmp nat_cmp a b
kind_order (Fun f ts) (Fun g us) = nat_cmp f g
kind_order (Tuple ts) (Tuple us) = nat_cmp (length ts) (length us)
kind_order s t = Equal

-- what shows without their parts
abbrev pub first_order : Shape Reference → Shape Reference → Ordering
first_order s t = ordering_then (nat_cmp (rank_of s) (rank_of t)) (kind_order s t)

-- the parts of two shapes of one kind, the first last
abbrev pub opened : Shape Reference → Shape Reference → List Pending
opened (Cons a b) (Cons c d) = Pair b d ∷ Pair a c ∷ []
opened (Fun f ts) (Fun g us) = Parts ts us ∷ []
opened (Tuple ts) (Tuple us) = Parts ts us ∷ []
opened s t = []

-- two lists of parts, as far as it shows without the parts
abbrev pub ends_order : List Reference → List Reference → Ordering
ends_order [] [] = Equal
ends_order [] (b ∷ bs) = Less
ends_order (a ∷ ps) [] = Greater
ends_order (a ∷ ps) (b ∷ bs) = Equal

-- the first parts of two lists, and before them the others
abbrev pub parted : List Reference → List Reference → List Pending
parted (a ∷ ps) (b ∷ bs) = Parts ps bs ∷ Pair a b ∷ []
parted ps bs = []
