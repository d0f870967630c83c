-- The order of values in steps: what shows without their parts, and the pairs of parts that are still to be compared.
use Rattle.std.specs.Prelude.{ℕ, List, [], ◌∷◌, drop}
use Rattle.std.specs.Ordering.{nat_cmp, int_cmp, ordering_then}
use Rattle.std.specs.Cmp.Lexicographic.{slice_cmp}
use Rattle.std.specs.declared.cmp.Ordering.{Ordering}
use Rattle.std.specs.declared.cmp.Ordering.TheVariants.{Equal}
use Rattle.hipe_terms.specs.Order.{order, order_all, rank}
use Rattle.hipe_terms.specs.Terms.{Term, integer, atom, cons, tuple, fun, terms, count}
use Rattle.eval_values.specs.declared.value.Value.{Value}
use Rattle.eval_values.specs.Values.{term_in, terms_in}

-- of two terms of one kind, what shows without their parts
abbrev pub kind_order : Term → Term → Ordering
kind_order (integer m) (integer n) = int_cmp m n
kind_order (atom a) (atom b) = slice_cmp nat_cmp a b
kind_order (fun f ts) (fun g us) = nat_cmp f g
kind_order (tuple ts) (tuple us) = nat_cmp (count ts) (count us)
kind_order t u = Equal

-- what shows without their parts
abbrev pub first_order : Term → Term → Ordering
first_order t u = ordering_then (nat_cmp (rank t) (rank u)) (kind_order t u)

-- of two terms of one kind, what their parts add
abbrev pub parts_order : Term → Term → Ordering
parts_order (cons a b) (cons c d) = ordering_then (order a c) (order b d)
parts_order (tuple ts) (tuple us) = order_all ts us
parts_order (fun f ts) (fun g us) = order_all ts us
parts_order t u = Equal

-- of two lists behind this many elements
abbrev pub rest_order : ℕ → List Value → List Value → Ordering
rest_order n xs ys = order_all (terms (terms_in (drop n xs))) (terms (terms_in (drop n ys)))

-- the first two that differ, from the last pair on
abbrev pub order_last : List (Value × Value) → Ordering
order_last [] = Equal
order_last (p ∷ ps) = ordering_then (order_last ps) (order (term_in p.0) (term_in p.1))
