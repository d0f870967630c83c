-- The order of terms: number < atom < fun < tuple < nil < list.
use Rattle.std.specs.Prelude.{ℕ, List, [], ◌∷◌}
use Rattle.std.specs.Ordering.{nat_cmp, int_cmp, ordering_then}
use Rattle.std.specs.Cmp.Lexicographic.{slice_cmp}
use Rattle.std.specs.declared.cmp.Ordering.{Ordering}
use Rattle.std.specs.declared.cmp.Ordering.TheVariants.{Less, Equal, Greater}
use Rattle.hipe_terms.specs.Terms.{Term, integer, atom, nil, cons, tuple, fun, Terms, none, more, count}

-- the place of a term's kind among the kinds
abbrev pub rank : Term → ℕ
rank (integer n) = 0
rank (atom a) = 1
rank (fun f ts) = 2
rank (tuple ts) = 3
rank nil = 4
rank (cons a b) = 5

-- Atoms compare by code points, funs by number and then by captured values from the first, tuples by size and then by elements, and lists
-- element by element and then by tail.
abbrev mutual
  pub order : Term → Term → Ordering
  order (integer m) (integer n) = int_cmp m n
  order (atom a) (atom b) = slice_cmp nat_cmp a b
  order (fun f ts) (fun g us) = ordering_then (nat_cmp f g) (order_all ts us)
  order (tuple ts) (tuple us) = ordering_then (nat_cmp (count ts) (count us)) (order_all ts us)
  order (cons a b) (cons c d) = ordering_then (order a c) (order b d)
  order t u = nat_cmp (rank t) (rank u)

  -- from the first on
  pub order_all : Terms → Terms → Ordering
  order_all none none = Equal
  order_all none (more u us) = Less
  order_all (more t ts) none = Greater
  order_all (more t ts) (more u us) = ordering_then (order t u) (order_all ts us)

-- the first two that differ, of as many as both have
abbrev pub order_common : List Term → List Term → Ordering
order_common [] us = Equal
order_common (t ∷ ts) [] = Equal
order_common (t ∷ ts) (u ∷ us) = ordering_then (order t u) (order_common ts us)
