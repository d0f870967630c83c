use Rattle.std.proofs.Common.{◌≡◌, map, drop}
use Rattle.hipe_terms.specs.Order.{order_common}
use Rattle.hipe_terms.specs.Terms.{term_of}
use Rattle.hipe_terms.proofs.compare.+order.Given as goal

abbrev pub invariant-order_each-loop-i : goal.invariant-order_each-loop-i
invariant-order_each-loop-i l = order_common (map term_of (drop l.i l.xs)) (map term_of (drop l.i l.ys)) ≡ order_common (map term_of l.xs) (map term_of l.ys)
