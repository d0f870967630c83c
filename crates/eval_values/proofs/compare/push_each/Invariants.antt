use Rattle.std.proofs.Common.{◌≡◌, ◌≤◌, drop, length}
use Rattle.std.specs.Ordering.{ordering_then}
use Rattle.hipe_terms.specs.Order.{order_all}
use Rattle.hipe_terms.specs.Terms.{terms}
use Rattle.eval_values.specs.Pairs.{order_last}
use Rattle.eval_values.specs.Values.{terms_in}
use Rattle.eval_values.proofs.compare.push_each.Given as goal

abbrev pub invariant-loop-left : goal.invariant-loop-left
invariant-loop-left l = record {
  first : l.left ≤ length l.xs;
  second : l.left ≤ length l.ys;
  same_order : order_last l.pairs.items ≡ ordering_then (order_all (terms (terms_in (drop l.left l.xs))) (terms (terms_in (drop l.left l.ys)))) (order_last l.fn.pairs.items);
}

abbrev pub decreases-loop-left : goal.decreases-loop-left
decreases-loop-left l = l.left
