use Rattle.std.proofs.Common.{◌≡◌}
use Rattle.hipe_terms.specs.Order.{order}
use Rattle.eval_values.specs.Pairs.{order_last}
use Rattle.eval_values.specs.Values.{term_in}
use Rattle.eval_values.proofs.compare.order.Given as goal

abbrev pub invariant-loop : goal.invariant-loop
invariant-loop l = order_last l.pairs.items ≡ order (term_in l.fn.a) (term_in l.fn.b)
