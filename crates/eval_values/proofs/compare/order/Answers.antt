use Rattle.std.proofs.Common.{ap, sym, ◌∙◌}
use Rattle.hipe_terms.specs.Order.{order}
use Rattle.eval_values.specs.Pairs.{order_last}
use Rattle.eval_values.specs.Values.{term_in}
use Rattle.eval_values.proofs.Comparing.{decided, goes_on}
use Rattle.eval_values.proofs.compare.order.Goals as goal

pub loop-preserved : goal.loop-preserved
loop-preserved c =
    c.in_ok-push_parts-in-Equal.ensures
    ∙ goes_on c.first_order.result c.in-Some.x c.in-Some.y c.pop.new.self.items (order (term_in c.args.a) (term_in c.args.b)) c.first_order.ensures c.in-Equal.is (ap order_last (sym c.in-Some.ensures.items) ∙ c.loop.invariant)

pub returns-in_default : goal.returns-in_default
returns-in_default c =
    decided c.first_order.result c.in-Some.x c.in-Some.y c.pop.new.self.items (order (term_in c.args.a) (term_in c.args.b)) c.first_order.ensures c.in_default.not-Equal (ap order_last (sym c.in-Some.ensures.items) ∙ c.loop.invariant)
