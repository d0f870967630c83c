use Rattle.std.proofs.Common.{◌≤◌, arith}
use Rattle.eval_values.specs.Pairs.{order_last}
use Rattle.eval_values.proofs.Comparing.{from_first}
use Rattle.eval_values.proofs.compare.push_each.Goals as goal

pub returns : goal.returns
returns c =
    let h : c.loop-left.left ≤ 0 = omega (arith, c.loop-left-test.false) in
    from_first c.loop-left.left c.args.xs.now c.args.ys.now (order_last c.loop-left.pairs.items) (order_last c.args.pairs.now.items) h c.loop-left.invariant.same_order
