use Rattle.std.proofs.Common.{arith}
use Rattle.eval_source.proofs.Digits.{digits_end}
use Rattle.eval_source.proofs.arguments.value_of.Goals as goal

pub returns : goal.returns
returns c = digits_end c.args.digits.now c.loop-b.b-index c.loop-b.n (omega arith) c.loop-b.invariant.fits c.loop-b.invariant.same_value
