use Rattle.eval_values.proofs.Shifting.{raised_far}
use Rattle.eval_values.proofs.integer.raised.Goals as goal

pub returns-then-n-ge60 : goal.returns-then-n-ge60
returns-then-n-ge60 c = raised_far c.args.a c.args.n c.if-n-ge60.true c.if-a-eq0.false
