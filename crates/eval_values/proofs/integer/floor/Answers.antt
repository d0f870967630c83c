use Rattle.eval_values.proofs.Shifting.{floor_low, floor_high, shift_is}
use Rattle.eval_values.proofs.integer.floor.Goals as goal

pub returns-then-a-lt0 : goal.returns-then-a-lt0
returns-then-a-lt0 c = floor_low c.args.a c.args.n c.ranges.a c.if-n-ge63.true c.if-a-lt0.true

pub returns-else-a-lt0 : goal.returns-else-a-lt0
returns-else-a-lt0 c = floor_high c.args.a c.args.n c.ranges.a c.if-n-ge63.true c.if-a-lt0.false

pub returns : goal.returns
returns c = shift_is c.args.a _ c.ranges.a
