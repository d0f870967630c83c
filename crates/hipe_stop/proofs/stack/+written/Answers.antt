use Rattle.std.proofs.Common.{arith}
use Rattle.hipe_stop.proofs.Pages.{same_everywhere}
use Rattle.hipe_stop.proofs.stack.+written.Goals as goal

pub returns : goal.returns
returns t c = same_everywhere 4096 c.written-below.result c.args.value _ (omega (arith, c.ranges.value.fits, c.written-below.ensures))
