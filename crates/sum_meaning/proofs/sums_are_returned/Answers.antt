use Rattle.sum_meaning.proofs.Modules.{sums_are_returned as law}
use Rattle.sum_meaning.proofs.sums_are_returned.Goals as goal

pub returns : goal.returns
returns c = law
