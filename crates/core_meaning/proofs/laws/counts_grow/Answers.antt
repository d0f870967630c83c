use Rattle.core_meaning.proofs.Growth.{evaluation_grows as law}
use Rattle.core_meaning.proofs.laws.counts_grow.Goals as goal

pub returns : goal.returns
returns c = record { grow = law }
