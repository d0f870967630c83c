use Rattle.core_meaning.proofs.Limits.{limits_are_exact as law}
use Rattle.core_meaning.proofs.laws.limits_are_exact.Goals as goal

pub returns : goal.returns
returns c = record { exact = law }
