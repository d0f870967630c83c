use Rattle.core_soundness.proofs.NeverStuck.{never_stick as law}
use Rattle.core_soundness.proofs.laws.good_modules_never_stick.Goals as goal

pub returns : goal.returns
returns c = record { never = law }
