use Rattle.core_soundness.proofs.NeverStuck.{never_stick_within as law}
use Rattle.core_soundness.proofs.laws.good_modules_never_stick_within.Goals as goal

pub returns : goal.returns
returns c = record { never = law }
