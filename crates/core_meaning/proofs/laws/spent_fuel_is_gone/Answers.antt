use Rattle.core_meaning.proofs.Depth.{spent_fuel_is_gone as law}
use Rattle.core_meaning.proofs.laws.spent_fuel_is_gone.Goals as goal

pub returns : goal.returns
returns c = record { gone = law }
