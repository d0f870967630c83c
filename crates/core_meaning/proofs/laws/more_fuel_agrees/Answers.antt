use Rattle.core_meaning.proofs.Fuel.{more_fuel as law}
use Rattle.core_meaning.proofs.laws.more_fuel_agrees.Goals as goal

pub returns : goal.returns
returns c = record { agrees = law }
