use Rattle.core_grammar.proofs.WellFormed.{derived_are_well_formed}
use Rattle.core_grammar.proofs.laws.derived_modules_are_well_formed.Goals as goal

pub returns : goal.returns
returns c = derived_are_well_formed
