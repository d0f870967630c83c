use Rattle.core_grammar.proofs.WellFormed.{derived_arguments_are_constants}
use Rattle.core_grammar.proofs.laws.derived_arguments_are_constants.Goals as goal

pub returns : goal.returns
returns c = derived_arguments_are_constants
