use Rattle.core_grammar.proofs.Examples.{one_line_derives}
use Rattle.core_grammar.proofs.example.one_line_is_a_module.Goals as goal

pub returns : goal.returns
returns c = one_line_derives
