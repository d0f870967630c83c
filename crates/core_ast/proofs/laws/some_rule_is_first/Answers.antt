use Rattle.core_ast.proofs.Ordered.{some_first}
use Rattle.core_ast.proofs.laws.some_rule_is_first.Goals as goal

pub returns : goal.returns
returns c = some_first
