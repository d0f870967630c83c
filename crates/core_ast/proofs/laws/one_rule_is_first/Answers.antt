use Rattle.core_ast.proofs.Ordered.{one_first}
use Rattle.core_ast.proofs.laws.one_rule_is_first.Goals as goal

pub returns : goal.returns
returns c = one_first
