use Rattle.core_ast.proofs.Ordered.{broken_somewhere}
use Rattle.core_ast.proofs.laws.broken_where_not_good.Goals as goal

pub returns : goal.returns
returns c = broken_somewhere
