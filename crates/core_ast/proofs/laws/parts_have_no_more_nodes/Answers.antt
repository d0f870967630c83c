use Rattle.core_ast.proofs.Smaller.{parts_smaller}
use Rattle.core_ast.proofs.laws.parts_have_no_more_nodes.Goals as goal

pub returns : goal.returns
returns c = parts_smaller
