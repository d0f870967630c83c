use Rattle.core_parser.proofs.Modules.{one_module}
use Rattle.core_parser.proofs.laws.one_module.Goals as goal

pub returns : goal.returns
returns c = one_module
