use Rattle.core_parser.proofs.Modules.{one_call}
use Rattle.core_parser.proofs.laws.one_call.Goals as goal

pub returns : goal.returns
returns c = one_call
