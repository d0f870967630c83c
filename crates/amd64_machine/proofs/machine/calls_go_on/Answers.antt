use Rattle.amd64_machine.proofs.Ends.{calls_go_on}
use Rattle.amd64_machine.proofs.machine.calls_go_on.Goals as goal

pub returns : goal.returns
returns c = calls_go_on
