use Rattle.amd64_machine.proofs.Runs.{runs_go_on}
use Rattle.amd64_machine.proofs.machine.runs_go_on.Goals as goal

pub returns : goal.returns
returns c = runs_go_on
