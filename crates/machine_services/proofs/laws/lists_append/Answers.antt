use Rattle.machine_services.proofs.Appending.{lists_append}
use Rattle.machine_services.proofs.laws.lists_append.Goals as goal

pub returns : goal.returns
returns c = lists_append
