use Rattle.machine_services_laws.proofs.Served.{ends_stack_full as law}
use Rattle.machine_services_laws.proofs.laws.ends_stack_full.Goals as goal

pub returns : goal.returns
returns c = law
