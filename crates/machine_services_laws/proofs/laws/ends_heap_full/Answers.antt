use Rattle.machine_services_laws.proofs.Served.{ends_heap_full as law}
use Rattle.machine_services_laws.proofs.laws.ends_heap_full.Goals as goal

pub returns : goal.returns
returns c = law
