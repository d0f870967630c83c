use Rattle.machine_services_laws.proofs.Served.{counts_elements as law}
use Rattle.machine_services_laws.proofs.laws.counts_elements.Goals as goal

pub returns : goal.returns
returns c = law
