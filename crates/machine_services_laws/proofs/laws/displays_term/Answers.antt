use Rattle.machine_services_laws.proofs.Served.{displays_term as law}
use Rattle.machine_services_laws.proofs.laws.displays_term.Goals as goal

pub returns : goal.returns
returns c = law
