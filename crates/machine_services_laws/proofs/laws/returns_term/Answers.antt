use Rattle.machine_services_laws.proofs.Served.{returns_term as law}
use Rattle.machine_services_laws.proofs.laws.returns_term.Goals as goal

pub returns : goal.returns
returns c = law
