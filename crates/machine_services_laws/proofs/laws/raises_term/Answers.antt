use Rattle.machine_services_laws.proofs.Served.{raises_term as law}
use Rattle.machine_services_laws.proofs.laws.raises_term.Goals as goal

pub returns : goal.returns
returns c = law
