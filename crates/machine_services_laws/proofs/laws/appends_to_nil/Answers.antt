use Rattle.machine_services_laws.proofs.Served.{appends_to_nil as law}
use Rattle.machine_services_laws.proofs.laws.appends_to_nil.Goals as goal

pub returns : goal.returns
returns c = law
