use Rattle.machine_services_laws.proofs.Served.{appends_lists as law}
use Rattle.machine_services_laws.proofs.laws.appends_lists.Goals as goal

pub returns : goal.returns
returns c = law
