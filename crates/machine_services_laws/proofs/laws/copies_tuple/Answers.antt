use Rattle.machine_services_laws.proofs.Served.{copies_tuple as law}
use Rattle.machine_services_laws.proofs.laws.copies_tuple.Goals as goal

pub returns : goal.returns
returns c = law
