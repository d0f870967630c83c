use Rattle.machine_services_laws.proofs.Served.{compares_equal as law}
use Rattle.machine_services_laws.proofs.laws.compares_equal.Goals as goal

pub returns : goal.returns
returns c = law
