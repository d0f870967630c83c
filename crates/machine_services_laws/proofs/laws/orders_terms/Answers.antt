use Rattle.machine_services_laws.proofs.Served.{orders_terms as law}
use Rattle.machine_services_laws.proofs.laws.orders_terms.Goals as goal

pub returns : goal.returns
returns c = law
