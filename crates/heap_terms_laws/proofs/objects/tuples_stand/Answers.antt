use Rattle.heap_terms_laws.proofs.Placed.{tuples_stand as law}
use Rattle.heap_terms_laws.proofs.objects.tuples_stand.Goals as goal

pub returns : goal.returns
returns c = law
