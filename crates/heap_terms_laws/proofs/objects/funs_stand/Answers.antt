use Rattle.heap_terms_laws.proofs.Placed.{funs_stand as law}
use Rattle.heap_terms_laws.proofs.objects.funs_stand.Goals as goal

pub returns : goal.returns
returns c = law
