use Rattle.heap_terms_laws.proofs.Placed.{cells_stand as law}
use Rattle.heap_terms_laws.proofs.objects.cells_stand.Goals as goal

pub returns : goal.returns
returns c = law
