use Rattle.heap_terms_laws.proofs.Growing.{stands_grow as law}
use Rattle.heap_terms_laws.proofs.standing.stands_grow.Goals as goal

pub returns : goal.returns
returns c = law
