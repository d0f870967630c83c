use Rattle.heap_terms_laws.proofs.Growing.{prefixes_stand as law}
use Rattle.heap_terms_laws.proofs.standing.prefixes_stand.Goals as goal

pub returns : goal.returns
returns c = law
