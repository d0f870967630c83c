use Rattle.heap_terms_laws.proofs.Growing.{prefixes_have_terms as law}
use Rattle.heap_terms_laws.proofs.standing.prefixes_have_terms.Goals as goal

pub returns : goal.returns
returns c = law
