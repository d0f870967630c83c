use Rattle.heap_terms_laws.proofs.Terms.{words_stand as law}
use Rattle.heap_terms_laws.proofs.standing.words_stand.Goals as goal

pub returns : goal.returns
returns c = law
