use Rattle.heap_terms_laws.proofs.Terms.{one_term as law}
use Rattle.heap_terms_laws.proofs.standing.one_term.Goals as goal

pub returns : goal.returns
returns c = law
