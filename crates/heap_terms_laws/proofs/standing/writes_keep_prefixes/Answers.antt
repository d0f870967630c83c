use Rattle.heap_terms_laws.proofs.Written.{writes_keep_prefixes as law}
use Rattle.heap_terms_laws.proofs.standing.writes_keep_prefixes.Goals as goal

pub returns : goal.returns
returns c = law
