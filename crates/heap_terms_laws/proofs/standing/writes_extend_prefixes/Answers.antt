use Rattle.heap_terms_laws.proofs.Written.{writes_extend_prefixes as law}
use Rattle.heap_terms_laws.proofs.standing.writes_extend_prefixes.Goals as goal

pub returns : goal.returns
returns c = law
