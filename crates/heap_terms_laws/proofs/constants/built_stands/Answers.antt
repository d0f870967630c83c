use Rattle.heap_terms_laws.proofs.Built.{built_stands as law}
use Rattle.heap_terms_laws.proofs.constants.built_stands.Goals as goal

pub returns : goal.returns
returns c = law
