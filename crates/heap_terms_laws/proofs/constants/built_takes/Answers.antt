use Rattle.heap_terms_laws.proofs.Counted.{built_takes as law}
use Rattle.heap_terms_laws.proofs.constants.built_takes.Goals as goal

pub returns : goal.returns
returns c = law
