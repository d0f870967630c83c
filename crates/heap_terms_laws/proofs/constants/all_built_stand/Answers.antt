use Rattle.heap_terms_laws.proofs.Built.{all_built_stand as law}
use Rattle.heap_terms_laws.proofs.constants.all_built_stand.Goals as goal

pub returns : goal.returns
returns c = law
