use Rattle.image_load_laws.proofs.Standing.{constants_stand as law}
use Rattle.image_load_laws.proofs.constants_stand.Goals as goal

pub returns : goal.returns
returns c = law
