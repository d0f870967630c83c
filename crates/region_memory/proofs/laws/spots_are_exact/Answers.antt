use Rattle.region_memory.proofs.Spots.{exact}
use Rattle.region_memory.proofs.laws.spots_are_exact.Goals as goal

pub returns : goal.returns
returns c = exact
