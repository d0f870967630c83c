use Rattle.region_memory.proofs.Writes.{other_stays}
use Rattle.region_memory.proofs.laws.others_stay.Goals as goal

pub returns : goal.returns
returns c = other_stays
