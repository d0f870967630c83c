use Rattle.region_memory.proofs.Writes.{writable}
use Rattle.region_memory.proofs.laws.writable_places.Goals as goal

pub returns : goal.returns
returns c = writable
