use Rattle.region_memory.proofs.Writes.{written_read}
use Rattle.region_memory.proofs.laws.written_is_read.Goals as goal

pub returns : goal.returns
returns c = written_read
