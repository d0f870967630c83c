use Rattle.region_memory.proofs.Writes.{keeps_sizes, keeps_limits}
use Rattle.region_memory.proofs.laws.writes_keep_sizes.Goals as goal

pub returns-clause-sizes : goal.returns-clause-sizes
returns-clause-sizes c = keeps_sizes

pub returns-clause-limits : goal.returns-clause-limits
returns-clause-limits c = keeps_limits
