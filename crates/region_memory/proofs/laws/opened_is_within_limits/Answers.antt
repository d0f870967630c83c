use Rattle.region_memory.proofs.Words.{opened_within}
use Rattle.region_memory.proofs.laws.opened_is_within_limits.Goals as goal

pub returns : goal.returns
returns c = opened_within
