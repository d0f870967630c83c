use Rattle.region_memory.proofs.Zeros.{opened_zero}
use Rattle.region_memory.proofs.laws.opened_words_are_zero.Goals as goal

pub returns : goal.returns
returns c = opened_zero
