use Rattle.core_sum.proofs.Values.{value_within}
use Rattle.core_sum.proofs.sum.value_of_small_integers.Goals as goal

pub returns : goal.returns
returns c = value_within
