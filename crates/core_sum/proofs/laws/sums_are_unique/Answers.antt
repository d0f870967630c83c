use Rattle.core_sum.proofs.Unique.{one_sum, one_place, not_both}
use Rattle.core_sum.proofs.laws.sums_are_unique.Goals as goal

pub returns : goal.returns
returns c = record { one_sum = one_sum; one_place = one_place; not_both = not_both }
