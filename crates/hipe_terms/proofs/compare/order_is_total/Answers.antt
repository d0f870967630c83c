use Rattle.hipe_terms.proofs.TotalOrder.{order_is_total}
use Rattle.hipe_terms.proofs.compare.order_is_total.Goals as goal

pub returns : goal.returns
returns c = order_is_total
