use Rattle.hipe_terms.proofs.TotalOrder.{order_tells_apart}
use Rattle.hipe_terms.proofs.compare.order_tells_apart.Goals as goal

pub returns : goal.returns
returns c = order_tells_apart
