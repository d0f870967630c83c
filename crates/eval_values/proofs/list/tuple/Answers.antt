use Rattle.eval_values.proofs.Made.{tuple_made}
use Rattle.eval_values.proofs.list.tuple.Goals as goal

pub returns-in-Ok : goal.returns-in-Ok
returns-in-Ok c = tuple_made _ _ c.in-Ok.ensures
