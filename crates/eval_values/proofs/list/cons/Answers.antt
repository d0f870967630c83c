use Rattle.eval_values.proofs.Made.{cons_made}
use Rattle.eval_values.proofs.list.cons.Goals as goal

pub returns-in-Ok : goal.returns-in-Ok
returns-in-Ok c = cons_made _ _ _ c.in-Ok.ensures
