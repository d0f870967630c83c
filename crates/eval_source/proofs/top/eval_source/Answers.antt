use Rattle.hipe_stop.proofs.Inputs.{keeps_same}
use Rattle.eval_source.proofs.Doing.{returned, stopped}
use Rattle.eval_source.proofs.top.eval_source.Goals as goal

pub returns-in-Ok : goal.returns-in-Ok
returns-in-Ok g c = returned _ _ _ _ c.in-Ok.status (keeps_same _) c.run_source.ensures c.in-Ok.is

pub returns-in-Err : goal.returns-in-Err
returns-in-Err g c = stopped _ _ _ _ _ c.run_source.ensures c.in-Err.stop c.in-Err.is c.report.ensures
