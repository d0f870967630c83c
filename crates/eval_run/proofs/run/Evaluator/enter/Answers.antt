use Rattle.std.proofs.Common.{sym}
use Rattle.eval_procedures.specs.Shown.{procedure_in}
use Rattle.eval_run.specs.Configurations.{known}
use Rattle.eval_run.proofs.Applications.{entered_some}
use Rattle.eval_run.proofs.run.Evaluator.enter.Goals as goal

pub returns-in-Some : goal.returns-in-Some
returns-in-Some c = rw (entered_some (known c.args.self) c.args.n (procedure_in c.in-Some.f) _ _ _ _ _ (sym c.in-Some.ensures)) c.enter_counted.ensures
