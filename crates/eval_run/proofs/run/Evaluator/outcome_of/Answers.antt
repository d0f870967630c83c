use Rattle.std.proofs.Common.{◌≡◌, subst, IfOk}
use Rattle.hipe_terms.specs.Outcome.{bif_outcome}
use Rattle.eval_values.specs.Results.{outcome_in}
use Rattle.eval_values.specs.Values.{terms_in}
use Rattle.eval_run.specs.Configurations.{known}
use Rattle.eval_run.proofs.run.Evaluator.outcome_of.Goals as goal

pub returns : goal.returns
unfolding known
returns c = subst (λ a. IfOk c.perform.result (λ o. outcome_in o ≡ bif_outcome a c.args.bif (terms_in c.args.arguments.now))) c.ground.ensures c.perform.ensures
