use Rattle.std.proofs.Common.{sym, ◌∙◌}
use Rattle.std.proofs.lemmas.Bool.{ltb-true, ltb-false}
use Rattle.eval_values.specs.Results.{arities_in}
use Rattle.eval_values.proofs.Counts.{without, too_many}
use Rattle.eval_values.proofs.bifs.perform.Goals.{in_default-via-then-arguments-lt1, in_default-via-else-arguments-lt1+else-arguments-lt2+else-arguments-lt3+else-arguments-lt4}
use Rattle.eval_values.proofs.bifs.perform.Goals as goal

pub returns-in_default : goal.returns-in_default
returns-in_default c =
    c.undef.ensures
    ∙ sym (elim c.in_default.branch [
      | in_default-via-then-arguments-lt1 w ↦ without (arities_in c.args.ground.arities.now) c.args.bif c.args.arguments.now (ltb-true _ _ w.if-arguments-lt1-1.true)
      | in_default-via-else-arguments-lt1+else-arguments-lt2+else-arguments-lt3+else-arguments-lt4 w ↦ too_many (arities_in c.args.ground.arities.now) c.args.bif c.args.arguments.now (ltb-false _ _ w.if-arguments-lt4-1.false)
    ])
