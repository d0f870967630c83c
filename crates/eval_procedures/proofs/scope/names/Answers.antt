use Rattle.std.proofs.Common.{◌+◌, ◌++◌, ◌∷◌, drop, sym, ap, ◌∙◌, append_assoc}
use Rattle.std.proofs.lemmas.List.{at_drop_more}
use Rattle.core_meaning.specs.Scopes.{names}
use Rattle.eval_procedures.specs.Shown.{names_in}
use Rattle.eval_procedures.proofs.Referred.{names_append}
use Rattle.eval_procedures.proofs.scope.names.Goals as goal

pub loop-x-preserved : goal.loop-x-preserved
loop-x-preserved c =
    ap (λ l. names_in l ++ names (drop (c.loop-x.x-index + 1) c.args.xs.now)) c.in_ok-push.ensures.items
    ∙ ap (λ l. l ++ names (drop (c.loop-x.x-index + 1) c.args.xs.now)) (names_append c.loop-x.found.items _)
    ∙ append_assoc (names_in c.loop-x.found.items) _ (names (drop (c.loop-x.x-index + 1) c.args.xs.now))
    ∙ ap (λ y. names_in c.loop-x.found.items ++ y.name ∷ names (drop (c.loop-x.x-index + 1) c.args.xs.now)) c.x-item.is
    ∙ ap (λ l. names_in c.loop-x.found.items ++ l) (sym (at_drop_more names c.args.xs.now c.loop-x.x-index c.x-item.result c.loop-x-test.true))
    ∙ c.loop-x.invariant
