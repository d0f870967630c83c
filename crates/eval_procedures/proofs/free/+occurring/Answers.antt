use Rattle.std.proofs.Common.{map, ap, ◌∙◌}
use Rattle.core_ast.specs.Trees.{pattern_of, patterns}
use Rattle.core_meaning.specs.Scopes.{bound_by}
use Rattle.eval_procedures.specs.Shown.{names_in, slot_in, scope_in}
use Rattle.eval_procedures.proofs.Referred.{clause_here}
use Rattle.eval_procedures.proofs.free.+occurring.Goals as goal

pub in_clause-returns : goal.in_clause-returns
in_clause-returns t c =
    clause_here (scope_in c.args.s) (map slot_in c.as_slice-3.result.now) (names_in c.as_slice-2.result.now) c.args.c.now c.args.found.now.items _ _
    (ap names_in c.as_slice-2.ensures.value ∙ c.in_ok-hidden.ensures ∙ ap (λ l. bound_by (patterns (map pattern_of l))) c.as_slice.ensures)
    (ap (map slot_in) c.as_slice-3.ensures.value ∙ c.in_ok-kept.ensures)
    c.in_ok-occurring.ensures
    c.in_ok-occurring-2.ensures
