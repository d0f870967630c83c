use Rattle.std.proofs.Common.{◌<◌, length, ap, sym, ◌∙◌, refl, subst, map}
use Rattle.core_ast.specs.Trees.{module_of, definition_of, definitions}
use Rattle.core_sum.specs.Made.{Finds, has_main, sum_of_definitions}
use Rattle.core_sum.proofs.Modules.{answered, not_exported, some_defs}
use Rattle.core_sum.proofs.module.sum_of.Goals as goal

pub returns-then-not-has_main-clause-refused : goal.returns-then-not-has_main-clause-refused
returns-then-not-has_main-clause-refused c =
    not_exported (module_of c.args.m.now.tree) (ap has_main (sym c.as_slice.ensures) ∙ sym c.has_main.ensures ∙ c.if-not-has_main.true)

pub sum_of_functions-requires : goal.sum_of_functions-requires
sum_of_functions-requires c =
    subst (λ xs. 0 < length xs) (sym c.as_slice-2.ensures)
    (some_defs c.args.m.now.tree.defs (module_of c.args.m.now.tree) c.args.m.now.good (ap has_main (sym c.as_slice.ensures) ∙ sym c.has_main.ensures ∙ c.if-not-has_main.false) refl)

pub returns : goal.returns
returns c =
    let all = answered (module_of c.args.m.now.tree) c.args.m.now.good (ap has_main (sym c.as_slice.ensures) ∙ sym c.has_main.ensures ∙ c.if-not-has_main.false) c.sum_of_functions.result
    (subst (λ defs. Finds (sum_of_definitions (definitions (map definition_of defs))) c.sum_of_functions.result) c.as_slice-2.ensures c.sum_of_functions.ensures) in
    record { sum = all.0; refused = all.1; small = all.2; few = all.3 }
