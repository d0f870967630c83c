use Rattle.std.proofs.Common.{map, length, drop, ◌-◌, sym, subst, ap, ◌∙◌, arith, length-drop}
use Rattle.std.proofs.lemmas.List.{take_all}
use Rattle.core_ast.specs.Trees.{definition_of, definitions}
use Rattle.core_ast.specs.Places.{place_of}
use Rattle.core_sum.specs.Made.{Finds, alone, sum_in}
use Rattle.core_sum.proofs.Parts.{main_first}
use Rattle.core_sum.proofs.module.sum_of_functions.Goals as goal

pub returns-then-is_main : goal.returns-then-is_main
returns-then-is_main c =
    let rest = take_all (length c.args.defs.now - 1) (drop 1 c.args.defs.now) (omega (arith, length-drop 1 c.args.defs.now)) in
    let body = (definition_of c.def-item.result).function.body in
    subst (λ r. Finds r c.alone.result)
    (ap (λ ds. alone (sum_in body) (place_of body) (definitions (map definition_of ds))) rest
    ∙ sym (main_first c.args.defs.now c.def-item.result c.in-len1-up.len_at_least c.def-item.is (sym c.is_main.ensures ∙ c.if-is_main.true))) c.alone.ensures
