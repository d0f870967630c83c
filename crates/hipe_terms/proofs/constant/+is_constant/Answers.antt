use Rattle.std.proofs.Common.{◌≡◌, [], ap, sym, ◌∙◌, map, true, false, arith}
use Rattle.hipe_terms.specs.declared.constant.Constant.{out-Constant}
use Rattle.hipe_terms.specs.declared.constant.Constant.TheVariants.{outs-List}
use Rattle.hipe_terms.specs.Constants.{form_of, are_all_good, is_list}
use Rattle.hipe_terms.proofs.Parts.{good_tail, parts_here}
use Rattle.hipe_terms.proofs.constant.+is_constant.Goals as goal

pub is_constant-returns-else-not-are_constants : goal.is_constant-returns-else-not-are_constants
is_constant-returns-else-not-are_constants t c =
    let full : c.in-List.parts ≡ [] → ⊥ = λ e. absurd (grind (arith, c.is_empty.ensures, c.if-is_empty.false)) in
    let good : are_all_good (map form_of c.in-List.parts) ≡ true = ap (λ parts. are_all_good (map form_of parts)) (sym c.as_slice.ensures) ∙ sym c.are_constants.ensures ∙ c.if-not-are_constants.false in
    let ends : is_list c.in-List.tail ≡ false = cc (c.get.ensures, c.is_list.ensures, c.if-is_list.false) in
    c.is_constant.ensures ∙ ap (λ d. (form_of d).good) c.get-in-List.ensures ∙ good_tail c.args.c.now c.in-List.parts c.in-List.tail (ap out-Constant c.in-List.is ∙ outs-List _ _) (parts_here _ full) good ends
