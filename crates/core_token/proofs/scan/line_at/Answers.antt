use Rattle.std.proofs.Common.{◌≡◌, ◌+◌, Some, None, drop, nat_eq, false, ap, sym, ◌∙◌, subst, arith, length-drop}
use Rattle.std.specs.Prelude.{slice_index}
use Rattle.std.specs.List.{prefix_len}
use Rattle.std.proofs.lemmas.Bool.Decides.{nat_tests}
use Rattle.std.proofs.lemmas.List.{drop-drop, get_or-drop}
use Rattle.core_text.specs.Bytes.{is_before_line_end}
use Rattle.core_text.specs.Places.{moved}
use Rattle.core_text.specs.Utf8.{character_length, ArePassed}
use Rattle.core_text.proofs.Passing.{passed_stuck, character_passed, line_goes_on}
use Rattle.core_token.proofs.scan.line_at.Goals as goal

pub returns-in-None-clause-ill_formed : goal.returns-in-None-clause-ill_formed
returns-in-None-clause-ill_formed c =
    let none : character_length (drop c.loop-length.length c.args.text.now) ≡ None = ap character_length (sym c.rest_from-rest.ensures) ∙ sym c.in-None.ensures.length in
    passed_stuck c.args.text.now c.args.at c.loop-length.length c.loop-length.at c.loop-length.invariant.passed c.loop-length-test.true none

pub loop-length-preserved : goal.loop-length-preserved
loop-length-preserved c =
    let text = c.args.text.now in
    let i = c.loop-length.length in
    let n = c.in-Some.more in
    let s = drop i text in
    let is : character_length s ≡ Some n = ap character_length (sym c.rest_from-rest.ensures) ∙ sym c.in-Some.ensures.length in
    let first = ap (λ s. slice_index s 0) c.rest_from-rest.ensures in
    let place = c.moved-at.ensures.place ∙ ap (moved c.loop-length.at) first in
    let other : nat_eq (slice_index s 0) 10 ≡ false = grind (arith, nat_tests, get_or-drop i text 0 0, c.if-text-length-ne10.true) in
    let rest : drop n s ≡ drop (i + n) text = drop-drop n i text in
    record {
      passed = subst (ArePassed text c.args.at (i + n)) (sym place) (character_passed text c.args.at i c.loop-length.at n c.loop-length.invariant.passed is);
      line = omega (arith, c.loop-length.invariant.line, line_goes_on s n is other, ap (prefix_len is_before_line_end) rest);
      within = grind (arith, length-drop, c.in-Some.ensures.within, c.rest_from-rest.ensures, c.loop-length.invariant.within);
      few_lines = omega (arith, c.moved-at.ensures.few_lines, c.loop-length.invariant.few_lines, c.in-Some.ensures.some);
      few_columns = omega (arith, c.moved-at.ensures.few_columns, c.loop-length.invariant.few_columns, c.in-Some.ensures.some);
    }
