use Rattle.std.proofs.Common.{◌≡◌, Some, false, Err, cond, drop, nat_eq, ap, sym, ◌∙◌, arith, length-drop}
use Rattle.std.specs.Prelude.{slice_index}
use Rattle.std.proofs.lemmas.Bool.Decides.{nat_tests}
use Rattle.core_text.specs.CodePoints.{code_point_at}
use Rattle.core_text.specs.declared.quoted.Quoted.{Quoted}
use Rattle.core_text.specs.Quotes.{quoted_step, quoted_step_by, longer, no_quote}
use Rattle.core_text.proofs.Walks.{walk_on}
use Rattle.core_text.proofs.quoted.quoted_at.Goals as goal

pub loop-length-preserved : goal.loop-length-preserved
loop-length-preserved c =
    let text = c.args.text.now in
    let i = c.loop-length.length in
    let s = drop i text in
    let b : Quoted = record { length = i; code_points = c.loop-length.code_points } in
    let p = c.in_ok-length.field-0 in
    let first = ap (λ s. slice_index s 0) c.rest_from-rest.ensures in
    let other : nat_eq (slice_index s 0) c.args.quote ≡ false = grind (arith, nat_tests, first, c.if-rest-quote.false) in
    let there : code_point_at s ≡ Some p = ap code_point_at (sym c.rest_from-rest.ensures) ∙ sym c.in_ok-length.ensures.code_point in
    let step = ap (λ x. cond x (Err (Some (longer b 1 0))) (quoted_step_by (code_point_at s) b)) other ∙ ap (λ q. quoted_step_by q b) there in
    record {
      rest = sym (walk_on (quoted_step c.args.quote) no_quote text i p.length _ _ c.loop-length-test.true step c.in_ok-length.ensures.within.0) ∙ c.loop-length.invariant.rest;
      within = grind (arith, length-drop, c.in_ok-length.ensures.within, c.rest_from-rest.ensures);
      few = omega (arith, c.loop-length.invariant.few, c.in_ok-length.ensures.within.0);
    }
