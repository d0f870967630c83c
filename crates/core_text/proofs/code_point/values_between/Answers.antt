use Rattle.std.proofs.Common.{◌≡◌, ◌+◌, Some, None, drop, ap, sym, ◌∙◌, arith, length-drop}
use Rattle.core_text.specs.Walks.{walk}
use Rattle.core_text.specs.CodePoints.{code_point_at, value_step, value_step_by, value_end, values_between}
use Rattle.core_text.proofs.Walks.{walk_on, walk_stop}
use Rattle.core_text.proofs.code_point.values_between.Goals as goal

pub returns-in-None : goal.returns-in-None
unfolding values_between
returns-in-None c =
    let text = c.args.text.now in
    let i = c.loop-offset.offset in
    let values = c.loop-offset.values.items in
    let none : code_point_at (drop i text) ≡ None = ap code_point_at (sym c.rest_from-rest.ensures) ∙ sym c.in-None.ensures.code_point in
    sym (sym c.loop-offset.invariant.rest ∙ walk_stop value_step value_end text i values values c.loop-offset-test.true (ap (λ p. value_step_by p values) none))

pub loop-offset-preserved : goal.loop-offset-preserved
loop-offset-preserved c =
    let text = c.args.text.now in
    let i = c.loop-offset.offset in
    let values = c.loop-offset.values.items in
    let p = c.in-Some.code_point in
    let some : code_point_at (drop i text) ≡ Some p = ap code_point_at (sym c.rest_from-rest.ensures) ∙ sym c.in-Some.ensures.code_point in
    let step = walk_on value_step value_end text i p.length values _ c.loop-offset-test.true (ap (λ p. value_step_by p values) some) c.in-Some.ensures.within.0 in
    record {
      rest = ap (λ us. walk value_step value_end (drop (i + p.length) text) 0 us) c.in_ok-push-in-Some.ensures.items ∙ sym step ∙ c.loop-offset.invariant.rest;
      within = grind (arith, length-drop, c.in-Some.ensures.within, c.rest_from-rest.ensures);
    }
