use Rattle.std.proofs.Common.{◌≡◌, Some, None, drop, ap, sym, ◌∙◌, arith}
use Rattle.std.specs.Prelude.{slice_index}
use Rattle.core_text.specs.Utf8.{character_length, character_step, character_step_by, no_place, ill_formed_from}
use Rattle.core_text.proofs.Walks.{walk_end, walk_stop}
use Rattle.core_text.proofs.IllFormed.{well_formed_from}
use Rattle.core_text.proofs.utf8.ill_formed_from.Goals as goal

pub returns-in-None-clause-place : goal.returns-in-None-clause-place
unfolding ill_formed_from
returns-in-None-clause-place c =
    let text = c.args.text.now in
    let i = c.loop-offset.offset in
    let at = c.loop-offset.at in
    let none : character_length (drop i text) ≡ None = ap character_length (sym c.rest_from-rest.ensures) ∙ sym c.in-None.ensures.length in
    sym (sym c.loop-offset.invariant.rest ∙ walk_stop character_step no_place text i at (Some at) c.loop-offset-test.true (ap (λ r. character_step_by r (slice_index (drop i text) 0) at) none))

pub returns-clause-utf8 : goal.returns-clause-utf8
unfolding ill_formed_from
returns-clause-utf8 c =
    well_formed_from c.args.text.now c.args.at (sym c.loop-offset.invariant.rest ∙ walk_end character_step no_place c.args.text.now c.loop-offset.offset c.loop-offset.at (omega (arith, c.loop-offset-test.false)))
