use Rattle.std.proofs.Common.{◌+◌, drop, get_or, sym, ap, ◌∙◌}
use Rattle.std.proofs.lemmas.List.{at_drop_more, at_drop_all}
use Rattle.eval_procedures.proofs.Positions.{positions_after, positions_more, positions_lost, positions_done}
use Rattle.eval_procedures.proofs.captured.positions.Goals as goal

pub returns-in-None : goal.returns-in-None
returns-in-None c =
    sym (positions_lost c.loop-slot.found.items (get_or c.args.slots.now c.loop-slot.slot-index 0) (drop (c.loop-slot.slot-index + 1) c.args.slots.now) c.args.captured.now (sym c.position.ensures ∙ c.in-None.is))
    ∙ sym (at_drop_more (λ l. positions_after c.loop-slot.found.items l c.args.captured.now) c.args.slots.now c.loop-slot.slot-index 0 c.loop-slot-test.true)
    ∙ c.loop-slot.invariant

pub loop-slot-preserved : goal.loop-slot-preserved
loop-slot-preserved c =
    ap (λ l. positions_after l (drop (c.loop-slot.slot-index + 1) c.args.slots.now) c.args.captured.now) c.in_ok-push-in-Some.ensures.items
    ∙ sym (positions_more c.loop-slot.found.items (get_or c.args.slots.now c.loop-slot.slot-index 0) (drop (c.loop-slot.slot-index + 1) c.args.slots.now) c.args.captured.now c.in-Some.i (sym c.position.ensures ∙ c.in-Some.is))
    ∙ sym (at_drop_more (λ l. positions_after c.loop-slot.found.items l c.args.captured.now) c.args.slots.now c.loop-slot.slot-index 0 c.loop-slot-test.true)
    ∙ c.loop-slot.invariant

pub returns : goal.returns
returns c =
    sym (positions_done c.loop-slot.found.items c.args.captured.now)
    ∙ sym (at_drop_all (λ l. positions_after c.loop-slot.found.items l c.args.captured.now) c.args.slots.now c.loop-slot.slot-index c.loop-slot-test.false)
    ∙ c.loop-slot.invariant
