use Rattle.std.proofs.Common.{◌+◌, drop, get_or, sym, ap, ◌∙◌}
use Rattle.std.proofs.lemmas.List.{at_drop_more, at_drop_all}
use Rattle.eval_procedures.proofs.Firsts.{continued, continued_more, continued_done}
use Rattle.eval_procedures.proofs.captured.first_occurrences.Goals as goal

pub loop-slot-preserved : goal.loop-slot-preserved
loop-slot-preserved c =
    ap (λ l. continued l (drop (c.loop-slot.slot-index + 1) c.args.slots.now)) c.in_ok-add_first.ensures
    ∙ sym (continued_more c.loop-slot.found.items (get_or c.args.slots.now c.loop-slot.slot-index 0) (drop (c.loop-slot.slot-index + 1) c.args.slots.now))
    ∙ sym (at_drop_more (continued c.loop-slot.found.items) c.args.slots.now c.loop-slot.slot-index 0 c.loop-slot-test.true)
    ∙ c.loop-slot.invariant

pub returns : goal.returns
returns c =
    sym (continued_done c.loop-slot.found.items)
    ∙ sym (at_drop_all (continued c.loop-slot.found.items) c.args.slots.now c.loop-slot.slot-index c.loop-slot-test.false)
    ∙ c.loop-slot.invariant
