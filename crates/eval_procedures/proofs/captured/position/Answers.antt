use Rattle.std.proofs.Common.{◌+◌, drop, get_or, sym, ◌∙◌}
use Rattle.std.proofs.lemmas.Bool.{eq-eqb, ne_eqb}
use Rattle.std.proofs.lemmas.List.{at_drop_more, at_drop_all}
use Rattle.eval_procedures.proofs.Positions.{position_from, position_here, position_later, position_nowhere}
use Rattle.eval_procedures.proofs.captured.position.Goals as goal

pub returns-then-slot-c : goal.returns-then-slot-c
returns-then-slot-c c =
    sym (position_here c.loop-i.i c.args.slot (get_or c.args.captured.now c.loop-i.i 0) (drop (c.loop-i.i + 1) c.args.captured.now) (eq-eqb c.args.slot (get_or c.args.captured.now c.loop-i.i 0) c.if-slot-c.true))
    ∙ sym (at_drop_more (position_from c.loop-i.i c.args.slot) c.args.captured.now c.loop-i.i 0 c.loop-i-test.true)
    ∙ c.loop-i.invariant

pub loop-i-preserved : goal.loop-i-preserved
loop-i-preserved c =
    sym (position_later c.loop-i.i c.args.slot (get_or c.args.captured.now c.loop-i.i 0) (drop (c.loop-i.i + 1) c.args.captured.now) (ne_eqb c.args.slot (get_or c.args.captured.now c.loop-i.i 0) c.if-slot-c.false))
    ∙ sym (at_drop_more (position_from c.loop-i.i c.args.slot) c.args.captured.now c.loop-i.i 0 c.loop-i-test.true)
    ∙ c.loop-i.invariant

pub returns : goal.returns
returns c =
    sym (position_nowhere c.loop-i.i c.args.slot)
    ∙ sym (at_drop_all (position_from c.loop-i.i c.args.slot) c.args.captured.now c.loop-i.i c.loop-i-test.false)
    ∙ c.loop-i.invariant
