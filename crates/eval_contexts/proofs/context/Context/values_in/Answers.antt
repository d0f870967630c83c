use Rattle.std.proofs.Common.{◌+◌, ◌∷◌, [], Some, drop, get_or, sym, ap, ◌∙◌}
use Rattle.std.proofs.lemmas.List.{map-append, at_drop_more, at_drop_all}
use Rattle.eval_values.specs.Values.{term_in, terms_in}
use Rattle.eval_contexts.proofs.Slots.{values_after, values_more, values_lost, values_done}
use Rattle.eval_contexts.proofs.context.Context.values_in.Goals as goal

pub returns-in-None : goal.returns-in-None
returns-in-None c =
    sym (values_lost (terms_in c.loop-slot.found.items) (terms_in c.args.self.bound.now) (get_or c.args.slots.now c.loop-slot.slot-index 0) (drop (c.loop-slot.slot-index + 1) c.args.slots.now) (sym c.in-None.ensures))
    ∙ sym (at_drop_more (values_after (terms_in c.loop-slot.found.items) (terms_in c.args.self.bound.now)) c.args.slots.now c.loop-slot.slot-index 0 c.loop-slot-test.true)
    ∙ c.loop-slot.invariant

pub loop-slot-preserved : goal.loop-slot-preserved
loop-slot-preserved c =
    ap (λ l. values_after (terms_in l) (terms_in c.args.self.bound.now) (drop (c.loop-slot.slot-index + 1) c.args.slots.now)) c.in_ok-push-in-Some.ensures.items
    ∙ ap (λ l. values_after l (terms_in c.args.self.bound.now) (drop (c.loop-slot.slot-index + 1) c.args.slots.now)) (map-append term_in c.loop-slot.found.items (c.in-Some.value ∷ []))
    ∙ sym (values_more (terms_in c.loop-slot.found.items) (terms_in c.args.self.bound.now) (get_or c.args.slots.now c.loop-slot.slot-index 0) (drop (c.loop-slot.slot-index + 1) c.args.slots.now) (term_in c.in-Some.value) (sym c.in-Some.ensures))
    ∙ sym (at_drop_more (values_after (terms_in c.loop-slot.found.items) (terms_in c.args.self.bound.now)) c.args.slots.now c.loop-slot.slot-index 0 c.loop-slot-test.true)
    ∙ c.loop-slot.invariant

pub returns : goal.returns
returns c =
    ap (λ l. Some (terms_in l)) (c.in_ok-try_alloc_slice_copy.ensures ∙ c.as_slice.ensures.value)
    ∙ sym (values_done (terms_in c.loop-slot.found.items) (terms_in c.args.self.bound.now))
    ∙ sym (at_drop_all (values_after (terms_in c.loop-slot.found.items) (terms_in c.args.self.bound.now)) c.args.slots.now c.loop-slot.slot-index c.loop-slot-test.false)
    ∙ c.loop-slot.invariant
