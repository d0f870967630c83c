use Rattle.std.proofs.Common.{◌≡◌, drop}
use Rattle.core_meaning.specs.Meaning.{values_in}
use Rattle.eval_values.specs.Values.{terms_in}
use Rattle.eval_contexts.proofs.Slots.{values_after}
use Rattle.eval_contexts.proofs.context.Context.values_in.Given as goal

abbrev pub invariant-loop-slot : goal.invariant-loop-slot
invariant-loop-slot l = values_after (terms_in l.found.items) (terms_in l.self.bound.now) (drop l.slot-index l.slots) ≡ values_in (terms_in l.self.bound.now) l.slots
