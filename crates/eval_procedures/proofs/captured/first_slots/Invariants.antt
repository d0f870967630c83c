use Rattle.std.proofs.Common.{◌≡◌}
use Rattle.core_meaning.specs.Scopes.{slots_from}
use Rattle.eval_procedures.proofs.captured.first_slots.Given as goal

abbrev pub invariant-loop-slot : goal.invariant-loop-slot
invariant-loop-slot l = l.found.items ≡ slots_from 0 l.slot
