use Rattle.std.proofs.Common.{◌≡◌, drop}
use Rattle.core_meaning.specs.Scopes.{first_occurrences}
use Rattle.eval_procedures.proofs.Firsts.{continued}
use Rattle.eval_procedures.proofs.captured.first_occurrences.Given as goal

abbrev pub invariant-loop-slot : goal.invariant-loop-slot
invariant-loop-slot l = continued l.found.items (drop l.slot-index l.slots) ≡ first_occurrences l.slots
