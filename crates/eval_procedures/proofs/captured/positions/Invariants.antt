use Rattle.std.proofs.Common.{◌≡◌, drop}
use Rattle.core_meaning.specs.Scopes.{positions}
use Rattle.eval_procedures.proofs.Positions.{positions_after}
use Rattle.eval_procedures.proofs.captured.positions.Given as goal

abbrev pub invariant-loop-slot : goal.invariant-loop-slot
invariant-loop-slot l = positions_after l.found.items (drop l.slot-index l.slots) l.captured ≡ positions l.slots l.captured
