use Rattle.std.proofs.Common.{◌≡◌, drop}
use Rattle.core_meaning.specs.Scopes.{position}
use Rattle.eval_procedures.proofs.Positions.{position_from}
use Rattle.eval_procedures.proofs.captured.position.Given as goal

abbrev pub invariant-loop-i : goal.invariant-loop-i
invariant-loop-i l = position_from l.i l.slot (drop l.i l.captured) ≡ position l.slot l.captured
