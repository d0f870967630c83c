use Rattle.std.proofs.Common.{◌≡◌, drop}
use Rattle.std.specs.Prelude.{◌==◌}
use Rattle.std.specs.List.{list_any}
use Rattle.eval_procedures.proofs.captured.is_found.Given as goal

abbrev pub invariant-loop-other : goal.invariant-loop-other
invariant-loop-other l = list_any (λ j. l.slot == j) (drop l.other-index l.found) ≡ list_any (λ j. l.slot == j) l.found
