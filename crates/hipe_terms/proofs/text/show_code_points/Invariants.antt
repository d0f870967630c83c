use Rattle.std.proofs.Common.{◌≡◌, ◌++◌, drop, flat_map, string_bytes}
use Rattle.hipe_terms.specs.Shown.{escaped}
use Rattle.hipe_terms.proofs.text.show_code_points.Given as goal

abbrev pub invariant-loop-c : goal.invariant-loop-c
invariant-loop-c l = string_bytes l.text ++ flat_map escaped (drop l.c-index l.points) ≡ string_bytes l.initial.text ++ flat_map escaped l.points
