use Rattle.std.proofs.Common.{◌≡◌, map, drop, string_bytes}
use Rattle.core_print.specs.Printed.{followed_by, commas_from, variable_pieces}
use Rattle.core_print.proofs.pattern.variables.Given as goal

abbrev pub invariant-loop-i : goal.invariant-loop-i
invariant-loop-i l = followed_by (commas_from l.i (map variable_pieces (drop l.i l.list))) (string_bytes l.out) ≡ followed_by (commas_from 0 (map variable_pieces l.list)) (string_bytes l.initial.out)
