use Rattle.std.proofs.Common.{◌≡◌, map, drop, string_bytes}
use Rattle.core_print.specs.Printed.{followed_by, commas_from, export_pieces}
use Rattle.core_print.proofs.print.exported.Given as goal

abbrev pub invariant-loop-i : goal.invariant-loop-i
invariant-loop-i l = followed_by (commas_from l.i (map export_pieces (drop l.i l.exports))) (string_bytes l.out) ≡ followed_by (commas_from 0 (map export_pieces l.exports)) (string_bytes l.initial.out)
