use Rattle.std.proofs.Common.{◌≡◌, map, drop, string_bytes}
use Rattle.core_print.specs.Printed.{followed_by, commas_from, attribute_pieces}
use Rattle.core_print.proofs.print.listed.Given as goal

abbrev pub invariant-loop-i : goal.invariant-loop-i
invariant-loop-i l = followed_by (commas_from l.i (map attribute_pieces (drop l.i l.list))) (string_bytes l.out) ≡ followed_by (commas_from 0 (map attribute_pieces l.list)) (string_bytes l.initial.out)
