use Rattle.std.proofs.Common.{◌≡◌, map, drop, string_bytes}
use Rattle.core_ast.specs.Trees.{pattern_of, patterns}
use Rattle.core_print.specs.Printed.{followed_by, commas_from, each_pattern}
use Rattle.core_print.proofs.pattern.+pattern.Given as goal

abbrev pub invariant-patterns-loop-i : goal.invariant-patterns-loop-i
invariant-patterns-loop-i l = followed_by (commas_from l.i (each_pattern (patterns (map pattern_of (drop l.i l.list))))) (string_bytes l.out) ≡ followed_by (commas_from 0 (each_pattern (patterns (map pattern_of l.list)))) (string_bytes l.initial.out)
