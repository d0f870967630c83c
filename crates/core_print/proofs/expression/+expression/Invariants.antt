use Rattle.std.proofs.Common.{◌≡◌, map, drop, string_bytes}
use Rattle.core_ast.specs.Trees.{expression_of, expressions, clause_of, clauses, definition_of, definitions}
use Rattle.core_print.specs.Printed.{followed_by, commas_from, each, clauses_pieces, definitions_pieces}
use Rattle.core_print.proofs.expression.+expression.Given as goal

abbrev pub invariant-expressions-loop-i : goal.invariant-expressions-loop-i
invariant-expressions-loop-i l = followed_by (commas_from l.i (each l.level (expressions (map expression_of (drop l.i l.list))))) (string_bytes l.out) ≡ followed_by (commas_from 0 (each l.level (expressions (map expression_of l.list)))) (string_bytes l.initial.out)

abbrev pub invariant-clauses-loop-c : goal.invariant-clauses-loop-c
invariant-clauses-loop-c l = followed_by (clauses_pieces l.level (clauses (map clause_of (drop l.c-index l.list)))) (string_bytes l.out) ≡ followed_by (clauses_pieces l.level (clauses (map clause_of l.list))) (string_bytes l.initial.out)

abbrev pub invariant-definitions-loop-def : goal.invariant-definitions-loop-def
invariant-definitions-loop-def l = followed_by (definitions_pieces l.level (definitions (map definition_of (drop l.def-index l.list)))) (string_bytes l.out) ≡ followed_by (definitions_pieces l.level (definitions (map definition_of l.list))) (string_bytes l.initial.out)
