use Rattle.std.proofs.Common.{◌≡◌, drop, map}
use Rattle.core_ast.specs.Trees.{expression_of, expressions, clause_of, clauses, definition_of, definitions}
use Rattle.core_lint.specs.Walks.{visited_all, visited_clauses, visited_definitions}
use Rattle.core_lint.proofs.scoping.+scoping.Given as goal

abbrev pub invariant-expressions-loop-e : goal.invariant-expressions-loop-e
invariant-expressions-loop-e l = visited_all (expressions (map expression_of (drop l.e-index l.list))) l.walk ≡ visited_all (expressions (map expression_of l.list)) l.initial.walk

abbrev pub invariant-clauses-loop-c : goal.invariant-clauses-loop-c
invariant-clauses-loop-c l = visited_clauses (clauses (map clause_of (drop l.c-index l.list))) l.walk ≡ visited_clauses (clauses (map clause_of l.list)) l.initial.walk

abbrev pub invariant-definitions-loop-def : goal.invariant-definitions-loop-def
invariant-definitions-loop-def l = visited_definitions (definitions (map definition_of (drop l.def-index l.list))) l.walk ≡ visited_definitions (definitions (map definition_of l.list)) l.initial.walk
