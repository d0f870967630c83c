use Rattle.std.proofs.Common.{◌≡◌, drop, map, None}
use Rattle.core_ast.specs.Trees.{expression_of, expressions, clause_of, clauses, definition_of, definitions}
use Rattle.core_ast.specs.Degrees.{first_degree, degree_of_bodies}
use Rattle.core_lint.specs.Tallies.{tallied_each, tallied_clauses, tallied_definitions}
use Rattle.core_lint.proofs.counting.+counting.Given as goal

abbrev pub invariant-each-loop-e : goal.invariant-each-loop-e
invariant-each-loop-e l = tallied_each (expressions (map expression_of (drop l.e-index l.list))) l.tally ≡ tallied_each (expressions (map expression_of l.list)) l.initial.tally

abbrev pub invariant-clauses-loop-c : goal.invariant-clauses-loop-c
invariant-clauses-loop-c l =
    (first_degree l.before (degree_of_bodies (clauses (map clause_of (drop l.c-index l.list)))) ≡ degree_of_bodies (clauses (map clause_of l.list)))
    × (tallied_clauses l.argument l.at l.before (clauses (map clause_of (drop l.c-index l.list))) l.tally ≡ tallied_clauses l.argument l.at None (clauses (map clause_of l.list)) l.initial.tally)

abbrev pub invariant-definitions-loop-def : goal.invariant-definitions-loop-def
invariant-definitions-loop-def l = tallied_definitions (definitions (map definition_of (drop l.def-index l.list))) l.tally ≡ tallied_definitions (definitions (map definition_of l.list)) l.initial.tally
