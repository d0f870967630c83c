use Rattle.std.proofs.Common.{◌≡◌, drop, map}
use Rattle.core_ast.specs.Trees.{expression_of, expressions, clause_of, clauses, definition_of, definitions}
use Rattle.core_ast.specs.WellFormed.{well_formed_expressions, well_formed_clauses, well_formed_definitions}
use Rattle.core_ast.proofs.well_formed.+well_formed.Given as goal

abbrev pub invariant-expressions-loop-e : goal.invariant-expressions-loop-e
invariant-expressions-loop-e l = well_formed_expressions (expressions (map expression_of (drop l.e-index l.list))) ≡ well_formed_expressions (expressions (map expression_of l.list))

abbrev pub invariant-clauses-loop-c : goal.invariant-clauses-loop-c
invariant-clauses-loop-c l = well_formed_clauses (clauses (map clause_of (drop l.c-index l.list))) ≡ well_formed_clauses (clauses (map clause_of l.list))

abbrev pub invariant-well_formed_functions-loop-def : goal.invariant-well_formed_functions-loop-def
invariant-well_formed_functions-loop-def l = well_formed_definitions (definitions (map definition_of (drop l.def-index l.list))) ≡ well_formed_definitions (definitions (map definition_of l.list))
