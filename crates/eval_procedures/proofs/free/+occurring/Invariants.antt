use Rattle.std.proofs.Common.{◌≡◌, ◌++◌, map, drop}
use Rattle.core_ast.specs.Trees.{expression_of, expressions, clause_of, clauses, definition_of, definitions}
use Rattle.core_meaning.specs.Scopes.{occurring_in_all, occurring_in_clauses, occurring_in_definitions}
use Rattle.eval_procedures.specs.Shown.{scope_in}
use Rattle.eval_procedures.proofs.free.+occurring.Given as goal

abbrev pub invariant-in_all-loop-e : goal.invariant-in_all-loop-e
invariant-in_all-loop-e l = l.found.items ++ occurring_in_all (scope_in l.s) (expressions (map expression_of (drop l.e-index l.list))) ≡ l.fn.found.items ++ occurring_in_all (scope_in l.s) (expressions (map expression_of l.list))

abbrev pub invariant-in_clauses-loop-c : goal.invariant-in_clauses-loop-c
invariant-in_clauses-loop-c l = l.found.items ++ occurring_in_clauses (scope_in l.s) (clauses (map clause_of (drop l.c-index l.list))) ≡ l.fn.found.items ++ occurring_in_clauses (scope_in l.s) (clauses (map clause_of l.list))

abbrev pub invariant-in_definitions-loop-def : goal.invariant-in_definitions-loop-def
invariant-in_definitions-loop-def l = l.found.items ++ occurring_in_definitions (scope_in l.s) (definitions (map definition_of (drop l.def-index l.defs))) ≡ l.fn.found.items ++ occurring_in_definitions (scope_in l.s) (definitions (map definition_of l.defs))
