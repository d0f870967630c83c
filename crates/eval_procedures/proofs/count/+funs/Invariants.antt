use Rattle.std.proofs.Common.{◌≡◌, ◌+◌, map, drop}
use Rattle.core_ast.specs.Trees.{expression_of, expressions, clause_of, clauses, definition_of, definitions}
use Rattle.core_meaning.specs.Scopes.{funs_in_all, funs_in_clauses, funs_in_definitions}
use Rattle.eval_procedures.proofs.count.+funs.Given as goal

abbrev pub invariant-funs_in_all-loop-e : goal.invariant-funs_in_all-loop-e
invariant-funs_in_all-loop-e l = l.count + funs_in_all (expressions (map expression_of (drop l.e-index l.list))) ≡ funs_in_all (expressions (map expression_of l.list))

abbrev pub invariant-funs_in_clauses-loop-c : goal.invariant-funs_in_clauses-loop-c
invariant-funs_in_clauses-loop-c l = l.count + funs_in_clauses (clauses (map clause_of (drop l.c-index l.list))) ≡ funs_in_clauses (clauses (map clause_of l.list))

abbrev pub invariant-funs_in_definitions-loop-def : goal.invariant-funs_in_definitions-loop-def
invariant-funs_in_definitions-loop-def l = l.count + funs_in_definitions (definitions (map definition_of (drop l.def-index l.list))) ≡ funs_in_definitions (definitions (map definition_of l.list))
