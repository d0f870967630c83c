use Rattle.std.proofs.Common.{◌≡◌, ◌++◌, map, drop}
use Rattle.core_ast.specs.Trees.{expression_of, expressions, clause_of, clauses, definition_of, definitions}
use Rattle.core_meaning.specs.Procedures.{procedures_in_all, procedures_in_clauses, procedures_of_group}
use Rattle.eval_procedures.specs.Shown.{scope_in, procedures_in}
use Rattle.eval_procedures.proofs.procedures.Table.+expression.Given as goal

abbrev pub invariant-each-loop-e : goal.invariant-each-loop-e
invariant-each-loop-e l =
    procedures_in l.self.found.items ++ procedures_in_all (scope_in l.s) l.slots l.number (expressions (map expression_of (drop l.e-index l.list)))
    ≡ procedures_in l.fn.self.found.items ++ procedures_in_all (scope_in l.s) l.slots l.n (expressions (map expression_of l.list))

abbrev pub invariant-clauses-loop-c : goal.invariant-clauses-loop-c
invariant-clauses-loop-c l =
    procedures_in l.self.found.items ++ procedures_in_clauses (scope_in l.s) l.slots l.number (clauses (map clause_of (drop l.c-index l.list)))
    ≡ procedures_in l.fn.self.found.items ++ procedures_in_clauses (scope_in l.s) l.slots l.n (clauses (map clause_of l.list))

abbrev pub invariant-definitions-loop-def : goal.invariant-definitions-loop-def
invariant-definitions-loop-def l =
    procedures_in l.self.found.items ++ procedures_of_group l.captured (scope_in l.s) l.number (definitions (map definition_of (drop l.def-index l.defs)))
    ≡ procedures_in l.fn.self.found.items ++ procedures_of_group l.captured (scope_in l.s) l.n (definitions (map definition_of l.defs))
