use Rattle.std.proofs.Common.{◌≡◌, ◌-◌, drop, map}
use Rattle.core_ast.specs.Trees.{expression_of, expressions, clause_of, clauses, definition_of, definitions}
use Rattle.core_ast.specs.Nodes.{expressions_nodes, clauses_nodes, definitions_nodes}
use Rattle.core_ast.proofs.count.+count.Given as goal

abbrev pub invariant-expressions-loop-e : goal.invariant-expressions-loop-e
invariant-expressions-loop-e l = l.left - expressions_nodes (expressions (map expression_of (drop l.e-index l.list))) ≡ l.room - expressions_nodes (expressions (map expression_of l.list))

abbrev pub invariant-clauses-loop-c : goal.invariant-clauses-loop-c
invariant-clauses-loop-c l = l.left - clauses_nodes (clauses (map clause_of (drop l.c-index l.list))) ≡ l.room - clauses_nodes (clauses (map clause_of l.list))

abbrev pub invariant-definitions-loop-def : goal.invariant-definitions-loop-def
invariant-definitions-loop-def l = l.left - definitions_nodes (definitions (map definition_of (drop l.def-index l.list))) ≡ l.room - definitions_nodes (definitions (map definition_of l.list))
