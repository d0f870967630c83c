use Rattle.std.proofs.Common.{◌≡◌, ◌+◌, map, drop}
use Rattle.core_ast.specs.Trees.{clause_of, clauses}
use Rattle.core_meaning.specs.Meaning.{tested_nodes}
use Rattle.eval_run.proofs.evaluate.tested_nodes.Given as goal

abbrev pub invariant-loop-c : goal.invariant-loop-c
invariant-loop-c l = l.count + tested_nodes (clauses (map clause_of (drop l.c-index l.list))) ≡ tested_nodes (clauses (map clause_of l.list))
