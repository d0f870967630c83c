use Rattle.std.proofs.Common.{◌≡◌, ◌-◌, drop, map}
use Rattle.core_ast.specs.Trees.{pattern_of, patterns}
use Rattle.core_ast.specs.Nodes.{patterns_nodes}
use Rattle.core_ast.proofs.count.+pattern.Given as goal

abbrev pub invariant-patterns-loop-p : goal.invariant-patterns-loop-p
invariant-patterns-loop-p l = l.left - patterns_nodes (patterns (map pattern_of (drop l.p-index l.list))) ≡ l.room - patterns_nodes (patterns (map pattern_of l.list))
