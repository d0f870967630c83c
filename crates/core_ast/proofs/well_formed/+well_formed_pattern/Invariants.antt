use Rattle.std.proofs.Common.{◌≡◌, drop, map}
use Rattle.core_ast.specs.Trees.{pattern_of, patterns}
use Rattle.core_ast.specs.WellFormed.{well_formed_patterns}
use Rattle.core_ast.proofs.well_formed.+well_formed_pattern.Given as goal

abbrev pub invariant-patterns-loop-p : goal.invariant-patterns-loop-p
invariant-patterns-loop-p l = well_formed_patterns (patterns (map pattern_of (drop l.p-index l.list))) ≡ well_formed_patterns (patterns (map pattern_of l.list))
