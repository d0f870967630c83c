use Rattle.std.proofs.Common.{◌≡◌, ◌++◌, map, drop}
use Rattle.core_ast.specs.Trees.{pattern_of, patterns}
use Rattle.core_meaning.specs.Scopes.{bound_by}
use Rattle.eval_procedures.specs.Shown.{names_in}
use Rattle.eval_procedures.proofs.scope.+pattern_names.Given as goal

abbrev pub invariant-names_of_patterns-loop-p : goal.invariant-names_of_patterns-loop-p
invariant-names_of_patterns-loop-p l = names_in l.found.items ++ bound_by (patterns (map pattern_of (drop l.p-index l.ps))) ≡ names_in l.fn.found.items ++ bound_by (patterns (map pattern_of l.ps))
