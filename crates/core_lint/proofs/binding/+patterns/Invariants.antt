use Rattle.std.proofs.Common.{◌≡◌, ◌++◌, drop, map}
use Rattle.core_ast.specs.Trees.{pattern_of, patterns}
use Rattle.core_ast.specs.Names.{variables_of_all}
use Rattle.core_lint.specs.Entries.{entry_of, variable_entries}
use Rattle.core_lint.proofs.binding.+patterns.Given as goal

abbrev pub invariant-in_patterns-loop-p : goal.invariant-in_patterns-loop-p
invariant-in_patterns-loop-p l =
    map entry_of l.bound.items ++ variable_entries (variables_of_all (patterns (map pattern_of (drop l.p-index l.list))))
    ≡ map entry_of l.initial.bound.items ++ variable_entries (variables_of_all (patterns (map pattern_of l.list)))
