use Rattle.std.proofs.Common.{◌≡◌, ◌++◌, drop, map}
use Rattle.core_lint.specs.Entries.{entry_of, variable_entries}
use Rattle.core_lint.proofs.binding.variables.Given as goal

abbrev pub invariant-loop-x : goal.invariant-loop-x
invariant-loop-x l = map entry_of l.list.items ++ variable_entries (drop l.x-index l.xs) ≡ variable_entries l.xs
