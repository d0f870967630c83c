use Rattle.std.proofs.Common.{◌≡◌, ◌++◌, drop, map}
use Rattle.core_ast.specs.Trees.{definition_of, definitions}
use Rattle.core_lint.specs.Entries.{entry_of, function_entries}
use Rattle.core_lint.proofs.binding.functions.Given as goal

abbrev pub invariant-loop-def : goal.invariant-loop-def
invariant-loop-def l =
    map entry_of l.list.items ++ function_entries (definitions (map definition_of (drop l.def-index l.defs))) ≡ function_entries (definitions (map definition_of l.defs))
