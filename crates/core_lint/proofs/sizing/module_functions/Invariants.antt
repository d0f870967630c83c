use Rattle.std.proofs.Common.{◌≡◌, drop, map}
use Rattle.core_ast.specs.Trees.{definition_of, definitions}
use Rattle.core_lint.specs.Tallies.{sized}
use Rattle.core_lint.proofs.sizing.module_functions.Given as goal

abbrev pub invariant-loop-def : goal.invariant-loop-def
invariant-loop-def l = sized (definitions (map definition_of (drop l.def-index l.list))) l.tally ≡ sized (definitions (map definition_of l.list)) l.initial.tally
