use Rattle.std.proofs.Common.{◌≡◌, ◌++◌, map, drop}
use Rattle.core_ast.specs.Trees.{definition_of, definitions}
use Rattle.core_meaning.specs.Scopes.{numbered_functions}
use Rattle.eval_procedures.specs.Shown.{function_in}
use Rattle.eval_procedures.proofs.captured.numbered_functions.Given as goal

abbrev pub invariant-loop-def : goal.invariant-loop-def
invariant-loop-def l =
    map function_in l.found.items ++ numbered_functions l.number l.captured (definitions (map definition_of (drop l.def-index l.defs)))
    ≡ numbered_functions l.n l.captured (definitions (map definition_of l.defs))
