use Rattle.std.proofs.Common.{◌≡◌, ◌++◌, map, drop}
use Rattle.core_ast.specs.Trees.{definition_of, definitions}
use Rattle.core_meaning.specs.Procedures.{known_from}
use Rattle.eval_procedures.specs.Shown.{function_in}
use Rattle.eval_procedures.proofs.procedures.known_from.Given as goal

abbrev pub invariant-loop-def : goal.invariant-loop-def
invariant-loop-def l = map function_in l.found.items ++ known_from l.number (definitions (map definition_of (drop l.def-index l.defs))) ≡ known_from 0 (definitions (map definition_of l.defs))
