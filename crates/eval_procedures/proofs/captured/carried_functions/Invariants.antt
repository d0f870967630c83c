use Rattle.std.proofs.Common.{◌≡◌, ◌++◌, map, drop}
use Rattle.core_meaning.specs.Scopes.{carried_functions}
use Rattle.eval_procedures.specs.Shown.{function_in}
use Rattle.eval_procedures.proofs.captured.carried_functions.Given as goal

abbrev pub invariant-loop-f : goal.invariant-loop-f
invariant-loop-f l = map function_in l.found.items ++ carried_functions l.captured (map function_in (drop l.f-index l.functions)) ≡ carried_functions l.captured (map function_in l.functions)
