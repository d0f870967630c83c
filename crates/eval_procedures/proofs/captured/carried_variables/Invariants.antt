use Rattle.std.proofs.Common.{◌≡◌, ◌++◌, map, drop}
use Rattle.core_meaning.specs.Scopes.{carried_variables}
use Rattle.eval_procedures.specs.Shown.{slot_in}
use Rattle.eval_procedures.proofs.captured.carried_variables.Given as goal

abbrev pub invariant-loop-v : goal.invariant-loop-v
invariant-loop-v l = map slot_in l.found.items ++ carried_variables l.captured (map slot_in (drop l.v-index l.variables)) ≡ carried_variables l.captured (map slot_in l.variables)
