use Rattle.std.proofs.Common.{◌≡◌, ◌++◌, map, drop}
use Rattle.core_meaning.specs.Scopes.{numbered}
use Rattle.eval_procedures.specs.Shown.{names_in, slot_in}
use Rattle.eval_procedures.proofs.scope.binding.Given as goal

abbrev pub invariant-loop-x : goal.invariant-loop-x
invariant-loop-x l = map slot_in l.variables.items ++ numbered l.slot (names_in (drop l.x-index l.xs)) ≡ numbered l.first (names_in l.xs)
