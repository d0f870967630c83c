use Rattle.std.proofs.Common.{◌≡◌, ◌++◌, drop}
use Rattle.core_meaning.specs.Scopes.{names}
use Rattle.eval_procedures.specs.Shown.{names_in}
use Rattle.eval_procedures.proofs.scope.names.Given as goal

abbrev pub invariant-loop-x : goal.invariant-loop-x
invariant-loop-x l = names_in l.found.items ++ names (drop l.x-index l.xs) ≡ names l.xs
