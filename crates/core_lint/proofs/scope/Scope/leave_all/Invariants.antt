use Rattle.std.proofs.Common.{◌≡◌, drop}
use Rattle.core_lint.proofs.scope.Scope.leave_all.Given as goal

abbrev pub invariant-loop-bound : goal.invariant-loop-bound
invariant-loop-bound l = l.self ≡ drop l._bound-index l.initial.self
