use Rattle.std.proofs.Common.{◌≡◌, ◌≤◌, length, map, take}
use Rattle.core_lint.specs.Entries.{entry_of, entered}
use Rattle.core_lint.proofs.scope.Scope.enter_all.Given as goal

abbrev pub invariant-loop-left : goal.invariant-loop-left
invariant-loop-left l = (l.left ≤ length l.list) × (entered (map entry_of (take l.left l.list)) l.self ≡ entered (map entry_of l.list) l.initial.self)

abbrev pub decreases-loop-left : goal.decreases-loop-left
decreases-loop-left l = l.left
