use Rattle.std.proofs.Common.{◌≡◌, drop}
use Rattle.core_lint.specs.Entries.{is_some_wanted}
use Rattle.core_lint.proofs.walk.is_some_wanted.Given as goal

abbrev pub invariant-loop-bound : goal.invariant-loop-bound
invariant-loop-bound l = is_some_wanted l.rule (drop l.bound-index l.list) l.first ≡ is_some_wanted l.rule l.list l.first
