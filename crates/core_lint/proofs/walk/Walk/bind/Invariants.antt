use Rattle.std.proofs.Common.{◌≡◌, [], drop, map}
use Rattle.core_lint.specs.Entries.{entry_of, repeats}
use Rattle.core_lint.proofs.walk.Walk.bind.Given as goal

abbrev pub invariant-loop-bound : goal.invariant-loop-bound
invariant-loop-bound l =
    record l.self { first = repeats l.rule l.seen (map entry_of (drop l.bound-index l.list)) l.self.first } ≡ record l.initial.self { first = repeats l.rule [] (map entry_of l.list) l.initial.self.first }
