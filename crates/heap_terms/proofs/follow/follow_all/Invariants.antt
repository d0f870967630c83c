use Rattle.std.proofs.Common.{◌≡◌}
use Rattle.heap_terms.specs.Seen.{symbols_of}
use Rattle.heap_terms.specs.Following.{stand_last, size_last}
use Rattle.heap_terms.proofs.follow.follow_all.Given as goal

abbrev pub invariant-loop-next : goal.invariant-loop-next
invariant-loop-next l = stand_last (symbols_of l.symbols) l.heap l.pending.items ≡ stand_last (symbols_of l.symbols) l.heap l.initial.pending.items

abbrev pub decreases-loop-next : goal.decreases-loop-next
decreases-loop-next l = size_last (symbols_of l.symbols) l.heap l.pending.items
