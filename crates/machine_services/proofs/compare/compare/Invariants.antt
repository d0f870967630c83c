use Rattle.std.proofs.Common.{◌≡◌}
use Rattle.heap_terms.specs.Seen.{symbols_of}
use Rattle.machine_services.specs.Comparing.{compared}
use Rattle.machine_services.specs.Pending.{order_pending, size_pending}
use Rattle.machine_services.proofs.compare.compare.Given as goal

abbrev pub invariant-loop-next : goal.invariant-loop-next
invariant-loop-next l = order_pending (symbols_of l.symbols) l.heap l.pending.items ≡ compared (symbols_of l.symbols) l.heap l.fn.a l.fn.b

abbrev pub decreases-loop-next : goal.decreases-loop-next
decreases-loop-next l = size_pending (symbols_of l.symbols) l.heap l.pending.items
