use Rattle.std.proofs.Common.{◌≡◌}
use Rattle.heap_terms.specs.Seen.{symbols_of, reference_of}
use Rattle.machine_services.specs.Lists.{spine_at, spine_below}
use Rattle.machine_services.proofs.Spines.{put_before}
use Rattle.machine_services.proofs.list.elements.Given as goal

abbrev pub invariant-loop-head : goal.invariant-loop-head
invariant-loop-head l = put_before l.found.items (spine_below (symbols_of l.symbols) l.heap (reference_of l.rest)) ≡ spine_at (symbols_of l.symbols) l.heap l.word

abbrev pub decreases-loop-head : goal.decreases-loop-head
decreases-loop-head l = l.rest.below
