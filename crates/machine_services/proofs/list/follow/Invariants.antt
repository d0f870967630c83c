use Rattle.std.proofs.Common.{◌≡◌, ◌≤◌, ◌+◌, length}
use Rattle.heap_terms.specs.Seen.{symbols_of, reference_of}
use Rattle.machine_services.specs.Lists.{spine_at, spine_below}
use Rattle.machine_services.specs.Ends.{spine_seen}
use Rattle.machine_services.proofs.Spines.{ahead}
use Rattle.machine_services.proofs.list.follow.Given as goal

abbrev pub invariant-cells : goal.invariant-cells
invariant-cells l = record {
  within : l.elements + l.rest.below ≤ length l.heap;
  ends : ahead l.elements (spine_seen (spine_below (symbols_of l.symbols) l.heap (reference_of l.rest))) ≡ spine_seen (spine_at (symbols_of l.symbols) l.heap l.word);
}

abbrev pub decreases-cells : goal.decreases-cells
decreases-cells l = l.rest.below
