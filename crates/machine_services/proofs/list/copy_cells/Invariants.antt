use Rattle.std.proofs.Common.{◌≤◌, ◌+◌, ◌*◌, ◌++◌, take, drop}
use Rattle.heap_terms.specs.Seen.{symbols_of}
use Rattle.machine_services.specs.Ends.{link_spine, spine_elements}
use Rattle.machine_services.specs.Lists.{cells_from, spine_below}
use Rattle.machine_services.proofs.Frames.{Copied}
use Rattle.machine_services.proofs.list.copy_cells.Given as goal

abbrev pub invariant-loop-link : goal.invariant-loop-link
invariant-loop-link l =
    (l.left ≤ l.count) × Copied (symbols_of l.symbols) l.at l.free l.tail
    (take l.at l.fn.heap ++ (cells_from l.free (spine_elements (link_spine (spine_below (symbols_of l.symbols) l.fn.heap) l.fn.list)) l.tail).1 ++ drop (l.at + 2 * l.count) l.fn.heap)
    l.heap l.link l.left

abbrev pub decreases-loop-link : goal.decreases-loop-link
decreases-loop-link l = l.left
