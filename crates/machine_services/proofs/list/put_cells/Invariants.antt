use Rattle.std.proofs.Common.{◌≡◌, ◌+◌, ◌*◌, ◌++◌, length, take, drop}
use Rattle.machine_services.specs.Lists.{cells_from}
use Rattle.machine_services.proofs.list.put_cells.Given as goal

abbrev pub invariant-loop-element : goal.invariant-loop-element
invariant-loop-element l = record {
  count : l.cells + l.element-index ≡ length l.elements;
  written : take l.at l.heap ++ (cells_from l.free (drop l.element-index l.elements) l.tail).1 ++ drop (l.at + 2 * l.cells) l.heap
      ≡ take l.at l.fn.heap ++ (cells_from l.free l.elements l.tail).1 ++ drop (l.at + 2 * length l.elements) l.fn.heap;
}
