use Rattle.std.proofs.Common.{◌≡◌, ◌≤◌, ◌+◌, ◌*◌, length, drop}
use Rattle.heap_terms.specs.Building.{cells_built, IsPrefixOf}
use Rattle.heap_terms.proofs.constants.build_cells.Given as goal

abbrev pub invariant-loop-left : goal.invariant-loop-left
invariant-loop-left l =
    (l.left ≤ length l.elements)
    × ((l.list, l.used.items) ≡ cells_built l.begin (drop l.left l.elements) (l.rest, l.initial.used.items))
    × IsPrefixOf l.initial.used.items l.used.items
    × (length l.used.items + 2 * l.left ≡ length l.initial.used.items + 2 * length l.elements)

abbrev pub decreases-loop-left : goal.decreases-loop-left
decreases-loop-left l = l.left
