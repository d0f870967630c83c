use Rattle.std.proofs.Common.{◌≡◌, take}
use Rattle.coord_core.specs.Tables.{values_of}
use Rattle.coord_core.proofs.table.values_at.Given as goal

abbrev pub invariant-loop-cell : goal.invariant-loop-cell
invariant-loop-cell g l = l.values.items ≡ values_of g.V.Lattice.meaning l.table (take l.cell-index l.cells)
