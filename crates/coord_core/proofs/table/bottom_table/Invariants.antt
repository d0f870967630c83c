use Rattle.std.proofs.Common.{◌≡◌, replicate}
use Rattle.coord_core.proofs.table.bottom_table.Given as goal

abbrev pub invariant-loop : goal.invariant-loop
invariant-loop g l = l.table.items ≡ replicate l.counter g.S.Value.Lattice.meaning.bottom
