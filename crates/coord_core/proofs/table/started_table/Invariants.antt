use Rattle.std.proofs.Common.{◌≡◌, drop, length}
use Rattle.coord_core.specs.States.{started}
use Rattle.coord_core.proofs.table.started_table.Given as goal

-- what is left to be put in leads to the same table as the whole
abbrev pub invariant-loop-start : goal.invariant-loop-start
invariant-loop-start g l =
    record {
      table : started l.table.items (drop l.start-index l.start-items) ≡ started l.initial.table.items l.start-items;
      cells : length l.table.items ≡ g.S.System.meaning.cells;
    }
