use Rattle.std.proofs.Common.{◌≡◌, ◌==◌, ◌<◌, ℕ, take, length, get_or, false}
use Rattle.std.specs.List.{list_any}
use Rattle.coord_core.proofs.table.started_cells.Given as goal

abbrev pub invariant-loop-start : goal.invariant-loop-start
invariant-loop-start g l =
    record {
      cells : length l.flags.items ≡ g.S.System.meaning.cells;
      flags : (cell : ℕ) → cell < g.S.System.meaning.cells → get_or l.flags.items cell false ≡ list_any (λ start. start.0 == cell) (take l.start-index l.start-items);
    }
