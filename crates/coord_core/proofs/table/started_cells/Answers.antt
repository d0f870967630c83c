use Rattle.std.proofs.Common.{◌<◌, true, ◌∙◌, length-set}
use Rattle.coord_core.proofs.Openings.{marked_more, start_in_range}
use Rattle.coord_core.proofs.table.started_cells.Goals as goal

pub loop-start-preserved : goal.loop-start-preserved
loop-start-preserved g c =
    let starts = c.starts-start-items.result.now in
    let in_range : c.start-item.result.0 < g.S.System.meaning.cells = start_in_range g.S.System.meaning.cells starts c.loop-start.start-index c.start-item.result (rw (← c.starts-start-items.ensures) at g.met.S.System.lawful.starts_in_range) c.loop-start-test.true c.start-item.is in
    record {
      cells = length-set c.loop-start.flags.items c.start-item.result.0 true ∙ c.loop-start.invariant.cells;
      flags = marked_more g.S.System.meaning.cells c.loop-start.flags.items starts c.loop-start.start-index c.start-item.result c.loop-start.invariant.cells c.loop-start.invariant.flags c.loop-start-test.true c.start-item.is in_range;
    }
