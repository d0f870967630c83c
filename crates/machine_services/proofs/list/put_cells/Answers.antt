use Rattle.std.proofs.Common.{◌∙◌, sym, arith}
use Rattle.machine_services.proofs.Cells.{cell_step, cells_word}
use Rattle.machine_services.proofs.list.put_cells.Goals as goal

pub loop-element-preserved : goal.loop-element-preserved
loop-element-preserved c = record {
  count = omega arith;
  written =
      cell_step c.loop-element.heap c.args.elements.now c.args.at c.loop-element.cells c.loop-element.element-index c.args.free c.args.tail c.list_word.result
      c.loop-element.invariant.count (omega arith) (omega arith) c.list_word.ensures
      ∙ c.loop-element.invariant.written;
}

pub returns-clause-word : goal.returns-clause-word
returns-clause-word c = c.list_word-2.ensures ∙ sym (cells_word c.args.free c.args.elements.now c.args.tail)
