use Rattle.std.proofs.Common.{◌≡◌}
use Rattle.std.specs.List.{filter}
use Rattle.coord_core.specs.Tables.{numbers_below}
use Rattle.coord_core.specs.States.{is_started}
use Rattle.coord_core.proofs.table.started_queue.Given as goal

abbrev pub invariant-loop-node : goal.invariant-loop-node
invariant-loop-node g l =
    record {
      waiting : l.queue.waiting ≡ filter (is_started g.S.System.meaning) (numbers_below l.node);
      nodes : l.queue.nodes ≡ g.S.System.meaning.nodes;
    }
