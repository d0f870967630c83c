use Rattle.std.proofs.Common.{◌≡◌, drop}
use Rattle.coord_core.specs.States.{with_nodes}
use Rattle.coord_core.proofs.queue.Queue.add_all.Given as goal

abbrev pub invariant-loop-node : goal.invariant-loop-node
invariant-loop-node l =
    record {
      nodes : l.self.nodes ≡ l.initial.self.nodes;
      waiting : with_nodes l.self.waiting (drop l.node-index l.nodes) ≡ with_nodes l.initial.self.waiting l.nodes;
    }
