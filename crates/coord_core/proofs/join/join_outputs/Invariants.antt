use Rattle.std.proofs.Common.{◌≡◌, ◌≤◌, ◌+◌, drop}
use Rattle.std.specs.List.{zip}
use Rattle.coord_core.specs.Tables.{joined_all}
use Rattle.coord_core.specs.States.{risen, queue_after}
use Rattle.coord_core.proofs.join.join_outputs.Given as goal

-- what is left to be joined leads to the same table, queue and count as the whole
abbrev pub invariant-loop-i : goal.invariant-loop-i
invariant-loop-i g l =
    let outputs = zip (g.S.System.meaning.gives l.fn.node) l.outputs in
    let m = g.S.Value.Lattice.meaning in
    record {
      table : joined_all m l.table (drop l.i outputs) ≡ joined_all m l.initial.table outputs;
      queue : queue_after m g.S.System.meaning l.table l.queue.waiting (drop l.i outputs) ≡ queue_after m g.S.System.meaning l.initial.table l.initial.queue.waiting outputs;
      nodes : l.queue.nodes ≡ l.initial.queue.nodes;
      risen : l.risen + risen m l.table (drop l.i outputs) ≡ risen m l.initial.table outputs;
      few : l.risen ≤ l.i;
    }
