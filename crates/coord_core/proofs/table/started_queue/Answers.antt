use Rattle.std.proofs.Common.{◌≡◌, ◌<◌, length, get_or, sym, ap, ◌∙◌, subst, arith}
use Rattle.lattice_laws.specs.Systems.{reached_cell}
use Rattle.coord_core.specs.States.{is_started}
use Rattle.coord_core.proofs.Openings.{started_more, not_started_more, flag_read}
use Rattle.coord_core.proofs.table.started_queue.Goals as goal
use Rattle.coord_core.proofs.table.started_queue.Goals.{then-index, else-index}

pub loop-node-preserved : goal.loop-node-preserved
loop-node-preserved g c =
    let s = g.S.System.meaning in
    let node : c.loop-node.node < s.nodes = omega (arith, c.loop-node-test.true, c.nodes-node-end.ensures) in
    let some : 0 < length (s.needs c.loop-node.node) = g.met.S.System.lawful.has_reached_cell c.loop-node.node node in
    let cell : reached_cell s c.loop-node.node < s.cells = g.met.S.System.lawful.needs_in_range c.loop-node.node node 0 0 some in
    let at : get_or c.needs.result.now 0 0 ≡ reached_cell s c.loop-node.node = ap (λ xs. get_or xs 0 0) c.needs.ensures in
    let read : c.index.result.now ≡ is_started s c.loop-node.node =
    flag_read c.in_ok-started.started.items (reached_cell s c.loop-node.node) c.index.result.now (is_started s c.loop-node.node) (subst (λ d. c.index.result.now ≡ get_or c.in_ok-started.started.items d c.index.result.now) at c.index.ensures) (subst (λ m. reached_cell s c.loop-node.node < m) (sym c.in_ok-started.ensures.cells) cell) (c.in_ok-started.ensures.flags (reached_cell s c.loop-node.node) cell) in
    elim c.if-index.branch [
      | then-index w ↦ record {
        waiting = ap (λ q. q.waiting) (w.queue-is ∙ w.add.ensures) ∙ started_more (is_started s) c.loop-node.node c.loop-node.queue.waiting c.loop-node.invariant.waiting (sym read ∙ w.if-index.true);
        nodes = ap (λ q. q.nodes) (w.queue-is ∙ w.add.ensures) ∙ c.loop-node.invariant.nodes;
      }
      | else-index w ↦ record {
        waiting = ap (λ q. q.waiting) w.queue-is ∙ not_started_more (is_started s) c.loop-node.node c.loop-node.queue.waiting c.loop-node.invariant.waiting (sym read ∙ w.if-index.false);
        nodes = ap (λ q. q.nodes) w.queue-is ∙ c.loop-node.invariant.nodes;
      }
    ]
