use Rattle.std.proofs.Common.{◌≡◌, map, length, sym, ap, ◌∙◌, subst, arith}
use Rattle.std.specs.List.{Contains}
use Rattle.coord_core.specs.declared.event.Event.TheVariants.{Finish}
use Rattle.coord_core.specs.Tickets.{ticket_view}
use Rattle.coord_core.proofs.Histories as histories
use Rattle.coord_core.proofs.Calls as calls
use Rattle.coord_core.proofs.coord.Coord.finish.Goals as goal

pub join_outputs-risen-requires-clause-node : goal.join_outputs-risen-requires-clause-node
join_outputs-risen-requires-clause-node g c κs within =
    let lawful = g.met.S.System.lawful in
    let t = c.ticket-ticket.result.now in
    let out : Contains (map ticket_view c.self.inside.out.items) (ticket_view t) = subst (λ u. Contains (map ticket_view c.self.inside.out.items) u) (c.ticket.ensures ∙ sym c.ticket-ticket.ensures) (subst (λ ts. Contains (map ticket_view ts) (ticket_view c.ticket.result.now)) c.deref.ensures.value (c.is_out.ensures.0 c.if-not-is_out.false)) in
    (calls.out_ticket g.S.Value.Lattice.is_value g.S.Value.Lattice.meaning g.S.System.meaning lawful.lattice lawful _ c.self.invariant.0 (ticket_view t) out).node

pub join_outputs-risen-requires-clause-outputs : goal.join_outputs-risen-requires-clause-outputs
join_outputs-risen-requires-clause-outputs g c κs within =
    let lawful = g.met.S.System.lawful in
    let t = c.ticket-ticket.result.now in
    let out : Contains (map ticket_view c.self.inside.out.items) (ticket_view t) = subst (λ u. Contains (map ticket_view c.self.inside.out.items) u) (c.ticket.ensures ∙ sym c.ticket-ticket.ensures) (subst (λ ts. Contains (map ticket_view ts) (ticket_view c.ticket.result.now)) c.deref.ensures.value (c.is_out.ensures.0 c.if-not-is_out.false)) in
    calls.outputs_fit g.S.Value.Lattice.is_value g.S.Value.Lattice.meaning g.S.System.meaning lawful.lattice lawful _ c.self.invariant.0 (ticket_view t) c.outputs.result.now out (subst (λ u. c.outputs.result.now ≡ g.S.System.meaning.local u.node u.snapshot) (sym c.ticket-ticket.ensures) c.outputs.ensures.local)

pub join_outputs-risen-requires-clause-cells : goal.join_outputs-risen-requires-clause-cells
join_outputs-risen-requires-clause-cells g c κs within =
    let lawful = g.met.S.System.lawful in
    ap length c.deref_mut.ensures.value ∙ (calls.is_sound g.S.Value.Lattice.is_value g.S.Value.Lattice.meaning g.S.System.meaning lawful.lattice lawful _ c.self.invariant.0).cells

pub invariant_of-self : goal.invariant_of-self
invariant_of-self g c =
    let lawful = g.met.S.System.lawful in
    let l = g.S.Value.Lattice.meaning in
    let s = g.S.System.meaning in
    let t = c.ticket-ticket.result.now in
    let out : Contains (map ticket_view c.self.inside.out.items) (ticket_view t) = subst (λ u. Contains (map ticket_view c.self.inside.out.items) u) (c.ticket.ensures ∙ sym c.ticket-ticket.ensures) (subst (λ ts. Contains (map ticket_view ts) (ticket_view c.ticket.result.now)) c.deref.ensures.value (c.is_out.ensures.0 c.if-not-is_out.false)) in
    let local : c.outputs.result.now ≡ s.local t.node t.snapshot.items = subst (λ u. c.outputs.result.now ≡ s.local u.node u.snapshot) (sym c.ticket-ticket.ensures) c.outputs.ensures.local in (
      histories.stepped g.S.Value.Lattice.is_value l s lawful.lattice lawful _ _ (Finish t.worker t.number) c.self.invariant.0
          (calls.ends_step g.S.Value.Lattice.is_value l s lawful.lattice lawful _ c.self.invariant.0 (ticket_view t) _ c.join_outputs-risen.new.queue.waiting (map ticket_view c.end_ticket.new.out.items) c.push_reserved.new.self.items out
          (calls.table_after g.S.Value.Lattice.is_value l s lawful.lattice lawful _ c.self.invariant.0 c.self.inside.table.len (ticket_view t) c.deref_mut.result.now c.join_outputs-risen.new.table c.outputs.result.now c.self.inside.table.ok.0 c.deref_mut.ensures.value local c.join_outputs-risen.ensures.table)
          (calls.queue_after_outputs g.S.Value.Lattice.is_value l s lawful.lattice lawful _ c.self.invariant.0 (ticket_view t) c.deref_mut.result.now c.outputs.result.now c.join_outputs-risen.new.queue.waiting c.deref_mut.ensures.value local c.join_outputs-risen.ensures.queue)
          (calls.ended_views c.self.inside.out.items c.end_ticket.new.out.items t.number c.end_ticket.ensures)
          c.push_reserved.ensures.items)
          c.push_reserved.ensures.items,
      c.join_outputs-risen.ensures.nodes ∙ c.self.invariant.1,
      omega (arith, calls.ended_fewer c.self.inside.out.items c.end_ticket.new.out.items (ticket_view t) c.end_ticket.ensures out, c.self.invariant.2, c.push_reserved.ensures.len, c.push_reserved.ensures.capacity, c.self.inside.out.ok.0, c.end_ticket.new.out.ok.0),
    )

pub returns : goal.returns
returns g c =
    let lawful = g.met.S.System.lawful in
    let l = g.S.Value.Lattice.meaning in
    let s = g.S.System.meaning in
    let t = c.ticket-ticket.result.now in
    let out : Contains (map ticket_view c.self.inside.out.items) (ticket_view t) = subst (λ u. Contains (map ticket_view c.self.inside.out.items) u) (c.ticket.ensures ∙ sym c.ticket-ticket.ensures) (subst (λ ts. Contains (map ticket_view ts) (ticket_view c.ticket.result.now)) c.deref.ensures.value (c.is_out.ensures.0 c.if-not-is_out.false)) in
    let local : c.outputs.result.now ≡ s.local t.node t.snapshot.items = subst (λ u. c.outputs.result.now ≡ s.local u.node u.snapshot) (sym c.ticket-ticket.ensures) c.outputs.ensures.local in
    rw (← c.self.view_is, ← c.ticket-ticket.ensures) (
      out,
      calls.ends_step g.S.Value.Lattice.is_value l s lawful.lattice lawful _ c.self.invariant.0 (ticket_view t) _ c.join_outputs-risen.new.queue.waiting (map ticket_view c.end_ticket.new.out.items) c.push_reserved.new.self.items out
          (calls.table_after g.S.Value.Lattice.is_value l s lawful.lattice lawful _ c.self.invariant.0 c.self.inside.table.len (ticket_view t) c.deref_mut.result.now c.join_outputs-risen.new.table c.outputs.result.now c.self.inside.table.ok.0 c.deref_mut.ensures.value local c.join_outputs-risen.ensures.table)
          (calls.queue_after_outputs g.S.Value.Lattice.is_value l s lawful.lattice lawful _ c.self.invariant.0 (ticket_view t) c.deref_mut.result.now c.outputs.result.now c.join_outputs-risen.new.queue.waiting c.deref_mut.ensures.value local c.join_outputs-risen.ensures.queue)
          (calls.ended_views c.self.inside.out.items c.end_ticket.new.out.items t.number c.end_ticket.ensures)
          c.push_reserved.ensures.items,
      calls.risen_after g.S.Value.Lattice.is_value l s lawful.lattice lawful _ c.self.invariant.0 (ticket_view t) c.deref_mut.result.now c.outputs.result.now c.join_outputs-risen.result c.deref_mut.ensures.value local c.join_outputs-risen.ensures.risen,
    )
