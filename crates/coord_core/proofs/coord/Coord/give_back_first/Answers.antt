use Rattle.std.proofs.Common.{◌<◌, map, sym, ap, ◌∙◌, subst, arith, vec_len}
use Rattle.coord_core.specs.declared.event.Event.TheVariants.{GiveBack}
use Rattle.coord_core.specs.Tickets.{ticket_view}
use Rattle.coord_core.proofs.Histories as histories
use Rattle.coord_core.proofs.Calls as calls
use Rattle.coord_core.proofs.coord.Coord.give_back_first.Goals as goal

pub add-requires : goal.add-requires
add-requires g c =
    let lawful = g.met.S.System.lawful in
    let some = calls.not_empty c.self.inside.out.items (vec_len c.self.inside.out) c.is_empty.result c.self.inside.out.ok.0 c.is_empty.ensures c.if-is_empty.false in
    let out = calls.first_is_out c.self.inside.out.items c.index-first.result.now some c.index-first.ensures in
    subst (λ n. c.index-first.result.now.node < n) (sym c.self.invariant.1) (calls.out_ticket g.S.Value.Lattice.is_value g.S.Value.Lattice.meaning g.S.System.meaning lawful.lattice lawful _ c.self.invariant.0 (ticket_view c.index-first.result.now) out).node

pub invariant_of-self : goal.invariant_of-self
invariant_of-self g c =
    let lawful = g.met.S.System.lawful in
    let l = g.S.Value.Lattice.meaning in
    let s = g.S.System.meaning in
    let t = c.index-first.result.now in
    let some = calls.not_empty c.self.inside.out.items (vec_len c.self.inside.out) c.is_empty.result c.self.inside.out.ok.0 c.is_empty.ensures c.if-is_empty.false in
    let out = calls.first_is_out c.self.inside.out.items c.index-first.result.now some c.index-first.ensures in (
      histories.stepped g.S.Value.Lattice.is_value l s lawful.lattice lawful _ _ (GiveBack t.worker t.number) c.self.invariant.0
          (calls.returns_step g.S.Value.Lattice.is_value l s lawful.lattice lawful _ c.self.invariant.0 (ticket_view t) c.add.new.self.waiting (map ticket_view c.end_ticket.new.out.items) c.push_reserved.new.self.items out
          (ap (λ q. q.waiting) c.add.ensures)
          (calls.ended_views c.self.inside.out.items c.end_ticket.new.out.items t.number c.end_ticket.ensures)
          c.push_reserved.ensures.items)
          c.push_reserved.ensures.items,
      ap (λ q. q.nodes) c.add.ensures ∙ c.self.invariant.1,
      omega (arith, calls.ended_fewer c.self.inside.out.items c.end_ticket.new.out.items (ticket_view t) c.end_ticket.ensures out, c.self.invariant.2, c.push_reserved.ensures.len, c.push_reserved.ensures.capacity, c.self.inside.out.ok.0, c.end_ticket.new.out.ok.0),
    )

pub returns : goal.returns
returns g c =
    let some = calls.not_empty c.self.inside.out.items (vec_len c.self.inside.out) c.is_empty.result c.self.inside.out.ok.0 c.is_empty.ensures c.if-is_empty.false in
    let out = calls.first_is_out c.self.inside.out.items c.index-first.result.now some c.index-first.ensures in
    let fewer = calls.ended_fewer c.self.inside.out.items c.end_ticket.new.out.items (ticket_view c.index-first.result.now) c.end_ticket.ensures out in
    rw (← c.self.view_is) (calls.fewer_views c.self.inside.out.items c.end_ticket.new.out.items fewer)
