use Rattle.std.proofs.Common.{◌≡◌, subst}
use Rattle.coord_core.specs.Tickets.{ticket_view}
use Rattle.coord_core.specs.States.{replay}
use Rattle.coord_core.specs.Answers.{IsTake, IsGot}
use Rattle.coord_core.proofs.Theorems as theorems
use Rattle.coord_core.proofs.coord.Coord.finish_next.Goals as goal

pub returns-in-Idle : goal.returns-in-Idle
returns-in-Idle g c =
    let l = g.S.Value.Lattice.meaning in
    let s = g.S.System.meaning in
    let lawful = g.met.S.System.lawful in
    let replayed = subst (λ st. st ≡ replay l s st.journal) c.self.view_is c.self.invariant.0 in
    theorems.nothing_left g.S.Value.Lattice.is_value l s lawful.lattice lawful c.args.self.now c.take.new.self 0 c.in_ok-ticket.field-0 replayed c.requires c.in_ok-ticket.ensures.taken c.in-Idle.is

pub returns-in-Ok : goal.returns-in-Ok
returns-in-Ok g c =
    let v = g.S.Value.Lattice.is_value in
    let l = g.S.Value.Lattice.meaning in
    let s = g.S.System.meaning in
    let lawful = g.met.S.System.lawful in
    let t = c.in-Got.ticket in
    let replayed = subst (λ st. st ≡ replay l s st.journal) c.self.view_is c.self.invariant.0 in
    let got : IsGot l s c.args.self.now 0 t c.take.new.self = subst (λ a. IsTake l s c.args.self.now 0 a c.take.new.self) c.in-Got.is c.in_ok-ticket.ensures.taken in
    let ended = theorems.ended v l s lawful.lattice lawful c.take.new.self c.finish-ended.new.self c.in-Ok.finished c.finish-ended.result (ticket_view t) c.in-Ok.ensures.ticket (theorems.got_is_out v l s lawful.lattice lawful c.args.self.now c.take.new.self 0 t got) c.finish-ended.ensures in
    theorems.advances v l s lawful.lattice lawful c.args.self.now c.take.new.self c.finish-ended.new.self 0 t replayed c.requires got ended
