use Rattle.std.proofs.Common.{◌≡◌, ℕ, map, List, [], sym, ap, ◌∙◌, arith}
use Rattle.coord_core.specs.declared.event.Event.{Event}
use Rattle.lattice_laws.specs.Lattices.{LatticeMeaning}
use Rattle.lattice_laws.specs.Systems.{SystemMeaning}
use Rattle.coord_core.specs.Tickets.{TicketView, ticket_view}
use Rattle.coord_core.specs.Tables.{bottoms, numbers_below}
use Rattle.coord_core.specs.States.{State, started, is_started, opened, replay}
use Rattle.std.specs.List.{filter}
use Rattle.coord_core.proofs.coord.Coord.open.Goals as goal

-- the parts of the opened state
opens : {V : Type 0} (l : LatticeMeaning V) (s : SystemMeaning V) (table : List V) (queue : List ℕ) (out : List (TicketView V)) (journal : List Event) → table ≡ started (bottoms l s) s.starts → queue ≡ filter (is_started s) (numbers_below s.nodes) → out ≡ [] → journal ≡ [] → ◌≡◌ {A = State V} record { table = table; queue = queue; out = out; takes = 0; journal = journal } (opened l s)
unfolding opened
opens l s table queue out journal e f g h =
    ap (λ t. record { table = t; queue = queue; out = out; takes = 0; journal = journal }) e
    ∙ (ap (λ q. record { table = started (bottoms l s) s.starts; queue = q; out = out; takes = 0; journal = journal }) f
    ∙ (ap (λ o. record { table = started (bottoms l s) s.starts; queue = filter (is_started s) (numbers_below s.nodes); out = o; takes = 0; journal = journal }) g
    ∙ ap (λ j. record { table = started (bottoms l s) s.starts; queue = filter (is_started s) (numbers_below s.nodes); out = []; takes = 0; journal = j }) h))

pub returns : goal.returns
returns g c =
    opens g.S.Value.Lattice.meaning g.S.System.meaning c.in_ok-started_table.field-0.items c.in_ok-started_queue.field-0.waiting (map ticket_view c.new.result.items) c.new-2.result.items c.in_ok-started_table.ensures c.in_ok-started_queue.ensures.waiting (ap (map ticket_view) c.new.ensures.items) c.new-2.ensures.items

pub invariant_of-result : goal.invariant_of-result
invariant_of-result g c = (
  opens g.S.Value.Lattice.meaning g.S.System.meaning c.in_ok-started_table.field-0.items c.in_ok-started_queue.field-0.waiting (map ticket_view c.new.result.items) c.new-2.result.items c.in_ok-started_table.ensures c.in_ok-started_queue.ensures.waiting (ap (map ticket_view) c.new.ensures.items) c.new-2.ensures.items
      ∙ sym (ap (replay g.S.Value.Lattice.meaning g.S.System.meaning) c.new-2.ensures.items),
  c.in_ok-started_queue.ensures.nodes,
  omega (arith, c.new.ensures.len, c.new-2.ensures.len),
)
