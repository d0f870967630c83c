use Rattle.std.proofs.Common.{◌≡◌, ◌+◌, ◌<◌, ◌≤◌, map, [], ◌∷◌, ◌++◌, length, ap, ◌∙◌, subst, refl, arith, vec_capacity}
use Rattle.coord_core.specs.declared.event.Event.TheVariants.{Take}
use Rattle.coord_core.specs.Tickets.{ticket_view}
use Rattle.coord_core.specs.Tables.{values_of}
use Rattle.coord_core.proofs.Joins as joins
use Rattle.coord_core.proofs.Histories as histories
use Rattle.coord_core.proofs.Calls as calls
use Rattle.coord_core.proofs.coord.Coord.take.Goals as goal

pub values_at-requires-after_bounds : goal.values_at-requires-after_bounds
values_at-requires-after_bounds g c κs within =
    let lawful = g.met.S.System.lawful in
    calls.needs_fit g.S.Value.Lattice.is_value g.S.Value.Lattice.meaning g.S.System.meaning lawful.lattice lawful _ c.self.invariant.0 c.in-Some.node c.needs-needs.result.now c.deref.result.now (subst (λ n. c.in-Some.node < n) c.self.invariant.1 c.in-Some.ensures.in_range) c.needs-needs.ensures c.deref.ensures.value

pub values_at-requires-2-after_bounds : goal.values_at-requires-2-after_bounds
values_at-requires-2-after_bounds g c κs within =
    let lawful = g.met.S.System.lawful in
    calls.needs_fit g.S.Value.Lattice.is_value g.S.Value.Lattice.meaning g.S.System.meaning lawful.lattice lawful _ c.self.invariant.0 c.in-Some.node c.needs-needs.result.now c.deref-2.result.now (subst (λ n. c.in-Some.node < n) c.self.invariant.1 c.in-Some.ensures.in_range) c.needs-needs.ensures c.deref-2.ensures.value

pub overflow_add-number : goal.overflow_add-number
overflow_add-number g c =
    let lawful = g.met.S.System.lawful in
    let room : length c.self.inside.journal.items + 1 ≤ vec_capacity c.reserve.new.self = omega (arith, c.in_ok-reserve.ensures.ok, c.in_ok-reserve.ensures.len, c.self.inside.journal.ok.0) in
    calls.next_number_fits g.S.Value.Lattice.is_value g.S.Value.Lattice.meaning g.S.System.meaning lawful.lattice lawful _ c.self.invariant.0 (vec_capacity c.reserve.new.self) room c.reserve.new.self.small

pub invariant_of-self-2 : goal.invariant_of-self-2
invariant_of-self-2 g c =
    let lawful = g.met.S.System.lawful in
    let l = g.S.Value.Lattice.meaning in
    let s = g.S.System.meaning in
    let kept : c.in_ok-kept.kept.items ≡ values_of l c.self.inside.table.items (s.needs c.in-Some.node) = c.in_ok-kept.ensures ∙ (ap (λ t. values_of l t c.needs-needs.result.now) c.deref-2.ensures.value ∙ ap (values_of l c.self.inside.table.items) c.needs-needs.ensures) in
    let journal : c.push_reserved-2.new.self.items ≡ c.self.inside.journal.items ++ Take c.args.worker c.in-Some.node ∷ [] = c.push_reserved-2.ensures.items ∙ ap (λ es. es ++ Take c.args.worker c.in-Some.node ∷ []) c.in_ok-reserve.ensures.items in (
      histories.stepped g.S.Value.Lattice.is_value l s lawful.lattice lawful _ _ (Take c.args.worker c.in-Some.node) c.self.invariant.0
          (calls.takes_step g.S.Value.Lattice.is_value l s lawful.lattice lawful _ c.self.invariant.0 c.remove_first.new.self.waiting c.reserve-2.new.self.items (record { number = c.self.inside.takes + 1; node = c.in-Some.node; worker = c.args.worker; snapshot = c.in_ok-kept.kept }) c.push_reserved.new.self.items c.push_reserved-2.new.self.items c.args.worker c.in-Some.node
          c.in-Some.ensures.some
          (ap (λ q. q.waiting) c.remove_first.ensures)
          (ap (map ticket_view) c.in_ok-reserve-2.ensures.items)
          c.push_reserved.ensures.items
          (ap (λ xs. record { number = c.self.inside.takes + 1; node = c.in-Some.node; worker = c.args.worker; snapshot = xs }) kept)
          journal)
          journal,
      ap (λ q. q.nodes) c.remove_first.ensures ∙ c.self.invariant.1,
      omega (arith, c.push_reserved-2.ensures.len, c.push_reserved.ensures.len, c.in_ok-reserve.ensures.ok, c.in_ok-reserve.ensures.len, c.in_ok-reserve-2.ensures.len, c.push_reserved-2.ensures.capacity, c.len-2.ensures),
    )

pub returns-clause-taken : goal.returns-clause-taken
returns-clause-taken g c =
    let lawful = g.met.S.System.lawful in
    let l = g.S.Value.Lattice.meaning in
    let s = g.S.System.meaning in
    let node : c.in-Some.node < s.nodes = subst (λ n. c.in-Some.node < n) c.self.invariant.1 c.in-Some.ensures.in_range in
    let given : c.in_ok-snapshot.snapshot.items ≡ values_of l c.self.inside.table.items (s.needs c.in-Some.node) = c.in_ok-snapshot.ensures ∙ (ap (λ t. values_of l t c.needs-needs.result.now) c.deref.ensures.value ∙ ap (values_of l c.self.inside.table.items) c.needs-needs.ensures) in
    let kept : c.in_ok-kept.kept.items ≡ values_of l c.self.inside.table.items (s.needs c.in-Some.node) = c.in_ok-kept.ensures ∙ (ap (λ t. values_of l t c.needs-needs.result.now) c.deref-2.ensures.value ∙ ap (values_of l c.self.inside.table.items) c.needs-needs.ensures) in
    let journal : c.push_reserved-2.new.self.items ≡ c.self.inside.journal.items ++ Take c.args.worker c.in-Some.node ∷ [] = c.push_reserved-2.ensures.items ∙ ap (λ es. es ++ Take c.args.worker c.in-Some.node ∷ []) c.in_ok-reserve.ensures.items in
    rw (← c.self.view_is)
    (record {
      next = c.in-Some.ensures.some;
      stepped = calls.takes_step g.S.Value.Lattice.is_value l s lawful.lattice lawful _ c.self.invariant.0 c.remove_first.new.self.waiting c.reserve-2.new.self.items (record { number = c.self.inside.takes + 1; node = c.in-Some.node; worker = c.args.worker; snapshot = c.in_ok-kept.kept }) c.push_reserved.new.self.items c.push_reserved-2.new.self.items c.args.worker c.in-Some.node
          c.in-Some.ensures.some
          (ap (λ q. q.waiting) c.remove_first.ensures)
          (ap (map ticket_view) c.in_ok-reserve-2.ensures.items)
          c.push_reserved.ensures.items
          (ap (λ xs. record { number = c.self.inside.takes + 1; node = c.in-Some.node; worker = c.args.worker; snapshot = xs }) kept)
          journal;
      number = refl;
      worker = refl;
      snapshot = given;
      node_in_range = node;
      one_for_each = ap length given ∙ joins.values_of-length g.S.Value.Lattice.is_value l lawful.lattice c.self.inside.table.items (s.needs c.in-Some.node);
    })
