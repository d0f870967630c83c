use Rattle.std.proofs.Common.{◌<◌, true, [], ◌∷◌, ◌++◌, length, set, sym, subst, arith, length-set}
use Rattle.std.specs.List.{AllByRecursion}
use Rattle.coord_core.proofs.Lists.{each-append}
use Rattle.coord_core.proofs.Distinct.{distinct-push, distinct_room}
use Rattle.coord_core.proofs.Flags.{FlagsSay, flags_more, not_waiting}
use Rattle.coord_core.proofs.queue.Queue.add.Goals as goal

pub push_back_reserved-requires : goal.push_back_reserved-requires
push_back_reserved-requires c =
    let here : c.args.node < length c.self.inside.queued.items = subst (λ v. c.args.node < v.nodes) (sym c.self.view_is) c.requires in
    let absent = not_waiting c.self.inside.queued.items c.self.inside.waiting.items c.args.node c.index.result.now c.self.invariant.flags here c.index.ensures c.if-not-index.true in
    let few : length c.self.inside.waiting.items < length c.self.inside.queued.items = distinct_room (length c.self.inside.queued.items) c.args.node c.self.inside.waiting.items c.self.invariant.distinct c.self.invariant.in_range here absent in
    omega (arith, few, c.self.inside.waiting.ok.0, c.self.invariant.room)

pub invariant_of-self : goal.invariant_of-self
invariant_of-self c =
    let here : c.args.node < length c.self.inside.queued.items = subst (λ v. c.args.node < v.nodes) (sym c.self.view_is) c.requires in
    let absent = not_waiting c.self.inside.queued.items c.self.inside.waiting.items c.args.node c.index.result.now c.self.invariant.flags here c.index.ensures c.if-not-index.true in
    let long = length-set c.self.inside.queued.items c.args.node true in
    record {
      flags = subst (λ q. FlagsSay (set c.self.inside.queued.items c.args.node true) q) (sym c.push_back_reserved.ensures.items) (flags_more c.self.inside.queued.items c.self.inside.waiting.items c.args.node c.self.invariant.flags here);
      in_range = subst (λ q. AllByRecursion (λ node. node < length (set c.self.inside.queued.items c.args.node true)) q) (sym c.push_back_reserved.ensures.items) (subst (λ n. AllByRecursion (λ node. node < n) (c.self.inside.waiting.items ++ c.args.node ∷ [])) (sym long) (each-append (λ node. node < length c.self.inside.queued.items) c.self.inside.waiting.items (c.args.node ∷ []) c.self.invariant.in_range (here, tt)));
      distinct = rw c.push_back_reserved.ensures.items (distinct-push c.self.inside.waiting.items c.args.node c.self.invariant.distinct absent);
      room = omega (arith, long, c.self.invariant.room, c.push_back_reserved.ensures.capacity);
    }
