use Rattle.std.proofs.Common.{◌≡◌, ◌<◌, false, nat_eq, ◌∷◌, length, sym, subst, arith, length-set}
use Rattle.std.specs.List.{AllByRecursion, IsDistinct}
use Rattle.coord_core.proofs.Flags.{FlagsSay, flags_less}
use Rattle.coord_core.proofs.queue.Queue.remove_first.Goals as goal
use Rattle.coord_core.proofs.queue.Queue.remove_first.Goals.{In-Some}

pub invariant_of-self : goal.invariant_of-self
unfolding IsDistinct
invariant_of-self c =
    let were : c.self.inside.waiting.items ≡ c.in-Some.node ∷ c.pop_front.new.self.items = c.in-Some.ensures.items in
    let distinct : IsDistinct nat_eq (c.in-Some.node ∷ c.pop_front.new.self.items) = rw were at c.self.invariant.distinct in
    let in_range : AllByRecursion (λ node. node < length c.self.inside.queued.items) (c.in-Some.node ∷ c.pop_front.new.self.items) = rw were at c.self.invariant.in_range in
    let flags : FlagsSay c.self.inside.queued.items (c.in-Some.node ∷ c.pop_front.new.self.items) = subst (λ q. FlagsSay c.self.inside.queued.items q) were c.self.invariant.flags in
    let long = length-set c.self.inside.queued.items c.in-Some.node false in
    record {
      flags = flags_less c.self.inside.queued.items c.pop_front.new.self.items c.in-Some.node distinct flags in_range.0;
      in_range = subst (λ n. AllByRecursion (λ node. node < n) c.pop_front.new.self.items) (sym long) in_range.1;
      distinct = distinct.1;
      room = omega (arith, long, c.self.invariant.room, c.pop_front.ensures.capacity);
    }
