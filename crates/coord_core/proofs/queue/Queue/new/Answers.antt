use Rattle.std.proofs.Common.{◌≡◌, false, replicate, sym, subst, arith}
use Rattle.std.specs.List.{IsDistinct}
use Rattle.coord_core.proofs.Flags.{FlagsSay, flags_none}
use Rattle.coord_core.proofs.queue.Queue.new.Goals as goal

pub invariant_of-result : goal.invariant_of-result
unfolding IsDistinct
invariant_of-result c = record {
  flags =
      let items : c.in_ok-vec.field-0.items ≡ replicate c.args.nodes false = c.in_ok-vec.ensures.items_if_clones_equal (λ y e. e) in
      subst (λ f. FlagsSay f c.in_ok-with_capacity.field-0.items) (sym items) (subst (λ q. FlagsSay (replicate c.args.nodes false) q) (sym c.in_ok-with_capacity.ensures.items) (flags_none c.args.nodes));
  in_range = rw c.in_ok-with_capacity.ensures.items tt;
  distinct = rw c.in_ok-with_capacity.ensures.items tt;
  room = omega (arith, c.in_ok-vec.field-0.ok.0, c.in_ok-vec.ensures.len, c.in_ok-with_capacity.ensures.capacity);
}
