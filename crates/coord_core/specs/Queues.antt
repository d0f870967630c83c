-- What is true of the fields of a queue.
use Rattle.std.specs.Prelude.{◌≡◌, ℕ, ◌<◌, ◌≤◌, length, slice_index_or, false, nat_eq}
use Rattle.std.specs.List.{AllByRecursion, IsDistinct, list_any}
use Rattle.std.specs.VecDeque.{deque_capacity}
use Rattle.coord_core.specs.declared.queue.Queue.TheInside.{Inside}

-- the flags say which nodes wait, none of them twice, and there is room for all
pub record IsQueue (q : Inside) : Type 0 where
  pub flags : (node : ℕ) → node < length q.queued.items → slice_index_or q.queued.items node false ≡ list_any (nat_eq node) q.waiting.items
  pub in_range : AllByRecursion (λ node. node < length q.queued.items) q.waiting.items
  pub distinct : IsDistinct nat_eq q.waiting.items
  pub room : length q.queued.items ≤ deque_capacity q.waiting
