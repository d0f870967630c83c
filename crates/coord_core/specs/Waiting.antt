-- The queue of nodes as contracts see it.
use Rattle.std.specs.Prelude.{ℕ, List}

-- the numbers below nodes may wait, and these do, the first of them first
pub record QueueView : Type 0 where
  pub nodes : ℕ
  pub waiting : List ℕ
