-- What the functions of a lattice mean, and the laws that they keep.
use Rattle.std.specs.Prelude.{◌≡◌, ◌≢◌, ℕ, ◌<◌, ◌≤◌, Bool, IsTrue}

-- the functions of a lattice, and the greatest rank
pub record LatticeMeaning (V : Type 0) : Type 0 where
  pub height : ℕ
  pub bottom : V
  pub join : V → V → V
  pub at_most : V → V → Bool
  pub rank : V → ℕ

-- the laws of a lattice, which speak of its values alone
pub record IsLattice {V : Type 0} (is_value : V → Type 0) (l : LatticeMeaning V) : Type 0 where
  -- bottom is a value, and joining gives values
  pub bottom_is_value : is_value l.bottom
  pub join_is_value : (x y : V) → is_value x → is_value y → is_value (l.join x y)
  -- at_most is a partial order, and bottom is its least value
  pub reflexive : (x : V) → is_value x → IsTrue (l.at_most x x)
  pub antisymmetric : (x y : V) → is_value x → is_value y → IsTrue (l.at_most x y) → IsTrue (l.at_most y x) → x ≡ y
  pub transitive : (x y z : V) → is_value x → is_value y → is_value z → IsTrue (l.at_most x y) → IsTrue (l.at_most y z) → IsTrue (l.at_most x z)
  pub bottom_least : (x : V) → is_value x → IsTrue (l.at_most l.bottom x)
  -- join is the least upper bound
  pub join_above_first : (x y : V) → is_value x → is_value y → IsTrue (l.at_most x (l.join x y))
  pub join_above_second : (x y : V) → is_value x → is_value y → IsTrue (l.at_most y (l.join x y))
  pub join_least : (x y z : V) → is_value x → is_value y → is_value z → IsTrue (l.at_most x z) → IsTrue (l.at_most y z) → IsTrue (l.at_most (l.join x y) z)
  -- a strictly greater value has a greater rank, and no rank passes the height
  pub rank_rises : (x y : V) → is_value x → is_value y → IsTrue (l.at_most x y) → x ≢ y → l.rank x < l.rank y
  pub rank_within : (x : V) → is_value x → l.rank x ≤ l.height
