-- The numbers from 0 to 3 as a lattice.
use Rattle.std.specs.Prelude.{ℕ, ◌≤◌, max, nat_le}
use Rattle.lattice_laws.specs.Lattices.{LatticeMeaning, IsLattice}
use Rattle.std.proofs.Common.{arith, leb-true, le-leb}

abbrev pub IsLevel : ℕ → Type 0
IsLevel n = n ≤ 3

-- the greater one as join, and the number itself as rank
abbrev pub levels : LatticeMeaning ℕ
levels = record { height = 3; bottom = 0; join = max; at_most = nat_le; rank = λ n. n }

pub levels_are_lattice : IsLattice IsLevel levels
levels_are_lattice = record {
  bottom_is_value = omega arith;
  join_is_value = λ x y a b. omega arith;
  reflexive = λ x a. le-leb x x (omega arith);
  antisymmetric = λ x y a b h k. omega (arith, leb-true x y h, leb-true y x k);
  transitive = λ x y z a b c h k. le-leb x z (omega (arith, leb-true x y h, leb-true y z k));
  bottom_least = λ x a. le-leb 0 x (omega arith);
  join_above_first = λ x y a b. le-leb x (max x y) (omega arith);
  join_above_second = λ x y a b. le-leb y (max x y) (omega arith);
  join_least = λ x y z a b c h k. le-leb (max x y) z (omega (arith, leb-true x z h, leb-true y z k));
  rank_rises = λ x y a b h ne. omega (arith, leb-true x y h, ne);
  rank_within = λ x a. a;
}
