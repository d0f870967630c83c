-- The pair keeps the laws of systems.
use Rattle.std.proofs.Common.{◌≡◌, ℕ, zero, suc, ◌+◌, ◌<◌, ◌≤◌, inl, inr, List, [], ◌∷◌, length, max, min, slice_index, nat_eq, refl, subst, arith, le-leb, ◌∙◌}
use Rattle.std.specs.List.{All, Contains, IsDistinct}
use Rattle.std.specs.List.Sorted.{IsStrictlyIncreasing}
use Rattle.lattice_laws.specs.Systems.{IsSystem, IsOneForEach}
use Rattle.coord_core_tests.specs.Levels.{IsLevel, levels, levels_are_lattice}
use Rattle.coord_core_tests.specs.Pairs.{pair, pair_needs, pair_gives, pair_readers, pair_local}
use Rattle.coord_core_tests.specs.Lists.{all_one, all_two, increasing_one, contains_one, contains_two, the_one, first_of_two, second_of_two, distinct_one, distinct_two, second_is_level, AreUpTo, up_to_at, guarded_rises, guarded_is, guarded_none}

needs_in_range : (node : ℕ) → All (λ cell. cell < 4) (pair_needs node)
needs_in_range zero = all_two (λ cell. cell < 4) 0 3 (omega arith) (omega arith)
needs_in_range (suc node) = all_two (λ cell. cell < 4) 2 1 (omega arith) (omega arith)

gives_in_range : (node : ℕ) → All (λ cell. cell < 4) (pair_gives node)
gives_in_range zero = all_two (λ cell. cell < 4) 1 2 (omega arith) (omega arith)
gives_in_range (suc node) = all_one (λ cell. cell < 4) 3 (omega arith)

needs_two : (node : ℕ) → length (pair_needs node) ≡ 2
needs_two zero = refl
needs_two (suc node) = refl

gives_distinct : (node : ℕ) → IsDistinct nat_eq (pair_gives node)
gives_distinct zero = distinct_two nat_eq 1 2 refl
gives_distinct (suc node) = distinct_one nat_eq 3

readers_ascend : (cell : ℕ) → IsStrictlyIncreasing (pair_readers cell)
readers_ascend zero = increasing_one 0
readers_ascend (suc zero) = increasing_one 1
readers_ascend (suc (suc zero)) = increasing_one 1
readers_ascend (suc (suc (suc cell))) = increasing_one 0

-- a reader needs the cell, and the other way round
reads : (cell node : ℕ) → cell < 4 → Contains (pair_readers cell) node → (node < 2) × Contains (pair_needs node) cell
reads zero node h c = subst (λ n. (n < 2) × Contains (pair_needs n) 0) (contains_one 0 node c) (omega arith, first_of_two 0 3)
reads (suc zero) node h c = subst (λ n. (n < 2) × Contains (pair_needs n) 1) (contains_one 1 node c) (omega arith, second_of_two 2 1)
reads (suc (suc zero)) node h c = subst (λ n. (n < 2) × Contains (pair_needs n) 2) (contains_one 1 node c) (omega arith, first_of_two 2 1)
reads (suc (suc (suc zero))) node h c = subst (λ n. (n < 2) × Contains (pair_needs n) 3) (contains_one 0 node c) (omega arith, second_of_two 0 3)
reads (suc (suc (suc (suc cell)))) node h c = absurd (omega arith)

neither : (a b x : ℕ) → (a ≡ x → ⊥) → (b ≡ x → ⊥) → Contains (a ∷ b ∷ []) x → ⊥
neither a b x f g c = elim (contains_two a b x c) [ inl e ↦ f e | inr e ↦ g e ]

read_by : (cell node : ℕ) → cell < 4 → node < 2 → Contains (pair_needs node) cell → Contains (pair_readers cell) node
read_by zero zero h k c = the_one 0
read_by (suc zero) zero h k c = absurd (neither 0 3 1 (λ e. omega arith) (λ e. omega arith) c)
read_by (suc (suc zero)) zero h k c = absurd (neither 0 3 2 (λ e. omega arith) (λ e. omega arith) c)
read_by (suc (suc (suc cell))) zero h k c = the_one 0
read_by zero (suc node) h k c = absurd (neither 2 1 0 (λ e. omega arith) (λ e. omega arith) c)
read_by (suc zero) (suc zero) h k c = the_one 1
read_by (suc (suc zero)) (suc zero) h k c = the_one 1
read_by (suc (suc (suc cell))) (suc node) h k c = absurd (neither 2 1 (suc (suc (suc cell))) (λ e. omega arith) (λ e. omega arith) c)
read_by (suc zero) (suc (suc node)) h k c = absurd (omega arith)
read_by (suc (suc zero)) (suc (suc node)) h k c = absurd (omega arith)

local_gives : (node : ℕ) (values : List ℕ) → IsOneForEach IsLevel (pair_needs node) values → IsOneForEach IsLevel (pair_gives node) (pair_local node values)
local_gives zero values o =
    guarded_is (IsOneForEach IsLevel (1 ∷ 2 ∷ [])) (slice_index values 0) (0 ∷ 0 ∷ []) (max (slice_index values 1) 1 ∷ 1 ∷ []) (refl, all_two IsLevel 0 0 (omega arith) (omega arith))
    (refl, all_two IsLevel (max (slice_index values 1) 1) 1 (omega (arith, second_is_level (pair_needs 0) values refl o)) (omega arith))
local_gives (suc node) values o =
    guarded_is (IsOneForEach IsLevel (3 ∷ [])) (slice_index values 0) (0 ∷ []) (min (slice_index values 1 + 1) 3 ∷ []) (refl, all_one IsLevel 0 (omega arith)) (refl, all_one IsLevel (min (slice_index values 1 + 1) 3) (omega arith))

local_monotone : (node : ℕ) (lower upper : List ℕ) → length lower ≡ 2 → AreUpTo lower upper → AreUpTo (pair_local node lower) (pair_local node upper)
local_monotone zero lower upper e z =
    let first : slice_index lower 0 ≤ slice_index upper 0 = up_to_at lower upper 0 z (omega (arith, e)) in
    let second : slice_index lower 1 ≤ slice_index upper 1 = up_to_at lower upper 1 z (omega (arith, e)) in
    guarded_rises (slice_index lower 0) (slice_index upper 0) (0 ∷ 0 ∷ []) (max (slice_index lower 1) 1 ∷ 1 ∷ []) (max (slice_index upper 1) 1 ∷ 1 ∷ []) first (refl, (refl, tt))
    (le-leb 0 (max (slice_index upper 1) 1) (omega arith), (refl, tt))
    (le-leb (max (slice_index lower 1) 1) (max (slice_index upper 1) 1) (omega (arith, second)), (refl, tt))
local_monotone (suc node) lower upper e z =
    let first : slice_index lower 0 ≤ slice_index upper 0 = up_to_at lower upper 0 z (omega (arith, e)) in
    let second : slice_index lower 1 ≤ slice_index upper 1 = up_to_at lower upper 1 z (omega (arith, e)) in
    guarded_rises (slice_index lower 0) (slice_index upper 0) (0 ∷ []) (min (slice_index lower 1 + 1) 3 ∷ []) (min (slice_index upper 1 + 1) 3 ∷ []) first (refl, tt)
    (le-leb 0 (min (slice_index upper 1 + 1) 3) (omega arith), tt)
    (le-leb (min (slice_index lower 1 + 1) 3) (min (slice_index upper 1 + 1) 3) (omega (arith, second)), tt)

local_unreached : (node : ℕ) (values : List ℕ) → slice_index values 0 ≡ 0 → All (λ value. value ≡ 0) (pair_local node values)
local_unreached zero values e = guarded_none (All (λ value. value ≡ 0)) (slice_index values 0) (0 ∷ 0 ∷ []) (max (slice_index values 1) 1 ∷ 1 ∷ []) e (all_two (λ value. value ≡ 0) 0 0 refl refl)
local_unreached (suc node) values e = guarded_none (All (λ value. value ≡ 0)) (slice_index values 0) (0 ∷ []) (min (slice_index values 1 + 1) 3 ∷ []) e (all_one (λ value. value ≡ 0) 0 refl)

pub pair_is_system : IsSystem IsLevel levels pair
pair_is_system = record {
  lattice = levels_are_lattice;
  needs_in_range = λ node h. needs_in_range node;
  gives_in_range = λ node h. gives_in_range node;
  starts_in_range = all_one (λ start. start.0 < 4) (0, 1) (omega arith);
  has_reached_cell = λ node h. omega (arith, needs_two node);
  gives_distinct = λ node h. gives_distinct node;
  starts_distinct = distinct_one nat_eq 0;
  readers_ascend = λ cell h. readers_ascend cell;
  readers_are = λ cell node h. (reads cell node h, λ r. read_by cell node h r.0 r.1);
  starts_are_values = all_one (λ start. IsLevel start.1) (0, 1) (omega arith);
  local_gives = λ node values h o. local_gives node values o;
  local_monotone = λ node lower upper h o p z. local_monotone node lower upper (o.0 ∙ needs_two node) z;
  local_unreached = λ node values h o e. local_unreached node values e;
}
