-- Sums, and what is counted in them.
use Rattle.std.specs.Prelude.{ℕ, ◌+◌, ◌≤◌, max, ℤ, pos, neg_ℤ, ◌+ℤ◌, ◌≤ℤ◌}
use Rattle.std.specs.Int.RustNames.{unsigned_abs}
use Rattle.core_sum.specs.declared.sum.Sum.{Sum, roll-Sum}
use Rattle.core_sum.specs.declared.sum.Sum.TheOpen.{Sum-F}
use Rattle.core_sum.specs.declared.sum.Sum.TheFolds.{fold-Sum}

-- an integer as a sum
unfoldable pub int_of : ℤ → Sum
int_of n = roll-Sum (Sum-F.Int n)

-- the sum of two sums
unfoldable pub plus_of : Sum → Sum → Sum
plus_of a b = roll-Sum (Sum-F.Plus a b)

abbrev pub value_at : Sum-F ℤ → ℤ
value_at (Sum-F.Int n) = n
value_at (Sum-F.Plus a b) = a +ℤ b

-- what a sum comes to
unfoldable pub value : Sum → ℤ
value = fold-Sum ℤ value_at

abbrev pub count_at : Sum-F ℕ → ℕ
count_at (Sum-F.Int n) = 1
count_at (Sum-F.Plus a b) = a + b

-- how many integers a sum has
unfoldable pub count_of : Sum → ℕ
count_of = fold-Sum ℕ count_at

abbrev pub levels_at : Sum-F ℕ → ℕ
levels_at (Sum-F.Int n) = 1
levels_at (Sum-F.Plus a b) = 1 + max a b

-- how many levels a sum has: an integer has one, and a sum one more than its deeper part
unfoldable pub levels_of : Sum → ℕ
levels_of = fold-Sum ℕ levels_at

abbrev pub farthest_at : Sum-F ℕ → ℕ
farthest_at (Sum-F.Int n) = unsigned_abs n
farthest_at (Sum-F.Plus a b) = max a b

-- how far from 0 the integers of a sum go
unfoldable pub farthest : Sum → ℕ
farthest = fold-Sum ℕ farthest_at

-- each integer is from -999,999 to 999,999
abbrev pub HasSmallIntegers : Sum → Type 0
HasSmallIntegers e = farthest e ≤ 999999

-- an integer from -n to n
abbrev pub IsWithin : ℕ → ℤ → Type 0
IsWithin n z = (neg_ℤ (pos n) ≤ℤ z) × (z ≤ℤ pos n)

-- value, count_of, levels_of and farthest by what a sum is made of
abbrev pub level_value : Sum-F Sum → ℤ
level_value (Sum-F.Int n) = n
level_value (Sum-F.Plus a b) = value a +ℤ value b

abbrev pub level_count : Sum-F Sum → ℕ
level_count (Sum-F.Int n) = 1
level_count (Sum-F.Plus a b) = count_of a + count_of b

abbrev pub level_levels : Sum-F Sum → ℕ
level_levels (Sum-F.Int n) = 1
level_levels (Sum-F.Plus a b) = 1 + max (levels_of a) (levels_of b)

abbrev pub level_farthest : Sum-F Sum → ℕ
level_farthest (Sum-F.Int n) = unsigned_abs n
level_farthest (Sum-F.Plus a b) = max (farthest a) (farthest b)
