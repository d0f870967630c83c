-- What is counted in a sum, by what the sum is made of.
use Rattle.std.proofs.Common.{◌≡◌, ℕ, ◌+◌, max, ℤ, ◌+ℤ◌, refl, sym, ◌∙◌}
use Rattle.std.specs.Int.RustNames.{unsigned_abs}
use Rattle.core_sum.specs.declared.sum.Sum.{Sum, out-Sum}
use Rattle.core_sum.specs.declared.sum.Sum.TheOpen.{Sum-F}
use Rattle.core_sum.specs.declared.sum.Sum.TheFolds.{fold_out-Sum, fold-roll-Sum, fold-Sum, map-Sum}
use Rattle.core_sum.specs.declared.sum.Sum.TheViews.{the_lemmas}
use Rattle.core_sum.specs.declared.sum.Sum.TheVariants.{Int, Plus, rolls-Int, rolls-Plus}
use Rattle.core_sum.specs.Sums.{int_of, plus_of, value, value_at, level_value, count_of, count_at, level_count, levels_of, levels_at, level_levels, farthest, farthest_at, level_farthest}

value_level : (l : Sum-F Sum) → value_at (map-Sum Sum ℤ (fold-Sum ℤ value_at) l) ≡ level_value l
unfolding value
value_level (Sum-F.Int n) = refl
value_level (Sum-F.Plus a b) = refl

count_level : (l : Sum-F Sum) → count_at (map-Sum Sum ℕ (fold-Sum ℕ count_at) l) ≡ level_count l
unfolding count_of
count_level (Sum-F.Int n) = refl
count_level (Sum-F.Plus a b) = refl

levels_level : (l : Sum-F Sum) → levels_at (map-Sum Sum ℕ (fold-Sum ℕ levels_at) l) ≡ level_levels l
unfolding levels_of
levels_level (Sum-F.Int n) = refl
levels_level (Sum-F.Plus a b) = refl

farthest_level : (l : Sum-F Sum) → farthest_at (map-Sum Sum ℕ (fold-Sum ℕ farthest_at) l) ≡ level_farthest l
unfolding farthest
farthest_level (Sum-F.Int n) = refl
farthest_level (Sum-F.Plus a b) = refl

pub value_is : (e : Sum) → value e ≡ level_value (out-Sum e)
unfolding value
value_is e = fold_out-Sum ℤ value_at e ∙ value_level (out-Sum e)

pub count_is : (e : Sum) → count_of e ≡ level_count (out-Sum e)
unfolding count_of
count_is e = fold_out-Sum ℕ count_at e ∙ count_level (out-Sum e)

pub levels_is : (e : Sum) → levels_of e ≡ level_levels (out-Sum e)
unfolding levels_of
levels_is e = fold_out-Sum ℕ levels_at e ∙ levels_level (out-Sum e)

pub farthest_is : (e : Sum) → farthest e ≡ level_farthest (out-Sum e)
unfolding farthest
farthest_is e = fold_out-Sum ℕ farthest_at e ∙ farthest_level (out-Sum e)

-- the same of an integer and of a sum of two
pub value-int : (n : ℤ) → value (int_of n) ≡ n
unfolding value int_of
value-int n = fold-roll-Sum ℤ value_at (Sum-F.Int n)

pub value-plus : (a b : Sum) → value (plus_of a b) ≡ value a +ℤ value b
unfolding value plus_of
value-plus a b = fold-roll-Sum ℤ value_at (Sum-F.Plus a b)

pub count-int : (n : ℤ) → count_of (int_of n) ≡ 1
unfolding count_of int_of
count-int n = fold-roll-Sum ℕ count_at (Sum-F.Int n)

pub count-plus : (a b : Sum) → count_of (plus_of a b) ≡ count_of a + count_of b
unfolding count_of plus_of
count-plus a b = fold-roll-Sum ℕ count_at (Sum-F.Plus a b)

pub levels-int : (n : ℤ) → levels_of (int_of n) ≡ 1
unfolding levels_of int_of
levels-int n = fold-roll-Sum ℕ levels_at (Sum-F.Int n)

pub levels-plus : (a b : Sum) → levels_of (plus_of a b) ≡ 1 + max (levels_of a) (levels_of b)
unfolding levels_of plus_of
levels-plus a b = fold-roll-Sum ℕ levels_at (Sum-F.Plus a b)

pub farthest-int : (n : ℤ) → farthest (int_of n) ≡ unsigned_abs n
unfolding farthest int_of
farthest-int n = fold-roll-Sum ℕ farthest_at (Sum-F.Int n)

pub farthest-plus : (a b : Sum) → farthest (plus_of a b) ≡ max (farthest a) (farthest b)
unfolding farthest plus_of
farthest-plus a b = fold-roll-Sum ℕ farthest_at (Sum-F.Plus a b)

-- what the code makes
pub int_made : (n : ℤ) → Int n ≡ int_of n
unfolding int_of
int_made n = sym (rolls-Int n)

pub plus_made : (a b : Sum) → Plus a b ≡ plus_of a b
unfolding plus_of
plus_made a b = sym (rolls-Plus a b)

pub ruleset made = (int_made, plus_made)

pub ruleset levels = (the_lemmas, value_is, count_is, levels_is, farthest_is)
