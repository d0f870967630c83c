-- How far from 0 a sum of small integers goes.
use Rattle.std.proofs.Common.{ℕ, ◌+◌, ◌*◌, ◌≤◌, ℤ, pos, negsuc, ◌+ℤ◌, ap, sym, subst, subst₂, arith}
use Rattle.std.specs.Int.RustNames.{unsigned_abs}
use Rattle.std.proofs.lemmas.Int.{ints}
use Rattle.core_sum.specs.declared.sum.Sum.{Sum, roll-Sum}
use Rattle.core_sum.specs.declared.sum.Sum.TheOpen.{Sum-F}
use Rattle.core_sum.specs.declared.sum.Sum.TheFolds.{ind-Sum, map-Sum}
use Rattle.core_sum.specs.Sums.{int_of, plus_of, value, count_of, HasSmallIntegers, IsWithin}
use Rattle.core_sum.proofs.Levels.{value-int, value-plus, count-int, count-plus, farthest-int, farthest-plus}

pub abs_within : (z : ℤ) (n : ℕ) → unsigned_abs z ≤ n → IsWithin n z
abs_within (pos m) n h = (omega (arith, ints), omega (arith, ints))
abs_within (negsuc m) n h = (omega (arith, ints), omega (arith, ints))

abbrev Claim : Sum → Type 0
Claim e = HasSmallIntegers e → IsWithin (999999 * count_of e) (value e)

int_claim : (n : ℤ) → Claim (int_of n)
int_claim n small =
    let w = abs_within n 999999 (omega (arith, farthest-int n)) in
    subst₂ IsWithin (ap (λ c. 999999 * c) (sym (count-int n))) (sym (value-int n)) w

plus_claim : (a b : Sum) → Claim a → Claim b → Claim (plus_of a b)
plus_claim a b p q small =
    let left = p (omega (arith, farthest-plus a b)) in
    let right = q (omega (arith, farthest-plus a b)) in
    let w : IsWithin (999999 * (count_of a + count_of b)) (value a +ℤ value b) = (omega (arith, ints, left.0, right.0), omega (arith, ints, left.1, right.1)) in
    subst₂ IsWithin (ap (λ c. 999999 * c) (sym (count-plus a b))) (sym (value-plus a b)) w

claim_step : (y : Sum-F ((e : Sum) × Claim e)) → Claim (roll-Sum (map-Sum ((e : Sum) × Claim e) Sum (λ e. e.0) y))
unfolding int_of plus_of
claim_step (Sum-F.Int n) = int_claim n
claim_step (Sum-F.Plus a b) = plus_claim a.0 b.0 a.1 b.1

pub value_within : (e : Sum) → HasSmallIntegers e → IsWithin (999999 * count_of e) (value e)
value_within = ind-Sum Claim (λ x y is. subst (λ z. Claim (roll-Sum z)) is (claim_step y))
