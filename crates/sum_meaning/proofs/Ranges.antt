-- The value of a sum of so few small integers is an integer of the language.
use Rattle.std.proofs.Common.{◌≡◌, ℕ, ◌*◌, ◌≤◌, ℤ, pos, negsuc, true, arith}
use Rattle.std.proofs.lemmas.Bool.Decides.{nat_tests}
use Rattle.std.proofs.lemmas.Int.{ints}
use Rattle.hipe_terms.specs.Range.{is_in_range}
use Rattle.core_sum.specs.declared.sum.Sum.{Sum}
use Rattle.core_sum.specs.Sums.{value, count_of, HasSmallIntegers, IsWithin}
use Rattle.core_sum.proofs.Values.{value_within}

positive_in_range : (k : ℕ) → k ≤ 32767999999 → is_in_range (pos k) ≡ true
positive_in_range k h = grind (arith, nat_tests)

negative_in_range : (k : ℕ) → k ≤ 32767999999 → is_in_range (negsuc k) ≡ true
negative_in_range k h = grind (arith, nat_tests)

in_range : (n : ℤ) (count : ℕ) → count ≤ 32768 → IsWithin (999999 * count) n → is_in_range n ≡ true
in_range (pos k) count few w = positive_in_range k (omega (arith, ints, few, w.1))
in_range (negsuc k) count few w = negative_in_range k (omega (arith, ints, few, w.0))

pub value_in_range : (e : Sum) → HasSmallIntegers e → count_of e ≤ 32768 → is_in_range (value e) ≡ true
value_in_range e small few = in_range (value e) (count_of e) few (value_within e small)
