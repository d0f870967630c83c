-- The words of integers, and the integers that sums come to.
use Rattle.std.proofs.Common.{◌≡◌, ℕ, ◌+◌, ◌-◌, ◌*◌, ◌/◌, ◌%◌, ◌^◌, ◌≤◌, ℤ, pos, negsuc, ◌+ℤ◌, List, Some, refl, ap, ◌∙◌, subst, arith}
use Rattle.std.specs.Prelude.{true, false, nat_eq, nat_lt}
use Rattle.std.proofs.lemmas.Int.{ints}
use Rattle.std.proofs.lemmas.Bool.Decides.{nat_tests}
use Rattle.hipe_terms.specs.Terms.{integer}
use Rattle.heap_terms.specs.Integers.{IsInteger, word_of, integer_in}
use Rattle.heap_terms.specs.Shapes.{Symbols, Reference, Integer, shape_at, option_map, from_outside}
use Rattle.heap_terms.specs.Terms.{term_at, term_below, term_step}
use Rattle.heap_terms.proofs.Levels.{term_is}
use Rattle.amd64_machine.specs.Arithmetic.{wrap}
use Rattle.core_sum.specs.declared.sum.Sum.{Sum, roll-Sum}
use Rattle.core_sum.specs.declared.sum.Sum.TheOpen.{Sum-F}
use Rattle.core_sum.specs.declared.sum.Sum.TheFolds.{ind-Sum, map-Sum}
use Rattle.core_sum.specs.Sums.{int_of, plus_of, value, count_of, HasSmallIntegers, IsWithin}
use Rattle.core_sum.proofs.Levels.{count-int, count-plus}
use Rattle.core_sum.proofs.Values.{value_within}

-- ---- words

-- the word of a sum, of the words of its parts
pub sum_word : (a b : ℤ) → IsInteger a → IsInteger b → IsInteger (a +ℤ b) → wrap (wrap (word_of b + word_of a) + (2 ^ 64 - 15)) ≡ word_of (a +ℤ b)
sum_word a b ia ib ic = of_signs a b (a +ℤ b) refl ia ib ic
  where
    of_signs : (a b c : ℤ) → c ≡ a +ℤ b → IsInteger a → IsInteger b → IsInteger c → wrap (wrap (word_of b + word_of a) + (2 ^ 64 - 15)) ≡ word_of c
    of_signs (pos a) (pos b) (pos c) e ia ib ic = omega (arith, ints)
    of_signs (pos a) (pos b) (negsuc c) e ia ib ic = absurd (omega (arith, ints))
    of_signs (pos a) (negsuc b) (pos c) e ia ib ic = omega (arith, ints)
    of_signs (pos a) (negsuc b) (negsuc c) e ia ib ic = omega (arith, ints)
    of_signs (negsuc a) (pos b) (pos c) e ia ib ic = omega (arith, ints)
    of_signs (negsuc a) (pos b) (negsuc c) e ia ib ic = omega (arith, ints)
    of_signs (negsuc a) (negsuc b) (pos c) e ia ib ic = absurd (omega (arith, ints))
    of_signs (negsuc a) (negsuc b) (negsuc c) e ia ib ic = omega (arith, ints)

word_tag : (v : ℤ) → IsInteger v → nat_eq (word_of v % 16) 15 ≡ true
word_tag (pos n) is = grind (arith, nat_tests)
word_tag (negsuc n) is = grind (arith, nat_tests)

integer_of_word : (v : ℤ) → IsInteger v → integer_in (word_of v) ≡ v
integer_of_word (pos n) is =
    let sign : nat_lt (16 * n + 15) (2 ^ 63) ≡ true = grind (arith, nat_tests) in
    let rest : (16 * n + 15) / 16 ≡ n = omega arith in
    rw (sign, rest) refl
integer_of_word (negsuc n) is =
    let sign : nat_lt (2 ^ 64 - 1 - 16 * n) (2 ^ 63) ≡ false = grind (arith, nat_tests) in
    let rest : (2 ^ 64 - 1 - (2 ^ 64 - 1 - 16 * n)) / 16 ≡ n = omega arith in
    rw (sign, rest) refl

shape_of_word : (symbols : Symbols) (heap : List ℕ) (v : ℤ) → IsInteger v → shape_at symbols heap (from_outside heap (word_of v)) ≡ Some (Integer v)
unfolding shape_at
shape_of_word symbols heap v is = rw (word_tag v is, integer_of_word v is) refl

-- the word of an integer stands for it
pub term_of_word : (symbols : Symbols) (heap : List ℕ) (v : ℤ) → IsInteger v → term_at symbols heap (word_of v) ≡ Some (integer v)
term_of_word symbols heap v is =
    let at : Reference = from_outside heap (word_of v) in
    term_is symbols heap at ∙ ap (λ s. term_step at (option_map Reference _ (term_below symbols heap) s)) (shape_of_word symbols heap v is)

-- ---- counts and values of small sums

abbrev HasSome : Sum → Type 0
HasSome e = 1 ≤ count_of e

some_step : (y : Sum-F ((e : Sum) × HasSome e)) → HasSome (roll-Sum (map-Sum ((e : Sum) × HasSome e) Sum (λ e. e.0) y))
unfolding int_of plus_of
some_step (Sum-F.Int n) = omega (arith, count-int n)
some_step (Sum-F.Plus a b) = omega (arith, count-plus a.0 b.0, a.1, b.1)

pub count_some : (e : Sum) → 1 ≤ count_of e
count_some = ind-Sum HasSome (λ x y is. subst (λ z. HasSome (roll-Sum z)) is (some_step y))

within_integer : (v : ℤ) (c : ℕ) → c ≤ 32768 → IsWithin (999999 * c) v → IsInteger v
within_integer (pos n) c few is = omega (arith, ints, is.1)
within_integer (negsuc n) c few is = omega (arith, ints, is.0)

pub small_value : (e : Sum) → HasSmallIntegers e → count_of e ≤ 32768 → IsInteger (value e)
small_value e small few = within_integer (value e) (count_of e) few (value_within e small)
