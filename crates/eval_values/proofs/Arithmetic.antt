-- Arithmetic on the integers that terms are.
use Rattle.std.proofs.Common.{◌≡◌, refl, sym, subst, ap, Option, Some, None, Bool, true, false, if◌then◌else◌}
use Rattle.std.specs.Prelude.{ℤ, pos, neg_ℤ, int_div, int_rem}
use Rattle.std.specs.Int.{w64, int_bit_not}
use Rattle.std.specs.Ordering.{int_eq}
use Rattle.hipe_terms.specs.Outcome.{gives, number, badarith, system_limit, arithmetic, negated, divided, remainder, bitwise, bits_turned}
use Rattle.hipe_terms.specs.Range.{is_in_range}
use Rattle.hipe_terms.specs.Terms.{Term, integer, atom, nil, cons, tuple, fun}
use Rattle.eval_values.specs.Integers.{in_range, ranged, integer_of, integers_of}
use Rattle.eval_values.proofs.Made.{int_is}

ranged_if : (b : Bool) (n : ℤ) → (if b then gives (integer n) else system_limit) ≡ ranged (if b then Some n else None)
ranged_if true n = refl
ranged_if false n = refl

pub number_is : (n : ℤ) → number n ≡ ranged (in_range n)
number_is n = ranged_if (is_in_range n) n

pub both_integers : (t u : Term) (m n : ℤ) → integer_of t ≡ Some m → integer_of u ≡ Some n → integers_of t u ≡ Some (m, n)
both_integers (integer a) (integer b) m n e f = cc
both_integers (integer a) (atom b) m n e f = cc
both_integers (integer a) nil m n e f = cc
both_integers (integer a) (cons b c) m n e f = cc
both_integers (integer a) (tuple b) m n e f = cc
both_integers (integer a) (fun b c) m n e f = cc
both_integers (atom a) u m n e f = cc
both_integers nil u m n e f = cc
both_integers (cons a b) u m n e f = cc
both_integers (tuple a) u m n e f = cc
both_integers (fun a b) u m n e f = cc

pub no_first : (t u : Term) → integer_of t ≡ None → integers_of t u ≡ None
no_first (integer a) u e = cc
no_first (atom a) u e = refl
no_first nil u e = refl
no_first (cons a b) u e = refl
no_first (tuple a) u e = refl
no_first (fun a b) u e = refl

pub no_second : (t u : Term) → integer_of u ≡ None → integers_of t u ≡ None
no_second (integer a) (integer b) e = cc
no_second (integer a) (atom b) e = refl
no_second (integer a) nil e = refl
no_second (integer a) (cons b c) e = refl
no_second (integer a) (tuple b) e = refl
no_second (integer a) (fun b c) e = refl
no_second (atom a) u e = refl
no_second nil u e = refl
no_second (cons a b) u e = refl
no_second (tuple a) u e = refl
no_second (fun a b) u e = refl

abbrev two : ℤ → ℤ → Option (ℤ × ℤ)
two m n = Some (m, n)

first_of : ℤ → Option (ℤ × ℤ) → ℤ
first_of d None = d
first_of d (Some p) = p.0

second_of : ℤ → Option (ℤ × ℤ) → ℤ
second_of d None = d
second_of d (Some p) = p.1

two_equal : (a b m n : ℤ) (P : Term → Term → Type 0) → two a b ≡ two m n → P (integer m) (integer n) → P (integer a) (integer b)
unfolding first_of second_of
two_equal a b m n P e p =
    let f : a ≡ m = ap (first_of a) e in
    let g : b ≡ n = ap (second_of b) e in
    subst (λ x. P (integer x) (integer b)) (sym f) (subst (λ y. P (integer m) (integer y)) (sym g) p)

-- what holds of two integers holds of the terms that they are
first_two : (t u : Term) (m n : ℤ) (P : Term → Term → Type 0) → integers_of t u ≡ Some (m, n) → P (integer m) (integer n) → P t u
first_two (integer a) (integer b) m n P e p = two_equal a b m n P e p
first_two (integer a) (atom b) m n P e p = absurd (cc)
first_two (integer a) nil m n P e p = absurd (cc)
first_two (integer a) (cons b d) m n P e p = absurd (cc)
first_two (integer a) (tuple b) m n P e p = absurd (cc)
first_two (integer a) (fun b d) m n P e p = absurd (cc)
first_two (atom a) u m n P e p = absurd (cc)
first_two nil u m n P e p = absurd (cc)
first_two (cons a c) u m n P e p = absurd (cc)
first_two (tuple a) u m n P e p = absurd (cc)
first_two (fun a c) u m n P e p = absurd (cc)

pub first_one : (t : Term) (n : ℤ) (P : Term → Type 0) → integer_of t ≡ Some n → P (integer n) → P t
first_one (integer a) n P e p = let f : a ≡ n = cc in subst (λ x. P (integer x)) (sym f) p
first_one (atom a) n P e p = absurd (cc)
first_one nil n P e p = absurd (cc)
first_one (cons a c) n P e p = absurd (cc)
first_one (tuple a) n P e p = absurd (cc)
first_one (fun a c) n P e p = absurd (cc)

pub arithmetic_some : (f : ℤ → ℤ → ℤ) (t u : Term) (m n : ℤ) → integers_of t u ≡ Some (m, n) → arithmetic f t u ≡ ranged (in_range (f m n))
arithmetic_some f t u m n e = first_two t u m n (λ t u. arithmetic f t u ≡ ranged (in_range (f m n))) e (number_is (f m n))

pub bitwise_some : (f : ℤ → ℤ → ℤ) (t u : Term) (m n : ℤ) → integers_of t u ≡ Some (m, n) → bitwise f t u ≡ gives (integer (f m n))
bitwise_some f t u m n e = first_two t u m n (λ t u. bitwise f t u ≡ gives (integer (f m n))) e refl

divided_if : (b : Bool) (m n : ℤ) → b ≡ false → (if b then badarith else number (int_div m n)) ≡ ranged (in_range (int_div m n))
divided_if true m n e = absurd (cc)
divided_if false m n e = number_is (int_div m n)

pub divided_some : (t u : Term) (m n : ℤ) → integers_of t u ≡ Some (m, n) → int_eq n (pos 0) ≡ false → divided t u ≡ ranged (in_range (int_div m n))
divided_some t u m n e h = first_two t u m n (λ t u. divided t u ≡ ranged (in_range (int_div m n))) e (divided_if (int_eq n (pos 0)) m n h)

remainder_if : (b : Bool) (m n : ℤ) → b ≡ false → (if b then badarith else gives (integer (int_rem m n))) ≡ gives (integer (int_rem m n))
remainder_if true m n e = absurd (cc)
remainder_if false m n e = refl

pub remainder_some : (t u : Term) (m n : ℤ) → integers_of t u ≡ Some (m, n) → int_eq n (pos 0) ≡ false → remainder t u ≡ gives (integer (int_rem m n))
remainder_some t u m n e h = first_two t u m n (λ t u. remainder t u ≡ gives (integer (int_rem m n))) e (remainder_if (int_eq n (pos 0)) m n h)

pub divided_zero : (t u : Term) (m : ℤ) → integers_of t u ≡ Some (m, pos 0) → divided t u ≡ badarith
divided_zero t u m e = first_two t u m (pos 0) (λ t u. divided t u ≡ badarith) e refl

pub remainder_zero : (t u : Term) (m : ℤ) → integers_of t u ≡ Some (m, pos 0) → remainder t u ≡ badarith
remainder_zero t u m e = first_two t u m (pos 0) (λ t u. remainder t u ≡ badarith) e refl

pub negated_some : (t : Term) (n : ℤ) → integer_of t ≡ Some n → negated t ≡ ranged (in_range (neg_ℤ n))
negated_some t n e = first_one t n (λ t. negated t ≡ ranged (in_range (neg_ℤ n))) e (number_is (neg_ℤ n))

pub turned_some : (t : Term) (n : ℤ) → integer_of t ≡ Some n → bits_turned t ≡ gives (integer (int_bit_not w64 n))
turned_some t n e = first_one t n (λ t. bits_turned t ≡ gives (integer (int_bit_not w64 n))) e refl

pub arithmetic_none : (f : ℤ → ℤ → ℤ) (t u : Term) → integers_of t u ≡ None → arithmetic f t u ≡ badarith
arithmetic_none f (integer a) (integer b) e = absurd (cc)
arithmetic_none f (integer a) (atom b) e = refl
arithmetic_none f (integer a) nil e = refl
arithmetic_none f (integer a) (cons b d) e = refl
arithmetic_none f (integer a) (tuple b) e = refl
arithmetic_none f (integer a) (fun b d) e = refl
arithmetic_none f (atom a) u e = refl
arithmetic_none f nil u e = refl
arithmetic_none f (cons a c) u e = refl
arithmetic_none f (tuple a) u e = refl
arithmetic_none f (fun a c) u e = refl

pub bitwise_none : (f : ℤ → ℤ → ℤ) (t u : Term) → integers_of t u ≡ None → bitwise f t u ≡ badarith
bitwise_none f (integer a) (integer b) e = absurd (cc)
bitwise_none f (integer a) (atom b) e = refl
bitwise_none f (integer a) nil e = refl
bitwise_none f (integer a) (cons b d) e = refl
bitwise_none f (integer a) (tuple b) e = refl
bitwise_none f (integer a) (fun b d) e = refl
bitwise_none f (atom a) u e = refl
bitwise_none f nil u e = refl
bitwise_none f (cons a c) u e = refl
bitwise_none f (tuple a) u e = refl
bitwise_none f (fun a c) u e = refl

pub divided_none : (t u : Term) → integers_of t u ≡ None → divided t u ≡ badarith
divided_none (integer a) (integer b) e = absurd (cc)
divided_none (integer a) (atom b) e = refl
divided_none (integer a) nil e = refl
divided_none (integer a) (cons b d) e = refl
divided_none (integer a) (tuple b) e = refl
divided_none (integer a) (fun b d) e = refl
divided_none (atom a) u e = refl
divided_none nil u e = refl
divided_none (cons a c) u e = refl
divided_none (tuple a) u e = refl
divided_none (fun a c) u e = refl

pub remainder_none : (t u : Term) → integers_of t u ≡ None → remainder t u ≡ badarith
remainder_none (integer a) (integer b) e = absurd (cc)
remainder_none (integer a) (atom b) e = refl
remainder_none (integer a) nil e = refl
remainder_none (integer a) (cons b d) e = refl
remainder_none (integer a) (tuple b) e = refl
remainder_none (integer a) (fun b d) e = refl
remainder_none (atom a) u e = refl
remainder_none nil u e = refl
remainder_none (cons a c) u e = refl
remainder_none (tuple a) u e = refl
remainder_none (fun a c) u e = refl

pub negated_none : (t : Term) → integer_of t ≡ None → negated t ≡ badarith
negated_none (integer a) e = absurd (cc)
negated_none (atom a) e = refl
negated_none nil e = refl
negated_none (cons a c) e = refl
negated_none (tuple a) e = refl
negated_none (fun a c) e = refl

pub turned_none : (t : Term) → integer_of t ≡ None → bits_turned t ≡ badarith
turned_none (integer a) e = absurd (cc)
turned_none (atom a) e = refl
turned_none nil e = refl
turned_none (cons a c) e = refl
turned_none (tuple a) e = refl
turned_none (fun a c) e = refl

pub ruleset numbers = (int_is, number_is, both_integers, no_first, no_second, arithmetic_some, arithmetic_none, bitwise_some, bitwise_none, divided_some, divided_none, divided_zero, remainder_some, remainder_none, remainder_zero, negated_some, negated_none, turned_some, turned_none)
