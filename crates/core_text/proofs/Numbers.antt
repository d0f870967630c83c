-- Numbers that digits stand for.
use Rattle.std.proofs.Common.{◌≡◌, ℕ, zero, suc, ◌+◌, ◌*◌, ◌≤◌, ◌<◌, Bool, true, false, cond, List, [], ◌∷◌, length, take, drop, ◌^◌, refl, ap, arith}
use Rattle.std.specs.List.{prefix_len}
use Rattle.std.proofs.lemmas.Bool.Decides.{nat_tests}
use Rattle.std.specs.Prelude.{slice_index}
use Rattle.std.proofs.Math.Seq.{drop-cons}
use Rattle.std.proofs.Math.Nat.{le-mul_of_pos_right}
use Rattle.std.proofs.lemmas.Nat.{mul-le}
use Rattle.core_text.specs.Bytes.{is_octal, digit_value, number_from}

-- the number only grows
pub grows : (base : ℕ) (ds : List ℕ) (n : ℕ) → 1 ≤ base → n ≤ number_from base n ds
grows base [] n some = omega arith
grows base (d ∷ ds) n some = omega (arith, le-mul_of_pos_right {m = base} n some, grows base ds (n * base + digit_value d) some)

pub stops : (base : ℕ) (ds : List ℕ) (k n : ℕ) → 1 ≤ base → k < length ds → n * base + digit_value (slice_index ds k) ≤ number_from base n (drop k ds)
stops base ds k n some lt = rw (drop-cons ds k 0 lt) (grows base (drop (suc k) ds) _ some)

-- a number within the limit, times a base, stays small
pub times_small : (n base most : ℕ) → n ≤ most → most ≤ 2 ^ 59 → base ≤ 16 → n * base ≤ 2 ^ 63
times_small n base most h k small = mul-le n base (2 ^ 59) 16 (omega arith) small

-- the greatest number of m more octal digits
most : ℕ → ℕ → ℕ
most zero k = k
most (suc m) k = most m (k * 8 + 7)

octal_digit : (c : ℕ) → is_octal c ≡ true → digit_value c ≤ 7
octal_digit c is = grind (arith, nat_tests)

within_step : (m : ℕ) (c : ℕ) (s : List ℕ) (n k : ℕ) (b : Bool) → is_octal c ≡ b → n ≤ k → suc m ≤ prefix_len is_octal (c ∷ s)
    → ((n k : ℕ) → n ≤ k → m ≤ prefix_len is_octal s → number_from 8 n (take m s) ≤ most m k) → number_from 8 (n * 8 + digit_value c) (take m s) ≤ most m (k * 8 + 7)
within_step m c s n k true is le h before =
    let e : prefix_len is_octal (c ∷ s) ≡ 1 + prefix_len is_octal s = ap (λ b. cond b (1 + prefix_len is_octal s) 0) is in
    before (n * 8 + digit_value c) (k * 8 + 7) (omega (arith, octal_digit c is)) (omega (arith, h, e))
within_step m c s n k false is le h before =
    let e : prefix_len is_octal (c ∷ s) ≡ 0 = ap (λ b. cond b (1 + prefix_len is_octal s) 0) is in
    absurd (omega (arith, h, e))

within : (m : ℕ) (s : List ℕ) (n k : ℕ) → n ≤ k → m ≤ prefix_len is_octal s → number_from 8 n (take m s) ≤ most m k
unfolding most
within zero s n k le h = le
within (suc m) [] n k le h = absurd (omega (arith, h))
within (suc m) (c ∷ s) n k le h = within_step m c s n k (is_octal c) refl le h (within m s)

-- three octal digits stand for at most 511
pub octal_small : (m : ℕ) (s : List ℕ) → m ≤ 3 → m ≤ prefix_len is_octal s → number_from 8 0 (take m s) ≤ 511
unfolding most
octal_small zero s few h = omega (arith, within zero s 0 0 (omega arith) h)
octal_small (suc zero) s few h = omega (arith, within 1 s 0 0 (omega arith) h)
octal_small (suc (suc zero)) s few h = omega (arith, within 2 s 0 0 (omega arith) h)
octal_small (suc (suc (suc zero))) s few h = within 3 s 0 0 (omega arith) h
octal_small (suc (suc (suc (suc m)))) s few h = absurd (omega (arith, few))
