-- Shifts of integers of 64 bits.
use Rattle.std.proofs.Common.{◌≡◌, ℕ, zero, suc, ◌*◌, ◌^◌, ◌<◌, ◌≤◌, true, false, if◌then◌else◌, Some, None, refl, sym, ap, ◌∙◌, subst, arith, lit<}
use Rattle.std.specs.Prelude.{ℤ, pos, negsuc, neg_ℤ, ◌*ℤ◌}
use Rattle.std.specs.Int.{w64}
use Rattle.std.specs.Int.Signed.{shr_z, mag_shr}
use Rattle.std.proofs.lemmas.Bool.{ltb-true}
use Rattle.std.proofs.lemmas.Bool.Decides.{nat_tests}
use Rattle.std.proofs.lemmas.Int.{to_z-of_z}
use Rattle.std.proofs.Math.IntN.{pos-*ℤ-pos, negsuc-*ℤ-pos}
use Rattle.std.proofs.Math.Nat.{div-eq_of_lt, pow-le-pow_right, le-mul_of_pos_right, mul_comm}
use mir.Val.{SFits, to_z, of_z}
use lib.Signed.{lt_z, mag}
use Rattle.hipe_terms.specs.Outcome.{floor}
use Rattle.hipe_terms.specs.Range.{is_in_range}
use Rattle.eval_values.specs.Integers.{in_range}

small : (k n : ℕ) → k < 2 ^ 63 → 63 ≤ n → k < 2 ^ n
small k n h l = let p : 2 ^ 63 ≤ 2 ^ n = pow-le-pow_right (lit< tt) l in omega (arith, h, p)

low : (a : ℤ) (n : ℕ) → mag a < 2 ^ 63 → 63 ≤ n → lt_z a (pos 0) ≡ true → negsuc 0 ≡ floor a (2 ^ n)
low (pos k) n f l e = let h : k < 0 = ltb-true k 0 e in absurd (omega (arith, h))
low (negsuc k) n f l e = ap negsuc (sym (div-eq_of_lt (small k n f l)))

high : (a : ℤ) (n : ℕ) → mag a < 2 ^ 63 → 63 ≤ n → lt_z a (pos 0) ≡ false → pos 0 ≡ floor a (2 ^ n)
high (pos k) n f l e = ap pos (sym (div-eq_of_lt (small k n f l)))
high (negsuc k) n f l e = absurd (cc)

pub floor_low : (a : ℤ) (n : ℕ) → SFits w64 a → 63 ≤ n → lt_z (to_z w64 (of_z w64 a)) (pos 0) ≡ true → negsuc 0 ≡ floor a (2 ^ n)
floor_low a n f l e = low a n f.sfits l (ap (λ x. lt_z x (pos 0)) (sym (to_z-of_z w64 a f)) ∙ e)

pub floor_high : (a : ℤ) (n : ℕ) → SFits w64 a → 63 ≤ n → lt_z (to_z w64 (of_z w64 a)) (pos 0) ≡ false → pos 0 ≡ floor a (2 ^ n)
floor_high a n f l e = high a n f.sfits l (ap (λ x. lt_z x (pos 0)) (sym (to_z-of_z w64 a f)) ∙ e)

shr_floor : (a : ℤ) (m : ℕ) → shr_z a m ≡ floor a m
shr_floor (pos k) m = refl
shr_floor (negsuc k) m = refl

shr_fits : (a : ℤ) (m : ℕ) → SFits w64 a → SFits w64 (shr_z a m)
shr_fits a m f = let p : mag (shr_z a m) ≤ mag a = mag_shr a m in let q : mag a < 2 ^ 63 = f.sfits in record { sfits = omega (arith, p, q) }

pub shift_is : (a : ℤ) (m : ℕ) → SFits w64 a → to_z w64 (of_z w64 (shr_z (to_z w64 (of_z w64 a)) m)) ≡ floor a m
shift_is a m f =
    ap (λ x. to_z w64 (of_z w64 (shr_z x m))) (to_z-of_z w64 a f)
    ∙ to_z-of_z w64 (shr_z a m) (shr_fits a m f)
    ∙ shr_floor a m

above : (x : ℕ) → 2 ^ 60 ≤ x → is_in_range (pos x) ≡ false
above x h = grind (arith, nat_tests)

beneath : (x : ℕ) → 2 ^ 60 ≤ x → is_in_range (neg_ℤ (pos x)) ≡ false
beneath zero h = absurd (omega arith)
beneath (suc x) h = grind (arith, nat_tests)

far : (k n : ℕ) → 0 < k → 60 ≤ n → 2 ^ 60 ≤ k * 2 ^ n
far k n h l =
    let p : 2 ^ 60 ≤ 2 ^ n = pow-le-pow_right (lit< tt) l in
    let q : 2 ^ n ≤ k * 2 ^ n = subst (λ x. 2 ^ n ≤ x) (mul_comm (2 ^ n) k) (le-mul_of_pos_right (2 ^ n) h) in
    omega (arith, p, q)

outside : (a : ℤ) (n : ℕ) → 60 ≤ n → (of_z w64 a ≡ 0 → ⊥) → is_in_range (a *ℤ pos (2 ^ n)) ≡ false
outside (pos zero) n l z = absurd (z refl)
outside (pos (suc k)) n l z = ap is_in_range (pos-*ℤ-pos (suc k) (2 ^ n)) ∙ above (suc k * 2 ^ n) (far (suc k) n (omega arith) l)
outside (negsuc k) n l z = ap is_in_range (negsuc-*ℤ-pos k (2 ^ n)) ∙ beneath (suc k * 2 ^ n) (far (suc k) n (omega arith) l)

pub raised_far : (a : ℤ) (n : ℕ) → 60 ≤ n → (of_z w64 a ≡ 0 → ⊥) → None ≡ in_range (a *ℤ pos (2 ^ n))
raised_far a n l z = let x : ℤ = a *ℤ pos (2 ^ n) in ap (λ b. if b then Some x else None) (sym (outside a n l z))
