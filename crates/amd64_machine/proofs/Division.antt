-- Division: which quotients fit.
use Rattle.std.proofs.Common.{◌≡◌, ℕ, zero, suc, ◌/◌, ◌^◌, ◌<◌, ◌≤◌, ℤ, pos, negsuc, neg_ℤ, Some, None, true, false, refl, sym, ap, subst, ◌∙◌, arith}
use Rattle.std.specs.Prelude.{FitsSigned, int_div}
use Rattle.std.specs.Int.{w64, w128, cast_unsigned, cast_signed, int_wrapping_div}
use Rattle.std.proofs.lemmas.Int.{ints, to_z-of_z}
use Rattle.std.proofs.Math.Nat.{div-le_self}
use Rattle.amd64_machine.specs.Arithmetic.{fits, quotient_of}

-- at most 2^127, of either sign
abbrev IsSmall : ℤ → Type 0
IsSmall (pos n) = n ≤ 2 ^ 127
IsSmall (negsuc n) = n < 2 ^ 127

small_negative : (n : ℕ) → n ≤ 2 ^ 127 → IsSmall (neg_ℤ (pos n))
small_negative zero h = omega arith
small_negative (suc n) h = omega arith

quotient_small : (x y : ℤ) → FitsSigned w128 x → IsSmall (int_div x y)
quotient_small (pos a) (pos b) f = omega (arith, ints, f, div-le_self a b)
quotient_small (pos a) (negsuc b) f = small_negative (a / suc b) (omega (arith, ints, f, div-le_self a (suc b)))
quotient_small (negsuc a) (pos b) f = small_negative (suc a / b) (omega (arith, ints, f, div-le_self (suc a) b))
quotient_small (negsuc a) (negsuc b) f = omega (arith, ints, f, div-le_self (suc a) (suc b))

-- what is left of a number in 128 bits
abbrev pub left : ℤ → ℤ
left z = cast_signed w128 (cast_unsigned w128 z)

-- and in 64
abbrev pub left_64 : ℤ → ℤ
left_64 z = cast_signed w64 (cast_unsigned w64 z)

kept_small : (z : ℤ) → IsSmall z → FitsSigned w64 (left z) → (left z ≡ z) × (fits z ≡ true)
kept_small (pos n) s f = (grind (arith, ints), grind (arith, ints))
kept_small (negsuc n) s f = (omega (arith, ints), grind (arith, ints))

lost_small : (z : ℤ) → IsSmall z → (FitsSigned w64 (left z) → ⊥) → fits z ≡ false
lost_small (pos n) s f = grind (arith, ints)
lost_small (negsuc n) s f = grind (arith, ints)

kept : (x y : ℤ) → FitsSigned w128 x → FitsSigned w64 (left (int_div x y)) → (left (int_div x y) ≡ int_div x y) × (fits (int_div x y) ≡ true)
kept x y f g = kept_small (int_div x y) (quotient_small x y f) g

lost : (x y : ℤ) → FitsSigned w128 x → (FitsSigned w64 (left (int_div x y)) → ⊥) → fits (int_div x y) ≡ false
lost x y f g = lost_small (int_div x y) (quotient_small x y f) g

-- what is left in 128 bits of the quotient, where the divisor has 64
is_left : (x y w f : ℤ) → FitsSigned w128 x → FitsSigned w64 y → FitsSigned w128 w → f ≡ left_64 y → w ≡ int_wrapping_div w128 (left x) (left f) → left w ≡ left (int_div x y)
is_left x y w f small_x small_y small_w same e =
    let wide : FitsSigned w128 y = omega (arith, ints, small_y) in
    let divisor : left f ≡ y = ap left (same ∙ to_z-of_z w64 y small_y) ∙ to_z-of_z w128 y wide in
    let dividend : left x ≡ x = to_z-of_z w128 x small_x in
    to_z-of_z w128 w small_w ∙ e ∙ ap (λ a. int_wrapping_div w128 a (left f)) dividend ∙ ap (λ b. int_wrapping_div w128 x b) divisor

pub found : (x y w f q : ℤ) → FitsSigned w128 x → FitsSigned w64 y → FitsSigned w128 w → f ≡ left_64 y → w ≡ int_wrapping_div w128 (left x) (left f) → FitsSigned w64 (left w) → q ≡ left w → Some (left_64 q) ≡ quotient_of x y
found x y w f q small_x small_y small_w same e small is =
    let here : left w ≡ left (int_div x y) = is_left x y w f small_x small_y small_w same e in
    let k = kept x y small_x (subst (FitsSigned w64) here small) in
    let value : left_64 q ≡ int_div x y = ap left_64 is ∙ to_z-of_z w64 (left w) small ∙ here ∙ k.0 in
    rw k.1 (ap Some value)

pub not_found : (x y w f : ℤ) → FitsSigned w128 x → FitsSigned w64 y → FitsSigned w128 w → f ≡ left_64 y → w ≡ int_wrapping_div w128 (left x) (left f) → (FitsSigned w64 (left w) → ⊥) → None ≡ quotient_of x y
not_found x y w f small_x small_y small_w same e big =
    let here : left w ≡ left (int_div x y) = is_left x y w f small_x small_y small_w same e in
    let k = lost x y small_x (λ h. big (subst (FitsSigned w64) (sym here) h)) in
    rw k refl
