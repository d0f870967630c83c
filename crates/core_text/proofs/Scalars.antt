-- What characters and escapes mean is a Unicode scalar value.
use Rattle.std.proofs.Common.{◌≡◌, ℕ, ◌-◌, ◌≤◌, ◌<◌, Bool, true, false, cond, ◌&&◌, ◌||◌, nat_eq, List, [], ◌∷◌, ◌++◌, length, take, Option, Some, None, refl, ap, ◌∙◌, subst, arith}
use Rattle.std.specs.Char.{IsScalar}
use Rattle.std.specs.Str.{all_scalars}
use Rattle.std.proofs.lemmas.Bool.Decides.{nat_tests}
use Rattle.std.proofs.lemmas.List.{take_at}
use Rattle.core_text.specs.Bytes.{is_from, is_octal, is_hex, digit_value, number_from}
use Rattle.core_text.specs.Escapes.{simple_escape}
use Rattle.core_text.specs.Prefixes.{AreAll}
use Rattle.core_text.specs.Characters.{IsEscape, simple, octal, control, hexadecimal, braced, IsCodePoint, itself, escaped, IsQuoted, closing, code_point}
use Rattle.core_text.proofs.Numbers.{octal_small}
use Rattle.core_text.proofs.Prefixes.{count_some}

scalar_low : (v : ℕ) → v < 55296 → IsScalar v
scalar_low v h = grind (arith, nat_tests)

same_value : (v w : ℕ) → Some w ≡ Some v → v ≡ w
same_value v w h = cc

below : (b : Bool) (w v : ℕ) (r : Option ℕ) → w < 128 → (r ≡ Some v → v < 128) → cond b (Some w) r ≡ Some v → v < 128
below true w v r small rest h = omega (arith, same_value v w h, small)
below false w v r small rest h = rest h

quote_small : (c v : ℕ) → cond (nat_eq c 34 || nat_eq c 39 || nat_eq c 92) (Some c) None ≡ Some v → v < 128
quote_small c v h = grind (arith, nat_tests)

simple_small : (c v : ℕ) → simple_escape c ≡ Some v → v < 128
simple_small c v =
    below (nat_eq c 98) 8 v _ (omega arith) (below (nat_eq c 100) 127 v _ (omega arith) (below (nat_eq c 101) 27 v _ (omega arith) (below (nat_eq c 102) 12 v _ (omega arith)
    (below (nat_eq c 110) 10 v _ (omega arith) (below (nat_eq c 114) 13 v _ (omega arith) (below (nat_eq c 115) 32 v _ (omega arith) (below (nat_eq c 116) 9 v _ (omega arith)
    (below (nat_eq c 118) 11 v _ (omega arith) (quote_small c v)))))))))

hex_small : (c : ℕ) → is_hex c ≡ true → digit_value c ≤ 15
hex_small c is = grind (arith, nat_tests)

control_small : (c : ℕ) → is_from 64 95 c ≡ true → c ≤ 95
control_small c is = grind (arith, nat_tests)

octal_scalar : (ds : List ℕ) → AreAll is_octal ds → length ds ≤ 3 → number_from 8 0 ds ≤ 511
octal_scalar ds all few =
    let n = length ds in
    let e : take n (ds ++ []) ≡ ds = take_at ds [] n refl in
    let h : number_from 8 0 (take n (ds ++ [])) ≤ 511 = octal_small n (ds ++ []) few (count_some is_octal ds [] all) in
    subst (λ t. number_from 8 0 t ≤ 511) e h

escape_scalar : (v : ℕ) (cs us : List ℕ) → IsEscape v cs us → IsScalar v
escape_scalar v cs us (simple {c = c} {v = w} is) = scalar_low w (omega (arith, simple_small c w is))
escape_scalar v cs us (octal ds vs all some few ends) = scalar_low (number_from 8 0 ds) (omega (arith, octal_scalar ds all few))
escape_scalar v cs us (control {c = c} is) = scalar_low (c - 64) (omega (arith, control_small c is))
escape_scalar v cs us (hexadecimal {c = c} {d = d} first second) = scalar_low (number_from 16 0 (c ∷ d ∷ [])) (omega (arith, hex_small c first, hex_small d second))
escape_scalar v cs us (braced ds all some scalar) = scalar

pub point_scalar : (v : ℕ) (cs us : List ℕ) → IsCodePoint v cs us → IsScalar v
point_scalar v cs us (itself is other) = is.0
point_scalar v cs us (escaped {cs = ds} is) = escape_scalar v ds us is

pub quoted_scalars : (quote : ℕ) (vs cs us : List ℕ) → IsQuoted quote vs cs us → all_scalars vs ≡ true
quoted_scalars quote vs cs us closing = refl
quoted_scalars quote vs cs us (code_point {v = v} {vs = ws} {cs = ds} {ds = es} is other rest) =
    ap (λ b. b && all_scalars ws) (point_scalar v ds (es ++ us) is) ∙ quoted_scalars quote ws es us rest
