-- Exponents and fractions are read as they are spelled.
use Rattle.std.proofs.Common.{◌≡◌, ℕ, zero, suc, ◌+◌, ◌<◌, Bool, true, false, cond, ◌||◌, nat_eq, List, [], ◌∷◌, ◌++◌, length, drop, refl, ap, sym, ◌∙◌, subst, append_assoc, length-append, arith}
use Rattle.std.specs.List.{prefix_len}
use Rattle.std.proofs.lemmas.Bool.Decides.{nat_tests}
use Rattle.std.proofs.lemmas.List.{drop_at}
use Rattle.core_text.specs.Bytes.{is_digit}
use Rattle.core_text.specs.Fractions.{is_sign_byte, sign_length, exponent_length, fraction_length}
use Rattle.core_text.specs.Prefixes.{BeginsWith, BeginsWithNone, AreDigits}
use Rattle.core_text.specs.Numbers.{IsSign, none, plus, minus, IsExponent, exponent, IsFraction, plain, with_exponent}
use Rattle.core_text.proofs.Prefixes.{passing, count}
use Rattle.core_text.proofs.Standing.{is_equal}

is_some : (n : ℕ) → nat_eq n 0 ≡ false → 0 < n
is_some n h = grind (arith, nat_tests)

not_zero : (n : ℕ) → 0 < n → nat_eq n 0 ≡ false
not_zero n h = grind (arith, nat_tests)

behind_bytes : (k : ℕ) (c : ℕ) (t : List ℕ) → drop (k + 1) (c ∷ t) ≡ drop k t
behind_bytes k c t = let e : k + 1 ≡ suc k = omega arith in ap (λ n. drop n (c ∷ t)) e

-- a sign or none at the beginning
pub record Signed (s : List ℕ) : Type 0 where
  pub negative : Bool
  pub there : BeginsWith (λ ss us. IsSign ss negative) s (sign_length s)

plus_is : (c : ℕ) → nat_eq c 45 ≡ false → is_sign_byte c ≡ true → 43 ≡ c
plus_is c other is = grind (arith, nat_tests)

signed_by : (c : ℕ) (s : List ℕ) (b : Bool) → nat_eq c 45 ≡ b → is_sign_byte c ≡ true → (n : Bool) × BeginsWith (λ ss us. IsSign ss n) (c ∷ s) 1
signed_by c s true dash is = (true, record { prefix = 45 ∷ []; rest = s; is = ap (λ c. c ∷ s) (sym (is_equal c 45 dash)); size = refl; holds = minus })
signed_by c s false other is = (false, record { prefix = 43 ∷ []; rest = s; is = ap (λ c. c ∷ s) (sym (plus_is c other is)); size = refl; holds = plus })

signed_cases : (c : ℕ) (s : List ℕ) (b : Bool) → is_sign_byte c ≡ b → (n : Bool) × BeginsWith (λ ss us. IsSign ss n) (c ∷ s) (cond b 1 0)
signed_cases c s true is = signed_by c s (nat_eq c 45) refl is
signed_cases c s false is = (false, record { prefix = []; rest = c ∷ s; is = refl; size = refl; holds = none })

sign_there : (s : List ℕ) → Signed s
sign_there [] = record { negative = false; there = record { prefix = []; rest = []; is = refl; size = refl; holds = none } }
sign_there (c ∷ s) = let g = signed_cases c s (is_sign_byte c) refl in record { negative = g.0; there = g.1 }

digit_no_sign : (c : ℕ) → is_digit c ≡ true → is_sign_byte c ≡ false
digit_no_sign c is = grind (arith, nat_tests)

unsigned : (ds us : List ℕ) → AreDigits ds us → sign_length (ds ++ us) ≡ 0
unsigned [] us h = absurd (omega (arith, h.0))
unsigned (d ∷ ds) us h = ap (λ b. cond b 1 0) (digit_no_sign d h.1.0.0)

pub sign_read : (ss ds us : List ℕ) (b : Bool) → IsSign ss b → AreDigits ds us → sign_length (ss ++ (ds ++ us)) ≡ length ss
sign_read ss ds us b none h = unsigned ds us h
sign_read ss ds us b plus h = refl
sign_read ss ds us b minus h = refl

-- digits at the beginning
pub digits_there : (s : List ℕ) → 0 < prefix_len is_digit s → BeginsWith AreDigits s (prefix_len is_digit s)
digits_there s some = let f = passing is_digit s in record { prefix = f.prefix; rest = f.rest; is = f.is; size = f.size; holds = (omega (arith, some, f.size), f.holds) }

digits_read : (ds us : List ℕ) → AreDigits ds us → prefix_len is_digit (ds ++ us) ≡ length ds
digits_read ds us h = count is_digit ds us h.1.0 h.1.1

-- exponents
abbrev pub is_mark : ℕ → Bool
is_mark c = nat_eq c 101 || nat_eq c 69

-- the exponent's length by that of its sign
abbrev pub scaled : ℕ → ℕ → ℕ
scaled n k = cond (nat_eq n 0) 0 (n + (k + 1))

scaled_there : (c : ℕ) (t : List ℕ) (k n : ℕ) (x : Bool) → nat_eq n 0 ≡ x → is_mark c ≡ true → (g : Signed t) → k ≡ sign_length t → n ≡ prefix_len is_digit (drop (k + 1) (c ∷ t))
    → 0 < cond x 0 (n + (k + 1)) → BeginsWith IsExponent (c ∷ t) (cond x 0 (n + (k + 1)))
scaled_there c t k n true nothing mark g signs digits some = absurd (omega (arith, some))
scaled_there c t k n false is mark g signs digits some =
    let s = g.there in
    let rest : drop (k + 1) (c ∷ t) ≡ s.rest = behind_bytes k c t ∙ ap (drop k) s.is ∙ drop_at s.prefix s.rest k (omega (arith, s.size, signs)) in
    let d = digits_there (drop (k + 1) (c ∷ t)) (omega (arith, digits, is_some n is)) in
    record {
      prefix = c ∷ s.prefix ++ d.prefix;
      rest = d.rest;
      is = ap (λ u. c ∷ u) (s.is ∙ ap (λ u. s.prefix ++ u) (sym rest ∙ d.is) ∙ sym (append_assoc s.prefix d.prefix d.rest));
      size = omega (arith, length-append s.prefix d.prefix, s.size, d.size, signs, digits);
      holds = exponent d.prefix d.rest mark s.holds d.holds;
    }

exponent_by : (c : ℕ) (t : List ℕ) (b : Bool) → is_mark c ≡ b
    → 0 < cond b (scaled (prefix_len is_digit (drop (sign_length t + 1) (c ∷ t))) (sign_length t)) 0
    → BeginsWith IsExponent (c ∷ t) (cond b (scaled (prefix_len is_digit (drop (sign_length t + 1) (c ∷ t))) (sign_length t)) 0)
exponent_by c t true is some = scaled_there c t (sign_length t) (prefix_len is_digit (drop (sign_length t + 1) (c ∷ t))) _ refl is (sign_there t) refl refl some
exponent_by c t false is some = absurd (omega (arith, some))

exponent_there : (s : List ℕ) → 0 < exponent_length s → BeginsWith IsExponent s (exponent_length s)
exponent_there [] some = absurd (omega (arith, some))
exponent_there (c ∷ t) some = exponent_by c t (is_mark c) refl some

scaled_read : (n k m : ℕ) → 0 < n → n + (k + 1) ≡ m → scaled n k ≡ m
scaled_read n k m some e = ap (λ b. cond b 0 (n + (k + 1))) (not_zero n some) ∙ e

exponent_read : (cs us : List ℕ) → IsExponent cs us → exponent_length (cs ++ us) ≡ length cs
exponent_read cs us (exponent {e = e} {ss = ss} {b = b} ds vs mark sign digits) =
    let t = (ss ++ ds) ++ us in
    let rest : t ≡ ss ++ (ds ++ us) = append_assoc ss ds us in
    let k : sign_length t ≡ length ss = ap sign_length rest ∙ sign_read ss ds us b sign digits in
    let n : prefix_len is_digit (drop (length ss + 1) (e ∷ t)) ≡ length ds =
    ap (prefix_len is_digit) (behind_bytes (length ss) e t ∙ ap (drop (length ss)) rest ∙ drop_at ss (ds ++ us) (length ss) refl) ∙ digits_read ds us digits in
    ap (λ b. cond b (scaled (prefix_len is_digit (drop (sign_length t + 1) (e ∷ t))) (sign_length t)) 0) mark
    ∙ ap (λ k. scaled (prefix_len is_digit (drop (k + 1) (e ∷ t))) k) k ∙ ap (λ n. scaled n (length ss)) n
    ∙ scaled_read (length ds) (length ss) _ digits.0 (omega (arith, length-append ss ds))

exponent_some : (cs us : List ℕ) → IsExponent cs us → 0 < length cs
exponent_some cs us (exponent ds vs mark sign digits) = omega arith

no_exponent : (s : List ℕ) → exponent_length s ≡ 0 → BeginsWithNone IsExponent s
no_exponent s is cs us e h = omega (arith, is, ap exponent_length e, exponent_read cs us h, exponent_some cs us h)

none_by : (s : List ℕ) (n : ℕ) → exponent_length s ≡ n → BeginsWithNone IsExponent s → n ≡ 0
none_by s zero is h = refl
none_by s (suc n) is h = let b = exponent_there s (omega (arith, is)) in absurd (h b.prefix b.rest b.is b.holds)

exponent_none : (s : List ℕ) → BeginsWithNone IsExponent s → exponent_length s ≡ 0
exponent_none s h = none_by s (exponent_length s) refl h

-- fractions
abbrev pub with_digits : ℕ → List ℕ → ℕ
with_digits n s = cond (nat_eq n 0) 0 (n + 1 + exponent_length (drop (n + 1) s))

digits_then : (t : List ℕ) (n x : ℕ) (d : BeginsWith AreDigits t n) → exponent_length d.rest ≡ x → BeginsWith IsFraction (46 ∷ t) (n + 1 + x)
digits_then t n zero d is =
    record { prefix = 46 ∷ d.prefix; rest = d.rest; is = ap (λ u. 46 ∷ u) d.is; size = omega (arith, d.size); holds = plain d.holds (no_exponent d.rest is) }
digits_then t n (suc x) d is =
    let e = exponent_there d.rest (omega (arith, is)) in
    record {
      prefix = 46 ∷ d.prefix ++ e.prefix;
      rest = e.rest;
      is = ap (λ u. 46 ∷ u) (d.is ∙ ap (λ u. d.prefix ++ u) e.is ∙ sym (append_assoc d.prefix e.prefix e.rest));
      size = omega (arith, length-append d.prefix e.prefix, d.size, e.size, is);
      holds = with_exponent d.prefix e.prefix e.rest (subst (AreDigits d.prefix) e.is d.holds) e.holds;
    }

fraction_digits : (t : List ℕ) (n : ℕ) (b : Bool) → nat_eq n 0 ≡ b → n ≡ prefix_len is_digit t → 0 < cond b 0 (n + 1 + exponent_length (drop (n + 1) (46 ∷ t)))
    → BeginsWith IsFraction (46 ∷ t) (cond b 0 (n + 1 + exponent_length (drop (n + 1) (46 ∷ t))))
fraction_digits t n true is digits some = absurd (omega (arith, some))
fraction_digits t n false is digits some =
    let d = subst (BeginsWith AreDigits t) (sym digits) (digits_there t (omega (arith, digits, is_some n is))) in
    let rest : d.rest ≡ drop (n + 1) (46 ∷ t) = sym (behind_bytes n 46 t ∙ ap (drop n) d.is ∙ drop_at d.prefix d.rest n d.size) in
    digits_then t n _ d (ap exponent_length rest)

fraction_by : (c : ℕ) (t : List ℕ) (b : Bool) → nat_eq c 46 ≡ b → 0 < cond b (with_digits (prefix_len is_digit t) (c ∷ t)) 0
    → BeginsWith IsFraction (c ∷ t) (cond b (with_digits (prefix_len is_digit t) (c ∷ t)) 0)
fraction_by c t true is some =
    let P : ℕ → Type 0 = λ c. 0 < with_digits (prefix_len is_digit t) (c ∷ t) → BeginsWith IsFraction (c ∷ t) (with_digits (prefix_len is_digit t) (c ∷ t)) in
    subst P (is_equal c 46 is) (λ h. fraction_digits t (prefix_len is_digit t) _ refl refl h) some
fraction_by c t false is some = absurd (omega (arith, some))

pub fraction_there : (s : List ℕ) → 0 < fraction_length s → BeginsWith IsFraction s (fraction_length s)
fraction_there [] some = absurd (omega (arith, some))
fraction_there (c ∷ t) some = fraction_by c t (nat_eq c 46) refl some

-- a point and digits, and x bytes of an exponent
point_read : (ds t : List ℕ) (x : ℕ) → AreDigits ds t → exponent_length t ≡ x → fraction_length (46 ∷ ds ++ t) ≡ length ds + 1 + x
point_read ds t x digits is =
    ap (λ n. with_digits n (46 ∷ ds ++ t)) (digits_read ds t digits)
    ∙ ap (λ b. cond b 0 (length ds + 1 + exponent_length (drop (length ds + 1) (46 ∷ ds ++ t)))) (not_zero (length ds) digits.0)
    ∙ ap (λ u. length ds + 1 + exponent_length u) (behind_bytes (length ds) 46 (ds ++ t) ∙ drop_at ds t (length ds) refl) ∙ ap (λ x. length ds + 1 + x) is

pub fraction_read : (cs us : List ℕ) → IsFraction cs us → fraction_length (cs ++ us) ≡ length cs
fraction_read cs us (plain {ds = ds} digits ends) = point_read ds us 0 digits (exponent_none us ends) ∙ omega arith
fraction_read cs us (with_exponent ds es vs digits is) =
    ap (λ t. fraction_length (46 ∷ t)) (append_assoc ds es us) ∙ point_read ds (es ++ us) (length es) digits (exponent_read es us is) ∙ omega (arith, length-append ds es)

pub fraction_some : (cs us : List ℕ) → IsFraction cs us → 0 < length cs
fraction_some cs us (plain digits ends) = omega arith
fraction_some cs us (with_exponent ds es vs digits is) = omega arith

pub no_fraction : (s : List ℕ) → fraction_length s ≡ 0 → BeginsWithNone IsFraction s
no_fraction s is cs us e h = omega (arith, is, ap fraction_length e, fraction_read cs us h, fraction_some cs us h)

no_fraction_by : (s : List ℕ) (n : ℕ) → fraction_length s ≡ n → BeginsWithNone IsFraction s → n ≡ 0
no_fraction_by s zero is h = refl
no_fraction_by s (suc n) is h = let b = fraction_there s (omega (arith, is)) in absurd (h b.prefix b.rest b.is b.holds)

pub fraction_none : (s : List ℕ) → BeginsWithNone IsFraction s → fraction_length s ≡ 0
fraction_none s h = no_fraction_by s (fraction_length s) refl h
