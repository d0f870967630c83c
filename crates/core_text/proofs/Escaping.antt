-- Escapes are read as they are spelled.
use Rattle.std.proofs.Common.{◌≡◌, ◌⊎◌, inl, inr, ℕ, ◌+◌, ◌-◌, ◌≤◌, ◌<◌, Bool, true, false, cond, nat_eq, nat_le, min, List, [], ◌∷◌, ◌++◌, length, take, drop, Option, Some, None, refl, ap, sym, ◌∙◌, subst, append_assoc, length-append, arith}
use Rattle.std.specs.List.{prefix_len}
use Rattle.std.specs.Char.{IsScalar}
use Rattle.std.proofs.lemmas.Bool.Decides.{nat_tests}
use Rattle.std.proofs.lemmas.List.{take_at, drop_at}
use Rattle.core_text.specs.declared.escape.Escape.{Escape}
use Rattle.core_text.specs.Bytes.{is_from, is_octal, is_hex, begins, number_from}
use Rattle.core_text.specs.Escapes.{simple_escape, is_scalar, octal_escape, control_escape, braced_escape, hex_escape, longer_escape, escape_by, escape_at}
use Rattle.core_text.specs.Prefixes.{AreAll, BeginsWith}
use Rattle.core_text.specs.Characters.{IsEscape, simple, octal, control, hexadecimal, braced}
use Rattle.core_text.proofs.Standing.{is_equal, split, Stands, stands}
use Rattle.core_text.proofs.Prefixes.{passing, count, count_some, up_to, begins_less}

abbrev escape : ℕ → ℕ → Option Escape
escape v n = Some (record { value = v; length = n })

-- an escape that is read is there
abbrev pub There : List ℕ → Option Escape → Type 0
There s r = Stands {X = Escape} (λ e. e.value) (λ e. e.length) IsEscape s r

there : (s : List ℕ) (v n : ℕ) → BeginsWith (IsEscape v) s n → There s (escape v n)
there s v n b = stands {X = Escape} (λ e. e.value) (λ e. e.length) IsEscape s (record { value = v; length = n }) b

not_there : (s : List ℕ) → There s None
not_there s e is = absurd (cc)

is_some : (n : ℕ) → nat_eq n 0 ≡ false → 0 < n
is_some n h = grind (arith, nat_tests)

octal_there : (s : List ℕ) → There s (octal_escape s)
octal_there s =
    let n = min 3 (prefix_len is_octal s) in
    let u = up_to 3 is_octal s in
    split (There s) (nat_eq n 0) _ _ (λ _. not_there s)
    (λ is. there s (number_from 8 0 (take n s)) n
    (record {
      prefix = u.prefix;
      rest = u.rest;
      is = u.is;
      size = u.size;
      holds = subst (λ ds. IsEscape (number_from 8 0 ds) u.prefix u.rest) (sym (ap (take n) u.is ∙ take_at u.prefix u.rest n u.size))
          (octal u.prefix u.rest u.holds.0 (omega (arith, is_some n is, u.size)) u.holds.1 u.holds.2);
    }))

control_there : (s : List ℕ) → There (94 ∷ s) (control_escape s)
control_there [] = not_there _
control_there (c ∷ s) = split (There _) (is_from 64 95 c) _ _ (λ is. there _ (c - 64) 2 (record { prefix = 94 ∷ c ∷ []; rest = s; is = refl; size = refl; holds = control is })) (λ _. not_there _)

scalar_is : (v : ℕ) → is_scalar v ≡ true → IsScalar v
scalar_is v h = grind (arith, nat_tests)

is_scalar_of : (v : ℕ) → IsScalar v → is_scalar v ≡ true
is_scalar_of v h = grind (arith, nat_tests)

-- the closing brace
closed_by : (us : List ℕ) → begins (λ c. nat_eq c 125) us ≡ true → (ws : List ℕ) × (us ≡ 125 ∷ ws)
closed_by [] h = absurd (cc)
closed_by (c ∷ us) h = (us, ap (λ d. d ∷ us) (sym (is_equal c 125 h)))

braced_there : (s : List ℕ) → There (120 ∷ 123 ∷ s) (braced_escape s)
braced_there s =
    let n = prefix_len is_hex s in
    let v = number_from 16 0 (take n s) in
    let u = passing is_hex s in
    split (There _) (nat_eq n 0) _ _ (λ _. not_there _)
    (λ some. split (There _) (begins (λ c. nat_eq c 125) (drop n s)) _ _
    (λ brace. split (There _) (is_scalar v) _ _
    (λ scalar.
    let k = closed_by (drop n s) brace in
    let rest : u.rest ≡ 125 ∷ k.0 = sym (drop_at u.prefix u.rest n u.size) ∙ sym (ap (drop n) u.is) ∙ k.1 in
    let digits : take n s ≡ u.prefix = ap (take n) u.is ∙ take_at u.prefix u.rest n u.size in
    there _ v (n + 3)
    (record {
      prefix = 120 ∷ 123 ∷ u.prefix ++ 125 ∷ [];
      rest = k.0;
      is = ap (λ t. 120 ∷ 123 ∷ t) (u.is ∙ ap (λ t. u.prefix ++ t) rest ∙ sym (append_assoc u.prefix (125 ∷ []) k.0));
      size = omega (arith, length-append u.prefix (125 ∷ []), u.size);
      holds = subst (λ ds. IsEscape (number_from 16 0 ds) (120 ∷ 123 ∷ u.prefix ++ 125 ∷ []) k.0) (sym digits)
          (braced u.prefix u.holds.0 (omega (arith, is_some n some, u.size)) (subst (λ ds. IsScalar (number_from 16 0 ds)) digits (scalar_is v scalar)));
    }))
    (λ _. not_there _)) (λ _. not_there _))

-- two hexadecimal digits
abbrev pub TwoHex : List ℕ → Type 0
TwoHex s = (c d : ℕ) × (us : List ℕ) × (s ≡ c ∷ d ∷ us) × (is_hex c ≡ true) × (is_hex d ≡ true)

second_hex : (c d : ℕ) (us : List ℕ) (b : Bool) → is_hex c ≡ true → is_hex d ≡ b → 2 ≤ 1 + cond b (1 + prefix_len is_hex us) 0 → TwoHex (c ∷ d ∷ us)
second_hex c d us true first is h = (c, d, us, refl, first, is)
second_hex c d us false first is h = absurd (omega (arith, h))

first_hex : (c : ℕ) (s : List ℕ) (b : Bool) → is_hex c ≡ b → 2 ≤ cond b (1 + prefix_len is_hex s) 0 → TwoHex (c ∷ s)
first_hex c [] true is h = absurd (omega (arith, h))
first_hex c (d ∷ us) true is h = second_hex c d us (is_hex d) is refl h
first_hex c s false is h = absurd (omega (arith, h))

two_hex : (s : List ℕ) → 2 ≤ prefix_len is_hex s → TwoHex s
two_hex [] h = absurd (omega (arith, h))
two_hex (c ∷ s) h = first_hex c s (is_hex c) refl h

at_least : (a b : ℕ) → nat_le a b ≡ true → a ≤ b
at_least a b h = grind (arith, nat_tests)

brace_first : (c : ℕ) (s : List ℕ) → nat_eq c 123 ≡ true → There (120 ∷ c ∷ s) (braced_escape s)
brace_first c s is = subst (λ c. There (120 ∷ c ∷ s) (braced_escape s)) (is_equal c 123 is) (braced_there s)

two_there : (s : List ℕ) → There (120 ∷ s) (cond (nat_le 2 (prefix_len is_hex s)) (escape (number_from 16 0 (take 2 s)) 3) None)
two_there s =
    split (There _) (nat_le 2 (prefix_len is_hex s)) _ _
    (λ is.
    let h = two_hex s (at_least 2 (prefix_len is_hex s) is) in
    subst (λ s. There (120 ∷ s) (escape (number_from 16 0 (take 2 s)) 3)) (sym h.3)
    (there _ _ 3 (record { prefix = 120 ∷ h.0 ∷ h.1 ∷ []; rest = h.2; is = refl; size = refl; holds = hexadecimal h.4 h.5 })))
    (λ _. not_there _)

hex_there : (s : List ℕ) → There (120 ∷ s) (hex_escape s)
hex_there [] = two_there []
hex_there (c ∷ s) = split (There _) (nat_eq c 123) _ _ (λ is. brace_first c s is) (λ _. two_there (c ∷ s))

longer_there : (c : ℕ) (s : List ℕ) → There (c ∷ s) (longer_escape c s)
longer_there c s =
    split (There _) (nat_eq c 94) _ _ (λ is. subst (λ c. There (c ∷ s) (control_escape s)) (is_equal c 94 is) (control_there s))
    (λ _. split (There _) (nat_eq c 120) _ _ (λ is. subst (λ c. There (c ∷ s) (hex_escape s)) (is_equal c 120 is) (hex_there s)) (λ _. octal_there (c ∷ s)))

by_there : (c : ℕ) (s : List ℕ) (v : Option ℕ) → simple_escape c ≡ v → There (c ∷ s) (escape_by v c s)
by_there c s None is = longer_there c s
by_there c s (Some v) is = there _ v 1 (record { prefix = c ∷ []; rest = s; is = refl; size = refl; holds = simple is })

pub escape_there : (s : List ℕ) → There s (escape_at s)
unfolding escape_at
escape_there [] = not_there []
escape_there (c ∷ s) = by_there c s (simple_escape c) refl

-- and an escape that is there is read
not_simple : (c : ℕ) → is_octal c ≡ true → simple_escape c ≡ None
not_simple c is = grind (arith, nat_tests)

other : (c n : ℕ) → (c ≡ n → ⊥) → nat_eq c n ≡ false
other c n h = grind (arith, nat_tests)

octal_apart : (c : ℕ) → is_octal c ≡ true → (c ≤ 55) × (48 ≤ c)
octal_apart c is = (grind (arith, nat_tests), grind (arith, nat_tests))

octal_count : (ds us : List ℕ) → AreAll is_octal ds → length ds ≤ 3 → (length ds < 3 → begins is_octal us ≡ false) → (length ds < 3) ⊎ (length ds ≡ 3) → min 3 (prefix_len is_octal (ds ++ us)) ≡ length ds
octal_count ds us all few ends (inl h) = omega (arith, count is_octal ds us all (ends h), h)
octal_count ds us all few ends (inr h) = omega (arith, count_some is_octal ds us all, h)

few_cases : (n : ℕ) → n ≤ 3 → (n < 3) ⊎ (n ≡ 3)
few_cases n h = grind arith

octal_read : (ds us : List ℕ) → AreAll is_octal ds → 0 < length ds → length ds ≤ 3 → (length ds < 3 → begins is_octal us ≡ false) → octal_escape (ds ++ us) ≡ escape (number_from 8 0 ds) (length ds)
octal_read ds us all some few ends =
    let e = octal_count ds us all few ends (few_cases (length ds) few) in
    let n : nat_eq (length ds) 0 ≡ false = other (length ds) 0 (λ h. omega (arith, h, some)) in
    ap (λ n. cond (nat_eq n 0) None (escape (number_from 8 0 (take n (ds ++ us))) n)) e
    ∙ ap (λ b. cond b None (escape (number_from 8 0 (take (length ds) (ds ++ us))) (length ds))) n
    ∙ ap (λ d. escape (number_from 8 0 d) (length ds)) (take_at ds us (length ds) refl)

octal_first : (ds us : List ℕ) → AreAll is_octal ds → 0 < length ds → escape_at (ds ++ us) ≡ octal_escape (ds ++ us)
unfolding escape_at
octal_first [] us all some = absurd (omega (arith, some))
octal_first (c ∷ ds) us all some =
    let low = octal_apart c all.0 in
    ap (λ v. escape_by v c (ds ++ us)) (not_simple c all.0)
    ∙ ap (λ b. cond b (control_escape (ds ++ us)) (cond (nat_eq c 120) (hex_escape (ds ++ us)) (octal_escape (c ∷ ds ++ us)))) (other c 94 (λ h. omega (arith, h, low.0)))
    ∙ ap (λ b. cond b (hex_escape (ds ++ us)) (octal_escape (c ∷ ds ++ us))) (other c 120 (λ h. omega (arith, h, low.0)))

hex_other : (c : ℕ) → is_hex c ≡ true → nat_eq c 123 ≡ false
hex_other c is = grind (arith, nat_tests)

two_more : (c d : ℕ) (us : List ℕ) → is_hex c ≡ true → is_hex d ≡ true → nat_le 2 (prefix_len is_hex (c ∷ d ∷ us)) ≡ true
two_more c d us first second = let h = count_some is_hex (c ∷ d ∷ []) us (first, (second, tt)) in grind (arith, nat_tests)

braced_read : (ds us : List ℕ) → AreAll is_hex ds → 0 < length ds → IsScalar (number_from 16 0 ds) → braced_escape (ds ++ 125 ∷ us) ≡ escape (number_from 16 0 ds) (length ds + 3)
braced_read ds us all some scalar =
    let s = ds ++ 125 ∷ us in
    let e : prefix_len is_hex s ≡ length ds = count is_hex ds (125 ∷ us) all refl in
    let found : ℕ → Option Escape = λ n. cond (nat_eq n 0) None (cond (begins (λ c. nat_eq c 125) (drop n s)) (cond (is_scalar (number_from 16 0 (take n s))) (escape (number_from 16 0 (take n s)) (n + 3)) None) None) in
    let in_braces : List ℕ → List ℕ → Option Escape = λ t w. cond (begins (λ c. nat_eq c 125) w) (cond (is_scalar (number_from 16 0 t)) (escape (number_from 16 0 t) (length ds + 3)) None) None in
    ap found e ∙ ap (λ b. cond b None (in_braces (take (length ds) s) (drop (length ds) s))) (other (length ds) 0 (λ h. omega (arith, h, some)))
    ∙ ap (λ t. in_braces t (drop (length ds) s)) (take_at ds (125 ∷ us) (length ds) refl) ∙ ap (λ w. in_braces ds w) (drop_at ds (125 ∷ us) (length ds) refl)
    ∙ ap (λ b. cond b (escape (number_from 16 0 ds) (length ds + 3)) None) (is_scalar_of (number_from 16 0 ds) scalar)

escape_size : (v m n : ℕ) → m ≡ n → escape v m ≡ escape v n
escape_size v m n e = ap (λ n. escape v n) e

pub escape_read : (v : ℕ) (cs us : List ℕ) → IsEscape v cs us → escape_at (cs ++ us) ≡ escape v (length cs)
unfolding escape_at
escape_read v cs us (simple {c = c} is) = ap (λ v. escape_by v c us) is
escape_read v cs us (octal ds vs all some few ends) = octal_first ds us all some ∙ octal_read ds us all some few ends
escape_read v cs us (control {c = c} is) = ap (λ b. cond b (escape (c - 64) 2) None) is
escape_read v cs us (hexadecimal {c = c} {d = d} first second) =
    ap (λ b. cond b (braced_escape (d ∷ us)) (cond (nat_le 2 (prefix_len is_hex (c ∷ d ∷ us))) (escape (number_from 16 0 (c ∷ d ∷ [])) 3) None)) (hex_other c first)
    ∙ ap (λ b. cond b (escape (number_from 16 0 (c ∷ d ∷ [])) 3) None) (two_more c d us first second)
escape_read v cs us (braced ds all some scalar) =
    ap braced_escape (append_assoc ds (125 ∷ []) us) ∙ braced_read ds us all some scalar
    ∙ escape_size (number_from 16 0 ds) _ _ (omega (arith, length-append ds (125 ∷ [])))

-- what follows may be cut off
pub escape_cut : (v : ℕ) (cs xs us ws : List ℕ) → IsEscape v cs xs → xs ≡ us ++ ws → IsEscape v cs us
escape_cut v cs xs us ws (simple is) e = simple is
escape_cut v cs xs us ws (octal ds ys all some few ends) e = octal ds us all some few (λ h. begins_less is_octal us ws (ap (begins is_octal) (sym e) ∙ ends h))
escape_cut v cs xs us ws (control is) e = control is
escape_cut v cs xs us ws (hexadecimal first second) e = hexadecimal first second
escape_cut v cs xs us ws (braced ds all some scalar) e = braced ds all some scalar
