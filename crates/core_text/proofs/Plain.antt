-- Visible ASCII characters: they are UTF-8, and one column each. All tokens but those in quotes and behind `$` are made of them, and so are escapes.
use Rattle.std.proofs.Common.{◌≡◌, ℕ, suc, ◌+◌, ◌<◌, Bool, true, false, cond, ◌||◌, nat_eq, ℤ, List, [], ◌∷◌, ◌++◌, length, Option, Some, None, refl, ap, ◌∙◌, subst, arith}
use Rattle.std.specs.Str.{IsUtf8}
use Rattle.std.proofs.lemmas.Bool.Decides.{nat_tests}
use Rattle.std.proofs.lemmas.Str.{IsUtf8-append, IsUtf8-encode, IsUtf8-nil}
use Rattle.hipe_terms.specs.declared.place.Place.{Place}
use Rattle.core_text.specs.Bytes.{is_from, is_digit, is_octal, is_hex}
use Rattle.core_text.specs.Places.{moved, place_after}
use Rattle.core_text.specs.Escapes.{simple_escape}
use Rattle.core_text.specs.Prefixes.{AreAll}
use Rattle.core_text.specs.Characters.{IsCharacter, IsEscape, simple, octal, control, hexadecimal, braced, IsCodePoint, itself, escaped, IsQuoted, closing, code_point}
use Rattle.core_text.specs.Numbers.{IsSign, none, plus, minus, IsExponent, exponent, IsFraction, plain, with_exponent, IsInteger, integer, IsFloat, float}
use Rattle.core_text.proofs.Encodings.{one_is}

abbrev pub is_plain : ℕ → Bool
is_plain c = is_from 33 126 c

-- lists of them
pub all_both : (test : ℕ → Bool) (cs ds : List ℕ) → AreAll test cs → AreAll test ds → AreAll test (cs ++ ds)
all_both test [] ds g h = h
all_both test (c ∷ cs) ds g h = (g.0, all_both test cs ds g.1 h)

pub all_as : (test other : ℕ → Bool) → ((c : ℕ) → test c ≡ true → other c ≡ true) → (cs : List ℕ) → AreAll test cs → AreAll other cs
all_as test other f [] h = tt
all_as test other f (c ∷ cs) h = (f c h.0, all_as test other f cs h.1)

-- they are UTF-8
pub character_utf8 : (v : ℕ) (cs : List ℕ) → IsCharacter v cs → IsUtf8 cs
character_utf8 v cs is = subst IsUtf8 is.1 (IsUtf8-encode v is.0)

plain_low : (c : ℕ) → is_plain c ≡ true → c < 128
plain_low c is = grind (arith, nat_tests)

pub low_utf8 : (c : ℕ) → c < 128 → IsUtf8 (c ∷ [])
low_utf8 c low = character_utf8 c (c ∷ []) (one_is c low)

pub plain_utf8 : (cs : List ℕ) → AreAll is_plain cs → IsUtf8 cs
plain_utf8 [] h = IsUtf8-nil
plain_utf8 (c ∷ cs) h = IsUtf8-append (c ∷ []) cs (low_utf8 c (plain_low c h.0)) (plain_utf8 cs h.1)

-- and one column each
column_more : (p : Place) (c : ℕ) → is_plain c ≡ true → moved p c ≡ record { line = p.line; col = p.col + 1 }
column_more p c is = grind (arith, nat_tests)

abbrev pub columns_more : Place → ℕ → Place
columns_more p n = record { line = p.line; col = p.col + n }

further : (p : Place) (n : ℕ) → columns_more (columns_more p 1) n ≡ columns_more p (suc n)
further p n = let e : p.col + 1 + n ≡ p.col + suc n = omega arith in ap (λ c. record { line = p.line; col = c }) e

nowhere : (p : Place) → p ≡ columns_more p 0
nowhere p = let e : p.col ≡ p.col + 0 = omega arith in ap (λ c. record { line = p.line; col = c }) e

pub plain_place : (p : Place) (cs : List ℕ) → AreAll is_plain cs → place_after p cs ≡ columns_more p (length cs)
plain_place p [] h = nowhere p
plain_place p (c ∷ cs) h = ap (λ q. place_after q cs) (column_more p c h.0) ∙ plain_place (columns_more p 1) cs h.1 ∙ further p (length cs)

-- escapes
equal : (c d : ℕ) → nat_eq c d ≡ true → d ≡ c
equal c d h = grind (arith, nat_tests)

simple_by : (c d w v : ℕ) (r : Option ℕ) (b : Bool) → nat_eq c d ≡ b → is_plain d ≡ true → (r ≡ Some v → is_plain c ≡ true) → cond b (Some w) r ≡ Some v → is_plain c ≡ true
simple_by c d w v r true is fine rest h = subst (λ c. is_plain c ≡ true) (equal c d is) fine
simple_by c d w v r false is fine rest h = rest h

-- the rows of the table
plain_row : (c d w v : ℕ) (r : Option ℕ) → is_plain d ≡ true → (r ≡ Some v → is_plain c ≡ true) → cond (nat_eq c d) (Some w) r ≡ Some v → is_plain c ≡ true
plain_row c d w v r fine rest h = simple_by c d w v r (nat_eq c d) refl fine rest h

plain_quote : (c v : ℕ) → cond (nat_eq c 34 || nat_eq c 39 || nat_eq c 92) (Some c) None ≡ Some v → is_plain c ≡ true
plain_quote c v h = grind (arith, nat_tests)

plain_simple : (c v : ℕ) → simple_escape c ≡ Some v → is_plain c ≡ true
plain_simple c v =
    plain_row c 98 8 v _ refl (plain_row c 100 127 v _ refl (plain_row c 101 27 v _ refl (plain_row c 102 12 v _ refl (plain_row c 110 10 v _ refl
    (plain_row c 114 13 v _ refl (plain_row c 115 32 v _ refl (plain_row c 116 9 v _ refl (plain_row c 118 11 v _ refl (plain_quote c v)))))))))

plain_octal : (c : ℕ) → is_octal c ≡ true → is_plain c ≡ true
plain_octal c is = grind (arith, nat_tests)

plain_hex : (c : ℕ) → is_hex c ≡ true → is_plain c ≡ true
plain_hex c is = grind (arith, nat_tests)

plain_digit : (c : ℕ) → is_digit c ≡ true → is_plain c ≡ true
plain_digit c is = grind (arith, nat_tests)

plain_control : (c : ℕ) → is_from 64 95 c ≡ true → is_plain c ≡ true
plain_control c is = grind (arith, nat_tests)

pub escape_plain : (v : ℕ) (cs us : List ℕ) → IsEscape v cs us → AreAll is_plain cs
escape_plain v cs us (simple {c = c} {v = w} is) = (plain_simple c w is, tt)
escape_plain v cs us (octal ds vs all some few ends) = all_as is_octal is_plain plain_octal ds all
escape_plain v cs us (control {c = c} is) = (refl, (plain_control c is, tt))
escape_plain v cs us (hexadecimal {c = c} {d = d} is also) = (refl, (plain_hex c is, (plain_hex d also, tt)))
escape_plain v cs us (braced ds all some scalar) = (refl, (refl, all_both is_plain ds (125 ∷ []) (all_as is_hex is_plain plain_hex ds all) (refl, tt)))

-- code points
pub point_utf8 : (v : ℕ) (cs us : List ℕ) → IsCodePoint v cs us → IsUtf8 cs
point_utf8 v cs us (itself is other) = character_utf8 v cs is
point_utf8 v cs us (escaped {cs = ds} is) = plain_utf8 (92 ∷ ds) (refl, escape_plain v ds us is)

pub quoted_utf8 : (quote : ℕ) (vs cs us : List ℕ) → quote < 128 → IsQuoted quote vs cs us → IsUtf8 cs
quoted_utf8 quote vs cs us low closing = low_utf8 quote low
quoted_utf8 quote vs cs us low (code_point {v = v} {vs = ws} {cs = es} {ds = ds} is other rest) =
    IsUtf8-append es ds (point_utf8 v es (ds ++ us) is) (quoted_utf8 quote ws ds us low rest)

-- numbers
sign_plain : (ss : List ℕ) (b : Bool) → IsSign ss b → AreAll is_plain ss
sign_plain ss b none = tt
sign_plain ss b plus = (refl, tt)
sign_plain ss b minus = (refl, tt)

digits_plain : (ds : List ℕ) → AreAll is_digit ds → AreAll is_plain ds
digits_plain ds all = all_as is_digit is_plain plain_digit ds all

letter_plain : (e : ℕ) → (nat_eq e 101 || nat_eq e 69) ≡ true → is_plain e ≡ true
letter_plain e is = grind (arith, nat_tests)

exponent_plain : (cs us : List ℕ) → IsExponent cs us → AreAll is_plain cs
exponent_plain cs us (exponent {e = e} {ss = ss} {b = b} ds vs letter is digits) =
    (letter_plain e letter, all_both is_plain ss ds (sign_plain ss b is) (digits_plain ds digits.1.0))

fraction_plain : (cs us : List ℕ) → IsFraction cs us → AreAll is_plain cs
fraction_plain cs us (plain {ds = ds} digits ends) = (refl, digits_plain ds digits.1.0)
fraction_plain cs us (with_exponent ds es vs digits is) = (refl, all_both is_plain ds es (digits_plain ds digits.1.0) (exponent_plain es vs is))

pub integer_plain : (n : ℤ) (cs us : List ℕ) → IsInteger n cs us → AreAll is_plain cs
integer_plain n cs us (integer {ss = ss} {b = b} ds vs is digits ends) = all_both is_plain ss ds (sign_plain ss b is) (digits_plain ds digits.1.0)

pub float_plain : (cs us : List ℕ) → IsFloat cs us → AreAll is_plain cs
float_plain cs us (float {ss = ss} {b = b} ds fs vs is digits h) =
    all_both is_plain (ss ++ ds) fs (all_both is_plain ss ds (sign_plain ss b is) (digits_plain ds digits.1.0)) (fraction_plain fs vs h)
