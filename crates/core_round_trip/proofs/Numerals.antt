-- Printed integers are spelled as integers are, and printed code points as atoms want them.
use Rattle.std.proofs.Common.{◌≡◌, ℕ, suc, ◌+◌, ◌*◌, ◌<◌, ◌^◌, ◌||◌, ◌==◌, ℤ, pos, negsuc, neg_ℤ, Bool, true, false, cond, nat_le, List, [], ◌∷◌, length, refl, ap, sym, ◌∙◌, subst, arith}
use Rattle.std.specs.Fmt.{digits, decimal, signed_decimal}
use Rattle.std.specs.Char.{digit_value}
use Rattle.std.specs.Str.{IsUtf8}
use Rattle.std.specs.Str.Parse.{AllDigits, digits_value_after}
use Rattle.std.proofs.lemmas.Bool.Decides.{nat_tests}
use Rattle.std.proofs.lemmas.Fmt.{digits_is_IsNumeral, decimal_is_IsNumeral, IsAscii-decimal}
use Rattle.std.proofs.lemmas.Str.{IsUtf8-from_ascii}
use Rattle.std.proofs.lemmas.Str.Ascii.{IsAscii-cons}
use Rattle.core_text.specs.Bytes.{is_digit, is_hex, is_name_byte, begins, digit_value as text_digit, number_from}
use Rattle.core_text.specs.Prefixes.{AreAll, AreDigits, BeginsWithNone}
use Rattle.core_text.specs.Numbers.{IsFraction, none, minus, IsInteger, integer}
use Rattle.core_text.proofs.Fractions.{no_fraction}
use Rattle.core_token.specs.declared.token.Sort.{Sort}
use Rattle.core_token.proofs.Spelled.{most, in_range}
use Rattle.core_token.proofs.Valued.{integer_there}
use Rattle.core_round_trip.specs.Fits.{IsInRange}
use Rattle.core_round_trip.proofs.TreeKinds.{integer_kind}
use Rattle.core_reader.specs.Terminals.{number_of, or_zero, kind_of}

-- ---- what may stand behind a keyword, a variable or an integer

-- a byte that would go on with one of them
abbrev pub goes_on : ℕ → Bool
goes_on c = is_name_byte c || c == 46

abbrev pub IsApart : List ℕ → Type 0
IsApart us = begins goes_on us ≡ false

pub no_name_byte : (us : List ℕ) → IsApart us → begins is_name_byte us ≡ false
no_name_byte [] h = refl
no_name_byte (c ∷ us) h = grind (arith, nat_tests)

no_digit : (us : List ℕ) → IsApart us → begins is_digit us ≡ false
no_digit [] h = refl
no_digit (c ∷ us) h = grind (arith, nat_tests)

no_point : (us : List ℕ) → IsApart us → begins (λ c. c == 46) us ≡ false
no_point [] h = refl
no_point (c ∷ us) h = grind (arith, nat_tests)

if_not : (b : Bool) (n : ℕ) → b ≡ false → cond b n 0 ≡ 0
if_not true n h = cc
if_not false n h = refl

fraction_none : (us : List ℕ) → IsApart us → BeginsWithNone IsFraction us
fraction_none us h = no_fraction us (if_not _ _ (no_point us h))

-- ---- digits

is_decimal : (c : ℕ) → digit_value c < 10 → is_digit c ≡ true
is_decimal c h = grind (arith, nat_tests)

decimal_value : (c : ℕ) → digit_value c < 10 → text_digit c ≡ digit_value c
decimal_value c h = grind (arith, nat_tests)

is_hexadecimal : (c : ℕ) → digit_value c < 16 → is_hex c ≡ true
is_hexadecimal c h = grind (arith, nat_tests)

hexadecimal_value : (c : ℕ) → digit_value c < 16 → text_digit c ≡ digit_value c
hexadecimal_value c h = grind (arith, nat_tests)

pub all_digits : (ds : List ℕ) → AllDigits 10 ds → AreAll is_digit ds
all_digits [] h = tt
all_digits (d ∷ ds) h = (is_decimal d h.0, all_digits ds h.1)

pub all_hex : (ds : List ℕ) → AllDigits 16 ds → AreAll is_hex ds
all_hex [] h = tt
all_hex (d ∷ ds) h = (is_hexadecimal d h.0, all_hex ds h.1)

number_is : (ds : List ℕ) (n : ℕ) → AllDigits 10 ds → number_from 10 n ds ≡ digits_value_after 10 n ds
number_is [] n h = refl
number_is (d ∷ ds) n h = ap (λ v. number_from 10 (n * 10 + v) ds) (decimal_value d h.0) ∙ number_is ds (n * 10 + digit_value d) h.1

hex_number_is : (ds : List ℕ) (n : ℕ) → AllDigits 16 ds → number_from 16 n ds ≡ digits_value_after 16 n ds
hex_number_is [] n h = refl
hex_number_is (d ∷ ds) n h = ap (λ v. number_from 16 (n * 16 + v) ds) (hexadecimal_value d h.0) ∙ hex_number_is ds (n * 16 + digit_value d) h.1

-- the digits of a code point in base 16
pub record HexDigits (v : ℕ) (ds : List ℕ) : Type 0 where
  pub all : AreAll is_hex ds
  pub some : 0 < length ds
  pub number : number_from 16 0 ds ≡ v

pub hex_digits : (v : ℕ) → v < 16 ^ 64 → HexDigits v (digits 16 false v)
hex_digits v small =
    let r = digits_is_IsNumeral 16 false (omega arith) (omega arith) v small in
    record { all = all_hex (digits 16 false v) r.0.1; some = r.0.0; number = hex_number_is (digits 16 false v) 0 r.0.1 ∙ r.1 }

-- ---- integers

decimal_digits : (n : ℕ) (us : List ℕ) → n < 2 ^ 64 → IsApart us → AreDigits (decimal n) us
decimal_digits n us small apart = let r = decimal_is_IsNumeral n small in (r.0.0, (all_digits (decimal n) r.0.1, no_digit us apart))

decimal_number : (n : ℕ) → n < 2 ^ 64 → number_from 10 0 (decimal n) ≡ n
decimal_number n small = let r = decimal_is_IsNumeral n small in number_is (decimal n) 0 r.0.1 ∙ r.1

small_positive : (n : ℕ) → IsInRange (pos n) → n < 2 ^ 64
small_positive n h = let e : nat_le n (most false) ≡ true = sym (in_range false n) ∙ h in grind (arith, nat_tests)

small_negative : (n : ℕ) → IsInRange (negsuc n) → suc n < 2 ^ 64
small_negative n h = let e : nat_le (suc n) (most true) ≡ true = sym (in_range true (suc n)) ∙ h in grind (arith, nat_tests)

pub integer_spelled : (n : ℤ) (us : List ℕ) → IsInRange n → IsApart us → IsInteger n (signed_decimal n) us
integer_spelled (pos n) us few apart =
    let small = small_positive n few in
    subst (λ m. IsInteger (pos m) (decimal n) us) (decimal_number n small) (integer (decimal n) us none (decimal_digits n us small apart) (fraction_none us apart))
integer_spelled (negsuc n) us few apart =
    let small = small_negative n few in
    subst (λ m. IsInteger (neg_ℤ (pos m)) (45 ∷ decimal (suc n)) us) (decimal_number (suc n) small) (integer (decimal (suc n)) us minus (decimal_digits (suc n) us small apart) (fraction_none us apart))

begins_digit : (ds us : List ℕ) → AreDigits ds us → begins is_digit ds ≡ true
begins_digit [] us h = absurd (omega (arith, h.0))
begins_digit (d ∷ ds) us h = h.1.0.0

pub integer_kind_is : (n : ℤ) → IsInRange n → kind_of Sort.Integer (signed_decimal n) ≡ integer_kind n
integer_kind_is (pos n) few =
    let small = small_positive n few in
    ap (λ o. number_of (decimal n) (or_zero o)) (integer_there (pos n) (decimal n) [] (integer_spelled (pos n) [] few refl) few)
    ∙ ap (λ b. cond b (Rattle.core_grammar.specs.declared.terminal.Kind.Kind.Natural n) (Rattle.core_grammar.specs.declared.terminal.Kind.Kind.Integer (pos n))) (begins_digit (decimal n) [] (decimal_digits n [] small refl))
integer_kind_is (negsuc n) few = ap (λ o. number_of (45 ∷ decimal (suc n)) (or_zero o)) (integer_there (negsuc n) (45 ∷ decimal (suc n)) [] (integer_spelled (negsuc n) [] few refl) few)

pub integer_utf8 : (n : ℤ) → IsInRange n → IsUtf8 (signed_decimal n)
integer_utf8 (pos n) few = IsUtf8-from_ascii (decimal n) (IsAscii-decimal n (small_positive n few))
integer_utf8 (negsuc n) few = IsUtf8-from_ascii (45 ∷ decimal (suc n)) (IsAscii-cons 45 (decimal (suc n)) (omega arith) (IsAscii-decimal (suc n) (small_negative n few)))
