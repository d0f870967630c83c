-- Tokens are UTF-8, and those that aren't in quotes or behind `$` are one column a byte.
use Rattle.std.proofs.Common.{◌≡◌, ◌⊎◌, inl, inr, ℕ, ◌+◌, ◌<◌, Bool, true, false, cond, nat_eq, ◌||◌, List, [], ◌∷◌, length, take, Ok, refl, ap, sym, ◌∙◌, subst, length-append, arith}
use Rattle.std.specs.Prelude.{codes, slice_index}
use Rattle.std.specs.List.{prefix_len, AllByRecursion}
use Rattle.std.specs.Str.{IsUtf8}
use Rattle.std.proofs.lemmas.Bool.Decides.{nat_tests}
use Rattle.std.proofs.lemmas.List.{take_at}
use Rattle.std.proofs.lemmas.Str.{IsUtf8-append}
use Rattle.hipe_terms.specs.declared.place.Place.{Place}
use Rattle.core_text.specs.Bytes.{is_space, is_upper, is_lower, is_name_byte}
use Rattle.core_text.specs.Places.{moved, place_after}
use Rattle.core_text.specs.Utf8.{ArePassed}
use Rattle.core_text.specs.Prefixes.{AreAll, BeginsWith}
use Rattle.core_text.proofs.Plain.{is_plain, all_as, low_utf8, plain_utf8, columns_more, plain_place, point_utf8, quoted_utf8, integer_plain, float_plain}
use Rattle.core_token.specs.declared.token.Sort.{Sort}
use Rattle.core_token.specs.declared.token.Sort.TheVariants.{Atom, Variable, Integer, Float, Character, Text, Word, Sign}
use Rattle.core_token.specs.declared.lexeme.Lexeme.{Lexeme}
use Rattle.core_token.specs.Lexemes.{is_short_sign, lexeme_at}
use Rattle.core_token.specs.Spelling.{IsAtom, quoted, Spells, atom, text, character, variable, integer, float, keyword, sign, dash_sign}
use Rattle.core_token.proofs.Lexing.{is_name, name_of, byte_among, both, equal}
use Rattle.core_token.proofs.Spelled.{Told, told}

abbrev pub ArePlain : List ℕ → Type 0
ArePlain = AreAll is_plain

-- keywords
plain_name_byte : (c : ℕ) → is_name_byte c ≡ true → is_plain c ≡ true
plain_name_byte c is = grind (arith, nat_tests)

plain_lower : (c : ℕ) → is_lower c ≡ true → is_plain c ≡ true
plain_lower c is = grind (arith, nat_tests)

plain_first : (c : ℕ) → (is_upper c || nat_eq c 95) ≡ true → is_plain c ≡ true
plain_first c is = grind (arith, nat_tests)

counted : (test : ℕ → Bool) (c : ℕ) (t : List ℕ) (b : Bool) → test c ≡ b → cond b (1 + prefix_len test t) 0 ≡ length (c ∷ t) → (test c ≡ true) × (prefix_len test t ≡ length t)
counted test c t true is h = (is, omega (arith, h))
counted test c t false is h = absurd (omega (arith, h))

all_counted : (test : ℕ → Bool) (cs : List ℕ) → prefix_len test cs ≡ length cs → AreAll test cs
all_counted test [] h = tt
all_counted test (c ∷ t) h = let g = counted test c t (test c) refl h in (g.0, all_counted test t g.1)

name_plain : (cs : List ℕ) → is_name cs ≡ true → ArePlain cs
name_plain [] is = absurd (cc)
name_plain (c ∷ t) is =
    let h = both (is_lower c) (nat_eq (prefix_len is_name_byte t) (length t)) is in
    (plain_lower c h.0, all_as is_name_byte is_plain plain_name_byte t (all_counted is_name_byte t (equal _ _ h.1)))

-- signs
abbrev pub IsPlain : ℕ → Type 0
IsPlain c = is_plain c ≡ true

all_signs : AllByRecursion IsPlain (codes "(){}[]<>,=/:|#~")
all_signs = (refl, (refl, (refl, (refl, (refl, (refl, (refl, (refl, (refl, (refl, (refl, (refl, (refl, (refl, (refl, tt)))))))))))))))

plain_sign : (c : ℕ) → is_short_sign c ≡ true → is_plain c ≡ true
plain_sign c is = byte_among IsPlain c (codes "(){}[]<>,=/:|#~") all_signs is

plain_dash : (d : ℕ) → (nat_eq d 62 || nat_eq d 124) ≡ true → is_plain d ≡ true
plain_dash d is = grind (arith, nat_tests)

-- the sorts whose tokens stand in quotes or behind `$`
abbrev pub is_open : Sort → Bool
is_open Atom = true
is_open Text = true
is_open Character = true
is_open Variable = false
is_open Integer = false
is_open Float = false
is_open Word = false
is_open Sign = false

pub closed_sort : (sort : Sort) → (sort ≡ Variable) ⊎ (sort ≡ Integer) ⊎ (sort ≡ Float) ⊎ (sort ≡ Word) ⊎ (sort ≡ Sign) → is_open sort ≡ false
closed_sort sort (inl e) = ap is_open e
closed_sort sort (inr (inl e)) = ap is_open e
closed_sort sort (inr (inr (inl e))) = ap is_open e
closed_sort sort (inr (inr (inr (inl e)))) = ap is_open e
closed_sort sort (inr (inr (inr (inr e)))) = ap is_open e

no_open : true ≡ false → ⊥
no_open h = cc

spelled_plain : (sort : Sort) (cs us : List ℕ) → Spells sort cs us → is_open sort ≡ false → ArePlain cs
spelled_plain sort cs us (atom is few) h = absurd (no_open h)
spelled_plain sort cs us (text is) h = absurd (no_open h)
spelled_plain sort cs us (character is) h = absurd (no_open h)
spelled_plain sort cs us (variable {c = c} {cs = ds} first all) h = (plain_first c first, all_as is_name_byte is_plain plain_name_byte ds all.0)
spelled_plain sort cs us (integer {n = n} is few) h = integer_plain n cs us is
spelled_plain sort cs us (float is) h = float_plain cs us is
spelled_plain sort cs us (keyword is ends) h = name_plain cs (name_of cs is)
spelled_plain sort cs us (sign {c = c} is) h = (plain_sign c is, tt)
spelled_plain sort cs us (dash_sign {d = d} is) h = (refl, (plain_dash d is, tt))

-- all tokens are UTF-8
marked_utf8 : (c : ℕ) (cs : List ℕ) → c < 128 → IsUtf8 cs → IsUtf8 (c ∷ cs)
marked_utf8 c cs low is = IsUtf8-append (c ∷ []) cs (low_utf8 c low) is

atom_utf8 : (vs cs us : List ℕ) → IsAtom vs cs us → IsUtf8 cs
atom_utf8 vs cs us (quoted {cs = ds} is) = marked_utf8 39 ds (omega arith) (quoted_utf8 39 vs ds us (omega arith) is)

spelled_utf8 : (sort : Sort) (cs us : List ℕ) → Spells sort cs us → IsUtf8 cs
spelled_utf8 sort cs us (atom {vs = vs} is few) = atom_utf8 vs cs us is
spelled_utf8 sort cs us (text {vs = vs} {cs = ds} is) = marked_utf8 34 ds (omega arith) (quoted_utf8 34 vs ds us (omega arith) is)
spelled_utf8 sort cs us (character {v = v} {cs = ds} is) = marked_utf8 36 ds (omega arith) (point_utf8 v ds us is)
spelled_utf8 sort cs us (variable first all) = plain_utf8 cs (spelled_plain Variable cs us (variable first all) refl)
spelled_utf8 sort cs us (integer is few) = plain_utf8 cs (spelled_plain Integer cs us (integer is few) refl)
spelled_utf8 sort cs us (float is) = plain_utf8 cs (spelled_plain Float cs us (float is) refl)
spelled_utf8 sort cs us (keyword is ends) = plain_utf8 cs (spelled_plain Word cs us (keyword is ends) refl)
spelled_utf8 sort cs us (sign is) = plain_utf8 cs (spelled_plain Sign cs us (sign is) refl)
spelled_utf8 sort cs us (dash_sign is) = plain_utf8 cs (spelled_plain Sign cs us (dash_sign is) refl)

-- a token at the beginning is passed
token_prefix : (s : List ℕ) (l : Lexeme) → lexeme_at s ≡ Ok l → BeginsWith (Spells l.sort) s l.length
token_prefix s l is = let f : Told s (Ok l) = subst (Told s) is (told s) in f

prefix_of : {R : List ℕ → List ℕ → Type 0} (s : List ℕ) (n : ℕ) (f : BeginsWith R s n) → f.prefix ≡ take n s
prefix_of s n f = sym (ap (take n) f.is ∙ take_at f.prefix f.rest n f.size)

pub token_passed : (s : List ℕ) (l : Lexeme) (p q : Place) → lexeme_at s ≡ Ok l → q ≡ place_after p (take l.length s) → ArePassed s p l.length q
token_passed s l p q is place =
    let f = token_prefix s l is in
    record {
      within = omega (arith, ap length f.is, length-append f.prefix f.rest, f.size);
      utf8 = subst IsUtf8 (prefix_of s l.length f) (spelled_utf8 l.sort f.prefix f.rest f.holds);
      place = place;
    }

pub plain_passed : (s : List ℕ) (l : Lexeme) (p : Place) → lexeme_at s ≡ Ok l → is_open l.sort ≡ false → ArePassed s p l.length (columns_more p l.length)
plain_passed s l p is h =
    let f = token_prefix s l is in
    let place = plain_place p f.prefix (spelled_plain l.sort f.prefix f.rest f.holds h) in
    token_passed s l p (columns_more p l.length) is (ap (columns_more p) (sym f.size) ∙ sym place ∙ ap (place_after p) (prefix_of s l.length f))

-- and so is white space
pub space_passed : (s : List ℕ) (b : ℕ) (p q : Place) → is_space b ≡ true → q ≡ moved p b → 0 < length s → slice_index s 0 ≡ b → ArePassed s p 1 q
space_passed [] b p q is place some first = absurd (omega (arith, some))
space_passed (c ∷ s) b p q is place some first =
    let low : b < 128 = grind (arith, nat_tests) in
    record { within = omega arith; utf8 = low_utf8 c (omega (arith, low, first)); place = place ∙ ap (moved p) (sym first) }
