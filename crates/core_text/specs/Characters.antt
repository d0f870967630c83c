-- Characters and escapes: what they are spelled like, and which code point each means.
use Rattle.std.specs.Prelude.{◌≡◌, ℕ, ◌-◌, ◌<◌, ◌≤◌, true, false, ◌==◌, List, [], ◌∷◌, ◌++◌, length, encode_utf8, Some}
use Rattle.std.specs.Char.{IsScalar}
use Rattle.std.specs.Str.{IsUtf8}
use Rattle.hipe_terms.specs.declared.place.Place.{Place}
use Rattle.core_text.specs.Bytes.{is_from, is_octal, is_hex, begins, number_from}
use Rattle.core_text.specs.Prefixes.{AreAll, BeginsWithNone}
use Rattle.core_text.specs.Places.{start, place_after}
use Rattle.core_text.specs.Escapes.{simple_escape}

-- the bytes cs are the UTF-8 of v, a Unicode scalar value
abbrev pub IsCharacter : ℕ → List ℕ → Type 0
IsCharacter v cs = IsScalar v × (encode_utf8 v ≡ cs)

-- the bytes behind a backslash, with what stands behind them, are an escape and mean the code point v
pub data IsEscape : ℕ → List ℕ → List ℕ → Type 0 where
  -- one letter or sign, by the table
  simple : {c v : ℕ} {us : List ℕ} → simple_escape c ≡ Some v → IsEscape v (c ∷ []) us
  -- one to three octal digits: as many as are there
  octal : (ds us : List ℕ) → AreAll is_octal ds → 0 < length ds → length ds ≤ 3 → (length ds < 3 → begins is_octal us ≡ false) → IsEscape (number_from 8 0 ds) ds us
  -- `^` and a byte from `@` to `_`
  control : {c : ℕ} {us : List ℕ} → is_from 64 95 c ≡ true → IsEscape (c - 64) (94 ∷ c ∷ []) us
  -- `x` and two hexadecimal digits
  hexadecimal : {c d : ℕ} {us : List ℕ} → is_hex c ≡ true → is_hex d ≡ true → IsEscape (number_from 16 0 (c ∷ d ∷ [])) (120 ∷ c ∷ d ∷ []) us
  -- `x{`, hexadecimal digits and `}`: they stand for a Unicode scalar value
  braced : (ds : List ℕ) {us : List ℕ} → AreAll is_hex ds → 0 < length ds → IsScalar (number_from 16 0 ds) → IsEscape (number_from 16 0 ds) (120 ∷ 123 ∷ ds ++ 125 ∷ []) us

-- a character or an escape, which means the code point v
pub data IsCodePoint : ℕ → List ℕ → List ℕ → Type 0 where
  -- a character, but a backslash
  itself : {v : ℕ} {cs us : List ℕ} → IsCharacter v cs → begins (λ c. c == 92) cs ≡ false → IsCodePoint v cs us
  -- a backslash and an escape
  escaped : {v : ℕ} {cs us : List ℕ} → IsEscape v cs us → IsCodePoint v (92 ∷ cs) us

-- characters and escapes that mean the code points vs, and then the closing quote, which begins none of them
pub data IsQuoted : ℕ → List ℕ → List ℕ → List ℕ → Type 0 where
  closing : {quote : ℕ} {us : List ℕ} → IsQuoted quote [] (quote ∷ []) us
  code_point : {quote v : ℕ} {vs cs ds us : List ℕ} → IsCodePoint v cs (ds ++ us) → begins (λ c. c == quote) cs ≡ false → IsQuoted quote vs ds us
      → IsQuoted quote (v ∷ vs) (cs ++ ds) us

-- the first byte that isn't UTF-8 stands at this place: behind the longest prefix that is
pub record IsIllFormed (s : List ℕ) (at : Place) : Type 0 where
  pub good : List ℕ
  pub bad : List ℕ
  pub is : s ≡ good ++ bad
  pub utf8 : IsUtf8 good
  pub some : 0 < length bad
  pub no_character : (v : ℕ) → BeginsWithNone (λ cs us. IsCharacter v cs) bad
  pub place : at ≡ place_after start good
