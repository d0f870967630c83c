-- What white space, comments and tokens are spelled like. A relation between bytes and what stands behind them says that these bytes are a token of a
-- sort there: the longest token is taken, so nothing that would make it longer stands behind it.
use Rattle.std.specs.Prelude.{◌≡◌, ℕ, ◌<◌, ◌≤◌, ℤ, true, false, ◌||◌, ◌==◌, List, [], ◌∷◌, ◌++◌, length}
use Rattle.hipe_base.specs.declared.limits.TheConstants.{ATOM_LIMIT}
use Rattle.hipe_terms.specs.Range.{is_in_range}
use Rattle.core_text.specs.Bytes.{is_space, is_upper, is_name_byte, is_before_line_end, begins}
use Rattle.core_text.specs.Prefixes.{ArePassing, BeginsWithNone}
use Rattle.core_text.specs.Characters.{IsCodePoint, IsQuoted}
use Rattle.core_text.specs.Numbers.{IsInteger, IsFloat}
use Rattle.core_token.specs.declared.token.Sort.{Sort}
use Rattle.core_token.specs.declared.token.Sort.TheVariants.{Atom, Variable, Integer, Float, Character, Text, Word, Sign}
use Rattle.core_token.specs.declared.token.TokenKind.{TokenKind}
use Rattle.core_token.specs.declared.token.TokenKind.TheVariants.{Token, WideInteger, LongAtom}
use Rattle.core_token.specs.Lexemes.{is_keyword, is_short_sign}

-- white space, or a comment: `%` and all that stands before the end of the line
pub data IsBlank : List ℕ → List ℕ → Type 0 where
  space : {c : ℕ} {us : List ℕ} → is_space c ≡ true → IsBlank (c ∷ []) us
  comment : {cs us : List ℕ} → ArePassing is_before_line_end cs us → IsBlank (37 ∷ cs) us

-- an atom of the code points vs, however many they are: single quotes around them
pub data IsAtom : List ℕ → List ℕ → List ℕ → Type 0 where
  quoted : {vs cs us : List ℕ} → IsQuoted 39 vs cs us → IsAtom vs (39 ∷ cs) us

-- the bytes are a token of this sort
pub data Spells : Sort → List ℕ → List ℕ → Type 0 where
  -- an atom of at most `ATOM_LIMIT` code points
  atom : {vs cs us : List ℕ} → IsAtom vs cs us → length vs ≤ ATOM_LIMIT → Spells Atom cs us
  -- code points in double quotes
  text : {vs cs us : List ℕ} → IsQuoted 34 vs cs us → Spells Text (34 ∷ cs) us
  -- `$` and a code point
  character : {v : ℕ} {cs us : List ℕ} → IsCodePoint v cs us → Spells Character (36 ∷ cs) us
  -- an upper-case letter or `_`, and all letters, digits, `_` and `@` that follow
  variable : {c : ℕ} {cs us : List ℕ} → (is_upper c || c == 95) ≡ true → ArePassing is_name_byte cs us → Spells Variable (c ∷ cs) us
  -- an integer of 60 bits
  integer : {n : ℤ} {cs us : List ℕ} → IsInteger n cs us → is_in_range n ≡ true → Spells Integer cs us
  float : {cs us : List ℕ} → IsFloat cs us → Spells Float cs us
  -- a keyword, and no letter, digit, `_` or `@` behind it
  keyword : {cs us : List ℕ} → is_keyword cs ≡ true → begins is_name_byte us ≡ false → Spells Word cs us
  -- a sign of one byte
  sign : {c : ℕ} {us : List ℕ} → is_short_sign c ≡ true → Spells Sign (c ∷ []) us
  -- `->` or `-|`
  dash_sign : {d : ℕ} {us : List ℕ} → (d == 62 || d == 124) ≡ true → Spells Sign (45 ∷ d ∷ []) us

-- what is wrong where a text goes on with no white space, no comment and no token
pub data IsFault : List ℕ → TokenKind → Type 0 where
  -- an integer out of the range
  wide_integer : {n : ℤ} {cs us : List ℕ} → IsInteger n cs us → is_in_range n ≡ false → IsFault (cs ++ us) WideInteger
  -- an atom of more than `ATOM_LIMIT` code points
  long_atom : {vs cs us : List ℕ} → IsAtom vs cs us → ATOM_LIMIT < length vs → IsFault (cs ++ us) LongAtom
  -- none of all these, and no token
  no_token : {s : List ℕ} → 0 < length s → BeginsWithNone IsBlank s → ((sort : Sort) → BeginsWithNone (Spells sort) s) → ((n : ℤ) → BeginsWithNone (IsInteger n) s)
      → ((vs : List ℕ) → BeginsWithNone (IsAtom vs) s) → IsFault s Token
