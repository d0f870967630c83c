-- What is read at the beginning of a text is what is spelled there, and what is spelled there is read: each law says both.
use Rattle.std.specs.Prelude.{◌≡◌, ℕ, ◌+◌, ◌-◌, ◌<◌, ◌==◌, if◌then◌else◌, List, ◌++◌, length, take, Some, None}
use Rattle.std.specs.Char.{IsScalar}
use Rattle.std.specs.Str.{IsUtf8}
use Rattle.hipe_terms.specs.declared.place.Place.{Place}
use Rattle.core_text.specs.declared.escape.Escape.{Escape}
use Rattle.core_text.specs.declared.code_point.CodePoint.{CodePoint}
use Rattle.core_text.specs.declared.quoted.Quoted.{Quoted}
use Rattle.core_text.specs.Escapes.{escape_at}
use Rattle.core_text.specs.CodePoints.{point, code_point_at, values_between}
use Rattle.core_text.specs.Quotes.{quoted_at}
use Rattle.core_text.specs.Fractions.{fraction_length}
use Rattle.core_text.specs.Utf8.{ill_formed}
use Rattle.core_text.specs.Prefixes.{BeginsWith, BeginsWithNone}
use Rattle.core_text.specs.Places.{place_after}
use Rattle.core_text.specs.Characters.{IsCharacter, IsEscape, IsCodePoint, IsQuoted, IsIllFormed}
use Rattle.core_text.specs.Numbers.{IsFraction}

pub record EscapesAreRead : Type 0 where
  pub read : (s : List ℕ) (e : Escape) → escape_at s ≡ Some e → BeginsWith (IsEscape e.value) s e.length
  pub spelled : (v : ℕ) (cs us : List ℕ) → IsEscape v cs us → escape_at (cs ++ us) ≡ Some (record { value = v; length = length cs })

pub record CodePointsAreRead : Type 0 where
  pub read : (s : List ℕ) (p : CodePoint) → code_point_at s ≡ Some p → BeginsWith (IsCodePoint p.value) s p.length
  pub spelled : (v : ℕ) (cs us : List ℕ) → IsCodePoint v cs us → code_point_at (cs ++ us) ≡ point v (length cs)
  pub scalar : (v : ℕ) (cs us : List ℕ) → IsCodePoint v cs us → IsScalar v

-- the code points between quotes, and what stands there
pub record HasQuoted (quote : ℕ) (s : List ℕ) (r : Quoted) : Type 0 where
  pub values : List ℕ
  pub count : length values ≡ r.code_points
  pub there : BeginsWith (IsQuoted quote values) s r.length

pub record QuotesAreRead : Type 0 where
  pub read : (quote : ℕ) (s : List ℕ) (r : Quoted) → quoted_at quote s ≡ Some r → HasQuoted quote s r
  pub spelled : (quote : ℕ) (vs cs us : List ℕ) → IsQuoted quote vs cs us → quoted_at quote (cs ++ us) ≡ Some (record { length = length cs; code_points = length vs })
  pub values : (quote : ℕ) (vs cs us : List ℕ) → IsQuoted quote vs cs us → values_between (take (length cs - 1) cs) ≡ vs

pub record FractionsAreRead : Type 0 where
  pub read : (s : List ℕ) → 0 < fraction_length s → BeginsWith IsFraction s (fraction_length s)
  pub spelled : (cs us : List ℕ) → IsFraction cs us → fraction_length (cs ++ us) ≡ length cs
  pub nothing_read : (s : List ℕ) → fraction_length s ≡ 0 → BeginsWithNone IsFraction s
  pub nothing_spelled : (s : List ℕ) → BeginsWithNone IsFraction s → fraction_length s ≡ 0

pub record Utf8IsRead : Type 0 where
  pub read : (s : List ℕ) → ill_formed s ≡ None → IsUtf8 s
  pub spelled : (s : List ℕ) → IsUtf8 s → ill_formed s ≡ None
  pub first_read : (s : List ℕ) (at : Place) → ill_formed s ≡ Some at → IsIllFormed s at
  pub first_spelled : (s : List ℕ) (at : Place) → IsIllFormed s at → ill_formed s ≡ Some at

-- the place behind a code point: a line feed ends a line, and each other code point is one column
abbrev pub behind_point : Place → ℕ → Place
behind_point p v = if v == 10 then record { line = p.line + 1; col = 1 } else record { line = p.line; col = p.col + 1 }

-- places go by code points
abbrev pub PlacesGoByCodePoints : Type 0
PlacesGoByCodePoints = (p : Place) (v : ℕ) (cs : List ℕ) → IsCharacter v cs → place_after p cs ≡ behind_point p v
