-- Code points: what a character or an escape at the beginning of a text means.
use Rattle.std.specs.Prelude.{ℕ, ◌+◌, ◌-◌, ◌*◌, ◌==◌, nat_le, if◌then◌else◌, List, [], ◌∷◌, ◌++◌, take, Option, Some, None, Result, Ok, Err}
use Rattle.core_text.specs.declared.escape.Escape.{Escape}
use Rattle.core_text.specs.declared.code_point.CodePoint.{CodePoint}
use Rattle.core_text.specs.Escapes.{escape_at}
use Rattle.core_text.specs.Utf8.{character_length}
use Rattle.core_text.specs.Walks.{walk}

-- a code point v of n bytes
abbrev pub point : ℕ → ℕ → Option CodePoint
point v n = Some (record { value = v; length = n })

-- the bits of a code point that its first byte has
abbrev pub first_bits : ℕ → ℕ
first_bits c = if nat_le c 127 then c else (if nat_le c 223 then c - 192 else (if nat_le c 239 then c - 224 else c - 240))

-- and six more for each byte behind it
abbrev pub with_bits : ℕ → List ℕ → ℕ
with_bits n [] = n
with_bits n (b ∷ bs) = with_bits (n * 64 + (b - 128)) bs

-- the code point of a character of n bytes
abbrev pub decoded : Option ℕ → ℕ → List ℕ → Option CodePoint
decoded None c s = None
decoded (Some n) c s = point (with_bits (first_bits c) (take (n - 1) s)) n

-- the code point of an escape behind its backslash
abbrev pub escaped : Option Escape → Option CodePoint
escaped None = None
escaped (Some e) = point e.value (e.length + 1)

-- the code point at the beginning, as itself or by an escape
unfoldable pub code_point_at : List ℕ → Option CodePoint
code_point_at [] = None
code_point_at (c ∷ s) = if c == 92 then escaped (escape_at s) else decoded (character_length (c ∷ s)) c s

abbrev pub value_step_by : Option CodePoint → List ℕ → Result (ℕ × List ℕ) (List ℕ)
value_step_by None values = Err values
value_step_by (Some p) values = Ok (p.length, values ++ p.value ∷ [])

abbrev pub value_step : List ℕ → List ℕ → Result (ℕ × List ℕ) (List ℕ)
value_step s values = value_step_by (code_point_at s) values

abbrev pub value_end : List ℕ → List ℕ
value_end values = values

-- the code points of what stands between quotes, up to the first that is ill-formed
unfoldable pub values_between : List ℕ → List ℕ
values_between s = walk value_step value_end s 0 []
