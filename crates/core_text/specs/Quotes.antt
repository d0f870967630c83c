-- What stands behind an opening quote, up to the closing one.
use Rattle.std.specs.Prelude.{ℕ, ◌+◌, ◌==◌, if◌then◌else◌, List, slice_index, Option, Some, None, Result, Ok, Err}
use Rattle.core_text.specs.declared.quoted.Quoted.{Quoted}
use Rattle.core_text.specs.declared.code_point.CodePoint.{CodePoint}
use Rattle.core_text.specs.CodePoints.{code_point_at}
use Rattle.core_text.specs.Walks.{walk}

abbrev pub no_quote : Quoted → Option Quoted
no_quote b = None

-- more bytes, and more code points
abbrev pub longer : Quoted → ℕ → ℕ → Quoted
longer b n k = record { length = b.length + n; code_points = b.code_points + k }

abbrev pub quoted_step_by : Option CodePoint → Quoted → Result (ℕ × Quoted) (Option Quoted)
quoted_step_by None b = Err None
quoted_step_by (Some p) b = Ok (p.length, longer b p.length 1)

-- the closing quote, or a code point
abbrev pub quoted_step : ℕ → List ℕ → Quoted → Result (ℕ × Quoted) (Option Quoted)
quoted_step quote s b = if slice_index s 0 == quote then Err (Some (longer b 1 0)) else quoted_step_by (code_point_at s) b

abbrev pub nothing : Quoted
nothing = record { length = 0; code_points = 0 }

-- what stands behind an opening quote up to the closing one, and with it
unfoldable pub quoted_at : ℕ → List ℕ → Option Quoted
quoted_at quote s = walk (quoted_step quote) no_quote s 0 nothing
