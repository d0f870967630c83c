-- Escapes: what stands behind a backslash, and which code point it means.
use Rattle.std.specs.Prelude.{ℕ, ◌+◌, ◌-◌, Bool, ◌||◌, ◌==◌, nat_le, nat_lt, min, if◌then◌else◌, List, [], ◌∷◌, take, drop, Option, Some, None}
use Rattle.std.specs.List.{prefix_len}
use Rattle.core_text.specs.declared.escape.Escape.{Escape}
use Rattle.core_text.specs.Bytes.{is_from, is_octal, is_hex, begins, number_from}

-- the escapes of one letter or sign: the byte behind the backslash, and the code point
abbrev pub simple_escape : ℕ → Option ℕ
simple_escape c =
    if c == 98 then Some 8  -- b
    else (if c == 100 then Some 127  -- d
    else (if c == 101 then Some 27  -- e
    else (if c == 102 then Some 12  -- f
    else (if c == 110 then Some 10  -- n
    else (if c == 114 then Some 13  -- r
    else (if c == 115 then Some 32  -- s
    else (if c == 116 then Some 9  -- t
    else (if c == 118 then Some 11  -- v
    else (if c == 34 || c == 39 || c == 92 then Some c else None)))))))))

-- a Unicode scalar value
abbrev pub is_scalar : ℕ → Bool
is_scalar v = nat_lt v 55296 || is_from 57344 1114111 v

-- one to three octal digits
abbrev pub octal_escape : List ℕ → Option Escape
octal_escape s =
    let n = min 3 (prefix_len is_octal s) in
    if n == 0 then None else Some (record { value = number_from 8 0 (take n s); length = n })

-- what stands behind `\^`: from '@' to '_'
abbrev pub control_escape : List ℕ → Option Escape
control_escape [] = None
control_escape (c ∷ s) = if is_from 64 95 c then Some (record { value = c - 64; length = 2 }) else None

-- what stands behind `\x{`: hexadecimal digits and `}`
abbrev pub braced_escape : List ℕ → Option Escape
braced_escape s =
    let n = prefix_len is_hex s in
    let v = number_from 16 0 (take n s) in
    if n == 0 then None
    else (if begins (λ c. c == 125) (drop n s) then (if is_scalar v then Some (record { value = v; length = n + 3 }) else None) else None)

-- what stands behind `\x`: two hexadecimal digits, or digits in braces
abbrev pub hex_escape : List ℕ → Option Escape
hex_escape s =
    if begins (λ c. c == 123) s then braced_escape (drop 1 s)
    else (if nat_le 2 (prefix_len is_hex s) then Some (record { value = number_from 16 0 (take 2 s); length = 3 }) else None)

abbrev pub longer_escape : ℕ → List ℕ → Option Escape
longer_escape c s = if c == 94 then control_escape s else (if c == 120 then hex_escape s else octal_escape (c ∷ s))

abbrev pub escape_by : Option ℕ → ℕ → List ℕ → Option Escape
escape_by (Some v) c s = Some (record { value = v; length = 1 })
escape_by None c s = longer_escape c s

-- what stands behind a backslash
unfoldable pub escape_at : List ℕ → Option Escape
escape_at [] = None
escape_at (c ∷ s) = escape_by (simple_escape c) c s
