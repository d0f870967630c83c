-- What makes a float of an integer: a point, digits, and an exponent or none.
use Rattle.std.specs.Prelude.{ℕ, ◌+◌, Bool, ◌||◌, ◌==◌, if◌then◌else◌, List, drop}
use Rattle.std.specs.List.{prefix_len}
use Rattle.core_text.specs.Bytes.{is_digit, begins}

abbrev pub is_sign_byte : ℕ → Bool
is_sign_byte c = c == 43 || c == 45

abbrev pub sign_length : List ℕ → ℕ
sign_length s = if begins is_sign_byte s then 1 else 0

-- `e` or `E`, a sign or none, and digits; nothing without digits
abbrev pub exponent_length : List ℕ → ℕ
exponent_length s =
    if begins (λ c. c == 101 || c == 69) s then
    (let k = sign_length (drop 1 s) in let n = prefix_len is_digit (drop (k + 1) s) in if n == 0 then 0 else n + (k + 1))
    else 0

-- a point and digits, and an exponent or none; nothing without digits
abbrev pub fraction_length : List ℕ → ℕ
fraction_length s =
    if begins (λ c. c == 46) s then
    (let n = prefix_len is_digit (drop 1 s) in if n == 0 then 0 else (n + 1) + exponent_length (drop (n + 1) s))
    else 0
