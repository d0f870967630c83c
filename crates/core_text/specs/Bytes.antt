-- Kinds of bytes, and the numbers that digits stand for.
use Rattle.std.specs.Prelude.{ℕ, ◌+◌, ◌-◌, ◌*◌, Bool, true, false, ◌||◌, ◌&&◌, ◌==◌, nat_le, if◌then◌else◌, List, [], ◌∷◌}

abbrev pub is_from : ℕ → ℕ → ℕ → Bool
is_from low high c = nat_le low c && nat_le c high

-- white space: the code points 9 to 13, and 32
abbrev pub is_space : ℕ → Bool
is_space c = is_from 9 13 c || c == 32

-- '0' to '9'
abbrev pub is_digit : ℕ → Bool
is_digit c = is_from 48 57 c

abbrev pub is_octal : ℕ → Bool
is_octal c = is_from 48 55 c

abbrev pub is_hex : ℕ → Bool
is_hex c = is_digit c || is_from 97 102 c || is_from 65 70 c

-- 'a' to 'z'
abbrev pub is_lower : ℕ → Bool
is_lower c = is_from 97 122 c

-- 'A' to 'Z'
abbrev pub is_upper : ℕ → Bool
is_upper c = is_from 65 90 c

-- an ASCII letter, a digit, '_' or '@'
abbrev pub is_name_byte : ℕ → Bool
is_name_byte c = is_lower c || is_upper c || is_digit c || c == 95 || c == 64

-- a byte of a character but its first
abbrev pub is_continuation : ℕ → Bool
is_continuation c = is_from 128 191 c

-- a byte of a comment
abbrev pub is_before_line_end : ℕ → Bool
is_before_line_end c = if c == 10 then false else true

-- is there such a byte at the beginning?
abbrev pub begins : (ℕ → Bool) → List ℕ → Bool
begins test [] = false
begins test (c ∷ s) = test c

-- what a digit stands for, also a hexadecimal one
abbrev pub digit_value : ℕ → ℕ
digit_value c = if nat_le c 57 then c - 48 else (if nat_le c 70 then c - 55 else c - 87)

-- the number that digits to a base stand for, behind those that stand for n
abbrev pub number_from : ℕ → ℕ → List ℕ → ℕ
number_from base n [] = n
number_from base n (d ∷ ds) = number_from base (n * base + digit_value d) ds
