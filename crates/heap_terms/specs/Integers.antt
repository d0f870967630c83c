-- How an integer stands in a word: above the tag in the low four bits, in two's complement.
use Rattle.std.specs.Prelude.{ℕ, ◌+◌, ◌-◌, ◌*◌, ◌/◌, ◌^◌, ◌<◌, ℤ, pos, negsuc, nat_lt, if◌then◌else◌}
use Rattle.heap_terms.specs.declared.tags.TheConstants.{INTEGER_TAG, INTEGER_SCALE}

-- -2^59 to 2^59 - 1
abbrev pub IsInteger : ℤ → Type 0
IsInteger (pos n) = n < 2 ^ 59
IsInteger (negsuc n) = n < 2 ^ 59

-- the integer above its tag, modulo 2^64
abbrev pub word_of : ℤ → ℕ
word_of (pos n) = INTEGER_SCALE * n + INTEGER_TAG
word_of (negsuc n) = 2 ^ 64 - 1 - INTEGER_SCALE * n

-- the integer in a word of 64 bits that has the tag of one
abbrev pub integer_in : ℕ → ℤ
integer_in word = if nat_lt word (2 ^ 63) then pos (word / INTEGER_SCALE) else negsuc ((2 ^ 64 - 1 - word) / INTEGER_SCALE)
