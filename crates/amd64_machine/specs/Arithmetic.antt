-- Words of 64 bits as unsigned and as signed numbers, what instructions compute of them, and the flags that they leave.
use Rattle.std.specs.Prelude.{◌≡◌, ℕ, ◌+◌, ◌-◌, ◌*◌, ◌/◌, ◌%◌, ◌^◌, ◌<◌, ℤ, pos, negsuc, ◌+ℤ◌, ◌-ℤ◌, ◌*ℤ◌, int_le, int_lt, int_div, int_rem, Bool, true, false, not, ◌&&◌, ◌||◌, Option, Some, None, bit_and, bit_or, bit_xor, nat_eq, nat_lt, nat_le, if◌then◌else◌}
use Rattle.std.specs.Int.{w64, cast_unsigned, cast_signed, int_shr}
use Rattle.amd64_form.specs.declared.operation.BinaryOp.{BinaryOp}
use Rattle.amd64_form.specs.declared.operation.BinaryOp.TheVariants as binary
use Rattle.amd64_form.specs.declared.operation.ShiftOp.{ShiftOp}
use Rattle.amd64_form.specs.declared.operation.ShiftOp.TheVariants as shifts
use Rattle.amd64_form.specs.declared.condition.Condition.{Condition}
use Rattle.amd64_form.specs.declared.condition.Condition.TheVariants as conditions
use Rattle.amd64_machine.specs.declared.state.Flags.{Flags}

-- numbers modulo 2^64
abbrev pub wrap : ℕ → ℕ
wrap n = n % 2 ^ 64

-- a difference modulo 2^64
abbrev pub difference : ℕ → ℕ → ℕ
difference a b = wrap (a + (2 ^ 64 - b))

-- the signed number for which a word stands in two's complement
abbrev pub signed : ℕ → ℤ
signed word = cast_signed w64 word

-- the word of a signed number of 64 bits
abbrev pub unsigned : ℤ → ℕ
unsigned z = cast_unsigned w64 z

-- -2^63 to 2^63 - 1: a signed number of 64 bits
abbrev pub fits : ℤ → Bool
fits z = int_le (negsuc (2 ^ 63 - 1)) z && int_lt z (pos (2 ^ 63))

-- the top bit of a word
abbrev pub is_negative : ℕ → Bool
is_negative word = nat_le (2 ^ 63) word

-- ---- the flags

abbrev pub no_flags : Flags
no_flags = record { carry = None; zero = None; sign = None; overflow = None }

-- CF and OF as given, ZF where the result is 0, SF where its top bit is set
abbrev pub flags_with : Bool → Bool → ℕ → Flags
flags_with carry overflow word =
    record { carry = Some carry; zero = Some (nat_eq word 0); sign = Some (is_negative word); overflow = Some overflow }

-- CF where the unsigned sum doesn't fit, OF where the signed one doesn't
abbrev pub flags_of_sum : ℕ → ℕ → Flags
flags_of_sum a b = flags_with (nat_le (2 ^ 64) (a + b)) (not (fits (signed a +ℤ signed b))) (wrap (a + b))

-- CF where the unsigned difference is below 0, OF where the signed one doesn't fit
abbrev pub flags_of_difference : ℕ → ℕ → Flags
flags_of_difference a b = flags_with (nat_lt a b) (not (fits (signed a -ℤ signed b))) (difference a b)

-- CF and OF are clear
abbrev pub flags_of_bits : ℕ → Flags
flags_of_bits word = flags_with false false word

-- CF and OF where the signed product doesn't fit; ZF and SF aren't known
abbrev pub flags_of_product : ℕ → ℕ → Flags
flags_of_product a b =
    let over = not (fits (signed a *ℤ signed b)) in
    record { carry = Some over; zero = None; sign = None; overflow = Some over }

-- ---- operations

-- the result of an operation that has one
abbrev pub result_of : BinaryOp → ℕ → ℕ → Option ℕ
result_of binary.Add a b = Some (wrap (a + b))
result_of binary.Or a b = Some (bit_or a b)
result_of binary.And a b = Some (bit_and a b)
result_of binary.Sub a b = Some (difference a b)
result_of binary.Xor a b = Some (bit_xor a b)
result_of binary.Cmp a b = None
result_of binary.Test a b = None

abbrev pub flags_of : BinaryOp → ℕ → ℕ → Flags
flags_of binary.Add a b = flags_of_sum a b
flags_of binary.Or a b = flags_of_bits (bit_or a b)
flags_of binary.And a b = flags_of_bits (bit_and a b)
flags_of binary.Sub a b = flags_of_difference a b
flags_of binary.Xor a b = flags_of_bits (bit_xor a b)
flags_of binary.Cmp a b = flags_of_difference a b
flags_of binary.Test a b = flags_of_bits (bit_and a b)

-- a word with each bit turned round
abbrev pub turned : ℕ → ℕ
turned word = 2 ^ 64 - 1 - word

-- a word's top bit in each bit
abbrev pub sign_word : ℕ → ℕ
sign_word word = if is_negative word then 2 ^ 64 - 1 else 0

-- the signed number of 128 bits in two words
abbrev pub double : ℕ → ℕ → ℤ
double high low = signed high *ℤ pos (2 ^ 64) +ℤ pos low

-- the signed quotient, rounded towards 0, if it fits
abbrev pub quotient_of : ℤ → ℤ → Option ℤ
quotient_of dividend divisor =
    if fits (int_div dividend divisor) then Some (int_div dividend divisor) else None

-- the words of a quotient and of the remainder
abbrev pub with_remainder : ℤ → ℤ → Option ℤ → Option (ℕ × ℕ)
with_remainder dividend divisor (Some quotient) = Some (unsigned quotient, unsigned (int_rem dividend divisor))
with_remainder dividend divisor None = None

-- where the divisor isn't 0 and the quotient fits
abbrev pub divided : ℤ → ℤ → Option (ℕ × ℕ)
divided dividend divisor =
    if nat_eq (unsigned divisor) 0 then None else with_remainder dividend divisor (quotient_of dividend divisor)

-- times or divided by a power of two; a signed quotient is rounded down
abbrev pub shifted : ShiftOp → ℕ → ℕ → ℕ
shifted shifts.Shl word n = wrap (word * 2 ^ n)
shifted shifts.Shr word n = word / 2 ^ n
shifted shifts.Sar word n = unsigned (int_shr (signed word) n)

-- ---- conditions, where each flag that they read is known

abbrev pub contrary : Option Bool → Option Bool
contrary (Some a) = Some (not a)
contrary None = None

abbrev pub either_of : Option Bool → Option Bool → Option Bool
either_of (Some a) (Some b) = Some (a || b)
either_of (Some a) None = None
either_of None b = None

abbrev pub differ : Option Bool → Option Bool → Option Bool
differ (Some true) (Some b) = Some (not b)
differ (Some false) (Some b) = Some b
differ (Some a) None = None
differ None b = None

abbrev pub holds : Condition → Flags → Option Bool
holds conditions.O f = f.overflow
holds conditions.No f = contrary f.overflow
holds conditions.B f = f.carry
holds conditions.Ae f = contrary f.carry
holds conditions.E f = f.zero
holds conditions.Ne f = contrary f.zero
holds conditions.Be f = either_of f.carry f.zero
holds conditions.A f = contrary (either_of f.carry f.zero)
holds conditions.S f = f.sign
holds conditions.Ns f = contrary f.sign
holds conditions.L f = differ f.sign f.overflow
holds conditions.Ge f = contrary (differ f.sign f.overflow)
holds conditions.Le f = either_of f.zero (differ f.sign f.overflow)
holds conditions.G f = contrary (either_of f.zero (differ f.sign f.overflow))

-- what the conditions say after `cmp` of two words: those that aren't named are the contrary of these
pub record Compares (a b : ℕ) : Type 0 where
  pub equal : holds conditions.E (flags_of_difference a b) ≡ Some (nat_eq a b)
  pub below : holds conditions.B (flags_of_difference a b) ≡ Some (nat_lt a b)
  pub below_or_equal : holds conditions.Be (flags_of_difference a b) ≡ Some (nat_le a b)
  pub less : holds conditions.L (flags_of_difference a b) ≡ Some (int_lt (signed a) (signed b))
  pub less_or_equal : holds conditions.Le (flags_of_difference a b) ≡ Some (int_le (signed a) (signed b))

-- of words that are unsigned numbers, and of words that are signed ones
abbrev pub ConditionsCompare : Type 0
ConditionsCompare = (a b : ℕ) → a < 2 ^ 64 → b < 2 ^ 64 → Compares a b
