-- The arguments of the command: CALL, and behind it perhaps `--fuel N`.
use Rattle.std.specs.Prelude.{ℕ, ◌+◌, ◌-◌, ◌*◌, ◌^◌, Bool, ◌&&◌, nat_lt, nat_le, if◌then◌else◌, List, [], ◌∷◌, length, Option, Some, None, bytes_eq, codes}
use Rattle.eval_source.specs.declared.limits.TheConstants.{DEFAULT_FUEL, MOST_DIGITS}

-- the bytes that name a call, and the fuel of its run
pub record Command : Type 0 where
  pub call : List ℕ
  pub fuel : ℕ

-- the digits from `0` to `9`
abbrev pub is_digit : ℕ → Bool
is_digit b = nat_le 48 b && nat_le b 57

-- a number with these decimal digits behind it
abbrev pub with_digits : ℕ → List ℕ → Option ℕ
with_digits n [] = Some n
with_digits n (b ∷ bs) = if is_digit b then with_digits (n * 10 + (b - 48)) bs else None

-- a number of 64 bits
abbrev pub that_fits : Option ℕ → Option ℕ
that_fits None = None
that_fits (Some n) = if nat_lt n (2 ^ 64) then Some n else None

-- the number of 64 bits that 1 to 20 decimal digits name
abbrev pub number_of : List ℕ → Option ℕ
number_of bs = if nat_le 1 (length bs) && nat_le (length bs) MOST_DIGITS then that_fits (with_digits 0 bs) else None

-- the command of an argument of fewer than 2^32 bytes for the call, and of a number for the fuel
abbrev pub command_with : List ℕ → Option ℕ → Option Command
command_with call None = None
command_with call (Some fuel) = if nat_lt (length call) (2 ^ 32) then Some (record { call = call; fuel = fuel }) else None

abbrev pub command_of : List (List ℕ) → Option Command
command_of (call ∷ []) = command_with call (Some DEFAULT_FUEL)
command_of (call ∷ option ∷ n ∷ []) = if bytes_eq option (codes "--fuel") then command_with call (number_of n) else None
command_of arguments = None
