-- Short texts of ASCII.
use Rattle.std.specs.Prelude.{ℕ, Bool, true, ◌&&◌, nat_lt, List, [], ◌∷◌, length}

abbrev pub is_ascii : List ℕ → Bool
is_ascii [] = true
is_ascii (b ∷ bs) = nat_lt b 128 && is_ascii bs

-- of fewer than 100 characters
abbrev pub is_short : List ℕ → Bool
is_short bs = is_ascii bs && nat_lt (length bs) 100
