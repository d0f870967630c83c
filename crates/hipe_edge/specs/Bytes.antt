-- What several reads or writes do to the bytes that a source has left or a sink was given, where those are known.
use Rattle.std.specs.Prelude.{ℕ, List, length, take, Option}
use Rattle.std.specs.Io.KnownBytes.{Appends, Consumes}

-- known bytes grow by some prefix of bs
abbrev pub AppendsPrefix : Option (List ℕ) → Option (List ℕ) → List ℕ → Type 0
AppendsPrefix old new bs = (n : ℕ) × Appends old new (take n bs)

-- known bytes lose a prefix, and P holds of how many bytes it has
abbrev pub TakesCount : Option (List ℕ) → Option (List ℕ) → (ℕ → Type 0) → Type 0
TakesCount old new P = (bs : List ℕ) × Consumes old new bs × P (length bs)
