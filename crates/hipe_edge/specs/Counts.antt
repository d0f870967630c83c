-- Counts that are kept in 64 bits and stand still at their end.
use Rattle.std.specs.Prelude.{ℕ, ◌+◌, ◌≤◌}
use Rattle.std.specs.Io.Iter.{u64_saturate}

-- a count after one more
abbrev pub counted : ℕ → ℕ
counted n = u64_saturate (n + 1)

-- the count rose, or stands at its end
abbrev pub Rises : ℕ → ℕ → Type 0
Rises old new = counted old ≤ new
