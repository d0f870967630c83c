-- What a run counts.
use Rattle.std.specs.Prelude.{ℕ, ◌+◌}
use Rattle.core_meaning.specs.Meaning.{State}

-- so many words more
abbrev pub more_words : ℕ → State → State
more_words n s = record s { words = s.words + n }
