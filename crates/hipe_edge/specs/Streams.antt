-- A source or a sink before and after a call. A source's bytes left and a sink's bytes written are known where they tell them.
use Rattle.std.specs.Prelude.{◌≡◌, ◌⊎◌, ℕ, ◌+◌, List, take, Option, IfSome}
use Rattle.std.specs.Io.KnownBytes.{Appends, Keeps, Consumes}
use Rattle.hipe_edge.specs.Bytes.{AppendsPrefix}
use Rattle.hipe_edge.specs.Counts.{Rises}

-- its known bytes, and its count of faults
pub record Stream : Type 0 where
  pub before : Option (List ℕ)
  pub after : Option (List ℕ)
  pub faults_before : ℕ
  pub faults_after : ℕ

abbrev pub stream : Option (List ℕ) → Option (List ℕ) → ℕ → ℕ → Stream
stream before after faults_before faults_after =
    record { before = before; after = after; faults_before = faults_before; faults_after = faults_after }

-- a read or a write failed
abbrev pub Faulted : Stream → Type 0
Faulted stream = Rises stream.faults_before stream.faults_after

-- nothing was read, or nothing was written
abbrev pub Untouched : Stream → Type 0
Untouched stream = Keeps stream.before stream.after

-- this was written
abbrev pub Gained : Stream → List ℕ → Type 0
Gained sink text = Appends sink.before sink.after text

-- a prefix of this was written
abbrev pub GainedPrefix : Stream → List ℕ → Type 0
GainedPrefix sink text = AppendsPrefix sink.before sink.after text

-- the line was written, or a prefix of it and a write failed
abbrev pub GainedUnlessFaulted : Stream → List ℕ → Type 0
GainedUnlessFaulted sink line = Gained sink line ⊎ (Faulted sink × GainedPrefix sink line)

-- these are the bytes that the source had left, where it told them
abbrev pub HadLeft : Stream → List ℕ → Type 0
HadLeft source bytes = IfSome source.before (λ known. known ≡ bytes)

-- the source had these bytes left, and was read to its end, or one byte past the limit
abbrev pub WasReadWithin : ℕ → Stream → List ℕ → Type 0
WasReadWithin limit source bytes = Consumes source.before source.after (take (limit + 1) bytes)
