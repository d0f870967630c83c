-- What the contracts of the sources and sinks in memory see of them.
use Rattle.std.specs.Prelude.{ℕ, List}

-- a source in memory: the bytes that it has left, the numbers of the reads that fail, and how many reads and failures there were
pub record SourceInMemory : Type 0 where
  pub bytes : List ℕ
  pub fails : List ℕ
  pub calls : ℕ
  pub faults : ℕ

-- a sink in memory: the bytes that it was given and those that it has room for in all, the numbers of the writes that fail,
-- and how many writes and failures there were
pub record SinkInMemory : Type 0 where
  pub bytes : List ℕ
  pub room : ℕ
  pub fails : List ℕ
  pub calls : ℕ
  pub faults : ℕ
