-- What a clause reads of the adapters over `std::io`.
use Rattle.std.specs.Prelude.{ℕ}
use Rattle.hipe_edge.specs.declared.adapters.Counted.{Counted}

-- the reader that a source reads from, or the writer that a sink writes to
abbrev pub stream_of : {T : Type 0} → Counted T → T
stream_of s = s.stream

-- how many of its calls failed
abbrev pub faults_of : {T : Type 0} → Counted T → ℕ
faults_of s = s.faults
