-- What stands on the sink for errors after the line of a stop.
use Rattle.std.specs.Prelude.{◌≡◌, ◌⊎◌, ℕ}
use Rattle.hipe_edge.specs.Streams.{Stream, Faulted, Gained, GainedPrefix}
use Rattle.hipe_stop.specs.declared.stop.Stop.{Stop}
use Rattle.hipe_stop.specs.Stops.{status_of, status_unwritten, line_of}

-- the line of a stop was written and the status is its own, or the line couldn't be written
pub data Reported (stop : Stop) (err : Stream) (status : ℕ) : Type 0 where
  whole : status ≡ status_of stop → Gained err (line_of stop) → Reported stop err status
  broken : status ≡ status_unwritten stop → Faulted err → GainedPrefix err (line_of stop) → Reported stop err status

-- the same, and where there is no memory for a line with a place, it is the line and the status of that
abbrev pub Ended : Stop → Stream → ℕ → Type 0
Ended (Stop.Call p) err status = Reported (Stop.Call p) err status ⊎ Reported Stop.Memory err status
Ended (Stop.Refused r p) err status = Reported (Stop.Refused r p) err status ⊎ Reported Stop.Memory err status
Ended stop err status = Reported stop err status
