-- What stands on the source and the sinks after each way in which the program ends.
use Rattle.std.specs.Prelude.{◌≡◌, ◌⊎◌, ℕ, List, Result, Ok, Err}
use Rattle.hipe_stop.specs.declared.stop.Stop.{Stop}
use Rattle.eval_source.specs.Answers.{Answer, refused, ran, Expected}
use Rattle.hipe_stop.specs.Stops.{status_of, line_of}
use Rattle.hipe_edge.specs.Streams.{Stream, Faulted, Untouched, Gained, GainedPrefix, GainedUnlessFaulted, HadLeft}
use Rattle.hipe_stop.specs.Inputs.{WasRead}

-- what the arguments and the source came to, before any line on err: a status, or a stop
pub data Came (arguments : List (List ℕ)) (source out : Stream) : Result ℕ Stop → Type 0 where
  wrote : (bytes text : List ℕ) (status : ℕ) → HadLeft source bytes → WasRead source bytes → Expected arguments bytes (ran status text)
      → Gained out text → Came arguments source out (Ok status)
  wrote_prefix : (bytes text : List ℕ) (status : ℕ) → HadLeft source bytes → WasRead source bytes → Expected arguments bytes (ran status text) → Faulted out → GainedPrefix out text
      → Came arguments source out (Err Stop.WriteFault)
  refused_arguments : (stop : Stop) → ((bytes : List ℕ) → Expected arguments bytes (refused stop)) → Untouched source → Untouched out → Came arguments source out (Err stop)
  refused_text : (bytes : List ℕ) (stop : Stop) → HadLeft source bytes → WasRead source bytes → Expected arguments bytes (refused stop)
      → Untouched out → Came arguments source out (Err stop)
  not_read : Faulted source → Untouched out → Came arguments source out (Err Stop.ReadFault)
  no_memory : Untouched out → Came arguments source out (Err Stop.Memory)

-- What the program did. Where memory is found and no read or write fails, that is what is expected.
pub data Did (arguments : List (List ℕ)) (source out err : Stream) (status : ℕ) : Type 0 where
  answered : (bytes : List ℕ) (answer : Answer) → HadLeft source bytes → WasRead source bytes → Expected arguments bytes answer
      → status ≡ answer.status → Gained out answer.out → Gained err answer.err → Did arguments source out err status
  -- the arguments are refused, and nothing was read
  refused_unread : (stop : Stop) → ((bytes : List ℕ) → Expected arguments bytes (refused stop)) → Untouched source
      → status ≡ status_of stop → Untouched out → Gained err (line_of stop) → Did arguments source out err status
  read_failed : Faulted source → status ≡ 6 → Untouched out → Gained err (line_of Stop.ReadFault) → Did arguments source out err status
  -- a write failed on out, and the line of that was written or a write failed on err too
  write_failed : (bytes text : List ℕ) (expected : ℕ) → HadLeft source bytes → WasRead source bytes → Expected arguments bytes (ran expected text)
      → Faulted out → GainedPrefix out text
      → status ≡ 7 → GainedUnlessFaulted err (line_of Stop.WriteFault) → Did arguments source out err status
  -- a write failed on err, where the line of a refusal or of a failed read was written
  line_lost : (stop : Stop)
      → (((bytes : List ℕ) × HadLeft source bytes × Expected arguments bytes (refused stop)) ⊎ (Faulted source × (stop ≡ Stop.ReadFault))) → Untouched out → Faulted err
      → status ≡ 7 → GainedPrefix err (line_of stop) → Did arguments source out err status
  memory_wanting : Untouched out → status ≡ 8 → GainedUnlessFaulted err (line_of Stop.Memory) → Did arguments source out err status
