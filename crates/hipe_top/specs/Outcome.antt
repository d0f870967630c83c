-- What stands on the source and the sinks after each way in which the program ends.
use Rattle.std.specs.Prelude.{◌≡◌, ◌≢◌, ◌↔◌, ℕ, List, Result, Ok, Err}
use Rattle.hipe_edge.specs.Streams.{Stream, Faulted, Untouched, Gained, GainedPrefix, GainedUnlessFaulted, HadLeft}
use Rattle.hipe_stop.specs.Inputs.{WasRead}
use Rattle.hipe_stop.specs.declared.stop.Stop.{Stop}
use Rattle.hipe_top.specs.declared.arguments.Mode.{Mode}
use Rattle.hipe_top.specs.Answers.{Answer, refused, answered, AnswerOf, Expected}
use Rattle.hipe_stop.specs.Stops.{line_of}
use Rattle.hipe_top.specs.Command.{IsCommand, arguments_of}
use Rattle.hipe_top.specs.Texts.{Takes, Refuses}

-- what answering an input of these bytes came to, before any line on err
pub data DidText (mode : Mode) (bytes : List ℕ) (out : Stream) : Result (Unit {0}) Stop → Type 0 where
  did : (line : List ℕ) → AnswerOf bytes mode (answered line) → Gained out line → DidText mode bytes out (Ok tt)
  not_written : (line : List ℕ) → AnswerOf bytes mode (answered line) → Faulted out → GainedPrefix out line → DidText mode bytes out (Err Stop.WriteFault)
  refused_as : (stop : Stop) → AnswerOf bytes mode (refused stop) → Untouched out → DidText mode bytes out (Err stop)
  no_memory : Untouched out → DidText mode bytes out (Err Stop.Memory)

-- what reading a source and answering it came to, before any line on err
pub data DidSource (mode : Mode) (source out : Stream) : Result (Unit {0}) Stop → Type 0 where
  did_text : {result : Result (Unit {0}) Stop} (bytes : List ℕ) → HadLeft source bytes → WasRead source bytes → DidText mode bytes out result → DidSource mode source out result
  not_read : Faulted source → Untouched out → DidSource mode source out (Err Stop.ReadFault)
  out_of_memory : Untouched out → DidSource mode source out (Err Stop.Memory)

-- the program ended by itself: not out of memory, and no read or write that failed
abbrev pub EndedByItself : ℕ → Type 0
EndedByItself status = (status ≢ 6) × (status ≢ 7) × (status ≢ 8)

-- it answered what is expected; it read all of its input where the arguments are good, and none where they aren't
pub record Answered (arguments : List (List ℕ)) (source out err : Stream) (status : ℕ) : Type 0 where
  pub bytes : List ℕ
  pub answer : Answer
  pub had_left : HadLeft source bytes
  pub expected : Expected arguments bytes answer
  pub status_is : status ≡ answer.status
  pub on_out : Gained out answer.out
  pub on_err : Gained err answer.err
  pub was_read : IsCommand arguments → WasRead source bytes
  pub left_unread : ¬ IsCommand arguments → Untouched source

-- out of memory
pub record RanOutOfMemory (arguments : List (List ℕ)) (source out err : Stream) : Type 0 where
  pub on_out : (bytes : List ℕ) (answer : Answer) → HadLeft source bytes → Expected arguments bytes answer → GainedPrefix out answer.out
  pub on_err : GainedUnlessFaulted err (line_of Stop.Memory)

-- a read failed
pub record ReadFailed (arguments : List (List ℕ)) (source out err : Stream) : Type 0 where
  pub good_arguments : IsCommand arguments
  pub faulted : Faulted source
  pub on_out : Untouched out
  pub on_err : Gained err (line_of Stop.ReadFault)

-- a write failed: on out, or on err where the expected line or the line of a failed read was written
pub data WriteFailed (arguments : List (List ℕ)) (source out err : Stream) : Type 0 where
  on_out : (bytes : List ℕ) (answer : Answer) → HadLeft source bytes → Expected arguments bytes answer → Faulted out → GainedPrefix out answer.out
      → GainedUnlessFaulted err (line_of Stop.WriteFault) → WriteFailed arguments source out err
  on_err : (bytes : List ℕ) (answer : Answer) → HadLeft source bytes → Expected arguments bytes answer → Faulted err → Untouched out
      → GainedPrefix err answer.err → WriteFailed arguments source out err
  after_failed_read : IsCommand arguments → Faulted source → Faulted err → Untouched out → GainedPrefix err (line_of Stop.ReadFault) → WriteFailed arguments source out err

-- which arguments and texts are taken, and which are refused
pub record Accepts (arguments : List (List ℕ)) (bytes : List ℕ) (status : ℕ) : Type 0 where
  pub returns : (status ≡ 0) ↔ ((mode : Mode) × (arguments ≡ arguments_of mode) × Takes mode bytes)
  pub refuses_arguments : (status ≡ 2) ↔ (¬ IsCommand arguments)
  pub refuses : (status ≡ 3) ↔ ((mode : Mode) × (arguments ≡ arguments_of mode) × Refuses mode bytes)
