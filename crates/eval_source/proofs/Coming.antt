-- From what the calls below promise to what the arguments and the source come to.
use Rattle.std.proofs.Common.{◌≡◌, ℕ, ◌+◌, ◌≤◌, List, length, Option, option_map, Some, None, Ok, Err, refl, sym, ap, ◌∙◌}
use Rattle.std.specs.Prelude.{IsErrOf, ◌↔◌}
use Rattle.std.specs.Io.KnownBytes.{Consumes, IsAtEnd, Appends}
use Rattle.hipe_edge.specs.Bytes.{TakesCount, AppendsPrefix}
use Rattle.hipe_edge.specs.Counts.{Rises}
use Rattle.hipe_edge.specs.declared.reading.ReadAllFault.{ReadAllFault}
use Rattle.hipe_edge.specs.declared.reading.ReadAllFault.TheVariants as reads
use Rattle.hipe_terms.specs.declared.constant.Call.{Call}
use Rattle.core_ast.specs.declared.tree.Module.{Module}
use Rattle.core_ast.specs.Trees.{module_of}
use Rattle.core_ast.specs.Good.{IsGood}
use Rattle.core_reader.specs.declared.refusal.CallRefusal.{CallRefusal}
use Rattle.core_reader.specs.Language.{Reads, ReadsCall, AnswersCall, OnlyCall}
use Rattle.hipe_base.specs.declared.limits.TheConstants.{TEXT_LIMIT}
use Rattle.hipe_stop.specs.declared.stop.Stop.{Stop}
use Rattle.eval_source.specs.Answers.{ran, too_long, ended, Expected, bad_arguments, no_call, of_call, RunWrites}
use Rattle.eval_source.specs.Answers as A
use Rattle.eval_source.specs.Outcome.{Came, wrote, wrote_prefix, refused_arguments, refused_text, no_memory}
use Rattle.eval_source.specs.Outcome as O
use Rattle.hipe_stop.specs.Refusing.{IsStop}
use Rattle.hipe_stop.specs.Refusing as R
use Rattle.hipe_stop.specs.Stops.{stop_of_source, stop_of_call}
use Rattle.hipe_edge.specs.Streams.{stream, HadLeft}
use Rattle.hipe_stop.specs.Inputs.{WasRead}
use Rattle.hipe_stop.proofs.Inputs.{keeps_same, read_whole, read_past}
use Rattle.eval_source.specs.declared.command.Command as Rust
use Rattle.eval_source.specs.Commands.{command_in}
use Rattle.eval_source.specs.Arguments.{Command, command_of}

-- ---- the arguments

pub asked : (o : Option Rust.Command) (x : Rust.Command) (w : Option Command) → option_map command_in o ≡ w → o ≡ Some x → w ≡ Some (command_in x)
asked o x w e is = sym e ∙ ap (option_map command_in) is

pub asked_nothing : (o : Option Rust.Command) (w : Option Command) → option_map command_in o ≡ w → ((x : Rust.Command) → o ≡ Some x → ⊥) → w ≡ None
asked_nothing None w e n = sym e
asked_nothing (Some x) w e n = absurd (n x refl)

pub arguments_refused : (arguments : List (List ℕ)) (left written : Option (List ℕ)) (f g : ℕ) → command_of arguments ≡ None → Came arguments (stream left left f f) (stream written written g g) (Err Stop.Arguments)
arguments_refused arguments left written f g e = refused_arguments Stop.Arguments (λ bytes. bad_arguments e) (keeps_same left) (keeps_same written)

pub call_refused : (arguments : List (List ℕ)) (c : Command) (why : CallRefusal) (left written : Option (List ℕ)) (f g : ℕ) → command_of arguments ≡ Some c → AnswersCall c.call (Err why) → OnlyCall c.call (Err why)
    → Came arguments (stream left left f f) (stream written written g g) (Err (stop_of_call why))
call_refused arguments c (CallRefusal.Refused p) left written f g e is none = refused_arguments (Stop.Call p) (λ bytes. no_call c p e none is) (keeps_same left) (keeps_same written)
call_refused arguments c CallRefusal.Memory left written f g e is none = no_memory (keeps_same written)

-- ---- the text

pub not_read : (T : Type 0) (arguments : List (List ℕ)) (c : Command) (call : Call) (fault : ReadAllFault) (left left' written : Option (List ℕ)) (f f' g : ℕ)
    → command_of arguments ≡ Some c → ReadsCall c.call call
    → TakesCount left left' (λ n. (n ≤ TEXT_LIMIT + 1) × ((n ≡ TEXT_LIMIT + 1) ↔ IsErrOf {T = T} (Err fault) reads.TooLong))
    → (IsErrOf {T = T} (Err fault) reads.ReadFault → Rises f f') → Came arguments (stream left left' f f') (stream written written g g) (Err (stop_of_source fault))
not_read T arguments c call reads.ReadFault left left' written f f' g e r taken rises = O.not_read (rises refl) (keeps_same written)
not_read T arguments c call reads.TooLong left left' written f f' g e r taken rises =
    let past = read_past left left' f f' taken.0 taken.1 (taken.2.1.1 refl) in
    refused_text past.0 Stop.TooLong past.1 past.2 (of_call c call e r (too_long past.3)) (keeps_same written)
not_read T arguments c call reads.Memory left left' written f f' g e r taken rises = no_memory (keeps_same written)

pub text_refused : (arguments : List (List ℕ)) (c : Command) (call : Call) (bytes : List ℕ) (stop : Stop) (left left' written : Option (List ℕ)) (f f' g : ℕ)
    → command_of arguments ≡ Some c → ReadsCall c.call call → Consumes left left' bytes → IsAtEnd left' → length bytes ≤ TEXT_LIMIT → IsStop bytes stop
    → Came arguments (stream left left' f f') (stream written written g g) (Err stop)
text_refused arguments c call bytes _ left left' written f f' g e r taken end short (R.not_read why none is) =
    let whole = read_whole left left' f f' bytes taken end short in
    refused_text bytes _ whole.0 whole.1 (of_call c call e r (A.not_read why short none is)) (keeps_same written)
text_refused arguments c call bytes _ left left' written f f' g e r taken end short (R.not_good m rule p reads first) =
    let whole = read_whole left left' f f' bytes taken end short in
    refused_text bytes _ whole.0 whole.1 (of_call c call e r (A.not_good m rule p short reads first)) (keeps_same written)
text_refused arguments c call bytes _ left left' written f f' g e r taken end short R.out_of_memory = no_memory (keeps_same written)

-- ---- the run

module _ (arguments : List (List ℕ)) (c : Command) (call : Call) (m : Module) (bytes text : List ℕ) (status : ℕ) (left left' written written' : Option (List ℕ)) (f f' g g' : ℕ)
    (e : command_of arguments ≡ Some c) (r : ReadsCall c.call call) (taken : Consumes left left' bytes) (end : IsAtEnd left') (short : length bytes ≤ TEXT_LIMIT)
    (reads : Reads bytes m) (good : IsGood (module_of m)) (is : RunWrites (module_of m) call c.fuel text status) where
  expected : Expected arguments bytes (ran status text)
  expected = of_call c call e r (ended m text status short reads good is)

  whole : HadLeft (stream left left' f f') bytes × WasRead (stream left left' f f') bytes
  whole = read_whole left left' f f' bytes taken end short

  pub run_written : Appends written written' text → Came arguments (stream left left' f f') (stream written written' g g') (Ok status)
  run_written gained = wrote bytes text status whole.0 whole.1 expected gained

  pub run_unwritten : Rises g g' → AppendsPrefix written written' text → Came arguments (stream left left' f f') (stream written written' g g') (Err Stop.WriteFault)
  run_unwritten faulted prefix = wrote_prefix bytes text status whole.0 whole.1 expected faulted prefix
