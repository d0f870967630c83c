-- From what answering a source came to, and from the line on err, to the clauses of the whole program.
use Rattle.std.proofs.Common.{◌≡◌, ◌≢◌, inl, inr, ℕ, List, [], Option, Some, None, Result, Ok, Err, refl, sym, ◌∙◌, subst, arith}
use Rattle.std.specs.Prelude.{IfSome, unwrap_or}
use Rattle.hipe_stop.specs.declared.stop.Stop.{Stop}
use Rattle.hipe_top.specs.declared.arguments.Mode.{Mode}
use Rattle.hipe_top.specs.Answers.{refused, answered, AnswerOf, bad_arguments, of_mode}
use Rattle.hipe_top.specs.Command.{IsCommand, arguments_of}
use Rattle.hipe_edge.specs.Streams.{Stream, stream, Faulted, Untouched, GainedPrefix, HadLeft}
use Rattle.hipe_stop.specs.Inputs.{WasRead}
use Rattle.hipe_stop.specs.Reports.{Reported, whole, broken, Ended}
use Rattle.hipe_top.specs.Outcome.{DidText, did, not_written, refused_as, no_memory, DidSource, did_text, not_read, out_of_memory, EndedByItself, Answered, RanOutOfMemory, ReadFailed, WriteFailed, on_out, on_err, after_failed_read, Accepts}
use Rattle.hipe_stop.specs.Stops.{status_of, status_unwritten}
use Rattle.hipe_stop.proofs.Inputs.{keeps_same, untouched_gains, untouched_prefix, had_known}
use Rattle.hipe_stop.proofs.Lines.{memory_status, line_or_prefix}
use Rattle.hipe_top.proofs.Taking.{refused_status, expected_accepts}

-- ---- arguments that aren't good

pub arguments_answered : (arguments : List (List ℕ)) (left written : Option (List ℕ)) (f g status : ℕ) (err : Stream) → ¬ IsCommand arguments → Reported Stop.Arguments err status → EndedByItself status
    → Answered arguments (stream left left f f) (stream written written g g) err status
arguments_answered arguments left written f g status err bad (whole is line) itself =
    record {
      bytes = unwrap_or left [];
      answer = refused Stop.Arguments;
      had_left = had_known (stream left left f f);
      expected = bad_arguments bad;
      status_is = is;
      on_out = untouched_gains (stream written written g g) (keeps_same written);
      on_err = line;
      was_read = λ good. absurd (bad good);
      left_unread = λ _. keeps_same left;
    }
arguments_answered arguments left written f g status err bad (broken is faulted prefix) itself = absurd (itself.1 is)

pub arguments_not_written : (arguments : List (List ℕ)) (left written : Option (List ℕ)) (f g status : ℕ) (err : Stream) → ¬ IsCommand arguments → Reported Stop.Arguments err status → status ≡ 7
    → WriteFailed arguments (stream left left f f) (stream written written g g) err
arguments_not_written arguments left written f g status err bad (whole is line) seven = absurd (omega (arith, is, seven))
arguments_not_written arguments left written f g status err bad (broken is faulted prefix) seven =
    on_err (unwrap_or left []) (refused Stop.Arguments) (had_known (stream left left f f)) (bad_arguments bad) faulted (keeps_same written) prefix

-- ---- a source

module _ (arguments : List (List ℕ)) (mode : Mode) (good : arguments ≡ arguments_of mode) (source out : Stream) where
  abbrev command : IsCommand arguments
  command = (mode, good)

  -- what a stop says of the source and of out
  abbrev Refusing : Stop → Type 0
  Refusing stop = (bytes : List ℕ) × HadLeft source bytes × WasRead source bytes × AnswerOf bytes mode (refused stop) × Untouched out

  abbrev Means : Stop → Type 0
  Means Stop.Arguments = ⊥
  Means (Stop.Call p) = ⊥
  Means Stop.TooLong = Refusing Stop.TooLong
  Means (Stop.Refused r p) = Refusing (Stop.Refused r p)
  Means Stop.ReadFault = Faulted source × Untouched out
  Means Stop.WriteFault = (bytes : List ℕ) × (line : List ℕ) × HadLeft source bytes × AnswerOf bytes mode (answered line) × Faulted out × GainedPrefix out line
  Means Stop.Memory = Untouched out

  refusing : (stop : Stop) (bytes : List ℕ) → HadLeft source bytes → WasRead source bytes → AnswerOf bytes mode (refused stop) → Untouched out → Means stop
  refusing Stop.Arguments bytes had was a untouched = absurd (let three = refused_status bytes mode Stop.Arguments a in omega (arith, three))
  refusing (Stop.Call p) bytes had was a untouched = absurd (let three = refused_status bytes mode (Stop.Call p) a in omega (arith, three))
  refusing Stop.TooLong bytes had was a untouched = (bytes, had, was, a, untouched)
  refusing (Stop.Refused r p) bytes had was a untouched = (bytes, had, was, a, untouched)
  refusing Stop.ReadFault bytes had was a untouched = absurd (let three = refused_status bytes mode Stop.ReadFault a in omega (arith, three))
  refusing Stop.WriteFault bytes had was a untouched = absurd (let three = refused_status bytes mode Stop.WriteFault a in omega (arith, three))
  refusing Stop.Memory bytes had was a untouched = absurd (let three = refused_status bytes mode Stop.Memory a in omega (arith, three))

  means_of_text : {r : Result (Unit {0}) Stop} (bytes : List ℕ) → HadLeft source bytes → WasRead source bytes → DidText mode bytes out r → (stop : Stop) → r ≡ Err stop → Means stop
  means_of_text bytes had was (did line a gained) stop is = absurd (cc)
  means_of_text bytes had was (not_written line a faulted prefix) stop is = let same : Stop.WriteFault ≡ stop = cc in subst Means same (bytes, line, had, a, faulted, prefix)
  means_of_text bytes had was (refused_as s a untouched) stop is = let same : s ≡ stop = cc in subst Means same (refusing s bytes had was a untouched)
  means_of_text bytes had was (no_memory untouched) stop is = let same : Stop.Memory ≡ stop = cc in subst Means same untouched

  means_of : {r : Result (Unit {0}) Stop} → DidSource mode source out r → (stop : Stop) → r ≡ Err stop → Means stop
  means_of (did_text bytes had was text) stop is = means_of_text bytes had was text stop is
  means_of (not_read faulted untouched) stop is = let same : Stop.ReadFault ≡ stop = cc in subst Means same (faulted, untouched)
  means_of (out_of_memory untouched) stop is = let same : Stop.Memory ≡ stop = cc in subst Means same untouched

  -- the line was written
  line_of_text : {r : Result (Unit {0}) Stop} (err : Stream) (bytes : List ℕ) → Untouched err → HadLeft source bytes → WasRead source bytes → DidText mode bytes out r → (u : Unit {0}) → r ≡ Ok u → Answered arguments source out err 0
  line_of_text err bytes still had was (did line a gained) u is =
      record {
        bytes = bytes;
        answer = answered line;
        had_left = had;
        expected = of_mode mode good a;
        status_is = refl;
        on_out = gained;
        on_err = untouched_gains err still;
        was_read = λ _. was;
        left_unread = λ bad. absurd (bad command);
      }
  line_of_text err bytes still had was (not_written line a faulted prefix) u is = absurd (cc)
  line_of_text err bytes still had was (refused_as s a untouched) u is = absurd (cc)
  line_of_text err bytes still had was (no_memory untouched) u is = absurd (cc)

  pub line_answered : {r : Result (Unit {0}) Stop} (err : Stream) → Untouched err → DidSource mode source out r → (u : Unit {0}) → r ≡ Ok u → Answered arguments source out err 0
  line_answered err still (did_text bytes had was text) u is = line_of_text err bytes still had was text u is
  line_answered err still (not_read faulted untouched) u is = absurd (cc)
  line_answered err still (out_of_memory untouched) u is = absurd (cc)

  -- ---- a stop, with its line on err

  module _ (err : Stream) (status : ℕ) where
    by_status : {X : Type 0} (stop : Stop) → Reported stop err status → (status ≡ status_of stop → X) → (status ≡ status_unwritten stop → X) → X
    by_status stop (whole is line) a b = a is
    by_status stop (broken is faulted prefix) a b = b is

    refusal_answered : (stop : Stop) → Refusing stop → Reported stop err status → status ≢ 7 → status_unwritten stop ≡ 7 → Answered arguments source out err status
    refusal_answered stop (bytes, had, was, a, untouched) (whole is line) itself seven =
        record {
          bytes = bytes;
          answer = refused stop;
          had_left = had;
          expected = of_mode mode good a;
          status_is = is;
          on_out = untouched_gains out untouched;
          on_err = line;
          was_read = λ _. was;
          left_unread = λ bad. absurd (bad command);
        }
    refusal_answered stop m (broken is faulted prefix) itself seven = absurd (itself (is ∙ seven))

    stop_answered : (stop : Stop) → Means stop → Ended stop err status → EndedByItself status → Answered arguments source out err status
    stop_answered Stop.Arguments m r itself = absurd m
    stop_answered (Stop.Call p) m r itself = absurd m
    stop_answered Stop.TooLong m r itself = refusal_answered Stop.TooLong m r itself.1 refl
    stop_answered (Stop.Refused why p) m (inl r) itself = refusal_answered (Stop.Refused why p) m r itself.1 refl
    stop_answered (Stop.Refused why p) m (inr r) itself = absurd (itself.2 (memory_status r))
    stop_answered Stop.ReadFault m r itself = by_status Stop.ReadFault r (λ is. absurd (itself.0 is)) (λ is. absurd (itself.1 is))
    stop_answered Stop.WriteFault m r itself = by_status Stop.WriteFault r (λ is. absurd (itself.1 is)) (λ is. absurd (itself.1 is))
    stop_answered Stop.Memory m r itself = absurd (itself.2 (memory_status r))

    without_memory : Untouched out → Reported Stop.Memory err status → RanOutOfMemory arguments source out err
    without_memory untouched r = record { on_out = λ bytes answer had expected. untouched_prefix out answer.out untouched; on_err = line_or_prefix Stop.Memory r }

    stop_without_memory : (stop : Stop) → Means stop → Ended stop err status → status ≡ 8 → RanOutOfMemory arguments source out err
    stop_without_memory Stop.Arguments m r eight = absurd m
    stop_without_memory (Stop.Call p) m r eight = absurd m
    stop_without_memory Stop.TooLong m r eight = by_status Stop.TooLong r (λ is. absurd (omega (arith, is, eight))) (λ is. absurd (omega (arith, is, eight)))
    stop_without_memory (Stop.Refused why p) m (inl r) eight = by_status (Stop.Refused why p) r (λ is. absurd (omega (arith, is, eight))) (λ is. absurd (omega (arith, is, eight)))
    stop_without_memory (Stop.Refused why p) (bytes, had, was, a, untouched) (inr r) eight = without_memory untouched r
    stop_without_memory Stop.ReadFault m r eight = by_status Stop.ReadFault r (λ is. absurd (omega (arith, is, eight))) (λ is. absurd (omega (arith, is, eight)))
    stop_without_memory Stop.WriteFault m r eight = by_status Stop.WriteFault r (λ is. absurd (omega (arith, is, eight))) (λ is. absurd (omega (arith, is, eight)))
    stop_without_memory Stop.Memory m r eight = without_memory m r

    read_line_written : Faulted source → Untouched out → Reported Stop.ReadFault err status → status ≡ 6 → ReadFailed arguments source out err
    read_line_written faulted untouched (whole is line) six = record { good_arguments = command; faulted = faulted; on_out = untouched; on_err = line }
    read_line_written faulted untouched (broken is faulted2 prefix) six = absurd (omega (arith, is, six))

    stop_not_read : (stop : Stop) → Means stop → Ended stop err status → status ≡ 6 → ReadFailed arguments source out err
    stop_not_read Stop.Arguments m r six = absurd m
    stop_not_read (Stop.Call p) m r six = absurd m
    stop_not_read Stop.TooLong m r six = by_status Stop.TooLong r (λ is. absurd (omega (arith, is, six))) (λ is. absurd (omega (arith, is, six)))
    stop_not_read (Stop.Refused why p) m (inl r) six = by_status (Stop.Refused why p) r (λ is. absurd (omega (arith, is, six))) (λ is. absurd (omega (arith, is, six)))
    stop_not_read (Stop.Refused why p) m (inr r) six = absurd (let eight = memory_status r in omega (arith, eight, six))
    stop_not_read Stop.ReadFault m r six = read_line_written m.0 m.1 r six
    stop_not_read Stop.WriteFault m r six = by_status Stop.WriteFault r (λ is. absurd (omega (arith, is, six))) (λ is. absurd (omega (arith, is, six)))
    stop_not_read Stop.Memory m r six = absurd (let eight = memory_status r in omega (arith, eight, six))

    refusal_not_written : (stop : Stop) → Refusing stop → Reported stop err status → status ≡ 7 → status_of stop ≡ 3 → WriteFailed arguments source out err
    refusal_not_written stop m (whole is line) seven three = absurd (omega (arith, is, seven, three))
    refusal_not_written stop (bytes, had, was, a, untouched) (broken is faulted prefix) seven three = on_err bytes (refused stop) had (of_mode mode good a) faulted untouched prefix

    read_line_not_written : Faulted source → Untouched out → Reported Stop.ReadFault err status → status ≡ 7 → WriteFailed arguments source out err
    read_line_not_written faulted untouched (whole is line) seven = absurd (omega (arith, is, seven))
    read_line_not_written faulted untouched (broken is faulted2 prefix) seven = after_failed_read command faulted faulted2 untouched prefix

    stop_not_written : (stop : Stop) → Means stop → Ended stop err status → status ≡ 7 → WriteFailed arguments source out err
    stop_not_written Stop.Arguments m r seven = absurd m
    stop_not_written (Stop.Call p) m r seven = absurd m
    stop_not_written Stop.TooLong m r seven = refusal_not_written Stop.TooLong m r seven refl
    stop_not_written (Stop.Refused why p) m (inl r) seven = refusal_not_written (Stop.Refused why p) m r seven refl
    stop_not_written (Stop.Refused why p) m (inr r) seven = absurd (let eight = memory_status r in omega (arith, eight, seven))
    stop_not_written Stop.ReadFault m r seven = read_line_not_written m.0 m.1 r seven
    stop_not_written Stop.WriteFault (bytes, line, had, a, faulted, prefix) r seven =
        on_out bytes (answered line) had (of_mode mode good a) faulted prefix (line_or_prefix Stop.WriteFault r)
    stop_not_written Stop.Memory m r seven = absurd (let eight = memory_status r in omega (arith, eight, seven))

    -- ---- the clauses, from what the two calls promise

    pub err_answered : {r : Result (Unit {0}) Stop} → DidSource mode source out r → (stop : Stop) → r ≡ Err stop → Ended stop err status → EndedByItself status → Answered arguments source out err status
    err_answered text stop is r itself = stop_answered stop (means_of text stop is) r itself

    pub err_without_memory : {r : Result (Unit {0}) Stop} → DidSource mode source out r → (stop : Stop) → r ≡ Err stop → Ended stop err status → status ≡ 8 → RanOutOfMemory arguments source out err
    err_without_memory text stop is r eight = stop_without_memory stop (means_of text stop is) r eight

    pub err_not_read : {r : Result (Unit {0}) Stop} → DidSource mode source out r → (stop : Stop) → r ≡ Err stop → Ended stop err status → status ≡ 6 → ReadFailed arguments source out err
    err_not_read text stop is r six = stop_not_read stop (means_of text stop is) r six

    pub err_not_written : {r : Result (Unit {0}) Stop} → DidSource mode source out r → (stop : Stop) → r ≡ Err stop → Ended stop err status → status ≡ 7 → WriteFailed arguments source out err
    err_not_written text stop is r seven = stop_not_written stop (means_of text stop is) r seven

-- ---- which texts are taken

accepts_known : (arguments : List (List ℕ)) (known : Option (List ℕ)) (bytes : List ℕ) (status : ℕ) → IfSome known (λ xs. xs ≡ bytes) → Accepts arguments bytes status → IfSome known (λ xs. Accepts arguments xs status)
accepts_known arguments None bytes status had a = tt
accepts_known arguments (Some xs) bytes status had a = subst (λ b. Accepts arguments b status) (sym had) a

pub answered_accepts : (arguments : List (List ℕ)) (source out err : Stream) (status : ℕ) → Answered arguments source out err status → IfSome source.before (λ bytes. Accepts arguments bytes status)
answered_accepts arguments source out err status a =
    accepts_known arguments source.before a.bytes status a.had_left (subst (λ s. Accepts arguments a.bytes s) (sym a.status_is) (expected_accepts a.expected))
