-- From what the arguments and the source came to, and from the line on err, to what the program did.
use Rattle.std.proofs.Common.{◌≡◌, ◌⊎◌, inl, inr, ℕ, List, [], Result, Ok, Err, refl, ◌∙◌, subst}
use Rattle.std.specs.Prelude.{unwrap_or}
use Rattle.hipe_stop.specs.declared.stop.Stop.{Stop}
use Rattle.eval_source.specs.Answers.{ran, refused, Expected}
use Rattle.hipe_stop.specs.Reports.{Reported, whole, broken, Ended}
use Rattle.eval_source.specs.Outcome.{Came, wrote, wrote_prefix, refused_arguments, refused_text, not_read, no_memory, Did, answered, refused_unread, read_failed, write_failed, line_lost, memory_wanting}
use Rattle.hipe_stop.specs.Stops.{status_of, status_unwritten, line_of}
use Rattle.hipe_edge.specs.Streams.{Stream, Faulted, Untouched, Gained, GainedPrefix, HadLeft}
use Rattle.hipe_stop.specs.Inputs.{WasRead}
use Rattle.hipe_stop.proofs.Inputs.{untouched_gains, had_known}
use Rattle.hipe_stop.proofs.Lines.{ended_cases, unwritten}

module _ (arguments : List (List ℕ)) (source out err : Stream) (status : ℕ) where
  pub returned : {r : Result ℕ Stop} → Untouched err → Came arguments source out r → r ≡ Ok status → Did arguments source out err status
  returned still (wrote bytes text s had was is gained) e = let same : status ≡ s = cc in answered bytes (ran s text) had was is same gained (untouched_gains err still)
  returned still (wrote_prefix bytes text s had was is faulted prefix) e = absurd (cc)
  returned still (refused_arguments stop is unread untouched) e = absurd (cc)
  returned still (refused_text bytes stop had was is untouched) e = absurd (cc)
  returned still (not_read faulted untouched) e = absurd (cc)
  returned still (no_memory untouched) e = absurd (cc)

  without_memory : Untouched out → Reported Stop.Memory err status → Did arguments source out err status
  without_memory untouched (whole is line) = memory_wanting untouched is (inl line)
  without_memory untouched (broken is faulted prefix) = memory_wanting untouched is (inr (faulted, prefix))

  abbrev Lost : Stop → Type 0
  Lost stop = ((bytes : List ℕ) × HadLeft source bytes × Expected arguments bytes (refused stop)) ⊎ (Faulted source × (stop ≡ Stop.ReadFault))

  -- a line that was written, or not
  lined : (stop : Stop) → Untouched out → Lost stop → (status ≡ status_of stop → Gained err (line_of stop) → Did arguments source out err status) → Reported stop err status → Did arguments source out err status
  lined stop untouched why then (whole is line) = then is line
  lined stop untouched why then (broken is faulted prefix) = by (unwritten stop)
    where
      by : (status_unwritten stop ≡ 7) ⊎ (stop ≡ Stop.Memory) → Did arguments source out err status
      by (inl seven) = line_lost stop why untouched faulted (is ∙ seven) prefix
      by (inr memory) = without_memory untouched (subst (λ s. Reported s err status) memory (broken is faulted prefix))

  ended_line : (stop : Stop) → Untouched out → Lost stop → (status ≡ status_of stop → Gained err (line_of stop) → Did arguments source out err status) → Ended stop err status → Did arguments source out err status
  ended_line stop untouched why then r = by (ended_cases stop err status r)
    where
      by : Reported stop err status ⊎ Reported Stop.Memory err status → Did arguments source out err status
      by (inl r) = lined stop untouched why then r
      by (inr r) = without_memory untouched r

  unwritten_run : (bytes text : List ℕ) (s : ℕ) → HadLeft source bytes → WasRead source bytes → Expected arguments bytes (ran s text) → Faulted out → GainedPrefix out text → Reported Stop.WriteFault err status → Did arguments source out err status
  unwritten_run bytes text s had was is faulted prefix (whole seven line) = write_failed bytes text s had was is faulted prefix seven (inl line)
  unwritten_run bytes text s had was is faulted prefix (broken seven lost part) = write_failed bytes text s had was is faulted prefix seven (inr (lost, part))

  pub stopped : {r : Result ℕ Stop} → Came arguments source out r → (stop : Stop) → r ≡ Err stop → Ended stop err status → Did arguments source out err status
  stopped (wrote bytes text s had was is gained) stop e r = absurd (cc)
  stopped (wrote_prefix bytes text s had was is faulted prefix) stop e r =
      let same : stop ≡ Stop.WriteFault = cc in unwritten_run bytes text s had was is faulted prefix (subst (λ x. Ended x err status) same r)
  stopped (refused_arguments s is unread untouched) stop e r =
      let same : stop ≡ s = cc in
      ended_line s untouched (inl (unwrap_or source.before [], had_known source, is (unwrap_or source.before []))) (λ status_is line. refused_unread s is unread status_is untouched line) (subst (λ x. Ended x err status) same r)
  stopped (refused_text bytes s had was is untouched) stop e r =
      let same : stop ≡ s = cc in
      ended_line s untouched (inl (bytes, had, is)) (λ status_is line. answered bytes (refused s) had was is status_is (untouched_gains out untouched) line) (subst (λ x. Ended x err status) same r)
  stopped (not_read faulted untouched) stop e r =
      let same : stop ≡ Stop.ReadFault = cc in
      ended_line Stop.ReadFault untouched (inr (faulted, refl)) (λ status_is line. read_failed faulted status_is untouched line) (subst (λ x. Ended x err status) same r)
  stopped (no_memory untouched) stop e r = let same : stop ≡ Stop.Memory = cc in without_memory untouched (subst (λ x. Ended x err status) same r)
