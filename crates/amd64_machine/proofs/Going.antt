-- A run that goes on, one step after another.
use Rattle.std.proofs.Common.{◌≡◌, ℕ, suc, ◌+◌, ◌-◌, ◌<◌, ◌≤◌, List, [], ◌++◌, Option, Some, None, refl, sym, ap, subst, ◌∙◌, arith, append-nil}
use Rattle.std.specs.Prelude.{true, false, is_some, unwrap_or}
use Rattle.std.specs.Io.KnownBytes.{Appends}
use Rattle.std.proofs.lemmas.Grind.{flat_map-append}
use Rattle.hipe_terms.specs.Terms.{Term}
use Rattle.hipe_terms.specs.Shown.{Names}
use Rattle.hipe_edge.specs.Counts.{Rises}
use Rattle.heap_terms.specs.Shapes.{Symbols}
use Rattle.machine_services.specs.Served.{line_of}
use Rattle.amd64_machine.specs.declared.machine.End.{End}
use Rattle.amd64_machine.specs.declared.machine.End.TheVariants as ends
use Rattle.amd64_machine.specs.declared.state.Core.{Core}
use Rattle.amd64_machine.specs.declared.state.Ended.{Ended}
use Rattle.amd64_machine.specs.Machine.{State, CallsService, machine_step, machine_run}
use Rattle.amd64_machine.specs.Result.{after, end_of, displayed_by, lines}
use Rattle.hipe_edge.specs.Streams.{Stream, stream}
use Rattle.amd64_machine.specs.Outcome.{CallsNext, CallsAfter, GainedThenPrefix, Stepped, Ran}
use Rattle.amd64_machine.specs.Seen.{state_at, state_seen, ends_seen, end_seen, machine_seen}
use Rattle.amd64_machine.proofs.Written.{appends_nothing, appends_both, appends_kept, prefix_behind}
use Rattle.amd64_machine.proofs.Runs.{after_end, step_after, run_ended, run_parts, run_last}
use Rattle.amd64_machine.proofs.Ends.{seen_after}

-- k steps were made from one machine to another, and the run goes on
pub record Going (k : ℕ) (symbols : Symbols) (old cur : Core) (out : Stream) : Type 0 where
  pub terms : List Term
  pub here : machine_run symbols k (state_at old []) ≡ state_at cur terms
  pub appended : Appends out.before out.after (lines symbols.definitions terms)
  pub faults : out.faults_before ≤ out.faults_after

pub begins : (symbols : Symbols) (core : Core) (bytes : Option (List ℕ)) (faults : ℕ)
    → Going 0 symbols core core (stream bytes bytes faults faults)
begins symbols core bytes faults = record { terms = []; here = refl; appended = appends_nothing bytes; faults = omega arith }

lines_append : (names : Names) (ts us : List Term) → lines names (ts ++ us) ≡ lines names ts ++ lines names us
lines_append names ts us = flat_map-append (line_of names) ts us

-- the state after one more step
step_more : (k : ℕ) (symbols : Symbols) (old cur : Core) (out : Stream) (g : Going k symbols old cur out)
    → machine_run symbols (suc k) (state_at old []) ≡ after g.terms (machine_step symbols (state_at cur []))
step_more k symbols old cur out g =
    run_last symbols k (state_at old []) ∙ ap (machine_step symbols) g.here
    ∙ ap (λ ts. machine_step symbols (state_at cur ts)) (sym (append-nil g.terms)) ∙ step_after symbols g.terms (state_at cur [])

-- two parts of what was written
abbrev pub joined : Stream → Option (List ℕ) → ℕ → Stream
joined out bytes faults = stream out.before bytes out.faults_before faults

abbrev pub then_on : Stream → Option (List ℕ) → ℕ → Stream
then_on out bytes faults = stream out.after bytes out.faults_after faults

pub goes_on : (k : ℕ) (symbols : Symbols) (old cur new : Core) (out : Stream) (bytes : Option (List ℕ)) (faults : ℕ) (e : Option End)
    → Going k symbols old cur out → out.faults_after ≤ faults
    → Stepped (machine_seen symbols cur None) (machine_seen symbols new None) (then_on out bytes faults) e → e ≡ None
    → Going (suc k) symbols old new (joined out bytes faults)
goes_on k symbols old cur new out bytes faults e g more (Stepped.was_stopped end p q r) h = absurd (cc)
goes_on k symbols old cur new out bytes faults e g more (Stepped.not_written p q state r s) h = absurd (cc)
goes_on k symbols old cur new out bytes faults e g more (Stepped.no_memory p q state r) h = absurd (cc)
goes_on k symbols old cur new out bytes faults e g more (Stepped.done ts p q step written) h =
    record {
      terms = g.terms ++ ts;
      here = step_more k symbols old cur out g ∙ ap (after g.terms) step ∙ sym (seen_after symbols new None g.terms ts);
      appended = subst (Appends out.before bytes) (sym (lines_append symbols.definitions g.terms ts))
          (appends_both out.before out.after bytes _ _ g.appended written);
      faults = omega (arith, g.faults, more);
    }

pub run_is : (n k : ℕ) (symbols : Symbols) (s t : State) (e : End) → k < n → machine_run symbols (suc k) s ≡ t → end_of t ≡ Some e
    → machine_run symbols n s ≡ t
run_is n k symbols s t e less here over =
    let parts : n ≡ suc k + (n - suc k) = omega arith in
    ap (λ m. machine_run symbols m s) parts ∙ run_parts symbols (suc k) (n - suc k) s
    ∙ ap (machine_run symbols (n - suc k)) here ∙ run_ended symbols (n - suc k) t e over

end_is : (end : End) (o : Option End) → o ≡ Some end → unwrap_or o ends.StepsSpent ≡ end
end_is end o h = ap (λ x. unwrap_or x ends.StepsSpent) h

some_is : {a b : End} → Some a ≡ Some b → a ≡ b
some_is h = cc

rises : (a b c : ℕ) → a ≤ b → Rises b c → Rises a c
rises a b c p q = grind arith

-- a service is called after k steps, where the machine that they lead to calls one
calls_after : (n k : ℕ) (symbols : Symbols) (old cur : Core) (out : Stream) → k < n → Going k symbols old cur out
    → CallsNext (machine_seen symbols cur None) → CallsAfter k n (machine_seen symbols old None)
calls_after n k symbols old cur out less g calls =
    record { fewer = less; stopped = refl; service = subst CallsService (sym g.here) calls.service }

-- the step after k ends the run
pub run_ends : (n k : ℕ) (symbols : Symbols) (old cur new : Core) (ended : Option Ended) (out : Stream) (bytes : Option (List ℕ)) (faults : ℕ) (e : Option End) (end : End)
    → k < n → Going k symbols old cur out
    → Stepped (machine_seen symbols cur None) (machine_seen symbols new ended) (then_on out bytes faults) e → e ≡ Some end
    → Ran n (machine_seen symbols old None) (machine_seen symbols new ended) (joined out bytes faults) end
run_ends n k symbols old cur new ended out bytes faults e end less g (Stepped.was_stopped end' p q r) h = absurd (cc)
run_ends n k symbols old cur new ended out bytes faults e end less g (Stepped.not_written p q state r s) h =
    let before = lines symbols.definitions g.terms in
    let shown : lines symbols.definitions (displayed_by (machine_step symbols (state_at cur [])))
    ≡ lines symbols.definitions (displayed_by (machine_step symbols (state_seen symbols new ended []))) =
    ap (λ t. lines symbols.definitions (displayed_by (machine_step symbols t))) (sym (state [])) in
    subst (Ran n (machine_seen symbols old None) (machine_seen symbols new ended) (joined out bytes faults)) (some_is h)
    (Ran.not_written k g.terms (calls_after n k symbols old cur out less g p) q (g.here ∙ sym (state g.terms))
    (rises out.faults_before out.faults_after faults g.faults r)
    (subst (GainedThenPrefix (joined out bytes faults) before) shown (prefix_behind out.before out.after bytes before _ g.appended s)))
run_ends n k symbols old cur new ended out bytes faults e end less g (Stepped.no_memory p q state r) h =
    subst (Ran n (machine_seen symbols old None) (machine_seen symbols new ended) (joined out bytes faults)) (some_is h)
    (Ran.no_memory k g.terms (calls_after n k symbols old cur out less g p) q (g.here ∙ sym (state g.terms)) (appends_kept out.before out.after bytes _ g.appended r))
run_ends n k symbols old cur new ended out bytes faults e end less g (Stepped.done ts p q step written) h =
    let here : machine_run symbols (suc k) (state_at old []) ≡ state_seen symbols new ended (g.terms ++ ts) =
    step_more k symbols old cur out g ∙ ap (after g.terms) step ∙ sym (seen_after symbols new ended g.terms ts) in
    let over : end_of (state_seen symbols new ended (g.terms ++ ts)) ≡ Some end =
    ap end_of (seen_after symbols new ended g.terms ts) ∙ after_end g.terms (state_seen symbols new ended ts) ∙ h in
    subst (Ran n (machine_seen symbols old None) (machine_seen symbols new ended) (joined out bytes faults))
    (end_is end (end_of (state_seen symbols new ended (g.terms ++ ts))) over)
    (Ran.done (g.terms ++ ts) refl q (run_is n k symbols (state_at old []) _ end less here over)
    (subst (Appends out.before bytes) (sym (lines_append symbols.definitions g.terms ts))
    (appends_both out.before out.after bytes _ _ g.appended written)))

-- all steps were made
pub run_spent : (n k : ℕ) (symbols : Symbols) (old cur : Core) (out : Stream) → k ≡ n → Going k symbols old cur out
    → Ran n (machine_seen symbols old None) (machine_seen symbols cur None) out ends.StepsSpent
run_spent n k symbols old cur out same g =
    Ran.done g.terms refl refl (ap (λ m. machine_run symbols m (state_at old [])) (sym same) ∙ g.here) g.appended

-- the same by what the code answers
pub run_ends_so : (n k : ℕ) (symbols : Symbols) (old cur new : Core) (ended : Option Ended) (out : Stream) (bytes : Option (List ℕ)) (faults : ℕ)
    → k < n → Going k symbols old cur out
    → Stepped (machine_seen symbols cur None) (machine_seen symbols new ended) (then_on out bytes faults) (ends_seen ended) → is_some ended ≡ true
    → Ran n (machine_seen symbols old None) (machine_seen symbols new ended) (joined out bytes faults) (unwrap_or (ends_seen ended) ends.StepsSpent)
run_ends_so n k symbols old cur new None out bytes faults less g s some = absurd (cc)
run_ends_so n k symbols old cur new (Some ended) out bytes faults less g s some =
    run_ends n k symbols old cur new (Some ended) out bytes faults (Some (end_seen ended)) (end_seen ended) less g s refl

pub goes_on_so : (k : ℕ) (symbols : Symbols) (old cur new : Core) (ended : Option Ended) (out : Stream) (bytes : Option (List ℕ)) (faults : ℕ)
    → Going k symbols old cur out → out.faults_after ≤ faults
    → Stepped (machine_seen symbols cur None) (machine_seen symbols new ended) (then_on out bytes faults) (ends_seen ended) → is_some ended ≡ false
    → Going (suc k) symbols old new (joined out bytes faults)
goes_on_so k symbols old cur new (Some ended) out bytes faults g more s none = absurd (cc)
goes_on_so k symbols old cur new None out bytes faults g more s none = goes_on k symbols old cur new out bytes faults None g more s refl
