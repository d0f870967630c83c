-- A machine that is over stays so.
use Rattle.std.proofs.Common.{◌≡◌, ℕ, ◌+◌, List, [], ◌++◌, Option, Some, None, refl, sym, ap, subst, inl, inr, ◌∙◌, append-nil}
use Rattle.std.specs.Prelude.{◌⊎◌, unwrap_or}
use Rattle.hipe_terms.specs.Terms.{Term}
use Rattle.heap_terms.specs.Shapes.{Symbols}
use Rattle.heap_terms.specs.Terms.{term_at}
use Rattle.heap_terms.specs.Seen.{symbols_of}
use Rattle.hipe_terms.specs.declared.class.Class.{Class}
use Rattle.machine_services.specs.Services.{Effect, NoNext, Ends, Answers, Displays, Builds, returned, raised}
use Rattle.amd64_machine.specs.declared.machine.End.{End}
use Rattle.amd64_machine.specs.declared.machine.End.TheVariants as ends
use Rattle.amd64_machine.specs.declared.state.Core.{Core}
use Rattle.amd64_machine.specs.declared.state.Ended.{Ended}
use Rattle.amd64_machine.specs.declared.state.Ended.TheVariants as ways
use Rattle.amd64_machine.specs.Result.{after, end_of, displayed_by}
use Rattle.hipe_edge.specs.Streams.{Stream, stream}
use Rattle.amd64_machine.specs.Machine.{State, machine_run}
use Rattle.amd64_machine.specs.Laws.{CallsGoOn}
use Rattle.amd64_machine.specs.Outcome.{Seen, Stepped, Ran}
use Rattle.amd64_machine.specs.Seen.{HasTerm, over, state_ended, state_seen, stopped_seen, machine_seen, end_seen, Held, machine_of}
use Rattle.amd64_machine.proofs.Written.{keeps, appends_nothing}
use Rattle.amd64_machine.proofs.Runs.{run_ended, run_parts, run_after}

over_after : (at : ℕ) (v : Effect) (ts us : List Term) → over at v (ts ++ us) ≡ after ts (over at v us)
over_after at NoNext ts us = refl
over_after at (Ends ending) ts us = refl
over_after at (Answers word) ts us = refl
over_after at (Displays t) ts us = refl
over_after at (Builds word words) ts us = refl

-- what was displayed before goes before
pub ended_after : (symbols : Symbols) (core : Core) (ended : Ended) (ts us : List Term)
    → state_ended symbols core ended (ts ++ us) ≡ after ts (state_ended symbols core ended us)
ended_after symbols core (ways.Returned word) ts us = over_after core.at (returned (term_at symbols core.region.heap word)) ts us
ended_after symbols core (ways.Raised class word) ts us =
    over_after core.at (raised (Some class) (term_at symbols core.region.heap word)) ts us
ended_after symbols core ways.Undefined ts us = refl
ended_after symbols core ways.HeapFull ts us = refl
ended_after symbols core ways.StackFull ts us = refl
ended_after symbols core (ways.MachineFault at) ts us = refl
ended_after symbols core ways.WriteFault ts us = refl
ended_after symbols core ways.Memory ts us = refl

pub seen_after : (symbols : Symbols) (core : Core) (ended : Option Ended) (ts us : List Term)
    → state_seen symbols core ended (ts ++ us) ≡ after ts (state_seen symbols core ended us)
seen_after symbols core None ts us = refl
seen_after symbols core (Some ended) ts us = ended_after symbols core ended ts us

returned_end : (at : ℕ) (o : Option Term) (t : Term) (ts : List Term) → o ≡ Some t → end_of (over at (returned o) ts) ≡ Some ends.Returned
returned_end at o t ts h = ap (λ x. end_of (over at (returned x) ts)) h

raised_end : (at : ℕ) (class : Class) (o : Option Term) (t : Term) (ts : List Term) → o ≡ Some t
    → end_of (over at (raised (Some class) o) ts) ≡ Some (ends.Raised class)
raised_end at class o t ts h = ap (λ x. end_of (over at (raised (Some class) x) ts)) h

-- the end of a run that is over
pub ended_end : (symbols : Symbols) (core : Core) (ended : Ended) (ts : List Term) → HasTerm symbols core.region.heap (Some ended)
    → stopped_seen (Some ended) ≡ None → end_of (state_ended symbols core ended ts) ≡ Some (end_seen ended)
ended_end symbols core (ways.Returned word) ts h s = returned_end core.at (term_at symbols core.region.heap word) h.0 ts h.1
ended_end symbols core (ways.Raised class word) ts h s = raised_end core.at class (term_at symbols core.region.heap word) h.0 ts h.1
ended_end symbols core ways.Undefined ts h s = refl
ended_end symbols core ways.HeapFull ts h s = refl
ended_end symbols core ways.StackFull ts h s = refl
ended_end symbols core (ways.MachineFault at) ts h s = refl
ended_end symbols core ways.WriteFault ts h s = absurd (cc)
ended_end symbols core ways.Memory ts h s = absurd (cc)

-- it was stopped, or is over by itself
abbrev Over : Ended → Type 0
Over ended = (stopped_seen (Some ended) ≡ None) ⊎ (stopped_seen (Some ended) ≡ Some (end_seen ended))

is_over : (ended : Ended) → Over ended
is_over (ways.Returned word) = inl refl
is_over (ways.Raised class word) = inl refl
is_over ways.Undefined = inl refl
is_over ways.HeapFull = inl refl
is_over ways.StackFull = inl refl
is_over (ways.MachineFault at) = inl refl
is_over ways.WriteFault = inr refl
is_over ways.Memory = inr refl

-- nothing is written
abbrev pub nothing : Option (List ℕ) → ℕ → Stream
nothing bytes faults = stream bytes bytes faults faults

pub stays : (symbols : Symbols) (core : Core) (ended : Ended) (bytes : Option (List ℕ)) (faults : ℕ) → HasTerm symbols core.region.heap (Some ended)
    → Stepped (machine_seen symbols core (Some ended)) (machine_seen symbols core (Some ended)) (nothing bytes faults) (Some (end_seen ended))
stays symbols core ended bytes faults h = elim (is_over ended) [
  | inl s ↦ let e = ended_end symbols core ended [] h s in
      subst (Stepped (machine_seen symbols core (Some ended)) (machine_seen symbols core (Some ended)) (nothing bytes faults)) e
      (Stepped.done [] s s (run_ended symbols 1 (state_ended symbols core ended []) (end_seen ended) e) (appends_nothing bytes))
  | inr s ↦ Stepped.was_stopped (end_seen ended) s refl (keeps bytes)
]

pub stays_run : (n : ℕ) (symbols : Symbols) (core : Core) (ended : Ended) (bytes : Option (List ℕ)) (faults : ℕ) → HasTerm symbols core.region.heap (Some ended)
    → Ran n (machine_seen symbols core (Some ended)) (machine_seen symbols core (Some ended)) (nothing bytes faults) (end_seen ended)
stays_run n symbols core ended bytes faults h = elim (is_over ended) [
  | inl s ↦ let e = ended_end symbols core ended [] h s in
      subst (Ran n (machine_seen symbols core (Some ended)) (machine_seen symbols core (Some ended)) (nothing bytes faults))
      (ap (λ o. unwrap_or o ends.StepsSpent) e)
      (Ran.done [] s s (run_ended symbols n (state_ended symbols core ended []) (end_seen ended) e) (appends_nothing bytes))
  | inr s ↦ Ran.was_stopped (end_seen ended) s refl (keeps bytes)
]

-- ---- the same of the values that contracts see

pub held_stays : (m : Held) (ended : Ended) (end : End) (bytes : Option (List ℕ)) (faults : ℕ) → m.ended ≡ Some ended
    → HasTerm (symbols_of m.symbols) m.core.region.heap m.ended → end ≡ end_seen ended
    → Stepped (machine_of m) (machine_of m) (nothing bytes faults) (Some end)
held_stays m ended end bytes faults is has same =
    let seen : Some ended ≡ m.ended = sym is in
    subst (λ o. Stepped (machine_seen (symbols_of m.symbols) m.core o) (machine_seen (symbols_of m.symbols) m.core o) (nothing bytes faults) (Some end)) seen
    (subst (λ e. Stepped (machine_seen (symbols_of m.symbols) m.core (Some ended)) (machine_seen (symbols_of m.symbols) m.core (Some ended)) (nothing bytes faults) (Some e)) (sym same)
    (stays (symbols_of m.symbols) m.core ended bytes faults (subst (HasTerm (symbols_of m.symbols) m.core.region.heap) is has)))

pub held_stays_run : (n : ℕ) (m : Held) (ended : Ended) (end : End) (bytes : Option (List ℕ)) (faults : ℕ) → m.ended ≡ Some ended
    → HasTerm (symbols_of m.symbols) m.core.region.heap m.ended → end ≡ end_seen ended
    → Ran n (machine_of m) (machine_of m) (nothing bytes faults) end
held_stays_run n m ended end bytes faults is has same =
    let seen : Some ended ≡ m.ended = sym is in
    subst (λ o. Ran n (machine_seen (symbols_of m.symbols) m.core o) (machine_seen (symbols_of m.symbols) m.core o) (nothing bytes faults) end) seen
    (subst (λ e. Ran n (machine_seen (symbols_of m.symbols) m.core (Some ended)) (machine_seen (symbols_of m.symbols) m.core (Some ended)) (nothing bytes faults) e) (sym same)
    (stays_run n (symbols_of m.symbols) m.core ended bytes faults (subst (HasTerm (symbols_of m.symbols) m.core.region.heap) is has)))

pub held_steps : (m : Held) (new : Seen) (out : Stream) (e f : Option End) → m.ended ≡ None
    → Stepped (machine_seen (symbols_of m.symbols) m.core None) new out e → e ≡ f → Stepped (machine_of m) new out f
held_steps m new out e f is s same =
    subst (λ o. Stepped (machine_seen (symbols_of m.symbols) m.core o) new out f) (sym is) (subst (Stepped (machine_seen (symbols_of m.symbols) m.core None) new out) same s)

pub held_runs : (n : ℕ) (m : Held) (new : Seen) (out : Stream) (e f : End) → m.ended ≡ None
    → Ran n (machine_seen (symbols_of m.symbols) m.core None) new out e → e ≡ f → Ran n (machine_of m) new out f
held_runs n m new out e f is s same =
    subst (λ o. Ran n (machine_seen (symbols_of m.symbols) m.core o) new out f) (sym is) (subst (Ran n (machine_seen (symbols_of m.symbols) m.core None) new out) same s)

-- ---- what the next call begins with

over_displayed : (at : ℕ) (v : Effect) (ts : List Term) → displayed_by (over at v ts) ≡ ts
over_displayed at NoNext ts = refl
over_displayed at (Ends ending) ts = refl
over_displayed at (Answers word) ts = refl
over_displayed at (Displays t) ts = refl
over_displayed at (Builds word words) ts = refl

ended_displayed : (symbols : Symbols) (core : Core) (ended : Ended) (ts : List Term) → displayed_by (state_ended symbols core ended ts) ≡ ts
ended_displayed symbols core (ways.Returned word) ts = over_displayed core.at (returned (term_at symbols core.region.heap word)) ts
ended_displayed symbols core (ways.Raised class word) ts = over_displayed core.at (raised (Some class) (term_at symbols core.region.heap word)) ts
ended_displayed symbols core ways.Undefined ts = refl
ended_displayed symbols core ways.HeapFull ts = refl
ended_displayed symbols core ways.StackFull ts = refl
ended_displayed symbols core (ways.MachineFault at) ts = refl
ended_displayed symbols core ways.WriteFault ts = refl
ended_displayed symbols core ways.Memory ts = refl

seen_displayed : (symbols : Symbols) (core : Core) (ended : Option Ended) (ts : List Term) → displayed_by (state_seen symbols core ended ts) ≡ ts
seen_displayed symbols core None ts = refl
seen_displayed symbols core (Some ended) ts = ended_displayed symbols core ended ts

-- the steps of the next call are those behind the steps that led to the machine
runs_joined : (known : Symbols) (core : Core) (ended : Option Ended) (symbols : Symbols) (m n : ℕ) (s : State) (ts : List Term)
    → machine_run symbols m s ≡ state_seen known core ended ts
    → machine_run symbols (m + n) s ≡ after ts (machine_run symbols n (state_seen known core ended []))
runs_joined known core ended symbols m n s ts there =
    let state : state_seen known core ended ts ≡ after ts (state_seen known core ended []) =
    ap (state_seen known core ended) (sym (append-nil ts)) ∙ seen_after known core ended ts [] in
    run_parts symbols m n s ∙ ap (machine_run symbols n) (there ∙ state) ∙ run_after symbols n ts (state_seen known core ended [])

pub calls_go_on : (m : Held) → CallsGoOn (machine_of m)
calls_go_on m =
    let symbols = symbols_of m.symbols in
    record {
      state = seen_after symbols m.core m.ended;
      displayed = seen_displayed symbols m.core m.ended;
      joined = runs_joined symbols m.core m.ended;
    }
