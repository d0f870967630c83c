-- A run that answers that it returned or raised has a result.
use Rattle.std.proofs.Common.{◌≡◌, ℕ, List, [], Option, Some, None, sym, ap, subst, ◌∙◌, append-nil}
use Rattle.hipe_terms.specs.Terms.{Term}
use Rattle.heap_terms.specs.Shapes.{Symbols}
use Rattle.heap_terms.specs.Seen.{symbols_of}
use Rattle.machine_services.specs.Services.{Returned, Raised, HeapFull, StackFull}
use Rattle.amd64_machine.specs.declared.machine.End.{End}
use Rattle.amd64_machine.specs.declared.machine.End.TheVariants as ends
use Rattle.amd64_machine.specs.declared.state.Core.{Core}
use Rattle.amd64_machine.specs.declared.state.Ended.{Ended}
use Rattle.amd64_machine.specs.declared.state.Ended.TheVariants as ways
use Rattle.amd64_machine.specs.Machine.{State, On, Over, ByService, MachineFault}
use Rattle.amd64_machine.specs.Result.{after, HasResult, answer_of}
use Rattle.hipe_edge.specs.Streams.{Stream}
use Rattle.amd64_machine.specs.Outcome.{Seen, Ran}
use Rattle.amd64_machine.specs.Seen.{Held, machine_of, state_seen, stopped_seen}
use Rattle.amd64_machine.proofs.Ends.{seen_after}

-- a machine that returned or raised
abbrev pub IsResult : End → Type 0
IsResult ends.Returned = Unit {0}
IsResult (ends.Raised class) = Unit {0}
IsResult e = ⊥

answer_result : (s : State) → IsResult (answer_of s) → HasResult s
answer_result (On at registers flags regions ts) h = absurd h
answer_result (Over (ByService (Returned t)) ts) h = tt
answer_result (Over (ByService (Raised class t)) ts) h = tt
answer_result (Over (ByService HeapFull) ts) h = absurd h
answer_result (Over (ByService StackFull) ts) h = absurd h
answer_result (Over (MachineFault at) ts) h = absurd h

before_result : (ts : List Term) (s : State) → HasResult (after ts s) → HasResult s
before_result ts (On at registers flags regions us) h = absurd h
before_result ts (Over (ByService (Returned t)) us) h = tt
before_result ts (Over (ByService (Raised class t)) us) h = tt
before_result ts (Over (ByService HeapFull) us) h = absurd h
before_result ts (Over (ByService StackFull) us) h = absurd h
before_result ts (Over (MachineFault at) us) h = absurd h

seen_result : (symbols : Symbols) (core : Core) (ended : Option Ended) (ts : List Term) → HasResult (state_seen symbols core ended ts)
    → HasResult (state_seen symbols core ended [])
seen_result symbols core ended ts h =
    let same : state_seen symbols core ended ts ≡ after ts (state_seen symbols core ended []) =
    ap (state_seen symbols core ended) (sym (append-nil ts)) ∙ seen_after symbols core ended ts [] in
    before_result ts (state_seen symbols core ended []) (subst HasResult same h)

-- it was stopped by no result
stopped_result : (o : Option Ended) (e : End) → stopped_seen o ≡ Some e → IsResult e → ⊥
stopped_result None e p h = absurd (cc)
stopped_result (Some (ways.Returned word)) e p h = absurd (cc)
stopped_result (Some (ways.Raised class word)) e p h = absurd (cc)
stopped_result (Some ways.Undefined) e p h = absurd (cc)
stopped_result (Some ways.HeapFull) e p h = absurd (cc)
stopped_result (Some ways.StackFull) e p h = absurd (cc)
stopped_result (Some (ways.MachineFault at)) e p h = absurd (cc)
stopped_result (Some ways.WriteFault) e p h = let same : ends.WriteFault ≡ e = cc in subst IsResult (sym same) h
stopped_result (Some ways.Memory) e p h = let same : ends.Memory ≡ e = cc in subst IsResult (sym same) h

pub has_result : (n : ℕ) (old : Seen) (m : Held) (out : Stream) (e : End) → Ran n old (machine_of m) out e → IsResult e → HasResult ((machine_of m).state [])
has_result n old m out e (Ran.was_stopped end p q r) h = absurd (stopped_result m.ended end (ap (λ (s : Seen). s.stopped) q ∙ p) h)
has_result n old m out e (Ran.done ts p q r s) h =
    seen_result (symbols_of m.symbols) m.core m.ended ts (answer_result (state_seen (symbols_of m.symbols) m.core m.ended ts) h)
has_result n old m out e (Ran.not_written k ts p q state r s) h = absurd h
has_result n old m out e (Ran.no_memory k ts p q state r) h = absurd h
