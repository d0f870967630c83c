-- Runs of the machine, one step after another, and what is displayed in them.
use Rattle.std.proofs.Common.{◌≡◌, ℕ, zero, suc, ◌+◌, List, [], ◌∷◌, ◌++◌, Some, refl, sym, ap, ◌∙◌, arith, append_assoc, append-nil}
use Rattle.hipe_terms.specs.Terms.{Term}
use Rattle.region_memory.specs.Regions.{Regions}
use Rattle.heap_terms.specs.Shapes.{Symbols}
use Rattle.machine_services.specs.Services.{Effect, NoNext, Ends, Answers, Displays, Builds}
use Rattle.amd64_machine.specs.declared.machine.End.{End}
use Rattle.amd64_machine.specs.Fetch.{fetch}
use Rattle.amd64_machine.specs.Machine.{Registers, State, On, Over, Ending, Step, Goes, Stops, Calls, act, called, served, stepped, machine_step, machine_run}
use Rattle.amd64_machine.specs.Result.{after, end_of, displayed_by}
use Rattle.amd64_machine.specs.Laws.{RunsGoOn}

pub after_end : (ts : List Term) (s : State) → end_of (after ts s) ≡ end_of s
after_end ts (On at registers flags regions displayed) = refl
after_end ts (Over ending displayed) = refl

pub after_displayed : (ts : List Term) (s : State) → displayed_by (after ts s) ≡ ts ++ displayed_by s
after_displayed ts (On at registers flags regions displayed) = refl
after_displayed ts (Over ending displayed) = refl

served_after : (at next : ℕ) (registers : Registers) (regions : Regions) (ts us : List Term) (v : Effect)
    → served at next registers regions (ts ++ us) v ≡ after ts (served at next registers regions us v)
served_after at next registers regions ts us NoNext = refl
served_after at next registers regions ts us (Ends ending) = refl
served_after at next registers regions ts us (Answers word) = refl
served_after at next registers regions ts us (Displays t) = ap (λ ds. served at next registers regions ds (Answers 11)) (append_assoc ts us (t ∷ []))
served_after at next registers regions ts us (Builds word words) = refl

stepped_after : (symbols : Symbols) (at : ℕ) (registers : Registers) (regions : Regions) (ts us : List Term) (step : Step)
    → stepped symbols at registers regions (ts ++ us) step ≡ after ts (stepped symbols at registers regions us step)
stepped_after symbols at registers regions ts us (Goes next others flags regions') = refl
stepped_after symbols at registers regions ts us Stops = refl
stepped_after symbols at registers regions ts us (Calls next) = served_after at next registers regions ts us (called symbols registers regions)

-- a step goes as if nothing had been displayed before
pub step_after : (symbols : Symbols) (ts : List Term) (s : State) → machine_step symbols (after ts s) ≡ after ts (machine_step symbols s)
step_after symbols ts (On at registers flags regions us) =
    stepped_after symbols at registers regions ts us (act (fetch regions.code at) registers flags regions)
step_after symbols ts (Over ending us) = refl

-- and so does a run
pub run_after : (symbols : Symbols) (n : ℕ) (ts : List Term) (s : State) → machine_run symbols n (after ts s) ≡ after ts (machine_run symbols n s)
run_after symbols zero ts s = refl
run_after symbols (suc n) ts s = ap (machine_run symbols n) (step_after symbols ts s) ∙ run_after symbols n ts (machine_step symbols s)

pub run_over : (symbols : Symbols) (n : ℕ) (ending : Ending) (ts : List Term) → machine_run symbols n (Over ending ts) ≡ Over ending ts
run_over symbols zero ending ts = refl
run_over symbols (suc n) ending ts = run_over symbols n ending ts

pub run_ended : (symbols : Symbols) (n : ℕ) (s : State) (e : End) → end_of s ≡ Some e → machine_run symbols n s ≡ s
run_ended symbols n (On at registers flags regions ts) e h = absurd (cc)
run_ended symbols n (Over ending ts) e h = run_over symbols n ending ts

pub run_parts : (symbols : Symbols) (m n : ℕ) (s : State) → machine_run symbols (m + n) s ≡ machine_run symbols n (machine_run symbols m s)
run_parts symbols zero n s = let e : zero + n ≡ n = omega arith in ap (λ k. machine_run symbols k s) e
run_parts symbols (suc m) n s =
    let e : suc m + n ≡ suc (m + n) = omega arith in
    ap (λ k. machine_run symbols k s) e ∙ run_parts symbols m n (machine_step symbols s)

-- the last step of a run
pub run_last : (symbols : Symbols) (m : ℕ) (s : State) → machine_run symbols (suc m) s ≡ machine_step symbols (machine_run symbols m s)
run_last symbols m s = let e : suc m ≡ m + 1 = omega arith in ap (λ k. machine_run symbols k s) e ∙ run_parts symbols m 1 s

-- ---- what was displayed stays

served_grows : (at next : ℕ) (registers : Registers) (regions : Regions) (us : List Term) (v : Effect)
    → (ts : List Term) × (displayed_by (served at next registers regions us v) ≡ us ++ ts)
served_grows at next registers regions us NoNext = ([], sym (append-nil us))
served_grows at next registers regions us (Ends ending) = ([], sym (append-nil us))
served_grows at next registers regions us (Answers word) = ([], sym (append-nil us))
served_grows at next registers regions us (Displays t) = (t ∷ [], refl)
served_grows at next registers regions us (Builds word words) = ([], sym (append-nil us))

stepped_grows : (symbols : Symbols) (at : ℕ) (registers : Registers) (regions : Regions) (us : List Term) (step : Step)
    → (ts : List Term) × (displayed_by (stepped symbols at registers regions us step) ≡ us ++ ts)
stepped_grows symbols at registers regions us (Goes next others flags regions') = ([], sym (append-nil us))
stepped_grows symbols at registers regions us Stops = ([], sym (append-nil us))
stepped_grows symbols at registers regions us (Calls next) = served_grows at next registers regions us (called symbols registers regions)

step_grows : (symbols : Symbols) (s : State) → (ts : List Term) × (displayed_by (machine_step symbols s) ≡ displayed_by s ++ ts)
step_grows symbols (On at registers flags regions us) =
    stepped_grows symbols at registers regions us (act (fetch regions.code at) registers flags regions)
step_grows symbols (Over ending us) = ([], sym (append-nil us))

run_grows : (symbols : Symbols) (n : ℕ) (s : State) → (ts : List Term) × (displayed_by (machine_run symbols n s) ≡ displayed_by s ++ ts)
run_grows symbols zero s = ([], sym (append-nil (displayed_by s)))
run_grows symbols (suc n) s =
    let first = step_grows symbols s in
    let rest = run_grows symbols n (machine_step symbols s) in
    (first.0 ++ rest.0, rest.1 ∙ ap (λ ds. ds ++ rest.0) first.1 ∙ append_assoc (displayed_by s) first.0 rest.0)

pub runs_go_on : (symbols : Symbols) → RunsGoOn symbols
runs_go_on symbols = record { over = run_over symbols; parts = run_parts symbols; displayed = run_grows symbols; behind = run_after symbols }
