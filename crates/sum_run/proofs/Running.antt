-- The run of a machine that is loaded with the image of a sum.
use Rattle.std.proofs.Common.{◌≡◌, ℕ, zero, suc, ◌+◌, ◌-◌, ◌<◌, ◌≤◌, ℤ, List, [], ◌∷◌, ◌++◌, length, map, take, Bool, true, false, nat_le, if◌then◌else◌, Option, Some, None, Result, Ok, Err, refl, sym, ap, ◌∙◌, subst, subst₂, arith, append-nil}
use Rattle.std.specs.Prelude.{IfOk, sum}
use Rattle.std.specs.Io.KnownBytes.{Appends, Keeps}
use Rattle.hipe_terms.specs.declared.constant.Constant.{Constant}
use Rattle.hipe_terms.specs.declared.constant.Call.{Call}
use Rattle.hipe_terms.specs.Words.{words_of}
use Rattle.hipe_terms.specs.Terms.{Term, integer}
use Rattle.hipe_edge.specs.Bytes.{AppendsPrefix}
use Rattle.hipe_edge.specs.Counts.{Rises}
use Rattle.region_memory.specs.Regions.{Regions, opened, heap_begin}
use Rattle.heap_terms.specs.Shapes.{Symbols}
use Rattle.heap_terms.specs.Building.{all_built, built}
use Rattle.machine_services.specs.Services.{Returned}
use Rattle.image_link.specs.Image.{ProgramImage}
use Rattle.image_link.specs.declared.image.Function.{Function}
use Rattle.image_load.specs.Loading.{HeapFull, symbols_for, loaded, begun, ready, not_ready, with_code, exported}
use Rattle.amd64_machine.specs.declared.machine.End.{End}
use Rattle.amd64_machine.specs.declared.machine.End.TheVariants as ends
use Rattle.amd64_machine.specs.Machine.{State, Over, ByService, machine_step, machine_run}
use Rattle.amd64_machine.specs.Loading.{start}
use Rattle.amd64_machine.specs.Result.{answer_of, displayed_by, lines}
use Rattle.hipe_edge.specs.Streams.{Stream}
use Rattle.amd64_machine.specs.Outcome.{Seen, Ran, was_stopped, done, not_written, no_memory}
use Rattle.amd64_machine.specs.Seen.{Held, machine_of}
use Rattle.amd64_machine.proofs.Runs.{runs_go_on}
use Rattle.amd64_machine.proofs.Ends.{calls_go_on}
use Rattle.sum_code.specs.declared.limits.TheConstants.{HEAP_WORDS, STACK_WORDS, STEPS}
use Rattle.sum_code.specs.Code.{main_call, EndsWith}
use Rattle.sum_run.specs.Run.{IsReady}

-- ---- the run

-- the state in which the machine has ended with a value, and displayed nothing
abbrev pub Gave : ℤ → State
Gave v = Over (ByService (Returned (integer v))) []

abbrev pub first : ProgramImage → State
first image = start image main_call (opened HEAP_WORDS STACK_WORDS)

-- where it is after all its steps
run_gives : (image : ProgramImage) (v : ℤ) (n : ℕ) → EndsWith image v → STEPS ≤ n → machine_run (symbols_for image []) n (first image) ≡ Gave v
run_gives image v n ends enough =
    let symbols = symbols_for image [] in
    let rest : ℕ = n - ends.0 in
    let parts : n ≡ ends.0 + rest = omega (arith, ends.1) in
    ap (λ k. machine_run symbols k (first image)) parts
    ∙ (runs_go_on symbols).parts ends.0 rest (first image)
    ∙ ap (machine_run symbols rest) ends.2
    ∙ (runs_go_on symbols).over rest (ByService (Returned (integer v))) []

none_before : (xs ys : List Term) → xs ++ ys ≡ [] → xs ≡ []
none_before [] ys e = refl
none_before (x ∷ xs) ys e = absurd (cc)

-- nothing was displayed on the way
shows_nothing : (image : ProgramImage) (v : ℤ) (n m : ℕ) → EndsWith image v → STEPS ≤ n → m ≤ n → displayed_by (machine_run (symbols_for image []) m (first image)) ≡ []
shows_nothing image v n m ends enough le =
    let symbols = symbols_for image [] in
    let rest : ℕ = n - m in
    let parts : m + rest ≡ n = omega (arith, le) in
    let way = machine_run symbols m (first image) in
    let grown = (runs_go_on symbols).displayed rest way in
    let whole : displayed_by (machine_run symbols rest way) ≡ [] =
    ap displayed_by (sym ((runs_go_on symbols).parts m rest (first image)) ∙ ap (λ k. machine_run symbols k (first image)) parts ∙ run_gives image v n ends enough) in
    none_before (displayed_by way) grown.0 (sym grown.1 ∙ whole)

-- nothing was displayed before a machine in which a service failed, and the failed step displays nothing
shown_before : (image : ProgramImage) (v : ℤ) (n k : ℕ) (old : Seen) (m : Held) (ts : List Term) → EndsWith image v → STEPS ≤ n → IsReady image old → k < n
    → machine_run old.symbols k (old.state []) ≡ (machine_of m).state ts
    → (ts ≡ []) × (displayed_by (machine_step old.symbols ((machine_of m).state [])) ≡ [])
shown_before image v n k old m ts ends enough ready less state =
    let new = machine_of m in
    let way : (j : ℕ) → j ≤ n → displayed_by (machine_run old.symbols j (old.state [])) ≡ [] =
    λ j le. ap (λ s. displayed_by (machine_run s j (old.state []))) ready.symbols
    ∙ ap (λ s. displayed_by (machine_run (symbols_for image []) j s)) ready.state ∙ shows_nothing image v n j ends enough le in
    let same : ts ≡ [] = sym ((calls_go_on m).displayed ts) ∙ ap displayed_by (sym state) ∙ way k (omega (arith, less)) in
    let there : new.state [] ≡ machine_run old.symbols k (old.state []) = ap new.state (sym same) ∙ sym state in
    let step : machine_step old.symbols (new.state []) ≡ machine_run old.symbols (k + 1) (old.state []) =
    ap (machine_step old.symbols) there ∙ sym ((runs_go_on old.symbols).parts k 1 (old.state [])) in
    (same, ap displayed_by step ∙ way (k + 1) (omega (arith, less)))

-- what the run came to
pub data Came (v : ℤ) (new : Seen) (out : Stream) : End → Type 0 where
  gave : new.state [] ≡ Gave v → Appends out.before out.after [] → Came v new out ends.Returned
  faulted : Rises out.faults_before out.faults_after → AppendsPrefix out.before out.after [] → Came v new out ends.WriteFault
  wanted : Appends out.before out.after [] → Came v new out ends.Memory

pub came : {end : End} (image : ProgramImage) (v : ℤ) (n : ℕ) (old : Seen) (m : Held) (out : Stream) → EndsWith image v → STEPS ≤ n → IsReady image old → Ran n old (machine_of m) out end
    → Came v (machine_of m) out end
came image v n old m out ends enough ready (was_stopped end stopped same kept) = absurd (let e = sym ready.stopped ∙ stopped in cc)
came image v n old m out ends enough ready (done ts going stays run gained) =
    let new = machine_of m in
    let same : machine_run old.symbols n (old.state []) ≡ machine_run (symbols_for image []) n (first image) =
    ap (λ s. machine_run s n (old.state [])) ready.symbols ∙ ap (machine_run (symbols_for image []) n) ready.state in
    let over : new.state ts ≡ Gave v = sym run ∙ same ∙ run_gives image v n ends enough in
    let nothing : ts ≡ [] = sym ((calls_go_on m).displayed ts) ∙ ap displayed_by over in
    let there : new.state [] ≡ Gave v = ap new.state (sym nothing) ∙ over in
    let written : Appends out.before out.after [] = subst (λ us. Appends out.before out.after (lines old.symbols.definitions us)) nothing gained in
    subst (λ s. Came v new out (answer_of s)) (sym over) (gave there written)
came image v n old m out ends enough ready (not_written k ts going stopped state rises prefix) =
    let shown = shown_before image v n k old m ts ends enough ready going.fewer state in
    faulted rises (prefix.0, subst₂ (λ us ws. Appends out.before out.after (lines old.symbols.definitions us ++ take prefix.0 (lines old.symbols.definitions ws))) shown.0 shown.1 prefix.1)
came image v n old m out ends enough ready (no_memory k ts going stopped state gained) =
    let shown = shown_before image v n k old m ts ends enough ready going.fewer state in
    wanted (subst (λ us. Appends out.before out.after (lines old.symbols.definitions us)) shown.0 gained)

-- ---- what the calls below promise

-- what holds in any case
pub in_any_case : {T E : Type 0} (P : Type 0) (r : Result T E) → P → IfOk r (λ x. P)
in_any_case P (Ok x) p = p
in_any_case P (Err e) p = tt

begun_symbols : (symbols : Symbols) (regions : Regions) (args : List Constant) (f : Option Function) → (begun symbols regions args f).symbols ≡ symbols
begun_symbols symbols regions args None = refl
begun_symbols symbols regions args (Some f) = has_room (nat_le (sum (map words_of args)) (length regions.heap))
  where
    has_room : (b : Bool)
        → (if b then ready symbols regions f (all_built (map built args) (heap_begin regions) symbols.atoms []) else not_ready symbols regions HeapFull).symbols ≡ symbols
    has_room true = refl
    has_room false = refl

loaded_symbols : (image : ProgramImage) (call : Call) (regions : Regions) → (loaded image call regions).symbols ≡ symbols_for image call.args
unfolding loaded
loaded_symbols image call regions =
    begun_symbols (symbols_for image call.args) (with_code image regions) call.args (exported image call.name (length call.args) image.exports)

pub is_ready : (image right : ProgramImage) (call : Call) (regions : Regions) (m : Seen) → image ≡ right → call ≡ main_call → regions ≡ opened HEAP_WORDS STACK_WORDS
    → (m.symbols ≡ (loaded image call regions).symbols) × (m.state [] ≡ start image call regions) × (m.stopped ≡ None) → IsReady right m
is_ready image right call regions m same_image same_call same_regions h =
    record {
      symbols = h.0 ∙ loaded_symbols image call regions ∙ ap (λ i. symbols_for i call.args) same_image ∙ ap (λ k. symbols_for right k.args) same_call;
      state = h.1 ∙ ap (λ i. start i call regions) same_image ∙ ap (λ k. start right k regions) same_call ∙ ap (start right main_call) same_regions;
      stopped = h.2;
    }

-- the line of the value stands where nothing had been written before
pub behind_nothing : (a b c : Option (List ℕ)) (line : List ℕ) → Appends a b [] → Appends b c line → Appends a c line
behind_nothing None b c line h k = tt
behind_nothing (Some x) None c line h k = absurd h
behind_nothing (Some x) (Some y) None line h k = absurd k
behind_nothing (Some x) (Some y) (Some z) line h k = k ∙ ap (λ w. w ++ line) (h ∙ append-nil x)

pub kept_behind_nothing : (a b : Option (List ℕ)) → Appends a b [] → Keeps a b
kept_behind_nothing None b h = tt
kept_behind_nothing (Some x) None h = absurd h
kept_behind_nothing (Some x) (Some y) h = h ∙ append-nil x

-- what each answer says
module _ {v : ℤ} {new : Seen} {out : Stream} where
  pub gave_state : Came v new out ends.Returned → new.state [] ≡ Gave v
  gave_state (gave there nothing) = there

  pub gave_nothing : Came v new out ends.Returned → Appends out.before out.after []
  gave_nothing (gave there nothing) = nothing

  pub fault_rises : Came v new out ends.WriteFault → Rises out.faults_before out.faults_after
  fault_rises (faulted rises prefix) = rises

  pub fault_prefix : Came v new out ends.WriteFault → AppendsPrefix out.before out.after []
  fault_prefix (faulted rises prefix) = prefix

  pub wanted_nothing : Came v new out ends.Memory → Appends out.before out.after []
  wanted_nothing (wanted nothing) = nothing

-- no other answer comes
abbrev pub CanCome : End → Type 0
CanCome ends.Returned = Unit {0}
CanCome ends.WriteFault = Unit {0}
CanCome ends.Memory = Unit {0}
CanCome e = ⊥

pub can_come : {v : ℤ} {new : Seen} {out : Stream} {end : End} → Came v new out end → CanCome end
can_come (gave there nothing) = tt
can_come (faulted rises prefix) = tt
can_come (wanted nothing) = tt

-- a prefix of what comes where nothing had been written before
pub prefix_behind_nothing : (a b c : Option (List ℕ)) (line : List ℕ) → Appends a b [] → AppendsPrefix b c line → AppendsPrefix a c line
prefix_behind_nothing a b c line h k = (k.0, behind_nothing a b c (take k.0 line) h k.1)

take_none : (n : ℕ) → take {A = ℕ} n [] ≡ []
take_none zero = refl
take_none (suc n) = refl

pub prefix_of_nothing : (a b : Option (List ℕ)) (line : List ℕ) → AppendsPrefix a b [] → AppendsPrefix a b line
prefix_of_nothing a b line h = (0, subst (Appends a b) (take_none h.0) h.1)
