-- A step that calls a service.
use Rattle.std.proofs.Common.{◌≡◌, ℕ, List, [], ◌∷◌, length, Option, Some, None, refl, sym, ap, subst, ◌∙◌, append-nil}
use Rattle.std.specs.Prelude.{string_bytes}
use Rattle.std.specs.Io.KnownBytes.{Appends}
use Rattle.std.specs.Global.{Global}
use Rattle.std.specs.declared.string.String.{String}
use Rattle.hipe_terms.specs.Terms.{Term}
use Rattle.hipe_terms.specs.declared.class.Class.{Class}
use Rattle.hipe_edge.specs.Bytes.{AppendsPrefix}
use Rattle.hipe_edge.specs.Counts.{Rises}
use Rattle.hipe_edge.specs.Streams.{stream}
use Rattle.heap_terms.specs.Shapes.{Symbols}
use Rattle.heap_terms.specs.Terms.{term_at}
use Rattle.machine_services.specs.declared.services.Served.TheVariants as done
use Rattle.machine_services.specs.Services.{Effect, NoNext, Ends, Answers, Displays, Builds, Returned, Raised, HeapFull, StackFull, returned, raised}
use Rattle.machine_services.specs.Served.{line_of}
use Rattle.amd64_form.specs.declared.reg.Reg.TheVariants.{Rax, Rdi, Rsi, R15}
use Rattle.amd64_machine.specs.declared.state.Core.{Core}
use Rattle.amd64_machine.specs.declared.state.Ended.{Ended}
use Rattle.amd64_machine.specs.declared.state.Ended.TheVariants as ways
use Rattle.amd64_machine.specs.declared.machine.End.TheVariants as ends
use Rattle.amd64_machine.specs.Arithmetic.{no_flags}
use Rattle.heap_terms.specs.declared.tags.TheConstants.{TRUE_WORD}
use Rattle.amd64_machine.specs.Machine.{Registers, On, Calls, served, machine_step, word_in, answered, grown}
use Rattle.amd64_machine.specs.Result.{displayed_by, lines}
use Rattle.amd64_machine.specs.Outcome.{Stepped}
use Rattle.amd64_machine.specs.Seen.{HasTerm, over, registers_seen, state_at, state_ended, stopped_seen, machine_seen, end_seen}
use Rattle.amd64_machine.specs.Steps.{service_of, WasServed}
use Rattle.amd64_machine.proofs.Written.{keeps, appends_nothing}
use Rattle.amd64_machine.proofs.Ends.{nothing}
use Rattle.amd64_machine.proofs.Advancing.{acted, step_is, goes_to, ends_so}
use Rattle.amd64_machine.proofs.Services.{EndsWith, service_ends, no_next, has_returned, has_raised, is_heap_full, is_stack_full, has_answered, has_built, has_displayed}

-- nothing but the heap is another
abbrev pub HeapChanges : Core → Core → Type 0
HeapChanges core mid = mid ≡ record core { region = record core.region { heap = mid.region.heap } }

same_core : (core mid : Core) → HeapChanges core mid → mid.region.heap ≡ core.region.heap → mid ≡ core
same_core core mid changes same = changes ∙ ap (λ heap. record core { region = record core.region { heap = heap } }) same

same_state : (core mid : Core) → mid ≡ core → (ts : List Term) → state_at mid ts ≡ state_at core ts
same_state core mid same ts = ap (λ (m : Core). state_at m ts) same

served_is : (symbols : Symbols) (core : Core) (next : ℕ) (v : Effect) → acted core ≡ Calls next → service_of symbols core ≡ v
    → machine_step symbols (state_at core []) ≡ served core.at next (registers_seen core.registers) core.region [] v
served_is symbols core next v e is =
    step_is symbols core (Calls next) e ∙ ap (served core.at next (registers_seen core.registers) core.region []) is

-- what a step comes to that ends the run, and whether the word of its term stands for one
abbrev pub EndsSo : Symbols → Core → Core → Ended → Option (List ℕ) → ℕ → Type 0
EndsSo symbols core mid ended bytes faults =
    Stepped (machine_seen symbols core None) (machine_seen symbols mid (Some ended)) (nothing bytes faults) (Some (end_seen ended))
    × HasTerm symbols mid.region.heap (Some ended)

ends_here : (symbols : Symbols) (core mid : Core) (ended : Ended) (next : ℕ) (v : Effect) (bytes : Option (List ℕ)) (faults : ℕ)
    → acted core ≡ Calls next → service_of symbols core ≡ v → mid ≡ core → HasTerm symbols core.region.heap (Some ended)
    → stopped_seen (Some ended) ≡ None
    → served core.at next (registers_seen core.registers) core.region [] v ≡ state_ended symbols core ended []
    → EndsSo symbols core mid ended bytes faults
ends_here symbols core mid ended next v bytes faults e is same has stopped state =
    subst (λ m. EndsSo symbols core m ended bytes faults) (sym same)
    (ends_so symbols core core ended bytes faults has stopped (served_is symbols core next v e is ∙ state), has)

-- the term for which the word in rdi stands, where the service ends with a term
term_is : (symbols : Symbols) (core : Core) (v : Effect) → service_of symbols core ≡ v
    → EndsWith (term_at symbols core.region.heap (word_in (registers_seen core.registers) Rdi)) v
term_is symbols core v is =
    let registers = registers_seen core.registers in
    subst (EndsWith (term_at symbols core.region.heap (word_in registers Rdi))) is
    (service_ends symbols core.region.heap (word_in registers Rax) (word_in registers Rdi) (word_in registers Rsi) (word_in registers R15))

pub stops_here : (symbols : Symbols) (core mid : Core) (next : ℕ) (bytes : Option (List ℕ)) (faults : ℕ) → acted core ≡ Calls next
    → HeapChanges core mid → WasServed symbols core done.NoNext mid → EndsSo symbols core mid (ways.MachineFault mid.at) bytes faults
stops_here symbols core mid next bytes faults e changes s =
    let is = no_next _ _ _ _ _ s in
    let same = same_core core mid changes is.1 in
    subst (λ at. EndsSo symbols core mid (ways.MachineFault at) bytes faults) (ap (λ (m : Core). m.at) (sym same))
    (ends_here symbols core mid (ways.MachineFault core.at) next NoNext bytes faults e is.0 same tt refl refl)

pub returns_here : (symbols : Symbols) (core mid : Core) (next word : ℕ) (bytes : Option (List ℕ)) (faults : ℕ) → acted core ≡ Calls next
    → HeapChanges core mid → WasServed symbols core done.Returned mid → word ≡ word_in (registers_seen core.registers) Rdi
    → EndsSo symbols core mid (ways.Returned word) bytes faults
returns_here symbols core mid next word bytes faults e changes s is_first =
    let is = has_returned _ _ _ _ _ s in
    let first = word_in (registers_seen core.registers) Rdi in
    let term : term_at symbols core.region.heap first ≡ Some is.0 = term_is symbols core (Ends (Returned is.0)) is.1 in
    subst (λ w. EndsSo symbols core mid (ways.Returned w) bytes faults) (sym is_first)
    (ends_here symbols core mid (ways.Returned first) next (Ends (Returned is.0)) bytes faults e is.1 (same_core core mid changes is.2)
    (is.0, term) refl (ap (λ o. over core.at (returned o) []) (sym term)))

pub raises_here : (symbols : Symbols) (core mid : Core) (next word : ℕ) (code : Class) (bytes : Option (List ℕ)) (faults : ℕ) → acted core ≡ Calls next
    → HeapChanges core mid → WasServed symbols core (done.Raised code) mid → word ≡ word_in (registers_seen core.registers) Rdi
    → EndsSo symbols core mid (ways.Raised code word) bytes faults
raises_here symbols core mid next word code bytes faults e changes s is_first =
    let is = has_raised _ _ _ _ code _ s in
    let first = word_in (registers_seen core.registers) Rdi in
    let v = Ends (Raised code is.0) in
    let term : term_at symbols core.region.heap first ≡ Some is.0 = term_is symbols core v is.1 in
    subst (λ w. EndsSo symbols core mid (ways.Raised code w) bytes faults) (sym is_first)
    (ends_here symbols core mid (ways.Raised code first) next v bytes faults e is.1 (same_core core mid changes is.2)
    (is.0, term) refl (ap (λ o. over core.at (raised (Some code) o) []) (sym term)))

pub heap_is_full : (symbols : Symbols) (core mid : Core) (next : ℕ) (bytes : Option (List ℕ)) (faults : ℕ) → acted core ≡ Calls next
    → HeapChanges core mid → WasServed symbols core done.HeapFull mid → EndsSo symbols core mid ways.HeapFull bytes faults
heap_is_full symbols core mid next bytes faults e changes s =
    let is = is_heap_full _ _ _ _ _ s in
    ends_here symbols core mid ways.HeapFull next (Ends HeapFull) bytes faults e is.0 (same_core core mid changes is.1) tt refl refl

pub stack_is_full : (symbols : Symbols) (core mid : Core) (next : ℕ) (bytes : Option (List ℕ)) (faults : ℕ) → acted core ≡ Calls next
    → HeapChanges core mid → WasServed symbols core done.StackFull mid → EndsSo symbols core mid ways.StackFull bytes faults
stack_is_full symbols core mid next bytes faults e changes s =
    let is = is_stack_full _ _ _ _ _ s in
    ends_here symbols core mid ways.StackFull next (Ends StackFull) bytes faults e is.0 (same_core core mid changes is.1) tt refl refl

-- ---- a service that goes on

-- the machine goes on behind the service with a result and these registers
abbrev pub GoesOnWith : Core → ℕ → (Registers → Registers) → Core → Type 0
GoesOnWith mid next put new = (ts : List Term) → state_at new ts ≡ On next (put (registers_seen mid.registers)) no_flags mid.region ts

pub answers_here : (symbols : Symbols) (core mid new : Core) (next word : ℕ) (bytes : Option (List ℕ)) (faults : ℕ) → acted core ≡ Calls next
    → HeapChanges core mid → WasServed symbols core (done.Answered word) mid → GoesOnWith mid next (answered word) new
    → Stepped (machine_seen symbols core None) (machine_seen symbols new None) (nothing bytes faults) None
answers_here symbols core mid new next word bytes faults e changes s state =
    let is = has_answered _ _ _ _ word _ s in
    let same = same_core core mid changes is.1 in
    let there : state_at new [] ≡ On next (answered word (registers_seen core.registers)) no_flags core.region [] =
    state [] ∙ ap (λ (m : Core). On next (answered word (registers_seen m.registers)) no_flags m.region []) same in
    goes_to symbols core new [] bytes bytes faults faults (served_is symbols core next (Answers word) e is.0 ∙ sym there) (appends_nothing bytes)

pub displays_here : (symbols : Symbols) (core mid new : Core) (next : ℕ) (text : String Global) (line : List ℕ) (before after : Option (List ℕ)) (m n : ℕ) → acted core ≡ Calls next
    → HeapChanges core mid → WasServed symbols core (done.Displayed text) mid → line ≡ string_bytes text → GoesOnWith mid next (answered TRUE_WORD) new
    → Appends before after line
    → Stepped (machine_seen symbols core None) (machine_seen symbols new None) (stream before after m n) None
displays_here symbols core mid new next text line before after m n e changes s bytes state written =
    let is = has_displayed _ _ _ _ text _ s in
    let same = same_core core mid changes is.3 in
    let ts = is.0 ∷ [] in
    let there : state_at new ts ≡ On next (answered TRUE_WORD (registers_seen core.registers)) no_flags core.region ts =
    state ts ∙ ap (λ (m : Core). On next (answered TRUE_WORD (registers_seen m.registers)) no_flags m.region ts) same in
    let shown : line ≡ lines symbols.definitions ts = bytes ∙ is.2 ∙ sym (append-nil (line_of symbols.definitions is.0)) in
    goes_to symbols core new ts before after m n (served_is symbols core next (Displays is.0) e is.1 ∙ sym there)
    (subst (Appends before after) shown written)

pub not_displayed_here : (symbols : Symbols) (core mid : Core) (next : ℕ) (text : String Global) (line : List ℕ) (before after : Option (List ℕ)) (m n : ℕ) → acted core ≡ Calls next
    → HeapChanges core mid → WasServed symbols core (done.Displayed text) mid → line ≡ string_bytes text
    → AppendsPrefix before after line → Rises m n
    → Stepped (machine_seen symbols core None) (machine_seen symbols mid (Some ways.WriteFault)) (stream before after m n) (Some ends.WriteFault)
not_displayed_here symbols core mid next text line before after m n e changes s bytes written rises =
    let is = has_displayed _ _ _ _ text _ s in
    let displayed : displayed_by (machine_step symbols (state_at core [])) ≡ is.0 ∷ [] =
    ap displayed_by (served_is symbols core next (Displays is.0) e is.1) in
    let shown : line ≡ lines symbols.definitions (displayed_by (machine_step symbols (state_at core []))) =
    bytes ∙ is.2 ∙ sym (append-nil (line_of symbols.definitions is.0)) ∙ ap (lines symbols.definitions) (sym displayed) in
    Stepped.not_written (record { stopped = refl; service = (next, e) }) refl (same_state core mid (same_core core mid changes is.3)) rises (subst (AppendsPrefix before after) shown written)

pub builds_here : (symbols : Symbols) (core mid new : Core) (next word count : ℕ) (bytes : Option (List ℕ)) (faults : ℕ) → acted core ≡ Calls next
    → HeapChanges core mid → WasServed symbols core (done.Built word count) mid → GoesOnWith mid next (λ registers. answered word (grown count registers)) new
    → Stepped (machine_seen symbols core None) (machine_seen symbols new None) (nothing bytes faults) None
builds_here symbols core mid new next word count bytes faults e changes s state =
    let is = has_built _ _ _ _ word count _ s in
    let registers = registers_seen core.registers in
    let there : state_at new [] ≡ On next (answered word (grown count registers)) no_flags (record core.region { heap = mid.region.heap }) [] =
    state [] ∙ ap (λ (m : Core). On next (answered word (grown count (registers_seen m.registers))) no_flags m.region []) changes in
    let then : On next (answered word (grown count registers)) no_flags (record core.region { heap = mid.region.heap }) []
    ≡ served core.at next registers core.region [] (Builds word is.0) =
    ap (λ k. On next (answered word (grown k registers)) no_flags (record core.region { heap = mid.region.heap }) []) is.2
    ∙ ap (λ heap. On next (answered word (grown (length is.0) registers)) no_flags (record core.region { heap = heap }) []) is.3 in
    goes_to symbols core new [] bytes bytes faults faults (served_is symbols core next (Builds word is.0) e is.1 ∙ sym (there ∙ then)) (appends_nothing bytes)

pub no_memory_here : (symbols : Symbols) (core mid : Core) (next : ℕ) (bytes : Option (List ℕ)) (faults : ℕ) → acted core ≡ Calls next → mid ≡ core
    → Stepped (machine_seen symbols core None) (machine_seen symbols mid (Some ways.Memory)) (nothing bytes faults) (Some ends.Memory)
no_memory_here symbols core mid next bytes faults e same =
    Stepped.no_memory (record { stopped = refl; service = (next, e) }) refl (same_state core mid same) (keeps bytes)
