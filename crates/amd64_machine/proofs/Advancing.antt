-- One step of a run that goes on.
use Rattle.std.proofs.Common.{◌≡◌, ℕ, List, [], Option, Some, None, true, false, refl, sym, ap, subst, ◌∙◌}
use Rattle.std.specs.Prelude.{Bool}
use Rattle.std.specs.Io.KnownBytes.{Appends}
use Rattle.hipe_terms.specs.Terms.{Term}
use Rattle.region_memory.specs.Regions.{Regions, word_at, with_word}
use Rattle.region_memory.proofs.Writes.{keeps_sizes}
use Rattle.heap_terms.specs.Shapes.{Symbols}
use Rattle.amd64_form.specs.declared.inst.Inst.{Inst}
use Rattle.amd64_form.specs.declared.reg.Reg.{Reg}
use Rattle.amd64_form.specs.declared.reg.Reg.TheVariants.{Rax, Rdx, Rsp}
use Rattle.amd64_form.specs.declared.operation.UnaryOp.{UnaryOp}
use Rattle.amd64_form.specs.declared.inst.Inst.TheVariants.{Move, Load, Store, LoadConstant, Binary, BinaryConstant, Unary, Multiply, SignExtend, Shift, ShiftByCl, LoadAddress, Jump, Call, JumpIf, CallRegister, JumpRegister, Push, Pop, Return, Syscall}
use Rattle.amd64_form.specs.declared.operation.UnaryOp.TheVariants.{Not, Neg, Idiv}
use Rattle.amd64_machine.specs.declared.state.Flags.{Flags}
use Rattle.amd64_machine.specs.declared.state.Core.{Core}
use Rattle.amd64_machine.specs.declared.state.Did.{Did}
use Rattle.amd64_machine.specs.declared.state.Did.TheVariants as did
use Rattle.amd64_machine.specs.declared.state.Ended.{Ended}
use Rattle.amd64_machine.specs.declared.state.Ended.TheVariants as ways
use Rattle.amd64_machine.specs.declared.machine.End.TheVariants as ends
use Rattle.amd64_machine.specs.Arithmetic.{signed, double, divided, holds}
use Rattle.amd64_machine.specs.Fetch.{Fetched, Nothing, Here, fetch}
use Rattle.amd64_machine.specs.Machine.{Registers, Step, Goes, Stops, Calls, loaded, stored, pushed, popped, gone_back, branched, quotient_put, unary, displaced, below, act, stepped, machine_step, word_in}
use Rattle.amd64_machine.specs.Result.{lines}
use Rattle.hipe_edge.specs.Streams.{stream}
use Rattle.amd64_machine.specs.Outcome.{Stepped}
use Rattle.amd64_machine.specs.Seen.{HasTerm, step_seen, fetched_seen, registers_seen, state_at, state_ended, stopped_seen, machine_seen, end_seen}
use Rattle.amd64_machine.proofs.Written.{appends_nothing}
use Rattle.amd64_machine.proofs.Ends.{nothing, ended_end}

-- ---- the code stays

abbrev pub KeepsCode : Regions → Step → Type 0
KeepsCode regions (Goes at registers flags after) = after.code ≡ regions.code
KeepsCode regions Stops = Unit {0}
KeepsCode regions (Calls next) = Unit {0}

-- regions that can be written have this code
abbrev CodeStays : Regions → Option Regions → Type 0
CodeStays regions o = (after : Regions) → o ≡ Some after → after.code ≡ regions.code

written_code : (regions : Regions) (address word : ℕ) → CodeStays regions (with_word regions address word)
written_code regions address word after e = (keeps_sizes regions after address word e).code

loaded_code : (next : ℕ) (to : Reg) (registers : Registers) (flags : Flags) (regions : Regions) (o : Option ℕ)
    → KeepsCode regions (loaded next to registers flags regions o)
loaded_code next to registers flags regions None = tt
loaded_code next to registers flags regions (Some word) = refl

stored_code : (next : ℕ) (registers : Registers) (flags : Flags) (regions : Regions) (o : Option Regions) → CodeStays regions o
    → KeepsCode regions (stored next registers flags o)
stored_code next registers flags regions None stays = tt
stored_code next registers flags regions (Some after) stays = stays after refl

pushed_code : (next : ℕ) (registers : Registers) (flags : Flags) (regions : Regions) (o : Option Regions) → CodeStays regions o
    → KeepsCode regions (pushed next registers flags o)
pushed_code next registers flags regions None stays = tt
pushed_code next registers flags regions (Some after) stays = stays after refl

popped_code : (next : ℕ) (to : Reg) (registers : Registers) (flags : Flags) (regions : Regions) (o : Option ℕ)
    → KeepsCode regions (popped next to registers flags regions o)
popped_code next to registers flags regions None = tt
popped_code next to registers flags regions (Some word) = refl

gone_back_code : (registers : Registers) (flags : Flags) (regions : Regions) (o : Option ℕ) → KeepsCode regions (gone_back registers flags regions o)
gone_back_code registers flags regions None = tt
gone_back_code registers flags regions (Some word) = refl

branched_code : (target next : ℕ) (registers : Registers) (flags : Flags) (regions : Regions) (o : Option Bool)
    → KeepsCode regions (branched target next registers flags regions o)
branched_code target next registers flags regions None = tt
branched_code target next registers flags regions (Some true) = refl
branched_code target next registers flags regions (Some false) = refl

quotient_code : (next : ℕ) (registers : Registers) (regions : Regions) (o : Option (ℕ × ℕ)) → KeepsCode regions (quotient_put next registers regions o)
quotient_code next registers regions None = tt
quotient_code next registers regions (Some parts) = refl

unary_code : (next : ℕ) (op : UnaryOp) (of : Reg) (registers : Registers) (flags : Flags) (regions : Regions)
    → KeepsCode regions (unary next op of registers flags regions)
unary_code next Not of registers flags regions = refl
unary_code next Neg of registers flags regions = refl
unary_code next Idiv of registers flags regions =
    quotient_code next registers regions (divided (double (word_in registers Rdx) (word_in registers Rax)) (signed (word_in registers of)))

-- no instruction writes to the code
pub act_code : (f : Fetched) (registers : Registers) (flags : Flags) (regions : Regions) → KeepsCode regions (act f registers flags regions)
act_code Nothing registers flags regions = tt
act_code (Here (Move to from) next) registers flags regions = refl
act_code (Here (Load to base offset) next) registers flags regions =
    loaded_code next to registers flags regions (word_at regions (displaced (word_in registers base) offset))
act_code (Here (Store base offset from) next) registers flags regions =
    stored_code next registers flags regions _ (written_code regions (displaced (word_in registers base) offset) (word_in registers from))
act_code (Here (LoadConstant to value) next) registers flags regions = refl
act_code (Here (Binary op to from) next) registers flags regions = refl
act_code (Here (BinaryConstant op to value) next) registers flags regions = refl
act_code (Here (Unary op of) next) registers flags regions = unary_code next op of registers flags regions
act_code (Here (Multiply to by) next) registers flags regions = refl
act_code (Here SignExtend next) registers flags regions = refl
act_code (Here (Shift op to count) next) registers flags regions = refl
act_code (Here (ShiftByCl op to) next) registers flags regions = refl
act_code (Here (LoadAddress to base offset) next) registers flags regions = refl
act_code (Here (Jump offset) next) registers flags regions = refl
act_code (Here (Call offset) next) registers flags regions =
    pushed_code (displaced next offset) registers flags regions _ (written_code regions (below (word_in registers Rsp)) next)
act_code (Here (JumpIf condition offset) next) registers flags regions =
    branched_code (displaced next offset) next registers flags regions (holds condition flags)
act_code (Here (CallRegister r) next) registers flags regions =
    pushed_code (word_in registers r) registers flags regions _ (written_code regions (below (word_in registers Rsp)) next)
act_code (Here (JumpRegister r) next) registers flags regions = refl
act_code (Here (Push r) next) registers flags regions =
    pushed_code next registers flags regions _ (written_code regions (below (word_in registers Rsp)) (word_in registers r))
act_code (Here (Pop r) next) registers flags regions = popped_code next r registers flags regions (word_at regions (word_in registers Rsp))
act_code (Here Return next) registers flags regions = gone_back_code registers flags regions (word_at regions (word_in registers Rsp))
act_code (Here Syscall next) registers flags regions = tt

-- ---- what a step of the code is

-- what the instruction at the address comes to
abbrev pub acted : Core → Step
acted core = act (fetch core.region.code core.at) (registers_seen core.registers) core.flags core.region

-- the state behind the step
pub step_is : (symbols : Symbols) (core : Core) (step : Step) → acted core ≡ step
    → machine_step symbols (state_at core []) ≡ stepped symbols core.at (registers_seen core.registers) core.region [] step
step_is symbols core step e = ap (stepped symbols core.at (registers_seen core.registers) core.region []) e

-- it goes on, with these terms displayed
pub goes_to : (symbols : Symbols) (core new : Core) (ts : List Term) (before after : Option (List ℕ)) (m n : ℕ)
    → machine_step symbols (state_at core []) ≡ state_at new ts → Appends before after (lines symbols.definitions ts)
    → Stepped (machine_seen symbols core None) (machine_seen symbols new None) (stream before after m n) None
goes_to symbols core new ts before after m n e written = Stepped.done ts refl refl e written

-- it ends
pub ends_so : (symbols : Symbols) (core new : Core) (ended : Ended) (bytes : Option (List ℕ)) (faults : ℕ)
    → HasTerm symbols new.region.heap (Some ended) → stopped_seen (Some ended) ≡ None
    → machine_step symbols (state_at core []) ≡ state_ended symbols new ended []
    → Stepped (machine_seen symbols core None) (machine_seen symbols new (Some ended)) (nothing bytes faults) (Some (end_seen ended))
ends_so symbols core new ended bytes faults has stopped e =
    subst (Stepped (machine_seen symbols core None) (machine_seen symbols new (Some ended)) (nothing bytes faults))
    (ended_end symbols new ended [] has stopped) (Stepped.done [] refl stopped e (appends_nothing bytes))

pub goes_code : (core new : Core) (e : step_seen new did.Goes ≡ acted core) → new.region.code ≡ core.region.code
goes_code core new e =
    subst (KeepsCode core.region) (sym e) (act_code (fetch core.region.code core.at) (registers_seen core.registers) core.flags core.region)

-- ---- the instruction that was fetched

-- what it comes to, where it is done
pub performed : (core new : Core) (d e : Did) (inst : Inst) (next : ℕ) → Here inst next ≡ fetch core.region.code core.at
    → step_seen new d ≡ act (Here inst next) (registers_seen core.registers) core.flags core.region → d ≡ e → step_seen new e ≡ acted core
performed core new d e inst next here step is =
    ap (step_seen new) (sym is) ∙ step ∙ ap (λ f. act f (registers_seen core.registers) core.flags core.region) here

pub goes_here : (symbols : Symbols) (core new : Core) (bytes : Option (List ℕ)) (faults : ℕ) → step_seen new did.Goes ≡ acted core
    → Stepped (machine_seen symbols core None) (machine_seen symbols new None) (nothing bytes faults) None
goes_here symbols core new bytes faults e =
    goes_to symbols core new [] bytes bytes faults faults (step_is symbols core _ (sym e)) (appends_nothing bytes)

pub stops_at : (symbols : Symbols) (core new : Core) (bytes : Option (List ℕ)) (faults : ℕ) → new ≡ core → acted core ≡ Stops
    → Stepped (machine_seen symbols core None) (machine_seen symbols new (Some (ways.MachineFault new.at))) (nothing bytes faults) (Some (ends.MachineFault new.at))
stops_at symbols core new bytes faults same e =
    subst (λ (m : Core). Stepped (machine_seen symbols core None) (machine_seen symbols m (Some (ways.MachineFault m.at))) (nothing bytes faults) (Some (ends.MachineFault m.at)))
    (sym same) (ends_so symbols core core (ways.MachineFault core.at) bytes faults tt refl (step_is symbols core Stops e))

-- what is fetched, as the cache tells it
pub fetched_here : (core : Core) (code : List ℕ) (r : Option (Inst × ℕ)) (f : Fetched) → fetched_seen r ≡ fetch code core.at → code ≡ core.region.code
    → fetched_seen r ≡ f → f ≡ fetch core.region.code core.at
fetched_here core code r f found same is = sym is ∙ found ∙ ap (λ c. fetch c core.at) same

pub nothing_here : (core : Core) → Nothing ≡ fetch core.region.code core.at → acted core ≡ Stops
nothing_here core e = ap (λ f. act f (registers_seen core.registers) core.flags core.region) (sym e)
