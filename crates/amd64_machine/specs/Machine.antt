-- The machine, after the AMD64 Architecture Programmer's Manual, Volume 3: one instruction, and a run.
use Rattle.std.specs.Prelude.{◌≡◌, ℕ, zero, suc, ◌+◌, ◌*◌, ◌%◌, ℤ, List, [], ◌∷◌, ◌++◌, length, Bool, true, false, Option, Some, None, nat_eq, if◌then◌else◌}
use Rattle.hipe_terms.specs.Terms.{Term}
use Rattle.amd64_form.specs.declared.reg.Reg.{Reg}
use Rattle.amd64_form.specs.declared.reg.Reg.TheVariants.{Rax, Rcx, Rdx, Rsp, Rsi, Rdi, R11, R15}
use Rattle.amd64_form.specs.declared.operation.BinaryOp.{BinaryOp}
use Rattle.amd64_form.specs.declared.operation.ShiftOp.{ShiftOp}
use Rattle.amd64_form.specs.declared.operation.UnaryOp.{UnaryOp}
use Rattle.amd64_form.specs.declared.operation.UnaryOp.TheVariants.{Not, Neg, Idiv}
use Rattle.amd64_form.specs.declared.inst.Inst.TheVariants.{Move, Load, Store, LoadConstant, Binary, BinaryConstant, Unary, Multiply, SignExtend, Shift, ShiftByCl, LoadAddress, Jump, Call, JumpIf, CallRegister, JumpRegister, Push, Pop, Return, Syscall}
use Rattle.amd64_form.specs.Reg.{number}
use Rattle.amd64_form.specs.Operation.{count_of}
use Rattle.region_memory.specs.Regions.{Regions, word_at, with_word}
use Rattle.heap_terms.specs.Shapes.{Symbols}
use Rattle.heap_terms.specs.declared.tags.TheConstants.{TRUE_WORD}
use Rattle.machine_services.specs.Services.{Effect, NoNext, Ends, Answers, Displays, Builds, service, heap_with}
use Rattle.machine_services.specs.Services.{Ending as ServiceEnding}
use Rattle.amd64_machine.specs.declared.state.Flags.{Flags}
use Rattle.amd64_machine.specs.Arithmetic.{wrap, difference, signed, unsigned, no_flags, flags_of_difference, flags_of_product, result_of, flags_of, turned, sign_word, double, divided, shifted, holds}
use Rattle.amd64_machine.specs.Fetch.{Fetched, Nothing, Here, fetch}

-- the word in each register, by the register's number
abbrev pub Registers : Type 0
Registers = ℕ → ℕ

abbrev pub word_in : Registers → Reg → ℕ
word_in registers r = registers (number r)

-- the registers with another word in one of them
abbrev pub put : Reg → ℕ → Registers → Registers
put r word registers = λ q. if nat_eq q (number r) then word else registers q

-- how a run ends: by a service, or at an address from which there is no next state
pub data Ending : Type 0 where
  ByService : (ending : ServiceEnding) → Ending
  MachineFault : (at : ℕ) → Ending

-- the address of the next instruction, the registers, the flags, the memory, and the terms displayed so far
pub data State : Type 0 where
  On : (at : ℕ) (registers : Registers) (flags : Flags) (regions : Regions) (displayed : List Term) → State
  Over : (ending : Ending) (displayed : List Term) → State

-- what an instruction comes to: it goes on, there is no next state, or it calls a service and the next instruction is at an address
pub data Step : Type 0 where
  Goes : (at : ℕ) (registers : Registers) (flags : Flags) (regions : Regions) → Step
  Stops : Step
  Calls : (next : ℕ) → Step

-- eight bytes below an address
abbrev pub below : ℕ → ℕ
below address = difference address 8

-- the address of a word in memory, and the target of a jump
abbrev pub displaced : ℕ → ℤ → ℕ
displaced address offset = wrap (address + unsigned offset)

-- a register set to a result, if there is one
abbrev pub put_result : Reg → Option ℕ → Registers → Registers
put_result to None registers = registers
put_result to (Some word) registers = put to word registers

-- a word was read into a register, or couldn't be
abbrev pub loaded : ℕ → Reg → Registers → Flags → Regions → Option ℕ → Step
loaded next to registers flags regions None = Stops
loaded next to registers flags regions (Some word) = Goes next (put to word registers) flags regions

-- a word was written, or couldn't be
abbrev pub stored : ℕ → Registers → Flags → Option Regions → Step
stored next registers flags None = Stops
stored next registers flags (Some regions) = Goes next registers flags regions

-- a word was written below rsp, or couldn't be, and it goes on at an address
abbrev pub pushed : ℕ → Registers → Flags → Option Regions → Step
pushed next registers flags None = Stops
pushed next registers flags (Some regions) = Goes next (put Rsp (below (word_in registers Rsp)) registers) flags regions

-- a word was read at rsp into a register, or couldn't be
abbrev pub popped : ℕ → Reg → Registers → Flags → Regions → Option ℕ → Step
popped next r registers flags regions None = Stops
popped next r registers flags regions (Some word) =
    Goes next (put r word (put Rsp (wrap (word_in registers Rsp + 8)) registers)) flags regions

-- an address was read at rsp, or couldn't be, and it goes on there
abbrev pub gone_back : Registers → Flags → Regions → Option ℕ → Step
gone_back registers flags regions None = Stops
gone_back registers flags regions (Some target) =
    Goes target (put Rsp (wrap (word_in registers Rsp + 8)) registers) flags regions

-- a condition holds, or doesn't, or isn't known
abbrev pub branched : ℕ → ℕ → Registers → Flags → Regions → Option Bool → Step
branched target next registers flags regions None = Stops
branched target next registers flags regions (Some true) = Goes target registers flags regions
branched target next registers flags regions (Some false) = Goes next registers flags regions

-- pushes a word and goes on at an address
abbrev pub push : ℕ → ℕ → Registers → Flags → Regions → Step
push next word registers flags regions = pushed next registers flags (with_word regions (below (word_in registers Rsp)) word)

-- pops a word into a register
abbrev pub pop : ℕ → Reg → Registers → Flags → Regions → Step
pop next r registers flags regions = popped next r registers flags regions (word_at regions (word_in registers Rsp))

-- pops an address and goes on there
abbrev pub go_back : Registers → Flags → Regions → Step
go_back registers flags regions = gone_back registers flags regions (word_at regions (word_in registers Rsp))

-- an operation of a register and a word
abbrev pub binary : ℕ → BinaryOp → Reg → ℕ → Registers → Regions → Step
binary next op to word registers regions =
    Goes next (put_result to (result_of op (word_in registers to) word) registers) (flags_of op (word_in registers to) word) regions

-- a product of a register and a word
abbrev pub multiply : ℕ → Reg → ℕ → Registers → Regions → Step
multiply next to word registers regions =
    Goes next (put to (wrap (word_in registers to * word)) registers) (flags_of_product (word_in registers to) word) regions

-- a shift of a register
abbrev pub shift : ℕ → ShiftOp → Reg → ℕ → Registers → Regions → Step
shift next op to count registers regions = Goes next (put to (shifted op (word_in registers to) count) registers) no_flags regions

-- a quotient and a remainder, if there are such
abbrev pub quotient_put : ℕ → Registers → Regions → Option (ℕ × ℕ) → Step
quotient_put next registers regions None = Stops
quotient_put next registers regions (Some parts) =
    Goes next (put Rdx parts.1 (put Rax parts.0 registers)) no_flags regions

-- rdx:rax divided by a word
abbrev pub divide : ℕ → ℕ → Registers → Regions → Step
divide next by registers regions =
    quotient_put next registers regions (divided (double (word_in registers Rdx) (word_in registers Rax)) (signed by))

-- an operation of one register
abbrev pub unary : ℕ → UnaryOp → Reg → Registers → Flags → Regions → Step
unary next Not of registers flags regions = Goes next (put of (turned (word_in registers of)) registers) flags regions
unary next Neg of registers flags regions =
    Goes next (put of (difference 0 (word_in registers of)) registers) (flags_of_difference 0 (word_in registers of)) regions
unary next Idiv of registers flags regions = divide next (word_in registers of) registers regions

-- what was fetched at the address is done
abbrev pub act : Fetched → Registers → Flags → Regions → Step
act Nothing registers flags regions = Stops
act (Here (Move to from) next) registers flags regions = Goes next (put to (word_in registers from) registers) flags regions
act (Here (Load to base offset) next) registers flags regions =
    loaded next to registers flags regions (word_at regions (displaced (word_in registers base) offset))
act (Here (Store base offset from) next) registers flags regions =
    stored next registers flags (with_word regions (displaced (word_in registers base) offset) (word_in registers from))
act (Here (LoadConstant to value) next) registers flags regions = Goes next (put to value registers) flags regions
act (Here (Binary op to from) next) registers flags regions = binary next op to (word_in registers from) registers regions
act (Here (BinaryConstant op to value) next) registers flags regions = binary next op to (unsigned value) registers regions
act (Here (Unary op of) next) registers flags regions = unary next op of registers flags regions
act (Here (Multiply to by) next) registers flags regions = multiply next to (word_in registers by) registers regions
act (Here SignExtend next) registers flags regions =
    Goes next (put Rdx (sign_word (word_in registers Rax)) registers) flags regions
act (Here (Shift op to count) next) registers flags regions = shift next op to (count_of count % 64) registers regions
act (Here (ShiftByCl op to) next) registers flags regions = shift next op to (word_in registers Rcx % 64) registers regions
act (Here (LoadAddress to base offset) next) registers flags regions =
    Goes next (put to (displaced (word_in registers base) offset) registers) flags regions
act (Here (Jump offset) next) registers flags regions = Goes (displaced next offset) registers flags regions
act (Here (Call offset) next) registers flags regions = push (displaced next offset) next registers flags regions
act (Here (JumpIf condition offset) next) registers flags regions =
    branched (displaced next offset) next registers flags regions (holds condition flags)
act (Here (CallRegister r) next) registers flags regions = push (word_in registers r) next registers flags regions
act (Here (JumpRegister r) next) registers flags regions = Goes (word_in registers r) registers flags regions
act (Here (Push r) next) registers flags regions = push next (word_in registers r) registers flags regions
act (Here (Pop r) next) registers flags regions = pop next r registers flags regions
act (Here Return next) registers flags regions = go_back registers flags regions
act (Here Syscall next) registers flags regions = Calls next

-- the registers when a service goes on: its result in rax, and rcx and r11, in which a processor leaves what it comes from, are 0
abbrev pub answered : ℕ → Registers → Registers
answered word registers = put Rax word (put Rcx 0 (put R11 0 registers))

-- the registers when a service has built so many words
abbrev pub grown : ℕ → Registers → Registers
grown words registers = put R15 (wrap (word_in registers R15 + 8 * words)) registers

-- what a service comes to that was called at an address; no flag is known after it
abbrev pub served : ℕ → ℕ → Registers → Regions → List Term → Effect → State
served at next registers regions displayed NoNext = Over (MachineFault at) displayed
served at next registers regions displayed (Ends ending) = Over (ByService ending) displayed
served at next registers regions displayed (Answers word) = On next (answered word registers) no_flags regions displayed
served at next registers regions displayed (Displays t) = On next (answered TRUE_WORD registers) no_flags regions (displayed ++ t ∷ [])
served at next registers regions displayed (Builds word words) =
    On next (answered word (grown (length words) registers)) no_flags
    (record regions { heap = heap_with regions.heap (word_in registers R15) words }) displayed

-- the service that the registers call
abbrev pub called : Symbols → Registers → Regions → Effect
called symbols registers regions =
    service symbols regions.heap (word_in registers Rax) (word_in registers Rdi) (word_in registers Rsi) (word_in registers R15)

abbrev pub stepped : Symbols → ℕ → Registers → Regions → List Term → Step → State
stepped symbols at registers regions displayed (Goes next others flags after) = On next others flags after displayed
stepped symbols at registers regions displayed Stops = Over (MachineFault at) displayed
stepped symbols at registers regions displayed (Calls next) = served at next registers regions displayed (called symbols registers regions)

-- one step, where this is what is fetched at each address; a run that is over stays so
abbrev pub machine_step_with : (Regions → ℕ → Fetched) → Symbols → State → State
machine_step_with fetch_at symbols (On at registers flags regions displayed) =
    stepped symbols at registers regions displayed (act (fetch_at regions at) registers flags regions)
machine_step_with fetch_at symbols (Over ending displayed) = Over ending displayed

-- at most n such steps
abbrev pub machine_run_with : (Regions → ℕ → Fetched) → Symbols → ℕ → State → State
machine_run_with fetch_at symbols zero state = state
machine_run_with fetch_at symbols (suc n) state = machine_run_with fetch_at symbols n (machine_step_with fetch_at symbols state)

-- the instruction whose encoding stands in the code at the address
abbrev pub fetch_code : Regions → ℕ → Fetched
fetch_code regions at = fetch regions.code at

-- the next instruction of the code calls a service
abbrev pub CallsService : State → Type 0
CallsService (On at registers flags regions displayed) = (next : ℕ) × (act (fetch_code regions at) registers flags regions ≡ Calls next)
CallsService (Over ending displayed) = ⊥

-- one step of the code
abbrev pub machine_step : Symbols → State → State
machine_step = machine_step_with fetch_code

-- at most n steps of the code
abbrev pub machine_run : Symbols → ℕ → State → State
machine_run = machine_run_with fetch_code
