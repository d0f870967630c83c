-- The state in which a loaded program begins: the arguments are in rdi, rsi, r8 and r9, the stack has the exit part's address alone, the
-- heap pointer is in r15, all other registers are 0, and no flag is known.
use Rattle.std.specs.Prelude.{ℕ, ◌+◌, ◌-◌, ◌*◌, List, [], length, codes}
use Rattle.std.specs.Prelude.{get_or}
use Rattle.hipe_terms.specs.Terms.{atom}
use Rattle.hipe_terms.specs.declared.class.Class.TheVariants.{Error}
use Rattle.hipe_terms.specs.declared.constant.Call.{Call}
use Rattle.region_memory.specs.declared.layout.TheConstants.{STACK_BEGIN}
use Rattle.region_memory.specs.Regions.{Regions}
use Rattle.amd64_form.specs.declared.reg.Reg.TheVariants.{Rsp, Rdi, Rsi, R8, R9, R15}
use Rattle.machine_services.specs.Services.{Raised, HeapFull as FullHeap}
use Rattle.image_link.specs.Image.{ProgramImage}
use Rattle.image_load.specs.Loading.{Beginning, Undefined, HeapFull, Ready, loaded}
use Rattle.amd64_machine.specs.Arithmetic.{no_flags}
use Rattle.amd64_machine.specs.Machine.{Registers, State, On, Over, ByService, put}

abbrev pub first_registers : List ℕ → ℕ → ℕ → Registers
first_registers arguments free rsp =
    put Rdi (get_or arguments 0 0) (put Rsi (get_or arguments 1 0) (put R8 (get_or arguments 2 0) (put R9 (get_or arguments 3 0)
    (put R15 free (put Rsp rsp (λ q. 0))))))

abbrev pub begun : Regions → Beginning → State
begun regions Undefined = Over (ByService (Raised Error (atom (codes "undef")))) []
begun regions HeapFull = Over (ByService FullHeap) []
begun regions (Ready at arguments free) =
    On at (first_registers arguments free (STACK_BEGIN + 8 * (length regions.stack - 1))) no_flags regions []

-- the state in which a run of a call begins
abbrev pub start : ProgramImage → Call → Regions → State
start image call regions = begun (loaded image call regions).regions (loaded image call regions).beginning
