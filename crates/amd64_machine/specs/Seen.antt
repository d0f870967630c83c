-- What the code's types stand for in the machine's definition.
use Rattle.std.specs.Prelude.{◌≡◌, ℕ, ◌<◌, List, [], ◌++◌, All, Option, Some, None, length, slice_index, codes}
use Rattle.hipe_terms.specs.Terms.{Term, atom}
use Rattle.hipe_terms.specs.Shown.{Names}
use Rattle.hipe_terms.specs.declared.class.Class.TheVariants.{Error}
use Rattle.hipe_terms.specs.Classes.{class_name}
use Rattle.heap_terms.specs.Shapes.{Symbols}
use Rattle.heap_terms.specs.Terms.{term_at}
use Rattle.heap_terms.specs.Seen.{symbols_of}
use Rattle.heap_terms.specs.declared.symbols.Symbols.{Symbols as SymbolTable}
use Rattle.machine_services.specs.Services.{Effect, Ends, Raised, HeapFull, StackFull, returned, raised}
use Rattle.machine_services.specs.Served.{line_of}
use Rattle.amd64_form.specs.declared.inst.Inst.{Inst}
use Rattle.amd64_machine.specs.declared.machine.End.{End}
use Rattle.amd64_machine.specs.declared.machine.End.TheVariants as ends
use Rattle.amd64_machine.specs.declared.state.Core.{Core}
use Rattle.amd64_machine.specs.declared.state.Did.{Did}
use Rattle.amd64_machine.specs.declared.state.Did.TheVariants as did
use Rattle.amd64_machine.specs.declared.state.Ended.{Ended}
use Rattle.amd64_machine.specs.declared.state.Ended.TheVariants as ways
use Rattle.amd64_machine.specs.declared.cache.Cached.{Cached}
use Rattle.amd64_machine.specs.Fetch.{Fetched, Nothing, Here, fetch}
use Rattle.amd64_machine.specs.Machine.{Registers, State, On, Over, ByService, MachineFault, Step, Goes, Stops, Calls}
use Rattle.amd64_machine.specs.Outcome.{Seen}

abbrev pub registers_seen : List ℕ → Registers
registers_seen words = λ q. slice_index words q

abbrev pub fetched_seen : Option (Inst × ℕ) → Fetched
fetched_seen None = Nothing
fetched_seen (Some found) = Here found.0 found.1

-- an entry of the cache is what is fetched at its address
abbrev pub IsCached : List ℕ → Option Cached → Type 0
IsCached code None = Unit {0}
IsCached code (Some c) = fetch code c.at ≡ Here c.inst c.next

-- a cache of a code's instructions has an entry or more, and each is what is fetched
pub record IsCache (code : List ℕ) (entries : List (Option Cached)) : Type 0 where
  pub some : 0 < length entries
  pub all : All (IsCached code) entries

-- what an instruction came to, with the state behind it
abbrev pub step_seen : Core → Did → Step
step_seen core did.Goes = Goes core.at (registers_seen core.registers) core.flags core.region
step_seen core did.Stops = Stops
step_seen core (did.Calls next) = Calls next

-- where it didn't go on, nothing changed
abbrev pub IsKept : Core → Core → Did → Type 0
IsKept old new did.Goes = Unit {0}
IsKept old new did.Stops = new ≡ old
IsKept old new (did.Calls next) = new ≡ old

-- a run that a service ended, or that has no next state from an address
abbrev pub over : ℕ → Effect → List Term → State
over at (Ends ending) displayed = Over (ByService ending) displayed
over at _ displayed = Over (MachineFault at) displayed

abbrev pub state_at : Core → List Term → State
state_at core displayed = On core.at (registers_seen core.registers) core.flags core.region displayed

abbrev pub state_ended : Symbols → Core → Ended → List Term → State
state_ended symbols core (ways.Returned word) displayed = over core.at (returned (term_at symbols core.region.heap word)) displayed
state_ended symbols core (ways.Raised class word) displayed =
    over core.at (raised (Some class) (term_at symbols core.region.heap word)) displayed
state_ended symbols core ways.Undefined displayed = Over (ByService (Raised Error (atom (codes "undef")))) displayed
state_ended symbols core ways.HeapFull displayed = Over (ByService HeapFull) displayed
state_ended symbols core ways.StackFull displayed = Over (ByService StackFull) displayed
state_ended symbols core (ways.MachineFault at) displayed = Over (MachineFault at) displayed
state_ended symbols core ways.WriteFault displayed = state_at core displayed
state_ended symbols core ways.Memory displayed = state_at core displayed

abbrev pub state_seen : Symbols → Core → Option Ended → List Term → State
state_seen symbols core None displayed = state_at core displayed
state_seen symbols core (Some ended) displayed = state_ended symbols core ended displayed

-- whether it was stopped, and how
abbrev pub stopped_seen : Option Ended → Option End
stopped_seen (Some ways.WriteFault) = Some ends.WriteFault
stopped_seen (Some ways.Memory) = Some ends.Memory
stopped_seen _ = None

-- the machine of these symbols, in this state, over in this way or not
abbrev pub machine_seen : Symbols → Core → Option Ended → Seen
machine_seen symbols core ended =
    record { symbols = symbols; state = state_seen symbols core ended; stopped = stopped_seen ended }

-- what contracts see of a machine
pub record Held : Type 0 where
  pub core : Core
  pub symbols : SymbolTable
  pub ended : Option Ended

abbrev pub machine_of : Held → Seen
machine_of m = machine_seen (symbols_of m.symbols) m.core m.ended

abbrev pub end_seen : Ended → End
end_seen (ways.Returned word) = ends.Returned
end_seen (ways.Raised class word) = ends.Raised class
end_seen ways.Undefined = ends.Raised Error
end_seen ways.HeapFull = ends.HeapFull
end_seen ways.StackFull = ends.StackFull
end_seen (ways.MachineFault at) = ends.MachineFault at
end_seen ways.WriteFault = ends.WriteFault
end_seen ways.Memory = ends.Memory

abbrev pub ends_seen : Option Ended → Option End
ends_seen None = None
ends_seen (Some ended) = Some (end_seen ended)

-- the word of a value or a reason stands for a term
abbrev pub HasTerm : Symbols → List ℕ → Option Ended → Type 0
HasTerm symbols heap (Some (ways.Returned word)) = (t : Term) × (term_at symbols heap word ≡ Some t)
HasTerm symbols heap (Some (ways.Raised class word)) = (t : Term) × (term_at symbols heap word ≡ Some t)
HasTerm symbols heap _ = Unit {0}

-- the line of a term behind a name, if there is a term
abbrev pub term_line : List ℕ → Names → Option Term → List ℕ
term_line kind names None = []
term_line kind names (Some t) = kind ++ codes " " ++ line_of names t

-- the line of a call that isn't exported
abbrev pub undefined_line : Names → List ℕ
undefined_line names = class_name Error ++ codes " " ++ line_of names (atom (codes "undef"))
