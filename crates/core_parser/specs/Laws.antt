-- What holds of the machine.
use Rattle.std.specs.Prelude.{◌≡◌, ℕ, List, [], ◌∷◌, Ok, Err}
use Rattle.hipe_terms.specs.declared.place.Place.{Place}
use Rattle.hipe_terms.specs.declared.constant.Call.{Call}
use Rattle.core_ast.specs.declared.tree.Module.{Module}
use Rattle.core_grammar.specs.declared.fault.Fault.{Fault}
use Rattle.core_grammar.specs.declared.terminal.Terminal.{Terminal}
use Rattle.core_grammar.specs.Leave.{Leave}
use Rattle.core_grammar.specs.Language.{Derivation, limit, Refused, Derives, DerivesCall}
use Rattle.core_parser.specs.declared.value.Value.{Value}
use Rattle.core_parser.specs.Values.{Values}
use Rattle.core_parser.specs.Machine.{Symbols, run, module_start, call_start}

-- of any language: where its trees begin, and the value that holds a tree

-- what is derived is read, and nothing else stands on the stack then
abbrev pub ReadsDerived : (A : Type 0) → Derivation A → Symbols → (A → Value) → Type 0
ReadsDerived A D start value = (ok : Leave) (z : Place) (ts : List Terminal) (a : A) → D ok ts a → run ok z start [] ts ≡ Ok (value a ∷ [])

-- what is read is derived
abbrev pub DerivesRead : (A : Type 0) → Derivation A → Symbols → (A → Value) → Type 0
DerivesRead A D start value = (ok : Leave) (z : Place) (ts : List Terminal) (vs : Values) → run ok z start [] ts ≡ Ok vs → (a : A) × (vs ≡ value a ∷ []) × D ok ts a

-- where the grammar refuses, the machine does, for the same reason and at the same place
abbrev pub StopsAtRefused : (A : Type 0) → Derivation A → Symbols → Type 0
StopsAtRefused A D start = (n : ℕ) (z : Place) (ts : List Terminal) (f : Fault) (p : Place) → Refused A D n z ts f p → run (limit n) z start [] ts ≡ Err (f, p)

-- and where the machine does, the grammar
abbrev pub RefusedWhereStops : (A : Type 0) → Derivation A → Symbols → Type 0
RefusedWhereStops A D start = (n : ℕ) (z : Place) (ts : List Terminal) (f : Fault) (p : Place) → run (limit n) z start [] ts ≡ Err (f, p) → Refused A D n z ts f p

-- of modules

abbrev pub ReadsDerivedModules : Type 0
ReadsDerivedModules = ReadsDerived Module Derives module_start Value.Module

abbrev pub DerivesReadModules : Type 0
DerivesReadModules = DerivesRead Module Derives module_start Value.Module

abbrev pub StopsAtRefusedModules : Type 0
StopsAtRefusedModules = StopsAtRefused Module Derives module_start

abbrev pub RefusedModulesWhereStops : Type 0
RefusedModulesWhereStops = RefusedWhereStops Module Derives module_start

-- of calls

abbrev pub ReadsDerivedCalls : Type 0
ReadsDerivedCalls = ReadsDerived Call DerivesCall call_start Value.Call

abbrev pub DerivesReadCalls : Type 0
DerivesReadCalls = DerivesRead Call DerivesCall call_start Value.Call

abbrev pub StopsAtRefusedCalls : Type 0
StopsAtRefusedCalls = StopsAtRefused Call DerivesCall call_start

abbrev pub RefusedCallsWhereStops : Type 0
RefusedCallsWhereStops = RefusedWhereStops Call DerivesCall call_start
