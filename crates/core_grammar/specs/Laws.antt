-- What holds of the grammar.
use Rattle.std.specs.Prelude.{◌≡◌, ℕ, List, true, Result}
use Rattle.hipe_terms.specs.declared.place.Place.{Place}
use Rattle.hipe_terms.specs.declared.constant.Call.{Call}
use Rattle.core_ast.specs.declared.tree.Module.{Module}
use Rattle.core_grammar.specs.declared.fault.Fault.{Fault}
use Rattle.core_grammar.specs.declared.terminal.Terminal.{Terminal}
use Rattle.hipe_terms.specs.Constants.{AreConstants}
use Rattle.core_ast.specs.Trees.{module_of}
use Rattle.core_ast.specs.WellFormed.{IsWellFormed}
use Rattle.core_grammar.specs.Ranges.{terminals_in_range}
use Rattle.core_grammar.specs.Leave.{Leave}
use Rattle.core_grammar.specs.Language.{limit, Derivation, Refused, IsAnswer, Derives, DerivesCall}

-- of any language

-- a list of terminals is derived as at most one tree, places included
abbrev pub OneTree : (A : Type 0) → Derivation A → Type 0
OneTree A D = (ok : Leave) (ts : List Terminal) (a b : A) → D ok ts a → D ok ts b → a ≡ b

-- what is refused is derived as no tree with no level above n
abbrev pub RefusedDerivesNone : (A : Type 0) → Derivation A → Type 0
RefusedDerivesNone A D = (n : ℕ) (z : Place) (ts : List Terminal) (f : Fault) (p : Place) → Refused A D n z ts f p → (a : A) → ¬ D (limit n) ts a

-- each list of terminals has an answer
abbrev pub SomeAnswer : (A : Type 0) → Derivation A → Type 0
SomeAnswer A D = (n : ℕ) (z : Place) (ts : List Terminal) → (r : Result A (Fault × Place)) × IsAnswer A D n z ts r

-- and one alone: the fault and its place too
abbrev pub OneAnswer : (A : Type 0) → Derivation A → Type 0
OneAnswer A D = (n : ℕ) (z : Place) (ts : List Terminal) (r s : Result A (Fault × Place)) → IsAnswer A D n z ts r → IsAnswer A D n z ts s → r ≡ s

-- of modules

abbrev pub OneModule : Type 0
OneModule = OneTree Module Derives

abbrev pub RefusedDerivesNoModule : Type 0
RefusedDerivesNoModule = RefusedDerivesNone Module Derives

abbrev pub SomeModuleAnswer : Type 0
SomeModuleAnswer = SomeAnswer Module Derives

abbrev pub OneModuleAnswer : Type 0
OneModuleAnswer = OneAnswer Module Derives

-- of calls

abbrev pub OneCall : Type 0
OneCall = OneTree Call DerivesCall

abbrev pub RefusedDerivesNoCall : Type 0
RefusedDerivesNoCall = RefusedDerivesNone Call DerivesCall

abbrev pub SomeCallAnswer : Type 0
SomeCallAnswer = SomeAnswer Call DerivesCall

abbrev pub OneCallAnswer : Type 0
OneCallAnswer = OneAnswer Call DerivesCall

-- what the productions give

-- modules that are derived are well formed: integers are in their range, and a list in the tail of a list is one list with it
abbrev pub DerivedAreWellFormed : Type 0
DerivedAreWellFormed = (ok : Leave) (ts : List Terminal) (m : Module) → terminals_in_range ts ≡ true → Derives ok ts m → IsWellFormed (module_of m)

-- and the arguments of calls are as every call wants constants
abbrev pub DerivedArgumentsAreConstants : Type 0
DerivedArgumentsAreConstants = (ok : Leave) (ts : List Terminal) (c : Call) → terminals_in_range ts ≡ true → DerivesCall ok ts c → AreConstants c.args
