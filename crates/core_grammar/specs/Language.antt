-- Which lists of terminals are modules and calls, and where the others are refused.
use Rattle.std.specs.Prelude.{◌≡◌, ℕ, List, [], ◌∷◌, ◌++◌, length, Bool, true, false, ◌||◌, nat_le, Result, Ok, Err}
use Rattle.hipe_base.specs.declared.limits.TheConstants.{ARITY_LIMIT}
use Rattle.hipe_terms.specs.declared.place.Place.{Place}
use Rattle.hipe_terms.specs.declared.constant.Call.{Call}
use Rattle.core_ast.specs.declared.tree.Module.{Module}
use Rattle.core_grammar.specs.declared.fault.Fault.{Fault}
use Rattle.core_grammar.specs.declared.terminal.Kind.{Kind}
use Rattle.core_grammar.specs.declared.terminal.Mark.{Mark}
use Rattle.core_grammar.specs.declared.terminal.Terminal.{Terminal}
use Rattle.core_grammar.specs.Leave.{part, variable_operand, argument, Leave, token}
use Rattle.core_grammar.specs.Grammar.{ModuleOf, CallOf}

-- no part has a level above n, and a call has at most as many arguments as one may have
abbrev pub limit : ℕ → Leave
limit n (part k) ts = nat_le k n
limit n variable_operand ts = false
limit n (argument i) ts = nat_le i ARITY_LIMIT

-- whatever the levels and the numbers of arguments
abbrev pub any : Leave
any (part k) ts = true
any variable_operand ts = false
any (argument i) ts = true

-- the same, and with variables as the module or the name of a `call`
abbrev pub any_operand : Leave
any_operand need ts = true

-- `limit` for the parts that begin before the last m terminals
abbrev pub within : ℕ → ℕ → Leave
within n m (part k) ts = nat_le k n || nat_le (length ts) m
within n m variable_operand ts = false
within n m (argument i) ts = nat_le i ARITY_LIMIT || nat_le (length ts) m

-- what Core Erlang has and the profile hasn't: floats, `receive`, `#` and `~`
abbrev pub is_foreign : Kind → Bool
is_foreign Kind.Float = true
is_foreign (Kind.Mark Mark.Receive) = true
is_foreign (Kind.Mark Mark.Hash) = true
is_foreign (Kind.Mark Mark.Tilde) = true
is_foreign _ = false

-- a language: which trees a list of terminals is derived as, with this leave
abbrev pub Derivation : Type 0 → Type 1
Derivation A = Leave → List Terminal → A → Type 0

-- some tree of the language goes on with these terminals
abbrev pub Viable : (A : Type 0) → Derivation A → Leave → List Terminal → Type 0
Viable A D ok us = (ws : List Terminal) × (a : A) × D ok (us ++ ws) a

-- the same, and no part that begins in these terminals has a level above n, and no argument is one too many
abbrev pub Fine : (A : Type 0) → Derivation A → ℕ → List Terminal → Type 0
Fine A D n us = (ws : List Terminal) × (a : A) × D (within n (length ws)) (us ++ ws) a

-- a terminal that begins what Core Erlang has and the profile hasn't: a foreign one where an integer could stand, or a
-- variable as the module or the name of a `call`: what stands before it goes on as a tree of the profile, and with it too
-- if variables could stand there
pub data IsOutside (A : Type 0) (D : Derivation A) (us : List Terminal) (t : Terminal) : Type 0 where
  foreign_part : is_foreign t.kind ≡ true → Viable A D any (us ++ token (Kind.Natural 0) t.at ∷ []) → IsOutside A D us t
  operand_of_call : Viable A D any us → Viable A D any_operand (us ++ t ∷ []) → IsOutside A D us t

-- why no tree goes on with a terminal, or a part of too high a level or an argument too many begins with it
abbrev pub Stops : (A : Type 0) → Derivation A → ℕ → List Terminal → Terminal → Fault → Type 0
Stops A D n us t Fault.Syntax = ¬ Viable A D any (us ++ t ∷ []) × ¬ IsOutside A D us t
Stops A D n us t Fault.NotInProfile = ¬ Viable A D any (us ++ t ∷ []) × IsOutside A D us t
Stops A D n us t Fault.TooDeep = Viable A D any (us ++ t ∷ []) × ¬ Fine A D n (us ++ t ∷ [])

-- a list of terminals is no tree of the language, and where: at the first terminal that stops it, or at the place z of the
-- text's end
pub data Refused (A : Type 0) (D : Derivation A) (n : ℕ) (z : Place) (ts : List Terminal) : Fault → Place → Type 0 where
  at_terminal : {f : Fault} (us : List Terminal) (t : Terminal) (ws : List Terminal) → ts ≡ us ++ t ∷ ws → Fine A D n us → Stops A D n us t f → Refused A D n z ts f t.at
  at_text_end : Fine A D n ts → ((a : A) → D any ts a → ⊥) → Refused A D n z ts Fault.Syntax z

-- what a list of terminals that ends at z is read as: a tree that it is derived as with no level above n, or why and where it
-- is refused
abbrev pub IsAnswer : (A : Type 0) → Derivation A → ℕ → Place → List Terminal → Result A (Fault × Place) → Type 0
IsAnswer A D n z ts (Ok a) = D (limit n) ts a
IsAnswer A D n z ts (Err (f, p)) = Refused A D n z ts f p

-- modules

-- a list of terminals is derived as this module
abbrev pub Derives : Derivation Module
Derives ok ts m = ModuleOf ok m ts []

abbrev pub RefusedModule : ℕ → Place → List Terminal → Fault → Place → Type 0
RefusedModule n z ts f p = Refused Module Derives n z ts f p

abbrev pub IsModuleAnswer : ℕ → Place → List Terminal → Result Module (Fault × Place) → Type 0
IsModuleAnswer n z ts r = IsAnswer Module Derives n z ts r

-- calls

-- a list of terminals is derived as this call
abbrev pub DerivesCall : Derivation Call
DerivesCall ok ts c = CallOf ok c ts []

abbrev pub RefusedCall : ℕ → Place → List Terminal → Fault → Place → Type 0
RefusedCall n z ts f p = Refused Call DerivesCall n z ts f p

abbrev pub IsCallAnswer : ℕ → Place → List Terminal → Result Call (Fault × Place) → Type 0
IsCallAnswer n z ts r = IsAnswer Call DerivesCall n z ts r
