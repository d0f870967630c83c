-- The scopes and functions of the meaning that those of the code stand for.
use Rattle.std.specs.Prelude.{◌≡◌, ℕ, suc, ◌==◌, ◌+◌, not, bytes_eq, if◌then◌else◌, List, [], ◌∷◌, ◌++◌, map, length}
use Rattle.std.specs.List.{filter, list_any}
use denote.Bor.{Bor}
use Rattle.core_ast.specs.Names.{is_named}
use Rattle.core_ast.specs.Trees as Trees
use Rattle.core_ast.specs.Trees.{expression_of, definition_of, definitions}
use Rattle.core_ast.specs.declared.pattern.Var.{Var}
use Rattle.core_ast.specs.declared.tree.FunDef.{FunDef}
use Rattle.core_ast.specs.declared.tree.FunName.{FunName}
use Rattle.core_meaning.specs.Scopes as Meant
use Rattle.core_meaning.specs.Procedures as MeantProcedures
use Rattle.eval_procedures.specs.declared.scope.Function.{Function}
use Rattle.eval_procedures.specs.declared.scope.Known.{Known}
use Rattle.eval_procedures.specs.declared.scope.Scope.{Scope}
use Rattle.eval_procedures.specs.declared.scope.Slot.{Slot}
use Rattle.eval_procedures.specs.declared.procedure.Procedure.{Procedure}

-- the names that references lead to
abbrev pub names_in : List (Bor (List ℕ)) → List (List ℕ)
names_in [] = []
names_in (x ∷ xs) = x.now ∷ names_in xs

-- the names of the functions that are defined here
abbrev pub names_defined : List FunDef → List FunName
names_defined defs = Meant.function_names (definitions (map definition_of defs))

-- variables without those of these names
abbrev pub without : List (List ℕ) → List (List ℕ × ℕ) → List (List ℕ × ℕ)
without xs vs = filter (λ v. not (list_any (λ x. bytes_eq x v.0) xs)) vs

-- functions without those of these names
abbrev pub without_functions : List FunName → List (FunName × Meant.Known) → List (FunName × Meant.Known)
without_functions fs gs = filter (λ g. not (list_any (λ f. is_named f g.0) fs)) gs

-- the slots that occur free in the functions of a `letrec`
abbrev pub occurring_in_group : Meant.Scope → List FunDef → List ℕ
occurring_in_group s defs = Meant.occurring_in_definitions (Meant.hiding_functions (names_defined defs) s) (definitions (map definition_of defs))

-- slots with this one behind them, unless it is one of them
abbrev pub with_first : ℕ → List ℕ → List ℕ
with_first i is = if list_any (λ j. i == j) is then is else is ++ i ∷ []

-- a variable and its slot
abbrev pub slot_in : Slot → List ℕ × ℕ
slot_in v = (v.name.now, v.slot)

-- what a function's name stands for
abbrev pub known_in : Known → Meant.Known
known_in f = record { number = f.number; captured = f.captured.now }

-- a function by its name
abbrev pub function_in : Function → FunName × Meant.Known
function_in f = (f.name.now, known_in f.known)

-- what is in scope
abbrev pub scope_in : Scope → Meant.Scope
scope_in s = record { variables = map slot_in s.variables.now; functions = map function_in s.functions.now }

-- a function by its number
abbrev pub procedure_in : Procedure → MeantProcedures.Procedure
procedure_in f = record { parameters = Meant.names f.parameters.now; body = expression_of f.body.now; scope = scope_in f.scope; captured = f.captured; first = f.first }

-- the function inside a fun that captures these slots, where all that it captures is among them
abbrev pub carried_by : List ℕ → Function → List (FunName × Meant.Known)
carried_by captured f = Meant.carried_function (function_in f) (Meant.positions f.known.captured.now captured)

abbrev pub procedures_in : List Procedure → List MeantProcedures.Procedure
procedures_in fs = map procedure_in fs

-- a table with these functions behind those that it had
abbrev pub Appends : (before after : List Procedure) → List MeantProcedures.Procedure → Type 0
Appends before after fs = procedures_in after ≡ procedures_in before ++ fs

-- the function of a fun or of a definition, in the scope that it captured
abbrev pub procedure_of : Trees.Function → Meant.Scope → (captured first : ℕ) → MeantProcedures.Procedure
procedure_of f s k n = record { parameters = Meant.names f.parameters; body = f.body; scope = s; captured = k; first = n }

-- a fun of number n, and the functions in it
abbrev pub procedures_of_fun : Meant.Scope → ℕ → Trees.Function → List MeantProcedures.Procedure
procedures_of_fun s n f =
    MeantProcedures.fun_at s n (Meant.names f.parameters) f.body
    ∷ MeantProcedures.procedures (MeantProcedures.scope_at_entry (MeantProcedures.fun_at s n (Meant.names f.parameters) f.body)) (MeantProcedures.slots_at_entry (MeantProcedures.fun_at s n (Meant.names f.parameters) f.body)) (suc n) f.body

-- the functions of a `letrec`, where n is the number of the first, and the functions in them
abbrev pub procedures_of_letrec : Meant.Scope → ℕ → Trees.Definitions → List MeantProcedures.Procedure
procedures_of_letrec s n ds = MeantProcedures.procedures_of_group (length (Meant.captured_by_group s ds)) (Meant.group_scope n ds s) n ds

-- the functions in an expression where these variables are bound too, in the slots from `slots` on
abbrev pub procedures_where_bound : Meant.Scope → (slots : ℕ) → List Var → (n : ℕ) → Trees.Expression → List MeantProcedures.Procedure
procedures_where_bound s slots xs n e = MeantProcedures.procedures (Meant.binding slots (Meant.names xs) s) (slots + length xs) n e

-- the functions in the body of a function, whose parameters have the slots from `slots` on
abbrev pub procedures_inside : Meant.Scope → (slots n : ℕ) → Trees.Function → List MeantProcedures.Procedure
procedures_inside s slots n f = procedures_where_bound s slots f.parameters n f.body
