-- The functions of a module by their numbers. The module's own functions come first, in the order of the text, then the funs and the
-- functions of each `letrec`, in the order of their `fun`.
use Rattle.std.specs.Prelude.{ℕ, suc, ◌+◌, List, [], ◌∷◌, ◌++◌, map, length}
use Rattle.core_ast.specs.declared.tree.FunName.{FunName}
use Rattle.core_ast.specs.Trees.{Expression, Expressions, no_expression, and_expression, Clauses, no_clause, and_clause, Definitions, no_definition, and_definition, Module}
use Rattle.core_ast.specs.Nodes.{expression_nodes, frame_of}
use Rattle.core_meaning.specs.Scopes.{Known, Scope, names, binding, bound_by, count_definitions, function_names, captured_by_fun, captured_by_group, carried, funs, funs_in_all, funs_in_definitions, letrec_scope, group_scope}

-- a function: its parameters, its body, the scope that it captured with the number of its variables, and the number of the first fun in its body
pub record Procedure : Type 0 where
  pub parameters : List (List ℕ)
  pub body : Expression
  pub scope : Scope
  pub captured : ℕ
  pub first : ℕ

-- how many variables are in force where the body begins
abbrev pub slots_at_entry : Procedure → ℕ
slots_at_entry f = f.captured + length f.parameters

abbrev pub scope_at_entry : Procedure → Scope
scope_at_entry f = binding f.captured f.parameters f.scope

-- the words of the stack that one activation claims
abbrev pub claim_of : Procedure → ℕ
claim_of f = frame_of (expression_nodes f.body) (length f.parameters) f.captured

-- the fun of number n with these parameters and this body, in this scope
abbrev pub fun_at : Scope → ℕ → List (List ℕ) → Expression → Procedure
fun_at s n xs body =
    record { parameters = xs; body = body; scope = carried (captured_by_fun s xs body) s; captured = length (captured_by_fun s xs body); first = suc n }

-- The functions in an expression, in the order of their numbers: in this scope, with so many variables in force, where n is the number of
-- the first.
abbrev mutual
  pub procedures : Scope → (slots n : ℕ) → Expression → List Procedure
  procedures s k n (Expression.Int p i) = []
  procedures s k n (Expression.Atom p a) = []
  procedures s k n (Expression.Nil p) = []
  procedures s k n (Expression.Variable p x) = []
  procedures s k n (Expression.Name p f) = []
  procedures s k n (Expression.Tuple p parts) = procedures_in_all s k n parts
  procedures s k n (Expression.Cons p parts tail) = procedures_in_all s k n parts ++ procedures s k (n + funs_in_all parts) tail
  procedures s k n (Expression.Values p parts) = procedures_in_all s k n parts
  procedures s k n (Expression.Let p xs values body) = procedures s k n values ++ procedures (binding k (names xs) s) (k + length xs) (n + funs values) body
  procedures s k n (Expression.Case p values cs) = procedures s k n values ++ procedures_in_clauses s k (n + funs values) cs
  procedures s k n (Expression.Lambda p q xs body) =
      fun_at s n (names xs) body
      ∷ procedures (scope_at_entry (fun_at s n (names xs) body)) (slots_at_entry (fun_at s n (names xs) body)) (suc n) body
  procedures s k n (Expression.Letrec p ds body) = procedures_of_group (length (captured_by_group s ds)) (group_scope n ds s) n ds ++ procedures (letrec_scope n ds s) k (n + funs_in_definitions ds) body
  procedures s k n (Expression.Apply p f args) = procedures s k n f ++ procedures_in_all s k (n + funs f) args
  procedures s k n (Expression.Call p m f args) = procedures_in_all s k n args
  procedures s k n (Expression.Primop p f args) = procedures_in_all s k n args
  procedures s k n (Expression.Try p part xs body ys handler) =
      procedures s k n part ++ procedures (binding k (names xs) s) (k + length xs) (n + funs part) body
      ++ procedures (binding k (names ys) s) (k + length ys) (n + (funs part + funs body)) handler
  procedures s k n (Expression.Do p first second) = procedures s k n first ++ procedures s k (n + funs first) second
  procedures s k n (Expression.Catch p part) = procedures s k n part

  pub procedures_in_all : Scope → (slots n : ℕ) → Expressions → List Procedure
  procedures_in_all s k n no_expression = []
  procedures_in_all s k n (and_expression e es) = procedures s k n e ++ procedures_in_all s k (n + funs e) es

  pub procedures_in_clauses : Scope → (slots n : ℕ) → Clauses → List Procedure
  procedures_in_clauses s k n no_clause = []
  procedures_in_clauses s k n (and_clause p ps guard body cs) =
      procedures (binding k (bound_by ps) s) (k + length (bound_by ps)) n guard
      ++ procedures (binding k (bound_by ps) s) (k + length (bound_by ps)) (n + funs guard) body
      ++ procedures_in_clauses s k (n + (funs guard + funs body)) cs

  -- the functions of a `letrec`, each before those in its body
  pub procedures_of_group : (captured : ℕ) → Scope → ℕ → Definitions → List Procedure
  procedures_of_group c s n no_definition = []
  procedures_of_group c s n (and_definition p f q xs body ds) =
      record { parameters = names xs; body = body; scope = s; captured = c; first = suc n }
      ∷ procedures (binding c (names xs) s) (c + length xs) (suc n) body
      ++ procedures_of_group c s (n + 1 + funs body) ds

-- the module's own functions ---------------------------------------------------------------------------------------------------------

-- the functions by their names, with the numbers from i on
abbrev pub known_from : ℕ → Definitions → List (FunName × Known)
known_from i no_definition = []
known_from i (and_definition p f q xs body ds) = (f, record { number = i; captured = [] }) ∷ known_from (suc i) ds

-- the scope of a module
abbrev pub module_scope : Definitions → Scope
module_scope ds = record { variables = []; functions = known_from 0 ds }

-- the module's own functions, where n is the number of the first fun in them
abbrev pub own_procedures : Scope → ℕ → Definitions → List Procedure
own_procedures s n no_definition = []
own_procedures s n (and_definition p f q xs body ds) = record { parameters = names xs; body = body; scope = s; captured = 0; first = n } ∷ own_procedures s (n + funs body) ds

-- the funs in the module's own functions, where n is the number of the first
abbrev pub inner_procedures : Scope → ℕ → Definitions → List Procedure
inner_procedures s n no_definition = []
inner_procedures s n (and_definition p f q xs body ds) = procedures (binding 0 (names xs) s) (length xs) n body ++ inner_procedures s (n + funs body) ds

-- all functions of a module, in the order of their numbers
abbrev pub module_procedures : Definitions → List Procedure
module_procedures ds = own_procedures (module_scope ds) (count_definitions ds) ds ++ inner_procedures (module_scope ds) (count_definitions ds) ds

-- what a run knows of a module: its name, the functions that others can call, the module's own functions by number, and all functions by number
pub record Program : Type 0 where
  pub name : List ℕ
  pub exports : List FunName
  pub own : List FunName
  pub procedures : List Procedure

abbrev pub program_of : Module → Program
program_of m = record { name = m.name; exports = map (λ e. e.0) m.exports; own = function_names m.definitions; procedures = module_procedures m.definitions }
