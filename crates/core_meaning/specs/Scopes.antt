-- The names in scope at a place inside a function, and what a fun captures.
--
-- Each variable in force has a slot. The variables of a function have the slots from 0 on: first those that it captured, then its
-- parameters, then the others in the order in which they are bound.
use Rattle.std.specs.Prelude.{ℕ, zero, suc, ◌+◌, ◌==◌, not, if◌then◌else◌, List, [], ◌∷◌, ◌++◌, map, length, Option, Some, None, option_map, bytes_eq}
use Rattle.std.specs.List.{filter, list_any}
use Rattle.std.specs.Map.{lookup}
use Rattle.core_ast.specs.declared.pattern.Var.{Var}
use Rattle.core_ast.specs.declared.tree.FunName.{FunName}
use Rattle.core_ast.specs.Names.{is_named, defined, variables_of_all}
use Rattle.core_ast.specs.Trees.{Patterns, Expression, Expressions, no_expression, and_expression, Clauses, no_clause, and_clause, Definitions, no_definition, and_definition}

-- what a function's name stands for: the function's number, and the slots of the variables that it captures
pub record Known : Type 0 where
  pub number : ℕ
  pub captured : List ℕ

-- the variables and the functions in scope, the innermost first
pub record Scope : Type 0 where
  pub variables : List (List ℕ × ℕ)
  pub functions : List (FunName × Known)

abbrev pub slot_of : List ℕ → Scope → Option ℕ
slot_of x s = lookup (λ y. bytes_eq x y) s.variables

abbrev pub known_of : FunName → Scope → Option Known
known_of f s = lookup (λ g. is_named f g) s.functions

abbrev pub names : List Var → List (List ℕ)
names xs = map (λ x. x.name) xs

-- these variables, in the slots from k on
abbrev pub numbered : ℕ → List (List ℕ) → List (List ℕ × ℕ)
numbered k [] = []
numbered k (x ∷ xs) = (x, k) ∷ numbered (suc k) xs

-- the scope where these variables are bound too, in the slots from k on
abbrev pub binding : ℕ → List (List ℕ) → Scope → Scope
binding k xs s = record { variables = numbered k xs ++ s.variables; functions = s.functions }

-- the names of the variables that patterns bind, in the order of the text
abbrev pub bound_by : Patterns → List (List ℕ)
bound_by ps = names (variables_of_all ps)

-- the names of some functions
abbrev pub function_names : Definitions → List FunName
function_names ds = map (λ d. d.0) (defined ds)

abbrev pub count_definitions : Definitions → ℕ
count_definitions no_definition = 0
count_definitions (and_definition p f q xs body ds) = suc (count_definitions ds)

-- free occurrences -----------------------------------------------------------------------------------------------------------------

-- the scope without variables of these names
abbrev pub hiding : List (List ℕ) → Scope → Scope
hiding xs s = record { variables = filter (λ v. not (list_any (λ x. bytes_eq x v.0) xs)) s.variables; functions = s.functions }

-- the scope without functions of these names
abbrev pub hiding_functions : List FunName → Scope → Scope
hiding_functions fs s = record { variables = s.variables; functions = filter (λ g. not (list_any (λ f. is_named f g.0) fs)) s.functions }

abbrev pub slot_if_any : Option ℕ → List ℕ
slot_if_any None = []
slot_if_any (Some i) = i ∷ []

abbrev pub slots_if_known : Option Known → List ℕ
slots_if_known None = []
slots_if_known (Some g) = g.captured

-- The slots of the variables of the scope that occur free, in the order of the text. The name of a function stands for all that the
-- function captures.
abbrev mutual
  pub occurring : Scope → Expression → List ℕ
  occurring s (Expression.Int p n) = []
  occurring s (Expression.Atom p a) = []
  occurring s (Expression.Nil p) = []
  occurring s (Expression.Variable p x) = slot_if_any (slot_of x s)
  occurring s (Expression.Name p f) = slots_if_known (known_of f s)
  occurring s (Expression.Tuple p parts) = occurring_in_all s parts
  occurring s (Expression.Cons p parts tail) = occurring_in_all s parts ++ occurring s tail
  occurring s (Expression.Values p parts) = occurring_in_all s parts
  occurring s (Expression.Let p xs values body) = occurring s values ++ occurring (hiding (names xs) s) body
  occurring s (Expression.Case p values cs) = occurring s values ++ occurring_in_clauses s cs
  occurring s (Expression.Lambda p q xs body) = occurring (hiding (names xs) s) body
  occurring s (Expression.Letrec p ds body) = occurring_in_definitions (hiding_functions (function_names ds) s) ds ++ occurring (hiding_functions (function_names ds) s) body
  occurring s (Expression.Apply p f args) = occurring s f ++ occurring_in_all s args
  occurring s (Expression.Call p m f args) = occurring_in_all s args
  occurring s (Expression.Primop p f args) = occurring_in_all s args
  occurring s (Expression.Try p part xs body ys handler) = occurring s part ++ occurring (hiding (names xs) s) body ++ occurring (hiding (names ys) s) handler
  occurring s (Expression.Do p first second) = occurring s first ++ occurring s second
  occurring s (Expression.Catch p part) = occurring s part

  pub occurring_in_all : Scope → Expressions → List ℕ
  occurring_in_all s no_expression = []
  occurring_in_all s (and_expression e es) = occurring s e ++ occurring_in_all s es

  pub occurring_in_clauses : Scope → Clauses → List ℕ
  occurring_in_clauses s no_clause = []
  occurring_in_clauses s (and_clause p ps guard body cs) = occurring (hiding (bound_by ps) s) guard ++ occurring (hiding (bound_by ps) s) body ++ occurring_in_clauses s cs

  pub occurring_in_definitions : Scope → Definitions → List ℕ
  occurring_in_definitions s no_definition = []
  occurring_in_definitions s (and_definition p f q xs body ds) = occurring (hiding (names xs) s) body ++ occurring_in_definitions s ds

-- each slot where it stands first
abbrev pub first_occurrences : List ℕ → List ℕ
first_occurrences [] = []
first_occurrences (i ∷ is) = i ∷ filter (λ j. not (j == i)) (first_occurrences is)

-- what a fun with these parameters and this body captures
abbrev pub captured_by_fun : Scope → List (List ℕ) → Expression → List ℕ
captured_by_fun s xs body = first_occurrences (occurring (hiding xs s) body)

-- what the functions of one `letrec` capture: one list for all their bodies
abbrev pub captured_by_group : Scope → Definitions → List ℕ
captured_by_group s ds = first_occurrences (occurring_in_definitions (hiding_functions (function_names ds) s) ds)

-- inside a fun -----------------------------------------------------------------------------------------------------------------------

-- where a slot stands in a list of captured ones
abbrev pub position : ℕ → List ℕ → Option ℕ
position i [] = None
position i (j ∷ js) = if i == j then Some 0 else option_map suc (position i js)

abbrev pub joined : Option ℕ → Option (List ℕ) → Option (List ℕ)
joined (Some i) (Some is) = Some (i ∷ is)
joined i is = None

-- where each of some slots stands there
abbrev pub positions : List ℕ → List ℕ → Option (List ℕ)
positions [] captured = Some []
positions (i ∷ is) captured = joined (position i captured) (positions is captured)

abbrev pub carried_variable : List ℕ × ℕ → Option ℕ → List (List ℕ × ℕ)
carried_variable x None = []
carried_variable x (Some i) = (x.0, i) ∷ []

abbrev pub carried_variables : List ℕ → List (List ℕ × ℕ) → List (List ℕ × ℕ)
carried_variables captured [] = []
carried_variables captured (x ∷ xs) = carried_variable x (position x.1 captured) ++ carried_variables captured xs

abbrev pub carried_function : FunName × Known → Option (List ℕ) → List (FunName × Known)
carried_function f None = []
carried_function f (Some is) = (f.0, record { number = (f.1).number; captured = is }) ∷ []

abbrev pub carried_functions : List ℕ → List (FunName × Known) → List (FunName × Known)
carried_functions captured [] = []
carried_functions captured (f ∷ fs) = carried_function f (positions (f.1).captured captured) ++ carried_functions captured fs

-- The scope inside a fun that captures these slots. What was captured has the slots from 0 on there.
abbrev pub carried : List ℕ → Scope → Scope
carried captured s = record { variables = carried_variables captured s.variables; functions = carried_functions captured s.functions }

-- the numbers of functions ------------------------------------------------------------------------------------------------------------

-- how many funs stand in an expression, with the functions of each `letrec`
abbrev mutual
  pub funs : Expression → ℕ
  funs (Expression.Int p n) = 0
  funs (Expression.Atom p a) = 0
  funs (Expression.Nil p) = 0
  funs (Expression.Variable p x) = 0
  funs (Expression.Name p f) = 0
  funs (Expression.Tuple p parts) = funs_in_all parts
  funs (Expression.Cons p parts tail) = funs_in_all parts + funs tail
  funs (Expression.Values p parts) = funs_in_all parts
  funs (Expression.Let p xs values body) = funs values + funs body
  funs (Expression.Case p values cs) = funs values + funs_in_clauses cs
  funs (Expression.Lambda p q xs body) = 1 + funs body
  funs (Expression.Letrec p ds body) = funs_in_definitions ds + funs body
  funs (Expression.Apply p f args) = funs f + funs_in_all args
  funs (Expression.Call p m f args) = funs_in_all args
  funs (Expression.Primop p f args) = funs_in_all args
  funs (Expression.Try p part xs body ys handler) = funs part + funs body + funs handler
  funs (Expression.Do p first second) = funs first + funs second
  funs (Expression.Catch p part) = funs part

  pub funs_in_all : Expressions → ℕ
  funs_in_all no_expression = 0
  funs_in_all (and_expression e es) = funs e + funs_in_all es

  pub funs_in_clauses : Clauses → ℕ
  funs_in_clauses no_clause = 0
  funs_in_clauses (and_clause p ps guard body cs) = funs guard + funs body + funs_in_clauses cs

  -- each function is one, before those in its body
  pub funs_in_definitions : Definitions → ℕ
  funs_in_definitions no_definition = 0
  funs_in_definitions (and_definition p f q xs body ds) = 1 + funs body + funs_in_definitions ds

-- the functions of a `letrec` by their names, where n is the number of the first
abbrev pub numbered_functions : ℕ → List ℕ → Definitions → List (FunName × Known)
numbered_functions n captured no_definition = []
numbered_functions n captured (and_definition p f q xs body ds) = (f, record { number = n; captured = captured }) ∷ numbered_functions (n + 1 + funs body) captured ds

-- the scope where the functions of a `letrec` are known too
abbrev pub knowing : ℕ → List ℕ → Definitions → Scope → Scope
knowing n captured ds s = record { variables = s.variables; functions = numbered_functions n captured ds ++ s.functions }

-- the slots from k on, so many of them
abbrev pub slots_from : ℕ → ℕ → List ℕ
slots_from k zero = []
slots_from k (suc n) = k ∷ slots_from (suc k) n

-- the scope of the body of a `letrec`
abbrev pub letrec_scope : ℕ → Definitions → Scope → Scope
letrec_scope n ds s = knowing n (captured_by_group s ds) ds s

-- the scope of the functions of a `letrec`, before their parameters: each captures what the group does
abbrev pub group_scope : ℕ → Definitions → Scope → Scope
group_scope n ds s = knowing n (slots_from 0 (length (captured_by_group s ds))) ds (carried (captured_by_group s ds) s)
