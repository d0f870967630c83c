-- The walk that keeps the names in scope: what is known before a part and behind it.
use Rattle.std.specs.Prelude.{ℕ, List, [], ◌∷◌, length, drop}
use Rattle.std.specs.List.{list_any}
use Rattle.hipe_terms.specs.declared.place.Place.{Place}
use Rattle.core_ast.specs.declared.tree.FunName.{FunName}
use Rattle.core_ast.specs.declared.rule.Rule.{Rule}
use Rattle.core_ast.specs.declared.rule.Rule.TheVariants.{DuplicateFunction, ExportUndefined, UnboundFunction, UnboundVariable, DuplicateVariable}
use Rattle.core_ast.specs.Trees.{Expression, Expressions, no_expression, and_expression, Clauses, no_clause, and_clause, Definitions, no_definition, and_definition, Function, Module}
use Rattle.core_ast.specs.Names.{variables_of_all}
use Rattle.core_lint.specs.declared.walk.Walk.{Walk}
use Rattle.core_lint.specs.Keys.{same_key}
use Rattle.core_lint.specs.Noted.{noted_unless}
use Rattle.core_lint.specs.Entries.{Entry, variable_key, function_key, variable_entries, function_entries, entered, repeats}

-- a variable is used
abbrev pub used_variable : List ℕ → Place → Walk → Walk
used_variable x p w = record w { first = noted_unless (list_any (λ k. same_key (variable_key x) k) w.variables) UnboundVariable p w.first }

-- a function is named, where the rule is broken unless it is in scope
abbrev pub used_function : Rule → FunName → Place → Walk → Walk
used_function r f p w = record w { first = noted_unless (list_any (λ k. same_key (function_key f) k) w.functions) r p w.first }

-- names are bound together
abbrev pub bound : Rule → List Entry → Walk → Walk
bound r es w = record w { first = repeats r [] es w.first }

-- these variables are in scope from here on
abbrev pub entered_variables : List Entry → Walk → Walk
entered_variables es w = record w { variables = entered es w.variables }

-- as many variables as these are in scope no longer
abbrev pub left_variables : List Entry → Walk → Walk
left_variables es w = record w { variables = drop (length es) w.variables }

-- a walk where these variables are in scope
abbrev pub within : List Entry → (Walk → Walk) → Walk → Walk
within es inside w = left_variables es (inside (entered_variables es w))

-- these functions are in scope from here on
abbrev pub entered_functions : List Entry → Walk → Walk
entered_functions es w = record w { functions = entered es w.functions }

-- as many functions as these are in scope no longer
abbrev pub left_functions : List Entry → Walk → Walk
left_functions es w = record w { functions = drop (length es) w.functions }

-- a walk where these functions are in scope
abbrev pub within_functions : List Entry → (Walk → Walk) → Walk → Walk
within_functions es inside w = left_functions es (inside (entered_functions es w))

-- the functions of a `letrec`, in scope there
abbrev pub grouped : Definitions → (Walk → Walk) → Walk → Walk
grouped ds inside w = within_functions (function_entries ds) inside (bound DuplicateFunction (function_entries ds) w)

abbrev mutual
  pub visited : Expression → Walk → Walk
  visited (Expression.Int p n) w = w
  visited (Expression.Atom p a) w = w
  visited (Expression.Nil p) w = w
  visited (Expression.Variable p x) w = used_variable x p w
  visited (Expression.Name p f) w = used_function UnboundFunction f p w
  visited (Expression.Tuple p es) w = visited_all es w
  visited (Expression.Cons p es tail) w = visited tail (visited_all es w)
  visited (Expression.Values p es) w = visited_all es w
  visited (Expression.Let p xs values body) w = within (variable_entries xs) (visited body) (visited values (bound DuplicateVariable (variable_entries xs) w))
  visited (Expression.Case p values cs) w = visited_clauses cs (visited values w)
  visited (Expression.Lambda p q xs body) w = within (variable_entries xs) (visited body) (bound DuplicateVariable (variable_entries xs) w)
  visited (Expression.Letrec p ds body) w = grouped ds (λ v. visited body (visited_definitions ds v)) w
  visited (Expression.Apply p f args) w = visited_all args (visited f w)
  visited (Expression.Call p m f args) w = visited_all args w
  visited (Expression.Primop p f args) w = visited_all args w
  visited (Expression.Try p part xs body ys handler) w =
      within (variable_entries ys) (visited handler)
      (within (variable_entries xs) (visited body)
      (visited part (bound DuplicateVariable (variable_entries ys) (bound DuplicateVariable (variable_entries xs) w))))
  visited (Expression.Do p first second) w = visited second (visited first w)
  visited (Expression.Catch p part) w = visited part w

  pub visited_all : Expressions → Walk → Walk
  visited_all no_expression w = w
  visited_all (and_expression e es) w = visited_all es (visited e w)

  pub visited_clauses : Clauses → Walk → Walk
  visited_clauses no_clause w = w
  visited_clauses (and_clause p ps guard body cs) w =
      visited_clauses cs
      (within (variable_entries (variables_of_all ps)) (λ v. visited body (visited guard v))
      (bound DuplicateVariable (variable_entries (variables_of_all ps)) w))

  pub visited_definitions : Definitions → Walk → Walk
  visited_definitions no_definition w = w
  visited_definitions (and_definition p f q xs body ds) w =
      visited_definitions ds (within (variable_entries xs) (visited body) (bound DuplicateVariable (variable_entries xs) w))

-- a function: its parameters are bound together, and in scope in its body
abbrev pub visited_function : Function → Walk → Walk
visited_function f w = within (variable_entries f.parameters) (visited f.body) (bound DuplicateVariable (variable_entries f.parameters) w)

abbrev pub visited_exports : List (FunName × Place) → Walk → Walk
visited_exports [] w = w
visited_exports (e ∷ es) w = visited_exports es (used_function ExportUndefined e.0 e.1 w)

-- the functions of a module, where their names are in scope
abbrev pub visited_module : Module → Walk → Walk
visited_module m w =
    within_functions (function_entries m.definitions)
    (λ v. visited_definitions m.definitions (bound DuplicateFunction (function_entries m.definitions) (visited_exports m.exports v))) w
