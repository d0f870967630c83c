-- Trees that are equal but for places.
use Rattle.std.specs.Prelude.{◌≡◌, List, map}
use Rattle.hipe_terms.specs.declared.place.Place.{Place}
use Rattle.core_ast.specs.declared.pattern.Var.{Var}
use Rattle.core_ast.specs.declared.tree.FunName.{FunName}
use Rattle.core_ast.specs.declared.tree.Module as RustModule
use Rattle.core_ast.specs.Trees.{Pattern, Patterns, no_pattern, and_pattern, Expression, Expressions, no_expression, and_expression, Clauses, no_clause, and_clause, Definitions, no_definition, and_definition, Module, module_of}

-- the place that stands for every place
abbrev pub start : Place
start = record { line = 1; col = 1 }

abbrev pub placeless_variable : Var → Var
placeless_variable x = record { name = x.name; at = start }

abbrev pub placeless_variables : List Var → List Var
placeless_variables xs = map placeless_variable xs

-- a pattern with every place put at the start
abbrev mutual
  pub placeless_pattern : Pattern → Pattern
  placeless_pattern (Pattern.Variable p x) = Pattern.Variable start x
  placeless_pattern (Pattern.Int p n) = Pattern.Int start n
  placeless_pattern (Pattern.Atom p a) = Pattern.Atom start a
  placeless_pattern (Pattern.Nil p) = Pattern.Nil start
  placeless_pattern (Pattern.Tuple p parts) = Pattern.Tuple start (placeless_patterns parts)
  placeless_pattern (Pattern.Cons p parts tail) = Pattern.Cons start (placeless_patterns parts) (placeless_pattern tail)
  placeless_pattern (Pattern.Alias p x part) = Pattern.Alias start (placeless_variable x) (placeless_pattern part)

  pub placeless_patterns : Patterns → Patterns
  placeless_patterns no_pattern = no_pattern
  placeless_patterns (and_pattern p ps) = and_pattern (placeless_pattern p) (placeless_patterns ps)

-- an expression with every place put at the start
abbrev mutual
  pub placeless : Expression → Expression
  placeless (Expression.Int p n) = Expression.Int start n
  placeless (Expression.Atom p a) = Expression.Atom start a
  placeless (Expression.Nil p) = Expression.Nil start
  placeless (Expression.Variable p x) = Expression.Variable start x
  placeless (Expression.Name p f) = Expression.Name start f
  placeless (Expression.Tuple p parts) = Expression.Tuple start (placeless_expressions parts)
  placeless (Expression.Cons p parts tail) = Expression.Cons start (placeless_expressions parts) (placeless tail)
  placeless (Expression.Values p parts) = Expression.Values start (placeless_expressions parts)
  placeless (Expression.Let p xs values body) = Expression.Let start (placeless_variables xs) (placeless values) (placeless body)
  placeless (Expression.Case p values cs) = Expression.Case start (placeless values) (placeless_clauses cs)
  placeless (Expression.Lambda p q xs body) = Expression.Lambda start start (placeless_variables xs) (placeless body)
  placeless (Expression.Letrec p ds body) = Expression.Letrec start (placeless_definitions ds) (placeless body)
  placeless (Expression.Apply p f args) = Expression.Apply start (placeless f) (placeless_expressions args)
  placeless (Expression.Call p m f args) = Expression.Call start m f (placeless_expressions args)
  placeless (Expression.Primop p f args) = Expression.Primop start f (placeless_expressions args)
  placeless (Expression.Try p part xs body ys handler) = Expression.Try start (placeless part) (placeless_variables xs) (placeless body) (placeless_variables ys) (placeless handler)
  placeless (Expression.Do p first second) = Expression.Do start (placeless first) (placeless second)
  placeless (Expression.Catch p part) = Expression.Catch start (placeless part)

  pub placeless_expressions : Expressions → Expressions
  placeless_expressions no_expression = no_expression
  placeless_expressions (and_expression e es) = and_expression (placeless e) (placeless_expressions es)

  pub placeless_clauses : Clauses → Clauses
  placeless_clauses no_clause = no_clause
  placeless_clauses (and_clause p ps guard body cs) = and_clause start (placeless_patterns ps) (placeless guard) (placeless body) (placeless_clauses cs)

  pub placeless_definitions : Definitions → Definitions
  placeless_definitions no_definition = no_definition
  placeless_definitions (and_definition p f q xs body ds) = and_definition start f start (placeless_variables xs) (placeless body) (placeless_definitions ds)

abbrev pub placeless_export : FunName × Place → FunName × Place
placeless_export e = (e.0, start)

-- a module with every place put at the start
abbrev pub placeless_module : Module → Module
placeless_module m = record { name = m.name; exports = map placeless_export m.exports; attributes = m.attributes; definitions = placeless_definitions m.definitions }

-- equal but for places
abbrev pub SameTree : (a b : RustModule.Module) → Type 0
SameTree a b = placeless_module (module_of a) ≡ placeless_module (module_of b)
