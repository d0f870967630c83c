-- The nodes of a function: its expressions, patterns and clauses, and the variables that `let` and `try` bind. Those of
-- the funs inside it are among them. The module and the name of a `call` or `primop`, the parameters of funs and the
-- variable of an alias are none.
use Rattle.std.specs.Prelude.{ℕ, ◌+◌, ◌*◌, length}
use Rattle.core_ast.specs.Trees.{Pattern, Patterns, no_pattern, and_pattern, Expression, Expressions, no_expression, and_expression, Clauses, no_clause, and_clause, Definitions, no_definition, and_definition, Function}

abbrev mutual
  pub pattern_nodes : Pattern → ℕ
  pattern_nodes (Pattern.Variable p x) = 1
  pattern_nodes (Pattern.Int p n) = 1
  pattern_nodes (Pattern.Atom p a) = 1
  pattern_nodes (Pattern.Nil p) = 1
  pattern_nodes (Pattern.Tuple p parts) = 1 + patterns_nodes parts
  pattern_nodes (Pattern.Cons p parts tail) = 1 + patterns_nodes parts + pattern_nodes tail
  pattern_nodes (Pattern.Alias p x part) = 1 + pattern_nodes part

  pub patterns_nodes : Patterns → ℕ
  patterns_nodes no_pattern = 0
  patterns_nodes (and_pattern p ps) = pattern_nodes p + patterns_nodes ps

abbrev mutual
  pub expression_nodes : Expression → ℕ
  expression_nodes (Expression.Int p n) = 1
  expression_nodes (Expression.Atom p a) = 1
  expression_nodes (Expression.Nil p) = 1
  expression_nodes (Expression.Variable p x) = 1
  expression_nodes (Expression.Name p f) = 1
  expression_nodes (Expression.Tuple p parts) = 1 + expressions_nodes parts
  expression_nodes (Expression.Cons p parts tail) = 1 + expressions_nodes parts + expression_nodes tail
  expression_nodes (Expression.Values p parts) = 1 + expressions_nodes parts
  expression_nodes (Expression.Let p xs values body) = 1 + length xs + expression_nodes values + expression_nodes body
  expression_nodes (Expression.Case p values cs) = 1 + expression_nodes values + clauses_nodes cs
  expression_nodes (Expression.Lambda p q xs body) = 1 + expression_nodes body
  expression_nodes (Expression.Letrec p ds body) = 1 + definitions_nodes ds + expression_nodes body
  expression_nodes (Expression.Apply p f args) = 1 + expression_nodes f + expressions_nodes args
  expression_nodes (Expression.Call p m f args) = 1 + expressions_nodes args
  expression_nodes (Expression.Primop p f args) = 1 + expressions_nodes args
  expression_nodes (Expression.Try p part xs body ys handler) = 1 + expression_nodes part + length xs + expression_nodes body + length ys + expression_nodes handler
  expression_nodes (Expression.Do p first second) = 1 + expression_nodes first + expression_nodes second
  expression_nodes (Expression.Catch p part) = 1 + expression_nodes part

  pub expressions_nodes : Expressions → ℕ
  expressions_nodes no_expression = 0
  expressions_nodes (and_expression e es) = expression_nodes e + expressions_nodes es

  -- a clause is a node
  pub clauses_nodes : Clauses → ℕ
  clauses_nodes no_clause = 0
  clauses_nodes (and_clause p ps guard body cs) = 1 + patterns_nodes ps + expression_nodes guard + expression_nodes body + clauses_nodes cs

  -- a function of a `letrec` is none, but its body's are
  pub definitions_nodes : Definitions → ℕ
  definitions_nodes no_definition = 0
  definitions_nodes (and_definition p f q xs body ds) = expression_nodes body + definitions_nodes ds

-- the nodes of a function: those of its body
abbrev pub nodes_of : Function → ℕ
nodes_of f = expression_nodes f.body

-- the words of the stack that one activation of a function claims
abbrev pub frame_of : (nodes parameters captured : ℕ) → ℕ
frame_of nodes parameters captured = 4 * (nodes + parameters + captured) + 16
