-- Well-formed trees, as the reader gives them: integers are in their range, and a list in the tail of a list is one list with it. Every call that
-- takes a module wants this of it.
use Rattle.std.specs.Prelude.{◌≡◌, ℕ, Bool, true, false, not, ◌&&◌, List, [], ◌∷◌}
use Rattle.hipe_terms.specs.declared.constant.Constant.{Constant}
use Rattle.hipe_terms.specs.Range.{is_in_range}
use Rattle.hipe_terms.specs.Constants.{form_of}
use Rattle.core_ast.specs.Trees.{Pattern, Patterns, no_pattern, and_pattern, Expression, Expressions, no_expression, and_expression, Clauses, no_clause, and_clause, Definitions, no_definition, and_definition, Module}

abbrev pub is_list_pattern : Pattern → Bool
is_list_pattern (Pattern.Cons p parts tail) = true
is_list_pattern _ = false

abbrev mutual
  pub well_formed_pattern : Pattern → Bool
  well_formed_pattern (Pattern.Variable p x) = true
  well_formed_pattern (Pattern.Int p n) = is_in_range n
  well_formed_pattern (Pattern.Atom p a) = true
  well_formed_pattern (Pattern.Nil p) = true
  well_formed_pattern (Pattern.Tuple p parts) = well_formed_patterns parts
  well_formed_pattern (Pattern.Cons p parts tail) = well_formed_patterns parts && well_formed_pattern tail && not (is_list_pattern tail)
  well_formed_pattern (Pattern.Alias p x part) = well_formed_pattern part

  pub well_formed_patterns : Patterns → Bool
  well_formed_patterns no_pattern = true
  well_formed_patterns (and_pattern p ps) = well_formed_pattern p && well_formed_patterns ps

abbrev pub is_list : Expression → Bool
is_list (Expression.Cons p es tail) = true
is_list _ = false

abbrev mutual
  pub well_formed : Expression → Bool
  well_formed (Expression.Int p n) = is_in_range n
  well_formed (Expression.Atom p a) = true
  well_formed (Expression.Nil p) = true
  well_formed (Expression.Variable p x) = true
  well_formed (Expression.Name p f) = true
  well_formed (Expression.Tuple p es) = well_formed_expressions es
  well_formed (Expression.Cons p es tail) = well_formed_expressions es && well_formed tail && not (is_list tail)
  well_formed (Expression.Values p es) = well_formed_expressions es
  well_formed (Expression.Let p xs values body) = well_formed values && well_formed body
  well_formed (Expression.Case p values cs) = well_formed values && well_formed_clauses cs
  well_formed (Expression.Lambda p q xs body) = well_formed body
  well_formed (Expression.Letrec p ds body) = well_formed_definitions ds && well_formed body
  well_formed (Expression.Apply p f args) = well_formed f && well_formed_expressions args
  well_formed (Expression.Call p m f args) = well_formed_expressions args
  well_formed (Expression.Primop p f args) = well_formed_expressions args
  well_formed (Expression.Try p part xs body ys handler) = well_formed part && well_formed body && well_formed handler
  well_formed (Expression.Do p first second) = well_formed first && well_formed second
  well_formed (Expression.Catch p part) = well_formed part

  pub well_formed_expressions : Expressions → Bool
  well_formed_expressions no_expression = true
  well_formed_expressions (and_expression e es) = well_formed e && well_formed_expressions es

  pub well_formed_clauses : Clauses → Bool
  well_formed_clauses no_clause = true
  well_formed_clauses (and_clause p ps guard body cs) = well_formed_patterns ps && well_formed guard && well_formed body && well_formed_clauses cs

  pub well_formed_definitions : Definitions → Bool
  well_formed_definitions no_definition = true
  well_formed_definitions (and_definition p f q xs body ds) = well_formed body && well_formed_definitions ds

-- the constants of attributes too are as every call wants them
abbrev pub well_formed_attributes : List (List ℕ × Constant) → Bool
well_formed_attributes [] = true
well_formed_attributes (a ∷ attributes) = (form_of a.1).good && well_formed_attributes attributes

abbrev pub well_formed_module : Module → Bool
well_formed_module m = well_formed_definitions m.definitions && well_formed_attributes m.attributes

abbrev pub IsWellFormed : Module → Type 0
IsWellFormed m = well_formed_module m ≡ true
