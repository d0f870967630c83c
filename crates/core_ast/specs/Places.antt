-- Where the parts of a module stand.
use Rattle.std.specs.Prelude.{List, [], ◌∷◌, ◌++◌}
use Rattle.hipe_terms.specs.declared.place.Place.{Place}
use Rattle.core_ast.specs.Trees.{Expression, Expressions, no_expression, and_expression, Clauses, no_clause, and_clause, Definitions, no_definition, and_definition}

-- where an expression begins
abbrev pub place_of : Expression → Place
place_of (Expression.Int p n) = p
place_of (Expression.Atom p a) = p
place_of (Expression.Nil p) = p
place_of (Expression.Variable p x) = p
place_of (Expression.Name p f) = p
place_of (Expression.Tuple p es) = p
place_of (Expression.Cons p es tail) = p
place_of (Expression.Values p es) = p
place_of (Expression.Let p xs values body) = p
place_of (Expression.Case p values cs) = p
place_of (Expression.Lambda p q xs body) = p
place_of (Expression.Letrec p ds body) = p
place_of (Expression.Apply p f args) = p
place_of (Expression.Call p m f args) = p
place_of (Expression.Primop p f args) = p
place_of (Expression.Try p part xs body ys handler) = p
place_of (Expression.Do p first second) = p
place_of (Expression.Catch p part) = p

-- the places of the `fun` of every function in an expression, in the order of the text
abbrev mutual
  pub funs : Expression → List Place
  funs (Expression.Int p n) = []
  funs (Expression.Atom p a) = []
  funs (Expression.Nil p) = []
  funs (Expression.Variable p x) = []
  funs (Expression.Name p f) = []
  funs (Expression.Tuple p es) = funs_of_all es
  funs (Expression.Cons p es tail) = funs_of_all es ++ funs tail
  funs (Expression.Values p es) = funs_of_all es
  funs (Expression.Let p xs values body) = funs values ++ funs body
  funs (Expression.Case p values cs) = funs values ++ funs_of_clauses cs
  funs (Expression.Lambda p q xs body) = q ∷ funs body
  funs (Expression.Letrec p ds body) = funs_of_definitions ds ++ funs body
  funs (Expression.Apply p f args) = funs f ++ funs_of_all args
  funs (Expression.Call p m f args) = funs_of_all args
  funs (Expression.Primop p f args) = funs_of_all args
  funs (Expression.Try p part xs body ys handler) = funs part ++ funs body ++ funs handler
  funs (Expression.Do p first second) = funs first ++ funs second
  funs (Expression.Catch p part) = funs part

  pub funs_of_all : Expressions → List Place
  funs_of_all no_expression = []
  funs_of_all (and_expression e es) = funs e ++ funs_of_all es

  pub funs_of_clauses : Clauses → List Place
  funs_of_clauses no_clause = []
  funs_of_clauses (and_clause p ps guard body cs) = funs guard ++ funs body ++ funs_of_clauses cs

  pub funs_of_definitions : Definitions → List Place
  funs_of_definitions no_definition = []
  funs_of_definitions (and_definition p f q xs body ds) = q ∷ funs body ++ funs_of_definitions ds
