-- The parts of a module to which the rules of good modules apply, each with the names in scope there. A function's name is in scope in the
-- functions that are defined with it and in the body of their `letrec`.
use Rattle.std.specs.Prelude.{List, [], ◌∷◌, ◌++◌, map}
use Rattle.core_ast.specs.Trees.{Expression, Expressions, no_expression, and_expression, Clauses, no_clause, and_clause, Definitions, no_definition, and_definition, Module}
use Rattle.core_ast.specs.Part.{Part}
use Rattle.core_ast.specs.Names.{Names, with_variables, with_functions, variables_of_all}

-- a part and the names in scope there
abbrev pub Scoped : Type 0
Scoped = Part × Names

abbrev pub this : Names → Expression → List Scoped
this s e = (Part.Expression e, s) ∷ []

-- the parts of an expression, itself among them
abbrev mutual
  pub parts : Names → Expression → List Scoped
  parts s (Expression.Int p n) = this s (Expression.Int p n)
  parts s (Expression.Atom p a) = this s (Expression.Atom p a)
  parts s (Expression.Nil p) = this s (Expression.Nil p)
  parts s (Expression.Variable p x) = this s (Expression.Variable p x)
  parts s (Expression.Name p f) = this s (Expression.Name p f)
  parts s (Expression.Tuple p es) = this s (Expression.Tuple p es) ++ parts_of_all s es
  parts s (Expression.Cons p es tail) = this s (Expression.Cons p es tail) ++ parts_of_all s es ++ parts s tail
  parts s (Expression.Values p es) = this s (Expression.Values p es) ++ parts_of_all s es
  parts s (Expression.Let p xs values body) = this s (Expression.Let p xs values body) ++ parts s values ++ parts (with_variables xs s) body
  parts s (Expression.Case p values cs) = this s (Expression.Case p values cs) ++ parts s values ++ parts_of_clauses s cs
  parts s (Expression.Lambda p q xs body) = this s (Expression.Lambda p q xs body) ++ parts (with_variables xs s) body
  parts s (Expression.Letrec p ds body) = this s (Expression.Letrec p ds body) ++ (Part.Group ds, s) ∷ parts_of_definitions (with_functions ds s) ds ++ parts (with_functions ds s) body
  parts s (Expression.Apply p f args) = this s (Expression.Apply p f args) ++ parts s f ++ parts_of_all s args
  parts s (Expression.Call p m f args) = this s (Expression.Call p m f args) ++ parts_of_all s args
  parts s (Expression.Primop p f args) = this s (Expression.Primop p f args) ++ parts_of_all s args
  parts s (Expression.Try p part xs body ys handler) = this s (Expression.Try p part xs body ys handler) ++ parts s part ++ parts (with_variables xs s) body ++ parts (with_variables ys s) handler
  parts s (Expression.Do p first second) = this s (Expression.Do p first second) ++ parts s first ++ parts s second
  parts s (Expression.Catch p part) = this s (Expression.Catch p part) ++ parts s part

  pub parts_of_all : Names → Expressions → List Scoped
  parts_of_all s no_expression = []
  parts_of_all s (and_expression e es) = parts s e ++ parts_of_all s es

  -- a clause's variables are in scope in its guard and in its body
  pub parts_of_clauses : Names → Clauses → List Scoped
  parts_of_clauses s no_clause = []
  parts_of_clauses s (and_clause p ps guard body cs) =
      (Part.Clause (record { patterns = ps; guard = guard; body = body; at = p }), s)
      ∷ parts (with_variables (variables_of_all ps) s) guard ++ parts (with_variables (variables_of_all ps) s) body ++ parts_of_clauses s cs

  pub parts_of_definitions : Names → Definitions → List Scoped
  parts_of_definitions s no_definition = []
  parts_of_definitions s (and_definition p f q xs body ds) =
      (Part.Definition (record { name = f; function = record { parameters = xs; body = body; at = q }; at = p }), s)
      ∷ parts (with_variables xs s) body ++ parts_of_definitions s ds

-- the names in scope in a module, outside its functions
abbrev pub names_of : Module → Names
names_of m = with_functions m.definitions (record { variables = []; functions = [] })

abbrev pub parts_of_module : Module → List Scoped
parts_of_module m =
    (Part.Module m, names_of m)
    ∷ map (λ e. (Part.Export e.0 e.1, names_of m)) m.exports ++ (Part.Group m.definitions, names_of m) ∷ parts_of_definitions (names_of m) m.definitions
