-- The nodes of the parts of an expression.
use Rattle.std.proofs.Common.{ℕ, zero, suc, ◌+◌, ◌≤◌, List, [], ◌∷◌, ◌++◌, Contains, arith, subst}
use Rattle.core_ast.specs.Trees.{Expression, Expressions, no_expression, and_expression, Clauses, no_clause, and_clause, Definitions, no_definition, and_definition}
use Rattle.core_ast.specs.Nodes.{expression_nodes, expressions_nodes, clauses_nodes, definitions_nodes}
use Rattle.core_ast.specs.Names.{Names, with_variables, with_functions, variables_of_all}
use Rattle.core_ast.specs.Part.{Part}
use Rattle.core_ast.specs.Parts.{Scoped, parts, parts_of_all, parts_of_clauses, parts_of_definitions}
use Rattle.core_ast.specs.GoodLaws.{PartsHaveNoMoreNodes}

-- a part that is an expression has at most n nodes
abbrev Small : ℕ → Part → Type 0
Small n (Part.Module m) = Unit {0}
Small n (Part.Export f p) = Unit {0}
Small n (Part.Group ds) = Unit {0}
Small n (Part.Definition d) = Unit {0}
Small n (Part.Clause c) = Unit {0}
Small n (Part.Expression e) = expression_nodes e ≤ n

abbrev AllSmall : ℕ → List Scoped → Type 0
AllSmall n [] = Unit {0}
AllSmall n (x ∷ xs) = Small n x.0 × AllSmall n xs

both : (n : ℕ) (xs ys : List Scoped) → AllSmall n xs → AllSmall n ys → AllSmall n (xs ++ ys)
both n [] ys h k = k
both n (x ∷ xs) ys h k = (h.0, both n xs ys h.1 k)

small_more : (m n : ℕ) (p : Part) → m ≤ n → Small m p → Small n p
small_more m n (Part.Module x) l h = tt
small_more m n (Part.Export f p) l h = tt
small_more m n (Part.Group ds) l h = tt
small_more m n (Part.Definition d) l h = tt
small_more m n (Part.Clause c) l h = tt
small_more m n (Part.Expression e) l h = omega (arith, l, h)

more : (m n : ℕ) (xs : List Scoped) → m ≤ n → AllSmall m xs → AllSmall n xs
more m n [] l h = tt
more m n (x ∷ xs) l h = (small_more m n x.0 l h.0, more m n xs l h.1)

-- parts of two parts of one expression
two : (m k n : ℕ) (xs ys : List Scoped) → m ≤ n → k ≤ n → AllSmall m xs → AllSmall k ys → AllSmall n (xs ++ ys)
two m k n xs ys l j h i = both n xs ys (more m n xs l h) (more k n ys j i)

mutual
  small : (s : Names) (e : Expression) → AllSmall (expression_nodes e) (parts s e)
  small s (Expression.Int p n) = (omega arith, tt)
  small s (Expression.Atom p a) = (omega arith, tt)
  small s (Expression.Nil p) = (omega arith, tt)
  small s (Expression.Variable p x) = (omega arith, tt)
  small s (Expression.Name p f) = (omega arith, tt)
  small s (Expression.Tuple p es) = (omega arith, more _ _ _ (omega arith) (small_all s es))
  small s (Expression.Cons p es tail) = (omega arith, two _ _ _ _ _ (omega arith) (omega arith) (small_all s es) (small s tail))
  small s (Expression.Values p es) = (omega arith, more _ _ _ (omega arith) (small_all s es))
  small s (Expression.Let p xs values body) = (omega arith, two _ _ _ _ _ (omega arith) (omega arith) (small s values) (small (with_variables xs s) body))
  small s (Expression.Case p values cs) = (omega arith, two _ _ _ _ _ (omega arith) (omega arith) (small s values) (small_clauses s cs))
  small s (Expression.Lambda p q xs body) = (omega arith, more _ _ _ (omega arith) (small (with_variables xs s) body))
  small s (Expression.Letrec p ds body) = (omega arith, (tt, two _ _ _ _ _ (omega arith) (omega arith) (small_definitions (with_functions ds s) ds) (small (with_functions ds s) body)))
  small s (Expression.Apply p f args) = (omega arith, two _ _ _ _ _ (omega arith) (omega arith) (small s f) (small_all s args))
  small s (Expression.Call p m f args) = (omega arith, more _ _ _ (omega arith) (small_all s args))
  small s (Expression.Primop p f args) = (omega arith, more _ _ _ (omega arith) (small_all s args))
  small s (Expression.Try p part xs body ys handler) =
      (omega arith, two (expression_nodes part + expression_nodes body) _ _ _ _ (omega arith) (omega arith) (two _ _ _ _ _ (omega arith) (omega arith) (small s part) (small (with_variables xs s) body)) (small (with_variables ys s) handler))
  small s (Expression.Do p first second) = (omega arith, two _ _ _ _ _ (omega arith) (omega arith) (small s first) (small s second))
  small s (Expression.Catch p part) = (omega arith, more _ _ _ (omega arith) (small s part))

  small_all : (s : Names) (es : Expressions) → AllSmall (expressions_nodes es) (parts_of_all s es)
  small_all s no_expression = tt
  small_all s (and_expression e es) = two _ _ _ _ _ (omega arith) (omega arith) (small s e) (small_all s es)

  small_clauses : (s : Names) (cs : Clauses) → AllSmall (clauses_nodes cs) (parts_of_clauses s cs)
  small_clauses s no_clause = tt
  small_clauses s (and_clause p ps guard body cs) = (
    tt,
    two (expression_nodes guard + expression_nodes body) _ _ _ _ (omega arith) (omega arith)
        (two _ _ _ _ _ (omega arith) (omega arith) (small (with_variables (variables_of_all ps) s) guard) (small (with_variables (variables_of_all ps) s) body)) (small_clauses s cs),
  )

  small_definitions : (s : Names) (ds : Definitions) → AllSmall (definitions_nodes ds) (parts_of_definitions s ds)
  small_definitions s no_definition = tt
  small_definitions s (and_definition p f q xs body ds) = (tt, two _ _ _ _ _ (omega arith) (omega arith) (small (with_variables xs s) body) (small_definitions s ds))

small_each : (n : ℕ) (xs : List Scoped) (x : Scoped) → AllSmall n xs → Contains xs x → Small n x.0
small_each n [] x h c = absurd (omega (arith, c.1))
small_each n (y ∷ ys) x h (zero, l, e) = subst (λ z. Small n z.0) e h.0
small_each n (y ∷ ys) x h (suc k, l, e) = small_each n ys x h.1 (k, omega (arith, l), e)

pub parts_smaller : PartsHaveNoMoreNodes
parts_smaller s t e part c = small_each (expression_nodes e) (parts s e) (Part.Expression part, t) (small s e) c
