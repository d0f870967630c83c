-- Degrees: how many values an expression has, and how many it needs where it stands.
use Rattle.std.specs.Prelude.{ℕ, suc, ◌==◌, Bool, true, false, ◌&&◌, ◌||◌, if◌then◌else◌, List, [], ◌∷◌, ◌++◌, length, Option, Some, None, bytes_eq, codes}
use Rattle.std.specs.List.{flat_map}
use Rattle.hipe_terms.specs.declared.place.Place.{Place}
use Rattle.hipe_terms.specs.declared.primop.Primop.{Primop}
use Rattle.hipe_terms.specs.Primops.{only_raises, primop_named}
use Rattle.core_ast.specs.Trees.{Patterns, no_pattern, and_pattern, Expression, Expressions, no_expression, and_expression, Clauses, no_clause, and_clause}
use Rattle.core_ast.specs.Places.{place_of}

abbrev pub count : Expressions → ℕ
count no_expression = 0
count (and_expression e es) = suc (count es)

abbrev pub count_patterns : Patterns → ℕ
count_patterns no_pattern = 0
count_patterns (and_pattern p ps) = suc (count_patterns ps)

-- the calls that only raise: `error/1`, `throw/1` and `exit/1` of `erlang`
abbrev pub is_raising_call : (of name : List ℕ) (arguments : ℕ) → Bool
is_raising_call m f n = bytes_eq m (codes "erlang") && (bytes_eq f (codes "error") || bytes_eq f (codes "throw") || bytes_eq f (codes "exit")) && n == 1

abbrev pub raises_only : Option Primop → Bool
raises_only None = false
raises_only (Some p) = only_raises p

-- the primitive operations that only raise, by their names alone
abbrev pub is_raising_primop : List ℕ → Bool
is_raising_primop f = raises_only (primop_named f)

-- the first of two degrees that isn't every degree
abbrev pub first_degree : Option ℕ → Option ℕ → Option ℕ
first_degree (Some d) other = Some d
first_degree None other = other

-- The degree of an expression, or None where it fits every degree, since it never ends with values.
abbrev mutual
  pub degree_of : Expression → Option ℕ
  degree_of (Expression.Int p n) = Some 1
  degree_of (Expression.Atom p a) = Some 1
  degree_of (Expression.Nil p) = Some 1
  degree_of (Expression.Variable p x) = Some 1
  degree_of (Expression.Name p f) = Some 1
  degree_of (Expression.Tuple p es) = Some 1
  degree_of (Expression.Cons p es tail) = Some 1
  degree_of (Expression.Values p es) = Some (count es)
  degree_of (Expression.Let p xs values body) = degree_of body
  degree_of (Expression.Case p values cs) = degree_of_bodies cs
  degree_of (Expression.Lambda p q xs body) = Some 1
  degree_of (Expression.Letrec p ds body) = degree_of body
  degree_of (Expression.Apply p f args) = Some 1
  degree_of (Expression.Call p m f args) = if is_raising_call m f (count args) then None else Some 1
  degree_of (Expression.Primop p f args) = if is_raising_primop f then None else Some 1
  degree_of (Expression.Try p part xs body ys handler) = first_degree (degree_of body) (degree_of handler)
  degree_of (Expression.Do p first second) = degree_of second
  degree_of (Expression.Catch p part) = Some 1

  -- that of the first body that doesn't fit every degree
  pub degree_of_bodies : Clauses → Option ℕ
  degree_of_bodies no_clause = None
  degree_of_bodies (and_clause p ps guard body cs) = first_degree (degree_of body) (degree_of_bodies cs)

-- an expression, and the degree that the place where it stands needs
abbrev pub Need : Type 0
Need = Expression × ℕ

-- each of these needs one value
abbrev pub one_each : Expressions → List Need
one_each no_expression = []
one_each (and_expression e es) = (e, 1) ∷ one_each es

-- a guard needs one value, and the argument of a `case` as many as each clause has patterns
abbrev pub needs_of_clauses : (values : Expression) → Clauses → List Need
needs_of_clauses values no_clause = []
needs_of_clauses values (and_clause p ps guard body cs) = (values, count_patterns ps) ∷ (guard, 1) ∷ needs_of_clauses values cs

-- a body that agrees with the first one that doesn't fit every degree, if there is one
abbrev pub agreeing : Expression → Option ℕ → List Need
agreeing body None = []
agreeing body (Some d) = (body, d) ∷ []

abbrev pub agreeing_bodies : Clauses → Option ℕ → List Need
agreeing_bodies no_clause d = []
agreeing_bodies (and_clause p ps guard body cs) d = agreeing body d ++ agreeing_bodies cs d

-- what the parts of an expression need
abbrev pub needs_in : Expression → List Need
needs_in (Expression.Int p n) = []
needs_in (Expression.Atom p a) = []
needs_in (Expression.Nil p) = []
needs_in (Expression.Variable p x) = []
needs_in (Expression.Name p f) = []
needs_in (Expression.Tuple p es) = one_each es
needs_in (Expression.Cons p es tail) = one_each es ++ (tail, 1) ∷ []
needs_in (Expression.Values p es) = one_each es
needs_in (Expression.Let p xs values body) = (values, length xs) ∷ []
needs_in (Expression.Case p values cs) = needs_of_clauses values cs ++ agreeing_bodies cs (degree_of_bodies cs)
needs_in (Expression.Lambda p q xs body) = (body, 1) ∷ []
needs_in (Expression.Letrec p ds body) = []
needs_in (Expression.Apply p f args) = (f, 1) ∷ one_each args
needs_in (Expression.Call p m f args) = one_each args
needs_in (Expression.Primop p f args) = one_each args
needs_in (Expression.Try p part xs body ys handler) =
    (part, length xs) ∷ agreeing body (first_degree (degree_of body) (degree_of handler)) ++ agreeing handler (first_degree (degree_of body) (degree_of handler))
needs_in (Expression.Do p first second) = []
needs_in (Expression.Catch p part) = (part, 1) ∷ []

abbrev pub fits : Option ℕ → ℕ → Bool
fits None n = true
fits (Some d) n = d == n

-- the place of an expression that doesn't fit
abbrev pub misfit : Need → List Place
misfit x = if fits (degree_of x.0) x.1 then [] else (place_of x.0 ∷ [])

abbrev pub misfits : List Need → List Place
misfits needs = flat_map misfit needs
