-- The walk that counts: values, parameters and arguments, functions, and nodes.
use Rattle.std.specs.Prelude.{ℕ, ◌-◌, ◌==◌, nat_lt, Bool, not, ◌||◌, List, [], ◌∷◌, length, Option, Some, None}
use Rattle.hipe_terms.specs.declared.place.Place.{Place}
use Rattle.hipe_base.specs.declared.limits.TheConstants.{ARITY_LIMIT, NODE_LIMIT}
use Rattle.core_ast.specs.declared.pattern.Var.{Var}
use Rattle.core_ast.specs.declared.tree.FunName.{FunName}
use Rattle.core_ast.specs.declared.rule.Rule.{Rule}
use Rattle.core_ast.specs.declared.rule.Rule.TheVariants.{Degree, ArityLimit, UnknownPrimop, SizeLimit}
use Rattle.core_ast.specs.Trees.{Expression, Expressions, no_expression, and_expression, Clauses, no_clause, and_clause, Definitions, no_definition, and_definition, Function, Module}
use Rattle.core_ast.specs.Nodes.{expression_nodes}
use Rattle.core_ast.specs.Places.{place_of}
use Rattle.core_ast.specs.Degrees.{count, count_patterns, first_degree, degree_of, fits}
use Rattle.core_ast.specs.Rules.{is_primop}
use Rattle.core_lint.specs.declared.tally.Tally.{Tally}
use Rattle.core_lint.specs.Noted.{noted_unless}

-- the rule is broken unless the test holds
abbrev pub tested : Bool → Rule → Place → Tally → Tally
tested holds r p t = record t { first = noted_unless holds r p t.first }

-- a part with this degree stands at a place that needs n
abbrev pub needed : Option ℕ → ℕ → Place → Tally → Tally
needed d n p t = tested (fits d n) Degree p t

-- so many parameters or arguments
abbrev pub limited : ℕ → Place → Tally → Tally
limited n p t = tested (not (nat_lt ARITY_LIMIT n)) ArityLimit p t

-- a function begins: it is the first beyond the limit where one was left
abbrev pub begun : Place → Tally → Tally
begun p t = record { first = noted_unless (not (t.left == 1)) SizeLimit p t.first; left = t.left - 1 }

-- the variables of the `catch` of a `try` at p
abbrev pub caught : Place → List Var → Tally → Tally
caught p [] t = tested Bool.false Degree p t
caught p (y ∷ ys) t = tested (length ys == 1 || length ys == 2) Degree y.at t

-- a body with this degree, where the bodies before it agree on the first degree
abbrev pub agreed : Option ℕ → Option ℕ → Place → Tally → Tally
agreed None d p t = t
agreed (Some n) d p t = needed d n p t

abbrev mutual
  pub tallied : Expression → Tally → Tally
  tallied (Expression.Int p n) t = t
  tallied (Expression.Atom p a) t = t
  tallied (Expression.Nil p) t = t
  tallied (Expression.Variable p x) t = t
  tallied (Expression.Name p f) t = limited f.arity p t
  tallied (Expression.Tuple p es) t = tallied_each es t
  tallied (Expression.Cons p es tail) t = needed (degree_of tail) 1 (place_of tail) (tallied tail (tallied_each es t))
  tallied (Expression.Values p es) t = tallied_each es t
  tallied (Expression.Let p xs values body) t = tallied body (needed (degree_of values) (length xs) (place_of values) (tallied values t))
  tallied (Expression.Case p values cs) t = tallied_clauses (degree_of values) (place_of values) None cs (tallied values t)
  tallied (Expression.Lambda p q xs body) t = needed (degree_of body) 1 (place_of body) (tallied body (limited (length xs) q (begun q t)))
  tallied (Expression.Letrec p ds body) t = tallied body (tallied_definitions ds t)
  tallied (Expression.Apply p f args) t = limited (count args) p (tallied_each args (needed (degree_of f) 1 (place_of f) (tallied f t)))
  tallied (Expression.Call p m f args) t = limited (count args) p (tallied_each args t)
  tallied (Expression.Primop p f args) t = tested (is_primop f (count args)) UnknownPrimop p (limited (count args) p (tallied_each args t))
  tallied (Expression.Try p part xs body ys handler) t =
      caught p ys
      (agreed (degree_of body) (degree_of handler) (place_of handler)
      (tallied handler (tallied body (needed (degree_of part) (length xs) (place_of part) (tallied part t)))))
  tallied (Expression.Do p first second) t = tallied second (tallied first t)
  tallied (Expression.Catch p part) t = needed (degree_of part) 1 (place_of part) (tallied part t)

  -- each needs one value
  pub tallied_each : Expressions → Tally → Tally
  tallied_each no_expression t = t
  tallied_each (and_expression e es) t = tallied_each es (needed (degree_of e) 1 (place_of e) (tallied e t))

  -- the clauses of a `case` whose argument has this degree and this place, where the bodies before them agree on a degree
  pub tallied_clauses : Option ℕ → Place → Option ℕ → Clauses → Tally → Tally
  tallied_clauses d q before no_clause t = t
  tallied_clauses d q before (and_clause p ps guard body cs) t =
      tallied_clauses d q (first_degree before (degree_of body)) cs
      (agreed before (degree_of body) (place_of body)
      (tallied body (needed (degree_of guard) 1 (place_of guard) (tallied guard (needed d (count_patterns ps) q t)))))

  pub tallied_definitions : Definitions → Tally → Tally
  tallied_definitions no_definition t = t
  tallied_definitions (and_definition p f q xs body ds) t =
      tallied_definitions ds
      (needed (degree_of body) 1 (place_of body)
      (tallied body (limited (length xs) q (begun q (tested (length xs == f.arity) Degree q (limited f.arity p t))))))

-- a function: its parameters, and its body, which needs one value
abbrev pub tallied_function : Function → Tally → Tally
tallied_function f t = needed (degree_of f.body) 1 (place_of f.body) (tallied f.body (limited (length f.parameters) f.at (begun f.at t)))

abbrev pub tallied_exports : List (FunName × Place) → Tally → Tally
tallied_exports [] t = t
tallied_exports (e ∷ es) t = tallied_exports es (limited e.0.arity e.1 t)

-- the functions of a module by their nodes
abbrev pub sized : Definitions → Tally → Tally
sized no_definition t = t
sized (and_definition p f q xs body ds) t = sized ds (tested (not (nat_lt NODE_LIMIT (expression_nodes body))) SizeLimit p t)

abbrev pub tallied_module : Module → Tally → Tally
tallied_module m t = sized m.definitions (tallied_definitions m.definitions (tallied_exports m.exports t))
