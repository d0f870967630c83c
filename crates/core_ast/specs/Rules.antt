-- The nine rules of good modules. Each is a condition on a part and the names in scope there, and gives the places at which the part breaks it.
use Rattle.std.specs.Prelude.{ℕ, ◌==◌, nat_lt, Bool, false, not, ◌||◌, if◌then◌else◌, Option, Some, None, List, [], ◌∷◌, ◌++◌, map, length, take, drop, bytes_eq}
use Rattle.std.specs.List.{list_any}
use Rattle.hipe_terms.specs.declared.place.Place.{Place}
use Rattle.hipe_terms.specs.declared.primop.Primop.{Primop}
use Rattle.hipe_terms.specs.Primops.{primop_arity, primop_named}
use Rattle.hipe_base.specs.declared.limits.TheConstants.{ARITY_LIMIT, NODE_LIMIT, FUNCTION_LIMIT}
use Rattle.core_ast.specs.declared.pattern.Var.{Var}
use Rattle.core_ast.specs.declared.rule.Rule.{Rule}
use Rattle.core_ast.specs.declared.rule.Rule.TheVariants as Rules
use Rattle.core_ast.specs.Trees.{Expression, Definitions, no_definition, and_definition}
use Rattle.core_ast.specs.Nodes.{expression_nodes}
use Rattle.core_ast.specs.Names.{Names, is_named, has_variable, has_function, defined, variables_of_all}
use Rattle.core_ast.specs.Places.{funs_of_definitions}
use Rattle.core_ast.specs.Degrees.{count, needs_in, misfits}
use Rattle.core_ast.specs.Part.{Part}
use Rattle.core_ast.specs.Parts.{Scoped}

-- this place, unless the test holds
abbrev pub unless : Bool → Place → List Place
unless holds p = if holds then [] else (p ∷ [])

-- the places of those that are the same as an earlier one, where these stood before
abbrev pub repeated : {N : Type 0} → (N → N → Bool) → List N → List (N × Place) → List Place
repeated same seen [] = []
repeated same seen (x ∷ xs) = unless (not (list_any (same x.0) seen)) x.1 ++ repeated same (x.0 ∷ seen) xs

abbrev pub repeated_variables : List Var → List Place
repeated_variables xs = repeated bytes_eq [] (map (λ x. (x.name, x.at)) xs)

abbrev pub repeated_functions : Definitions → List Place
repeated_functions ds = repeated is_named [] (defined ds)

-- two functions of one name and arity, at the second name
abbrev pub duplicate_function : Part → List Place
duplicate_function (Part.Group ds) = repeated_functions ds
duplicate_function _ = []

-- a function that other modules can call and that isn't defined
abbrev pub export_undefined : Part → Names → List Place
export_undefined (Part.Export f p) s = unless (has_function f s) p
export_undefined _ s = []

-- a function's name that is in no scope
abbrev pub unbound_function : Part → Names → List Place
unbound_function (Part.Expression (Expression.Name p f)) s = unless (has_function f s) p
unbound_function _ s = []

-- a variable that is in no scope
abbrev pub unbound_variable : Part → Names → List Place
unbound_variable (Part.Expression (Expression.Variable p x)) s = unless (has_variable x s) p
unbound_variable _ s = []

-- A variable that is bound twice, at the second: in the parameters of a fun, by one `let`, by the `of` or by the `catch` of a `try`, or by the
-- patterns of one clause.
abbrev pub duplicate_variable : Part → List Place
duplicate_variable (Part.Definition d) = repeated_variables d.function.parameters
duplicate_variable (Part.Clause c) = repeated_variables (variables_of_all c.patterns)
duplicate_variable (Part.Expression (Expression.Let p xs values body)) = repeated_variables xs
duplicate_variable (Part.Expression (Expression.Lambda p q xs body)) = repeated_variables xs
duplicate_variable (Part.Expression (Expression.Try p part xs body ys handler)) = repeated_variables xs ++ repeated_variables ys
duplicate_variable _ = []

-- the `catch` of a `try` binds two variables or three; else at the first of them, or at the `try` where there is none
abbrev pub miscounted_causes : Place → List Var → List Place
miscounted_causes p [] = p ∷ []
miscounted_causes p (y ∷ ys) = unless (length ys == 1 || length ys == 2) y.at

-- A part whose degree doesn't fit the place where it stands; and a function that has another number of parameters than its name says, at its
-- `fun`.
abbrev pub degree : Part → List Place
degree (Part.Definition d) = misfits ((d.function.body, 1) ∷ []) ++ unless (length d.function.parameters == d.name.arity) d.function.at
degree (Part.Expression (Expression.Try p part xs body ys handler)) = misfits (needs_in (Expression.Try p part xs body ys handler)) ++ miscounted_causes p ys
degree (Part.Expression e) = misfits (needs_in e)
degree _ = []

-- more than the limit
abbrev pub beyond_arity : ℕ → Place → List Place
beyond_arity n p = unless (not (nat_lt ARITY_LIMIT n)) p

-- a name, a fun, an `apply`, a `call` or a `primop` with more than `ARITY_LIMIT` parameters or arguments
abbrev pub arity_limit : Part → List Place
arity_limit (Part.Export f p) = beyond_arity f.arity p
arity_limit (Part.Definition d) = beyond_arity d.name.arity d.at ++ beyond_arity (length d.function.parameters) d.function.at
arity_limit (Part.Expression (Expression.Name p f)) = beyond_arity f.arity p
arity_limit (Part.Expression (Expression.Lambda p q xs body)) = beyond_arity (length xs) q
arity_limit (Part.Expression (Expression.Apply p f args)) = beyond_arity (count args) p
arity_limit (Part.Expression (Expression.Call p m f args)) = beyond_arity (count args) p
arity_limit (Part.Expression (Expression.Primop p f args)) = beyond_arity (count args) p
arity_limit _ = []

-- whether a primitive operation takes so many arguments: `raise/2`, `match_fail/1` and `build_stacktrace/1` do
abbrev pub takes : Option Primop → ℕ → Bool
takes None n = false
takes (Some p) n = n == primop_arity p

abbrev pub is_primop : (name : List ℕ) (arguments : ℕ) → Bool
is_primop f n = takes (primop_named f) n

-- another primitive operation
abbrev pub unknown_primop : Part → List Place
unknown_primop (Part.Expression (Expression.Primop p f args)) = unless (is_primop f (count args)) p
unknown_primop _ = []

-- the names of those with more than `NODE_LIMIT` nodes
abbrev pub beyond_nodes : Definitions → List Place
beyond_nodes no_definition = []
beyond_nodes (and_definition p f q xs body ds) = unless (not (nat_lt NODE_LIMIT (expression_nodes body))) p ++ beyond_nodes ds

-- the first behind the limit
abbrev pub first_beyond : ℕ → List Place → List Place
first_beyond limit places = take 1 (drop limit places)

-- a function of the module with more than `NODE_LIMIT` nodes, at its name; and more than `FUNCTION_LIMIT` functions, those of each `letrec` and the funs among
-- them, at the `fun` of the first beyond
abbrev pub size_limit : Part → List Place
size_limit (Part.Module m) = beyond_nodes m.definitions ++ first_beyond FUNCTION_LIMIT (funs_of_definitions m.definitions)
size_limit _ = []

-- where a part breaks a rule
abbrev pub broken_by : Rule → Scoped → List Place
broken_by Rules.DuplicateFunction x = duplicate_function x.0
broken_by Rules.ExportUndefined x = export_undefined x.0 x.1
broken_by Rules.UnboundFunction x = unbound_function x.0 x.1
broken_by Rules.UnboundVariable x = unbound_variable x.0 x.1
broken_by Rules.DuplicateVariable x = duplicate_variable x.0
broken_by Rules.Degree x = degree x.0
broken_by Rules.ArityLimit x = arity_limit x.0
broken_by Rules.UnknownPrimop x = unknown_primop x.0
broken_by Rules.SizeLimit x = size_limit x.0

-- the order in which the rules are answered at one place
abbrev pub rank : Rule → ℕ
rank Rules.DuplicateFunction = 1
rank Rules.ExportUndefined = 2
rank Rules.UnboundFunction = 3
rank Rules.UnboundVariable = 4
rank Rules.DuplicateVariable = 5
rank Rules.Degree = 6
rank Rules.ArityLimit = 7
rank Rules.UnknownPrimop = 8
rank Rules.SizeLimit = 9
