-- The law by hand: a good module, and modules that each break one rule and get stuck, or end with two values.
use Rattle.std.proofs.Common.{◌≡◌, ℕ, pos, List, [], ◌∷◌, map, length, refl}
use Rattle.std.specs.Prelude.{codes}
use Rattle.std.specs.List.{flat_map}
use Rattle.hipe_terms.specs.declared.place.Place.{Place}
use Rattle.hipe_terms.specs.declared.constant.Call.{Call}
use Rattle.hipe_terms.specs.Terms.{integer, tuple, terms}
use Rattle.hipe_terms.specs.Bifs.{built_in}
use Rattle.core_ast.specs.declared.pattern.Var.{Var}
use Rattle.core_ast.specs.declared.tree.FunName.{FunName}
use Rattle.core_ast.specs.declared.rule.Rule.{Rule}
use Rattle.core_ast.specs.declared.rule.Rule.TheVariants.{DuplicateFunction, ExportUndefined, UnboundFunction, UnboundVariable, DuplicateVariable, Degree, ArityLimit, UnknownPrimop, SizeLimit}
use Rattle.core_ast.specs.Trees.{Expression, no_expression, expressions, no_definition, and_definition, Module}
use Rattle.core_ast.specs.Good.{broken_in, IsGood}
use Rattle.core_meaning.specs.Meaning.{Ending, builds, with_one, with_count, with_value, no_clause_for, makes_fun, caught, primop, performs, applies, calls, applies_named}
use Rattle.core_meaning.specs.Source.{source_run}

abbrev here : Place
here = record { line = 1; col = 1 }

abbrev var : List ℕ → Var
var x = record { name = x; at = here }

abbrev name : List ℕ → ℕ → FunName
name f n = record { name = f; arity = n }

abbrev number : ℕ → Expression
number n = Expression.Int here (pos n)

abbrev variable : List ℕ → Expression
variable x = Expression.Variable here x

abbrev apply : List ℕ → List Expression → Expression
apply f es = Expression.Apply here (Expression.Name here (name f (length es))) (expressions es)

abbrev primop_of : List ℕ → List Expression → Expression
primop_of f es = Expression.Primop here f (expressions es)

-- a module whose only function 'main'/0 has these parameters and this body
abbrev module_with : List Var → Expression → Module
module_with xs e = record { name = codes "m"; exports = (name (codes "main") 0, here) ∷ []; attributes = []; definitions = and_definition here (name (codes "main") 0) here xs e no_definition }

abbrev main : Expression → Module
main e = module_with [] e

abbrev call : Call
call = record { name = codes "main"; args = [] }

-- how the call 'main'() ends
abbrev ending : Module → Ending
ending m = (source_run m call 9).ending

-- the rules that are broken
abbrev broken : Module → List Rule
broken m = flat_map (λ r. map (λ _. r) (broken_in r m)) (DuplicateFunction ∷ ExportUndefined ∷ UnboundFunction ∷ UnboundVariable ∷ DuplicateVariable ∷ Degree ∷ ArityLimit ∷ UnknownPrimop ∷ SizeLimit ∷ [])

-- it breaks this rule alone, and ends so
abbrev Breaks : Module → Rule → Ending → Type 0
Breaks m r e = (broken m ≡ r ∷ []) × (ending m ≡ e)

-- ---- a good module: let <X, Y> = <1, 2> in letrec 'f'/1 = fun (Z) -> fun () -> {X, Y, Z} in apply (apply 'f'/1 (3)) ()

abbrev inner : Expression
inner = Expression.Lambda here here [] (Expression.Tuple here (expressions (variable (codes "X") ∷ variable (codes "Y") ∷ variable (codes "Z") ∷ [])))

abbrev captures : Module
captures =
    main
    (Expression.Let here (var (codes "X") ∷ var (codes "Y") ∷ []) (Expression.Values here (expressions (number 1 ∷ number 2 ∷ [])))
    (Expression.Letrec here (and_definition here (name (codes "f") 1) here (var (codes "Z") ∷ []) inner no_definition) (Expression.Apply here (apply (codes "f") (number 3 ∷ [])) no_expression)))

is_good : IsGood captures
is_good DuplicateFunction = refl
is_good ExportUndefined = refl
is_good UnboundFunction = refl
is_good UnboundVariable = refl
is_good DuplicateVariable = refl
is_good Degree = refl
is_good ArityLimit = refl
is_good UnknownPrimop = refl
is_good SizeLimit = refl

captured_values : ending captures ≡ Ending.values (tuple (terms (integer (pos 1) ∷ integer (pos 2) ∷ integer (pos 3) ∷ [])) ∷ [])
unfolding source_run builds with_one with_count with_value no_clause_for makes_fun caught primop performs applies calls applies_named built_in
captured_values = refl

-- ---- each rule that the law rests on is needed

no_variable : Breaks (main (variable (codes "X"))) UnboundVariable Ending.stuck
unfolding source_run builds with_one with_count with_value no_clause_for makes_fun caught primop performs applies calls applies_named built_in
no_variable = (refl, refl)

no_function : Breaks (main (Expression.Name here (name (codes "f") 0))) UnboundFunction Ending.stuck
unfolding source_run builds with_one with_count with_value no_clause_for makes_fun caught primop performs applies calls applies_named built_in
no_function = (refl, refl)

two_values : Breaks (main (Expression.Values here (expressions (number 1 ∷ number 2 ∷ [])))) Degree (Ending.values (integer (pos 1) ∷ integer (pos 2) ∷ []))
unfolding source_run builds with_one with_count with_value no_clause_for makes_fun caught primop performs applies calls applies_named built_in
two_values = (refl, refl)

one_of_two_bound : Breaks (main (Expression.Let here (var (codes "X") ∷ []) (Expression.Values here (expressions (number 1 ∷ number 2 ∷ []))) (number 3))) Degree Ending.stuck
unfolding source_run builds with_one with_count with_value no_clause_for makes_fun caught primop performs applies calls applies_named built_in
one_of_two_bound = (refl, refl)

one_parameter : Breaks (module_with (var (codes "X") ∷ []) (number 1)) Degree Ending.stuck
unfolding source_run builds with_one with_count with_value no_clause_for makes_fun caught primop performs applies calls applies_named built_in
one_parameter = (refl, refl)

one_cause :
    Breaks (main (Expression.Try here (primop_of (codes "match_fail") (number 1 ∷ [])) (var (codes "X") ∷ []) (number 2) (var (codes "C") ∷ []) (number 3))) Degree Ending.stuck
unfolding source_run builds with_one with_count with_value no_clause_for makes_fun caught primop performs applies calls applies_named built_in
one_cause = (refl, refl)

no_primop : Breaks (main (primop_of (codes "halt") [])) UnknownPrimop Ending.stuck
unfolding source_run builds with_one with_count with_value no_clause_for makes_fun caught primop performs applies calls applies_named built_in
no_primop = (refl, refl)
