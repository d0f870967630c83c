-- Each rule of good modules at modules that break it and at modules that don't, by hand. A line lists every rule that is broken, with the
-- places. Each is checked by computing its left side.
use Rattle.std.proofs.Common.{◌≡◌, ℕ, zero, suc, ◌+◌, pos, List, [], ◌∷◌, map, refl, codes, replicate}
use Rattle.std.specs.List.{flat_map}
use Rattle.hipe_terms.specs.declared.place.Place.{Place}
use Rattle.core_ast.specs.declared.pattern.Var.{Var}
use Rattle.core_ast.specs.declared.tree.FunName.{FunName}
use Rattle.core_ast.specs.declared.rule.Rule.{Rule}
use Rattle.core_ast.specs.declared.rule.Rule.TheVariants.{DuplicateFunction, ExportUndefined, UnboundFunction, UnboundVariable, DuplicateVariable, Degree, ArityLimit, UnknownPrimop, SizeLimit}
use Rattle.core_ast.specs.Trees.{Pattern, Patterns, no_pattern, and_pattern, Expression, Expressions, no_expression, and_expression, Clauses, no_clause, and_clause, Definitions, no_definition, and_definition, Module}
use Rattle.hipe_base.specs.declared.limits.TheConstants.{FUNCTION_LIMIT}
use Rattle.core_ast.specs.Places.{funs}
use Rattle.core_ast.specs.Part.{Part}
use Rattle.core_ast.specs.Rules.{beyond_nodes, first_beyond, size_limit}
use Rattle.core_ast.specs.Good.{broken_in}

-- what is broken in a module, rule by rule
abbrev broken : Module → List (Rule × Place)
broken m = flat_map (λ r. map (λ p. (r, p)) (broken_in r m)) (DuplicateFunction ∷ ExportUndefined ∷ UnboundFunction ∷ UnboundVariable ∷ DuplicateVariable ∷ Degree ∷ ArityLimit ∷ UnknownPrimop ∷ SizeLimit ∷ [])

-- the shapes of the modules ----------------------------------------------------------------------------------------------------------

abbrev at : ℕ → Place
at col = record { line = 1; col = col }

abbrev named : List ℕ → ℕ → FunName
named f n = record { name = f; arity = n }

abbrev var : ℕ → List ℕ → Var
var col x = record { name = x; at = at col }

abbrev int : ℕ → Expression
int col = Expression.Int (at col) (pos 1)

abbrev use_of : ℕ → List ℕ → Expression
use_of col x = Expression.Variable (at col) x

abbrev pair : ℕ → Expression
pair col = Expression.Values (at col) (and_expression (int (col + 1)) (and_expression (int (col + 3)) no_expression))

abbrev raising : ℕ → Expression
raising col = Expression.Primop (at col) (codes "raise") (and_expression (int (col + 1)) (and_expression (int (col + 2)) no_expression))

abbrev true_at : ℕ → Expression
true_at col = Expression.Atom (at col) (codes "true")

-- a clause at 20, 30, .. with these patterns and this body
abbrev clause : ℕ → Patterns → Expression → Clauses → Clauses
clause col ps body cs = and_clause (at col) ps (true_at (col + 3)) body cs

abbrev any : ℕ → List ℕ → Patterns → Patterns
any col x ps = and_pattern (Pattern.Variable (at col) x) ps

-- a module whose function `main` of no parameters has this body
abbrev main : Expression → Module
main body = record { name = codes "m"; exports = []; attributes = []; definitions = and_definition (at 1) (named (codes "main") 0) (at 2) [] body no_definition }

-- `let` of these variables at 3
abbrev let_at_3 : List Var → Expression → Expression → Module
let_at_3 xs values body = main (Expression.Let (at 3) xs values body)

-- one function that is defined in a `letrec` at 3, its name at 4 and its `fun` at 5
abbrev letrec_at_3 : FunName → List Var → Expression → Expression → Module
letrec_at_3 f xs inner body = main (Expression.Letrec (at 3) (and_definition (at 4) f (at 5) xs inner no_definition) body)

-- duplicate_function ---------------------------------------------------------------------------------------------------------------------

abbrev two_functions : ℕ → Definitions
two_functions n = and_definition (at 4) (named (codes "f") 0) (at 5) [] (int 6) (and_definition (at 7) (named (codes "f") n) (at 8) (replicate n (var 9 (codes "X"))) (int 10) no_definition)

duplicate-1 : broken (record { name = codes "m"; exports = []; attributes = []; definitions = two_functions 0 }) ≡ (DuplicateFunction, at 7) ∷ []
duplicate-1 = refl

duplicate-2 : broken (record { name = codes "m"; exports = []; attributes = []; definitions = two_functions 1 }) ≡ []
duplicate-2 = refl

duplicate-3 : broken (main (Expression.Letrec (at 3) (two_functions 0) (int 11))) ≡ (DuplicateFunction, at 7) ∷ []
duplicate-3 = refl

duplicate-4 : broken (main (Expression.Letrec (at 3) (two_functions 1) (int 11))) ≡ []
duplicate-4 = refl

-- an inner name hides an outer one
duplicate-5 : broken (letrec_at_3 (named (codes "main") 0) [] (int 6) (int 7)) ≡ []
duplicate-5 = refl

-- export_undefined ------------------------------------------------------------------------------------------------------------------------

abbrev exporting : List (FunName × Place) → Module
exporting es = record { name = codes "m"; exports = es; attributes = []; definitions = and_definition (at 5) (named (codes "f") 0) (at 6) [] (int 7) no_definition }

export-1 : broken (exporting ((named (codes "f") 0, at 1) ∷ (named (codes "g") 0, at 2) ∷ (named (codes "f") 1, at 3) ∷ [])) ≡ (ExportUndefined, at 2) ∷ (ExportUndefined, at 3) ∷ []
export-1 = refl

export-2 : broken (exporting ((named (codes "f") 0, at 1) ∷ (named (codes "f") 0, at 2) ∷ [])) ≡ []
export-2 = refl

-- unbound_function -----------------------------------------------------------------------------------------------------------------------

unbound_function-1 : broken (main (Expression.Name (at 3) (named (codes "f") 0))) ≡ (UnboundFunction, at 3) ∷ []
unbound_function-1 = refl

unbound_function-2 : broken (main (Expression.Name (at 3) (named (codes "main") 1))) ≡ (UnboundFunction, at 3) ∷ []
unbound_function-2 = refl

unbound_function-3 : broken (main (Expression.Name (at 3) (named (codes "main") 0))) ≡ []
unbound_function-3 = refl

-- in the functions of a `letrec` and in its body, and not behind it
unbound_function-4 : broken (letrec_at_3 (named (codes "f") 0) [] (Expression.Name (at 6) (named (codes "f") 0)) (Expression.Name (at 7) (named (codes "f") 0))) ≡ []
unbound_function-4 = refl

unbound_function-5 : broken (main (Expression.Do (at 3) (Expression.Letrec (at 4) (and_definition (at 5) (named (codes "f") 0) (at 6) [] (int 7) no_definition) (int 8)) (Expression.Name (at 9) (named (codes "f") 0)))) ≡ (UnboundFunction, at 9) ∷ []
unbound_function-5 = refl

-- unbound_variable -----------------------------------------------------------------------------------------------------------------------

unbound_variable-1 : broken (main (use_of 3 (codes "X"))) ≡ (UnboundVariable, at 3) ∷ []
unbound_variable-1 = refl

-- the variables of a `let` are in scope in its body alone
unbound_variable-2 : broken (let_at_3 (var 4 (codes "X") ∷ []) (use_of 5 (codes "X")) (use_of 6 (codes "X"))) ≡ (UnboundVariable, at 5) ∷ []
unbound_variable-2 = refl

-- those of a fun in its body, those of a function that is around it too
unbound_variable-3 : broken (let_at_3 (var 4 (codes "X") ∷ []) (int 5) (Expression.Lambda (at 6) (at 6) (var 7 (codes "Y") ∷ []) (Expression.Tuple (at 8) (and_expression (use_of 9 (codes "X")) (and_expression (use_of 10 (codes "Y")) no_expression))))) ≡ []
unbound_variable-3 = refl

unbound_variable-4 : broken (letrec_at_3 (named (codes "f") 1) (var 6 (codes "X") ∷ []) (use_of 7 (codes "X")) (use_of 8 (codes "X"))) ≡ (UnboundVariable, at 8) ∷ []
unbound_variable-4 = refl

-- those of a clause in its guard and in its body, and in no other clause
unbound_variable-5 : broken (main (Expression.Case (at 3) (int 4) (and_clause (at 5) (any 5 (codes "X") no_pattern) (use_of 6 (codes "X")) (use_of 7 (codes "X")) (and_clause (at 8) (any 8 (codes "Y") no_pattern) (use_of 9 (codes "X")) (use_of 10 (codes "Y")) no_clause)))) ≡ (UnboundVariable, at 9) ∷ []
unbound_variable-5 = refl

-- those of the two lists of a `try`, each in its own body
unbound_variable-6 : broken (main (Expression.Try (at 3) (int 4) (var 5 (codes "X") ∷ []) (use_of 6 (codes "C")) (var 7 (codes "C") ∷ var 8 (codes "R") ∷ []) (use_of 9 (codes "X")))) ≡ (UnboundVariable, at 6) ∷ (UnboundVariable, at 9) ∷ []
unbound_variable-6 = refl

-- duplicate_variable ---------------------------------------------------------------------------------------------------------------------

duplicate_variable-1 : broken (let_at_3 (var 4 (codes "X") ∷ var 5 (codes "X") ∷ []) (pair 6) (use_of 10 (codes "X"))) ≡ (DuplicateVariable, at 5) ∷ []
duplicate_variable-1 = refl

duplicate_variable-2 : broken (main (Expression.Lambda (at 3) (at 3) (var 4 (codes "X") ∷ var 5 (codes "Y") ∷ var 6 (codes "X") ∷ []) (int 7))) ≡ (DuplicateVariable, at 6) ∷ []
duplicate_variable-2 = refl

duplicate_variable-3 : broken (letrec_at_3 (named (codes "f") 2) (var 6 (codes "X") ∷ var 7 (codes "X") ∷ []) (int 8) (int 9)) ≡ (DuplicateVariable, at 7) ∷ []
duplicate_variable-3 = refl

-- the two lists of one `try` may share a name
duplicate_variable-4 : broken (main (Expression.Try (at 3) (int 4) (var 5 (codes "X") ∷ []) (int 6) (var 7 (codes "X") ∷ var 8 (codes "Y") ∷ []) (int 9))) ≡ []
duplicate_variable-4 = refl

duplicate_variable-5 : broken (main (Expression.Try (at 3) (pair 4) (var 5 (codes "X") ∷ var 6 (codes "X") ∷ []) (int 7) (var 8 (codes "Y") ∷ var 9 (codes "Y") ∷ []) (int 10))) ≡ (DuplicateVariable, at 6) ∷ (DuplicateVariable, at 9) ∷ []
duplicate_variable-5 = refl

-- all patterns of one clause are one list, and two clauses are two; an alias binds its variable
duplicate_variable-6 : broken (main (Expression.Case (at 3) (pair 4) (clause 20 (any 21 (codes "X") (any 22 (codes "X") no_pattern)) (int 24) (clause 30 (any 31 (codes "X") (any 32 (codes "Y") no_pattern)) (int 34) no_clause)))) ≡ (DuplicateVariable, at 22) ∷ []
duplicate_variable-6 = refl

duplicate_variable-7 : broken (main (Expression.Case (at 3) (int 4) (clause 20 (and_pattern (Pattern.Alias (at 21) (var 21 (codes "X")) (Pattern.Tuple (at 22) (any 23 (codes "X") no_pattern))) no_pattern) (int 25) no_clause))) ≡ (DuplicateVariable, at 23) ∷ []
duplicate_variable-7 = refl

-- degree ---------------------------------------------------------------------------------------------------------------------------------

-- a fun's body needs one value
degree-1 : broken (main (pair 3)) ≡ (Degree, at 3) ∷ []
degree-1 = refl

-- the part that stands there is the one that doesn't fit
degree-2 : broken (let_at_3 (var 4 (codes "X") ∷ []) (int 5) (pair 6)) ≡ (Degree, at 3) ∷ []
degree-2 = refl

-- the argument of `let` needs as many as there are variables
degree-3 : broken (let_at_3 (var 4 (codes "X") ∷ var 5 (codes "Y") ∷ []) (int 6) (int 7)) ≡ (Degree, at 6) ∷ []
degree-3 = refl

degree-4 : broken (let_at_3 (var 4 (codes "X") ∷ var 5 (codes "Y") ∷ []) (pair 6) (int 10)) ≡ []
degree-4 = refl

-- what only raises fits every degree
degree-5 : broken (let_at_3 (var 4 (codes "X") ∷ var 5 (codes "Y") ∷ []) (raising 6) (int 10)) ≡ []
degree-5 = refl

degree-6 : broken (main (Expression.Call (at 3) (codes "erlang") (codes "error") (and_expression (pair 4) no_expression))) ≡ (Degree, at 4) ∷ []
degree-6 = refl

degree-7 : broken (let_at_3 [] (Expression.Call (at 4) (codes "erlang") (codes "error") (and_expression (int 5) no_expression)) (int 6)) ≡ []
degree-7 = refl

degree-8 : broken (let_at_3 [] (Expression.Call (at 4) (codes "erlang") (codes "error") (and_expression (int 5) (and_expression (int 6) no_expression))) (int 7)) ≡ (Degree, at 4) ∷ []
degree-8 = refl

-- the argument of `case` needs as many as each clause has patterns
degree-9 : broken (main (Expression.Case (at 3) (int 4) (clause 20 (any 21 (codes "X") no_pattern) (int 24) (clause 30 (any 31 (codes "X") (any 32 (codes "Y") no_pattern)) (int 34) no_clause)))) ≡ (Degree, at 4) ∷ []
degree-9 = refl

degree-10 : broken (main (Expression.Case (at 3) (raising 4) (clause 20 (any 21 (codes "X") no_pattern) (int 24) (clause 30 (any 31 (codes "X") (any 32 (codes "Y") no_pattern)) (int 34) no_clause)))) ≡ []
degree-10 = refl

-- bodies agree with the first that doesn't fit every degree
degree-11 : broken (let_at_3 (var 4 (codes "X") ∷ var 5 (codes "Y") ∷ []) (Expression.Case (at 6) (int 7) (clause 20 (any 21 (codes "X") no_pattern) (raising 24) (clause 30 (any 31 (codes "X") no_pattern) (pair 34) (clause 40 (any 41 (codes "X") no_pattern) (int 44) no_clause)))) (int 50)) ≡ (Degree, at 44) ∷ []
degree-11 = refl

degree-12 : broken (let_at_3 (var 4 (codes "X") ∷ var 5 (codes "Y") ∷ []) (Expression.Case (at 6) (int 7) (clause 20 (any 21 (codes "X") no_pattern) (raising 24) (clause 30 (any 31 (codes "X") no_pattern) (pair 34) no_clause))) (int 50)) ≡ []
degree-12 = refl

-- a guard needs one
degree-13 : broken (main (Expression.Case (at 3) (int 4) (and_clause (at 5) (any 5 (codes "X") no_pattern) (pair 6) (int 10) no_clause))) ≡ (Degree, at 6) ∷ []
degree-13 = refl

-- the two bodies of `try` agree, its part needs as many as `of` has variables, and `catch` has two variables or three
degree-14 : broken (main (Expression.Try (at 3) (pair 4) (var 8 (codes "X") ∷ []) (int 9) (var 10 (codes "C") ∷ var 11 (codes "R") ∷ []) (pair 12))) ≡ (Degree, at 4) ∷ (Degree, at 12) ∷ []
degree-14 = refl

degree-15 : broken (main (Expression.Try (at 3) (int 4) (var 8 (codes "X") ∷ []) (raising 9) (var 12 (codes "C") ∷ var 13 (codes "R") ∷ var 14 (codes "T") ∷ []) (int 15))) ≡ []
degree-15 = refl

degree-16 : broken (main (Expression.Try (at 3) (int 4) (var 8 (codes "X") ∷ []) (int 9) (var 12 (codes "C") ∷ []) (int 15))) ≡ (Degree, at 12) ∷ []
degree-16 = refl

degree-17 : broken (main (Expression.Try (at 3) (int 4) (var 8 (codes "X") ∷ []) (int 9) [] (int 15))) ≡ (Degree, at 3) ∷ []
degree-17 = refl

-- the first part of `do` may have any, and what `do` has is what its second part has
degree-18 : broken (main (Expression.Do (at 3) (pair 4) (int 8))) ≡ []
degree-18 = refl

degree-19 : broken (main (Expression.Do (at 3) (int 4) (pair 5))) ≡ (Degree, at 3) ∷ []
degree-19 = refl

-- elements, tails, arguments, the operator of `apply` and the part of `catch` need one
degree-20 : broken (main (Expression.Tuple (at 3) (and_expression (int 4) (and_expression (pair 5) no_expression)))) ≡ (Degree, at 5) ∷ []
degree-20 = refl

degree-21 : broken (main (Expression.Cons (at 3) (and_expression (pair 4) no_expression) (pair 8))) ≡ (Degree, at 4) ∷ (Degree, at 8) ∷ []
degree-21 = refl

degree-22 : broken (main (Expression.Apply (at 3) (pair 4) (and_expression (pair 8) no_expression))) ≡ (Degree, at 4) ∷ (Degree, at 8) ∷ []
degree-22 = refl

degree-23 : broken (main (Expression.Catch (at 3) (pair 4))) ≡ (Degree, at 4) ∷ []
degree-23 = refl

-- a function has as many parameters as its name says, in the module and in a `letrec`
degree-24 : broken (letrec_at_3 (named (codes "f") 2) (var 6 (codes "X") ∷ []) (int 7) (int 8)) ≡ (Degree, at 5) ∷ []
degree-24 = refl

degree-25 : broken (record { name = codes "m"; exports = []; attributes = []; definitions = and_definition (at 1) (named (codes "f") 1) (at 2) [] (int 3) no_definition }) ≡ (Degree, at 2) ∷ []
degree-25 = refl

-- the body of a `letrec` and that of a fun
degree-26 : broken (letrec_at_3 (named (codes "f") 0) [] (pair 6) (pair 10)) ≡ (Degree, at 3) ∷ (Degree, at 6) ∷ []
degree-26 = refl

degree-27 : broken (main (Expression.Lambda (at 3) (at 3) [] (pair 4))) ≡ (Degree, at 4) ∷ []
degree-27 = refl

-- arity_limit ----------------------------------------------------------------------------------------------------------------------------

-- n variables with different names
abbrev several : ℕ → List ℕ → List Var
several zero x = []
several (suc n) x = var 7 x ∷ several n (88 ∷ x)

abbrev ints : ℕ → Expressions
ints zero = no_expression
ints (suc n) = and_expression (int 8) (ints n)

arity-1 : broken (main (Expression.Lambda (at 3) (at 4) (several 256 (codes "X")) (int 8))) ≡ (ArityLimit, at 4) ∷ []
arity-1 = refl

arity-2 : broken (main (Expression.Lambda (at 3) (at 4) (several 255 (codes "X")) (int 8))) ≡ []
arity-2 = refl

arity-3 : broken (letrec_at_3 (named (codes "f") 256) (several 256 (codes "X")) (int 8) (int 9)) ≡ (ArityLimit, at 4) ∷ (ArityLimit, at 5) ∷ []
arity-3 = refl

arity-4 : broken (exporting ((named (codes "g") 256, at 1) ∷ [])) ≡ (ExportUndefined, at 1) ∷ (ArityLimit, at 1) ∷ []
arity-4 = refl

arity-5 : broken (main (Expression.Name (at 3) (named (codes "f") 256))) ≡ (UnboundFunction, at 3) ∷ (ArityLimit, at 3) ∷ []
arity-5 = refl

arity-6 : broken (main (Expression.Apply (at 3) (int 4) (ints 256))) ≡ (ArityLimit, at 3) ∷ []
arity-6 = refl

arity-7 : broken (main (Expression.Call (at 3) (codes "m") (codes "f") (ints 256))) ≡ (ArityLimit, at 3) ∷ []
arity-7 = refl

arity-8 : broken (main (Expression.Call (at 3) (codes "m") (codes "f") (ints 255))) ≡ []
arity-8 = refl

-- unknown_primop -------------------------------------------------------------------------------------------------------------------------

unknown-1 : broken (main (Expression.Primop (at 3) (codes "raw_raise") (ints 3))) ≡ (UnknownPrimop, at 3) ∷ []
unknown-1 = refl

unknown-2 : broken (main (Expression.Primop (at 3) (codes "raise") (ints 1))) ≡ (UnknownPrimop, at 3) ∷ []
unknown-2 = refl

unknown-3 : broken (main (Expression.Do (at 3) (raising 4) (Expression.Do (at 7) (Expression.Primop (at 8) (codes "match_fail") (ints 1)) (Expression.Primop (at 9) (codes "build_stacktrace") (ints 1))))) ≡ []
unknown-3 = refl

-- size_limit -----------------------------------------------------------------------------------------------------------------------------

-- the first place behind the limit
size-1 : first_beyond 2 (at 1 ∷ at 2 ∷ at 3 ∷ at 4 ∷ []) ≡ at 3 ∷ []
size-1 = refl

size-2 : first_beyond 2 (at 1 ∷ at 2 ∷ []) ≡ []
size-2 = refl

-- a tuple of 65,535 integers has a node more
size-3 : beyond_nodes (and_definition (at 1) (named (codes "f") 0) (at 2) [] (Expression.Tuple (at 3) (ints 65535)) no_definition) ≡ at 1 ∷ []
size-3 = refl

size-4 : beyond_nodes (and_definition (at 1) (named (codes "f") 0) (at 2) [] (Expression.Tuple (at 3) (ints 65534)) no_definition) ≡ []
size-4 = refl

-- n funs, each at the column that says how many are left
abbrev lambdas : ℕ → Expressions
lambdas zero = no_expression
lambdas (suc n) = and_expression (Expression.Lambda (at 3) (at n) [] (int 4)) (lambdas n)

size-5 : size_limit (Part.Module (main (Expression.Tuple (at 3) (lambdas 65536)))) ≡ at 1 ∷ at 1 ∷ []
size-5 = refl

size-6 : first_beyond FUNCTION_LIMIT (funs (Expression.Tuple (at 3) (lambdas 65535))) ≡ []
size-6 = refl
