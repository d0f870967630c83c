-- Runs of small modules, worked by hand.
use Rattle.std.proofs.Common.{◌≡◌, ℕ, pos, neg_ℤ, List, [], ◌∷◌, map, length, refl}
use Rattle.std.specs.Prelude.{codes, Some, None}
use Rattle.hipe_terms.specs.declared.place.Place.{Place}
use Rattle.hipe_terms.specs.Terms.{Term, integer, atom, nil, cons, tuple, fun, none, more, terms}
use Rattle.hipe_terms.specs.Bifs.{built_in}
use Rattle.hipe_terms.specs.declared.class.Class.{Class}
use Rattle.hipe_terms.specs.declared.class.Class.TheVariants.{Error, Throw}
use Rattle.core_ast.specs.declared.pattern.Var.{Var}
use Rattle.core_ast.specs.declared.tree.FunName.{FunName}
use Rattle.core_ast.specs.Trees.{Pattern, patterns, Expression, expressions, Clause, clauses, Definition, definitions, Module}
use Rattle.core_meaning.specs.Procedures.{program_of}
use Rattle.core_meaning.specs.Meaning.{Ending, Run, Limits, exported, builds, with_one, with_count, with_value, no_clause_for, makes_fun, caught, primop, performs, applies, calls, applies_named}
use Rattle.hipe_terms.specs.Shown.{Names}
use Rattle.core_meaning.specs.Output.{shown_names, printed_lines, result_line}
use Rattle.core_meaning.specs.Source.{unlimited, starts}
use Rattle.core_meaning.specs.Laws.{limited}

abbrev here : Place
here = record { line = 1; col = 1 }

abbrev var : List ℕ → Var
var x = record { name = x; at = here }

abbrev name : List ℕ → ℕ → FunName
name f n = record { name = f; arity = n }

abbrev number : ℕ → Expression
number n = Expression.Int here (pos n)

abbrev call : List ℕ → List Expression → Expression
call f es = Expression.Call here (codes "erlang") f (expressions es)

abbrev definition : List ℕ → List (List ℕ) → Expression → Definition
definition f xs body = record { name = name f (length xs); function = record { parameters = map var xs; body = body; at = here }; at = here }

-- a module of these functions, all exported
abbrev module_with : List Definition → Module
module_with ds = record { name = codes "m"; exports = map (λ d. (d.name, here)) ds; attributes = []; definitions = definitions ds }

-- 'main'/0 with this body
abbrev main : Expression → Module
main e = module_with (definition (codes "main") [] e ∷ [])

abbrev run_in : Module → Limits → List ℕ → List Term → ℕ → ℕ → Run
run_in m limits f ts words fuel = starts (program_of m) limits (exported (program_of m) (name f (length ts))) ts words fuel

abbrev run : Module → ℕ → Run
run m fuel = run_in m (unlimited (program_of m)) (codes "main") [] 0 fuel

abbrev Prints : Run → List Term → Type 0
Prints x ts = x.state.printed ≡ ts

-- how it ends, the words, and the claim
abbrev Ends : Run → Ending → (words claim : ℕ) → Type 0
Ends x e w s = (x.ending ≡ e) × (x.state.words ≡ w) × (x.state.claim ≡ s)

abbrev one : Term → Ending
one t = Ending.values (t ∷ [])

abbrev raises : Class → Term → Ending
raises class t = Ending.raised class t

abbrev failing : List ℕ → Ending
failing a = Ending.raised Error (atom a)

abbrev an_atom : List ℕ → Expression
an_atom a = Expression.Atom here a

abbrev negative : ℕ → Expression
negative n = Expression.Int here (neg_ℤ (pos n))

abbrev variable : List ℕ → Expression
variable x = Expression.Variable here x

abbrev a_tuple : List Expression → Expression
a_tuple es = Expression.Tuple here (expressions es)

abbrev a_list : List Expression → Expression → Expression
a_list es e = Expression.Cons here (expressions es) e

abbrev nothing : Expression
nothing = Expression.Nil here

abbrev guarded : List Pattern → Expression → Expression → Clause
guarded ps g e = record { patterns = patterns ps; guard = g; body = e; at = here }

abbrev clause : List Pattern → Expression → Clause
clause ps e = guarded ps (an_atom (codes "true")) e

abbrev case_of : Expression → List Clause → Expression
case_of e cs = Expression.Case here e (clauses cs)

abbrev let_in : List (List ℕ) → Expression → Expression → Expression
let_in xs a b = Expression.Let here (map var xs) a b

abbrev apply : List ℕ → List Expression → Expression
apply f es = Expression.Apply here (Expression.Name here (name f (length es))) (expressions es)

abbrev try_of : Expression → List (List ℕ) → Expression → List (List ℕ) → Expression → Expression
try_of a xs b ys h = Expression.Try here a (map var xs) b (map var ys) h

abbrev primop_of : List ℕ → List Expression → Expression
primop_of f es = Expression.Primop here f (expressions es)

abbrev any : List ℕ → Pattern
any x = Pattern.Variable here x

abbrev the : ℕ → Pattern
the n = Pattern.Int here (pos n)

abbrev tuple_of : List Term → Term
tuple_of ts = tuple (terms ts)

abbrev int : ℕ → Term
int n = integer (pos n)

abbrev word : List ℕ → Term
word a = atom a

-- the same with so many words of heap and of stack, where frames are as large as they claim
abbrev under : ℕ → ℕ → Module → ℕ → Run
under heap stack m fuel = run_in m (limited heap stack (unlimited (program_of m)).frame) (codes "main") [] 0 fuel

-- ---- values, and the words of tuples and lists

an_integer : Ends (run (main (number 42)) 9) (one (int 42)) 0 20
unfolding builds with_one with_count with_value no_clause_for makes_fun caught primop performs applies calls applies_named built_in
an_integer = (refl, refl, refl)

the_least : Ends (run (main (negative 576460752303423488)) 9) (one (integer (neg_ℤ (pos 576460752303423488)))) 0 20
unfolding builds with_one with_count with_value no_clause_for makes_fun caught primop performs applies calls applies_named built_in
the_least = (refl, refl, refl)

a_list_of_three : Ends (run (main (a_list (number 1 ∷ number 2 ∷ number 3 ∷ []) nothing)) 9) (one (cons (int 1) (cons (int 2) (cons (int 3) nil)))) 6 36
unfolding builds with_one with_count with_value no_clause_for makes_fun caught primop performs applies calls applies_named built_in
a_list_of_three = (refl, refl, refl)

six_words_suffice : Ends (under 6 1024 (main (a_list (number 1 ∷ number 2 ∷ number 3 ∷ []) nothing)) 9) (one (cons (int 1) (cons (int 2) (cons (int 3) nil)))) 6 36
unfolding builds with_one with_count with_value no_clause_for makes_fun caught primop performs applies calls applies_named built_in
six_words_suffice = (refl, refl, refl)

five_words_do_not : Ends (under 5 1024 (main (a_list (number 1 ∷ number 2 ∷ number 3 ∷ []) nothing)) 9) (Ending.heap_full) 0 36
unfolding builds with_one with_count with_value no_clause_for makes_fun caught primop performs applies calls applies_named built_in
five_words_do_not = (refl, refl, refl)

its_frame_fits : Ends (under 6 36 (main (a_list (number 1 ∷ number 2 ∷ number 3 ∷ []) nothing)) 9) (one (cons (int 1) (cons (int 2) (cons (int 3) nil)))) 6 36
unfolding builds with_one with_count with_value no_clause_for makes_fun caught primop performs applies calls applies_named built_in
its_frame_fits = (refl, refl, refl)

its_frame_does_not_fit : Ends (under 6 35 (main (a_list (number 1 ∷ number 2 ∷ number 3 ∷ []) nothing)) 9) (Ending.stack_full) 0 0
unfolding builds with_one with_count with_value no_clause_for makes_fun caught primop performs applies calls applies_named built_in
its_frame_does_not_fit = (refl, refl, refl)

-- ---- built-in functions and unknown ones

out_of_range : Ends (run (main (call (codes "+") (number 576460752303423487 ∷ number 1 ∷ []))) 9) (failing (codes "system_limit")) 0 28
unfolding builds with_one with_count with_value no_clause_for makes_fun caught primop performs applies calls applies_named built_in
out_of_range = (refl, refl, refl)

division_by_nothing : Ends (run (main (call (codes "div") (number 1 ∷ number 0 ∷ []))) 9) (failing (codes "badarith")) 0 28
unfolding builds with_one with_count with_value no_clause_for makes_fun caught primop performs applies calls applies_named built_in
division_by_nothing = (refl, refl, refl)

no_such_function : Ends (run (main (call (codes "get_module_info") (an_atom (codes "fact") ∷ []))) 9) (failing (codes "undef")) 0 24
unfolding builds with_one with_count with_value no_clause_for makes_fun caught primop performs applies calls applies_named built_in
no_such_function = (refl, refl, refl)

not_exported : Ends (run_in (main (number 42)) (unlimited (program_of (main (number 42)))) (codes "other") [] 0 9) (failing (codes "undef")) 0 0
unfolding builds with_one with_count with_value no_clause_for makes_fun caught primop performs applies calls applies_named built_in
not_exported = (refl, refl, refl)

display_gives_true : Ends (run (main (call (codes "display") (a_tuple (number 1 ∷ an_atom (codes "a b") ∷ []) ∷ []))) 9) (one (word (codes "true"))) 3 32
unfolding builds with_one with_count with_value no_clause_for makes_fun caught primop performs applies calls applies_named built_in
display_gives_true = (refl, refl, refl)

display_prints : Prints (run (main (call (codes "display") (a_tuple (number 1 ∷ an_atom (codes "a b") ∷ []) ∷ []))) 9) (tuple_of (int 1 ∷ word (codes "a b") ∷ []) ∷ [])
unfolding builds with_one with_count with_value no_clause_for makes_fun caught primop performs applies calls applies_named built_in
display_prints = refl

-- ---- case

no_clause_matches : Ends (run (main (case_of (a_tuple (number 1 ∷ number 2 ∷ [])) (clause (Pattern.Atom here (codes "a") ∷ []) (number 1) ∷ []))) 9) (raises Error (tuple_of (word (codes "case_clause") ∷ tuple_of (int 1 ∷ int 2 ∷ []) ∷ []))) 6 48
unfolding builds with_one with_count with_value no_clause_for makes_fun caught primop performs applies calls applies_named built_in
no_clause_matches = (refl, refl, refl)

a_guard_that_raises_fails : Ends (run (main (case_of (number 1) (guarded (any (codes "X") ∷ []) (call (codes "hd") (nothing ∷ [])) (an_atom (codes "no")) ∷ clause (any (codes "Y") ∷ []) (an_atom (codes "yes")) ∷ []))) 9) (one (word (codes "yes"))) 0 60
unfolding builds with_one with_count with_value no_clause_for makes_fun caught primop performs applies calls applies_named built_in
a_guard_that_raises_fails = (refl, refl, refl)

two_values : Ends (run (main (case_of (Expression.Values here (expressions (number 1 ∷ number 2 ∷ []))) (clause (any (codes "X") ∷ any (codes "Y") ∷ []) (a_list (variable (codes "Y") ∷ []) (variable (codes "X"))) ∷ []))) 9) (one (cons (int 2) (int 1))) 2 60
unfolding builds with_one with_count with_value no_clause_for makes_fun caught primop performs applies calls applies_named built_in
two_values = (refl, refl, refl)

no_clause_for_two_values : Ends (run (main (case_of (Expression.Values here (expressions (number 1 ∷ number 2 ∷ []))) (clause (the 3 ∷ any (codes "Y") ∷ []) (number 4) ∷ []))) 9) (raises Error (tuple_of (word (codes "case_clause") ∷ tuple_of (int 1 ∷ int 2 ∷ []) ∷ []))) 6 52
unfolding builds with_one with_count with_value no_clause_for makes_fun caught primop performs applies calls applies_named built_in
no_clause_for_two_values = (refl, refl, refl)

an_alias_binds : Ends (run (main (case_of (a_tuple (number 1 ∷ [])) (clause (Pattern.Alias here (var (codes "T")) (Pattern.Tuple here (patterns (any (codes "X") ∷ []))) ∷ []) (a_list (variable (codes "X") ∷ []) (variable (codes "T"))) ∷ []))) 9) (one (cons (int 1) (tuple_of (int 1 ∷ [])))) 4 60
unfolding builds with_one with_count with_value no_clause_for makes_fun caught primop performs applies calls applies_named built_in
an_alias_binds = (refl, refl, refl)

-- ---- try, catch and primops

a_throw_is_raised_again : Ends (run (main (try_of (call (codes "throw") (an_atom (codes "x") ∷ [])) (codes "V" ∷ []) (variable (codes "V")) (codes "C" ∷ codes "R" ∷ codes "T" ∷ []) (primop_of (codes "raise") (variable (codes "T") ∷ variable (codes "R") ∷ [])))) 9) (raises Throw (word (codes "x"))) 0 60
unfolding builds with_one with_count with_value no_clause_for makes_fun caught primop performs applies calls applies_named built_in
a_throw_is_raised_again = (refl, refl, refl)

a_raise_in_the_body_is_caught_by_no_handler_of_its_own : Ends (run (main (try_of (number 1) (codes "X" ∷ []) (call (codes "+") (variable (codes "X") ∷ an_atom (codes "a") ∷ [])) (codes "C" ∷ codes "R" ∷ []) (variable (codes "R")))) 9) (failing (codes "badarith")) 0 52
unfolding builds with_one with_count with_value no_clause_for makes_fun caught primop performs applies calls applies_named built_in
a_raise_in_the_body_is_caught_by_no_handler_of_its_own = (refl, refl, refl)

an_error_is_caught : Ends (under 6 1024 (main (Expression.Catch here (call (codes "error") (an_atom (codes "oops") ∷ [])))) 9) (one (tuple_of (word (codes "EXIT") ∷ tuple_of (word (codes "oops") ∷ nil ∷ []) ∷ []))) 6 28
unfolding builds with_one with_count with_value no_clause_for makes_fun caught primop performs applies calls applies_named built_in
an_error_is_caught = (refl, refl, refl)

an_exit_is_caught : Ends (run (main (Expression.Catch here (call (codes "exit") (an_atom (codes "oops") ∷ [])))) 9) (one (tuple_of (word (codes "EXIT") ∷ word (codes "oops") ∷ []))) 3 28
unfolding builds with_one with_count with_value no_clause_for makes_fun caught primop performs applies calls applies_named built_in
an_exit_is_caught = (refl, refl, refl)

a_throw_is_caught : Ends (run (main (Expression.Catch here (call (codes "throw") (an_atom (codes "oops") ∷ [])))) 9) (one (word (codes "oops"))) 0 28
unfolding builds with_one with_count with_value no_clause_for makes_fun caught primop performs applies calls applies_named built_in
a_throw_is_caught = (refl, refl, refl)

no_stack_trace : Ends (run (main (primop_of (codes "build_stacktrace") (number 1 ∷ []))) 9) (one nil) 0 24
unfolding builds with_one with_count with_value no_clause_for makes_fun caught primop performs applies calls applies_named built_in
no_stack_trace = (refl, refl, refl)

a_function_clause : Ends (run (main (primop_of (codes "match_fail") (a_tuple (an_atom (codes "function_clause") ∷ number 1 ∷ []) ∷ []))) 9) (failing (codes "function_clause")) 3 32
unfolding builds with_one with_count with_value no_clause_for makes_fun caught primop performs applies calls applies_named built_in
a_function_clause = (refl, refl, refl)

another_failed_match : Ends (run (main (primop_of (codes "match_fail") (number 1 ∷ []))) 9) (raises Error (int 1)) 0 24
unfolding builds with_one with_count with_value no_clause_for makes_fun caught primop performs applies calls applies_named built_in
another_failed_match = (refl, refl, refl)

-- ---- funs and applications

a_wrong_number_of_arguments : Ends (run (main (let_in (codes "F" ∷ []) (Expression.Lambda here here (var (codes "X") ∷ []) (variable (codes "X"))) (Expression.Apply here (variable (codes "F")) (expressions (number 1 ∷ number 2 ∷ []))))) 9) (raises Error (tuple_of (word (codes "badarity") ∷ tuple_of (fun 1 none ∷ cons (int 1) (cons (int 2) nil) ∷ []) ∷ []))) 12 48
unfolding builds with_one with_count with_value no_clause_for makes_fun caught primop performs applies calls applies_named built_in
a_wrong_number_of_arguments = (refl, refl, refl)

no_fun : Ends (under 3 1024 (main (Expression.Apply here (an_atom (codes "x")) (expressions (number 1 ∷ [])))) 9) (raises Error (tuple_of (word (codes "badfun") ∷ word (codes "x") ∷ []))) 3 28
unfolding builds with_one with_count with_value no_clause_for makes_fun caught primop performs applies calls applies_named built_in
no_fun = (refl, refl, refl)

no_fun_and_no_heap : Ends (under 2 1024 (main (Expression.Apply here (an_atom (codes "x")) (expressions (number 1 ∷ [])))) 9) (Ending.heap_full) 0 28
unfolding builds with_one with_count with_value no_clause_for makes_fun caught primop performs applies calls applies_named built_in
no_fun_and_no_heap = (refl, refl, refl)

a_letrec_captures : Ends (run (main (let_in (codes "N" ∷ []) (number 5) (Expression.Letrec here (definitions (definition (codes "add") (codes "X" ∷ []) (call (codes "+") (variable (codes "X") ∷ variable (codes "N") ∷ [])) ∷ [])) (apply (codes "add") (number 2 ∷ []))))) 9) (one (int 7)) 0 56
unfolding builds with_one with_count with_value no_clause_for makes_fun caught primop performs applies calls applies_named built_in
a_letrec_captures = (refl, refl, refl)

a_name_as_a_value_builds_a_fun : Ends (run (main (let_in (codes "N" ∷ []) (number 5) (Expression.Letrec here (definitions (definition (codes "add") (codes "X" ∷ []) (variable (codes "N")) ∷ [])) (Expression.Name here (name (codes "add") 1))))) 9) (one (fun 1 (more (int 5) none))) 3 40
unfolding builds with_one with_count with_value no_clause_for makes_fun caught primop performs applies calls applies_named built_in
a_name_as_a_value_builds_a_fun = (refl, refl, refl)

a_hidden_variable_is_captured_too : Ends (run (main (let_in (codes "X" ∷ []) (number 1) (Expression.Letrec here (definitions (definition (codes "f") [] (variable (codes "X")) ∷ [])) (let_in (codes "X" ∷ []) (number 2) (Expression.Lambda here here [] (a_tuple (variable (codes "X") ∷ apply (codes "f") [] ∷ []))))))) 9) (one (fun 2 (more (int 2) (more (int 1) none)))) 4 68
unfolding builds with_one with_count with_value no_clause_for makes_fun caught primop performs applies calls applies_named built_in
a_hidden_variable_is_captured_too = (refl, refl, refl)

the_argument_of_a_call : Ends (run_in (module_with (definition (codes "id") (codes "X" ∷ []) (variable (codes "X")) ∷ [])) (unlimited (program_of (module_with (definition (codes "id") (codes "X" ∷ []) (variable (codes "X")) ∷ [])))) (codes "id") (word (codes "a") ∷ []) 0 9) (one (word (codes "a"))) 0 24
unfolding builds with_one with_count with_value no_clause_for makes_fun caught primop performs applies calls applies_named built_in
the_argument_of_a_call = (refl, refl, refl)

-- ---- recursion: frames stand on one another, but for applications in tail position

-- the sum of the numbers from n down
abbrev sum_of : ℕ → Module
sum_of n =
    module_with (
    definition (codes "main") [] (apply (codes "sum") (number n ∷ []))
    ∷ definition (codes "sum") (codes "N" ∷ []) (case_of (variable (codes "N"))
    (clause (the 0 ∷ []) (number 0)
    ∷ clause (any (codes "M") ∷ []) (let_in (codes "R" ∷ []) (apply (codes "sum") (call (codes "-") (variable (codes "M") ∷ number 1 ∷ []) ∷ [])) (call (codes "+") (variable (codes "M") ∷ variable (codes "R") ∷ []))) ∷ []))
    ∷ [])

a_sum : Ends (run (sum_of 5) 20) (one (int 15)) 0 576
unfolding builds with_one with_count with_value no_clause_for makes_fun caught primop performs applies calls applies_named built_in
a_sum = (refl, refl, refl)

a_sum_without_fuel : Ends (run (sum_of 5) 3) (Ending.fuel_spent) 0 288
unfolding builds with_one with_count with_value no_clause_for makes_fun caught primop performs applies calls applies_named built_in
a_sum_without_fuel = (refl, refl, refl)

a_sum_without_stack : Ends (under 0 480 (sum_of 5) 20) (Ending.stack_full) 0 480
unfolding builds with_one with_count with_value no_clause_for makes_fun caught primop performs applies calls applies_named built_in
a_sum_without_stack = (refl, refl, refl)

-- counts down to 0
abbrev count_from : ℕ → Module
count_from n =
    module_with (
    definition (codes "main") [] (apply (codes "count") (number n ∷ []))
    ∷ definition (codes "count") (codes "N" ∷ []) (case_of (variable (codes "N"))
    (clause (the 0 ∷ []) (an_atom (codes "done"))
    ∷ clause (any (codes "M") ∷ []) (apply (codes "count") (call (codes "-") (variable (codes "M") ∷ number 1 ∷ []) ∷ [])) ∷ []))
    ∷ [])

a_tail_loop : Ends (under 0 76 (count_from 6) 20) (one (word (codes "done"))) 0 76
unfolding builds with_one with_count with_value no_clause_for makes_fun caught primop performs applies calls applies_named built_in
a_tail_loop = (refl, refl, refl)

a_tail_loop_without_stack : Ends (under 0 75 (count_from 6) 20) (Ending.stack_full) 0 28
unfolding builds with_one with_count with_value no_clause_for makes_fun caught primop performs applies calls applies_named built_in
a_tail_loop_without_stack = (refl, refl, refl)

-- the factorial, in the form in which erlc writes it
abbrev factorial : Module
factorial =
    module_with (
    definition (codes "fact") (codes "_0" ∷ []) (case_of (variable (codes "_0"))
    (clause (the 0 ∷ []) (number 1)
    ∷ clause (any (codes "N") ∷ []) (let_in (codes "_1" ∷ []) (call (codes "-") (variable (codes "N") ∷ number 1 ∷ [])) (let_in (codes "_2" ∷ []) (apply (codes "fact") (variable (codes "_1") ∷ [])) (call (codes "*") (variable (codes "N") ∷ variable (codes "_2") ∷ []))))
    ∷ clause (any (codes "_3") ∷ []) (primop_of (codes "match_fail") (a_tuple (an_atom (codes "function_clause") ∷ variable (codes "_3") ∷ []) ∷ [])) ∷ []))
    ∷ [])

abbrev factorial_of : Term → Run
factorial_of t = run_in factorial (unlimited (program_of factorial)) (codes "fact") (t ∷ []) 0 20

factorial_of_ten : Ends (factorial_of (int 10)) (one (int 3628800)) 0 1496
unfolding builds with_one with_count with_value no_clause_for makes_fun caught primop performs applies calls applies_named built_in
factorial_of_ten = (refl, refl, refl)

factorial_of_an_atom : Ends (factorial_of (word (codes "a"))) (failing (codes "badarith")) 0 136
unfolding builds with_one with_count with_value no_clause_for makes_fun caught primop performs applies calls applies_named built_in
factorial_of_an_atom = (refl, refl, refl)

-- ---- the texts of runs

abbrev names_in : Module → Names
names_in m = shown_names (program_of m)

abbrev displays : Expression → Module
displays e = main (call (codes "display") (e ∷ []))

what_is_displayed : printed_lines (names_in (displays (an_atom (codes "a b")))) (run (displays (an_atom (codes "a b"))) 9).state.printed ≡ codes "'a b'\n"
unfolding builds with_one with_count with_value no_clause_for makes_fun caught primop performs applies calls applies_named built_in lib.Utf8.encode
what_is_displayed = refl

its_result : result_line (names_in (displays nothing)) (run (displays nothing) 9).ending ≡ Some (codes "value 'true'\n")
unfolding builds with_one with_count with_value no_clause_for makes_fun caught primop performs applies calls applies_named built_in lib.Utf8.encode
its_result = refl

abbrev throws : Module
throws = main (call (codes "throw") (a_tuple (an_atom (codes "x") ∷ nothing ∷ []) ∷ []))

what_is_thrown : result_line (names_in throws) (run throws 9).ending ≡ Some (codes "throw {'x',[]}\n")
unfolding builds with_one with_count with_value no_clause_for makes_fun caught primop performs applies calls applies_named built_in lib.Utf8.encode
what_is_thrown = refl

no_line : result_line (names_in (sum_of 5)) (run (sum_of 5) 3).ending ≡ None
unfolding builds with_one with_count with_value no_clause_for makes_fun caught primop performs applies calls applies_named built_in lib.Utf8.encode
no_line = refl
