-- What an expression means: what it prints, how many words it builds, how much of the stack it claims, what it spends, and how it ends.
--
-- The meaning of each construct says what comes next with its values, and what comes next where a class is raised. It is the meaning with
-- limits on the heap and the stack, and where no limit is given it is the whole meaning.
use Rattle.std.specs.Prelude.{ℕ, zero, suc, ◌+◌, ◌==◌, max, nat_lt, Bool, true, false, if◌then◌else◌, List, [], ◌∷◌, ◌++◌, length, codes, slice_get, Option, Some, None, bytes_eq}
use Rattle.std.specs.List.{list_any}
use Rattle.hipe_terms.specs.Terms.{Term, integer, atom, nil, tuple, fun, more, terms, listed, cells}
use Rattle.hipe_terms.specs.Bifs.{built_in}
use Rattle.hipe_terms.specs.Words.{list_words, tuple_words}
use Rattle.hipe_terms.specs.Outcome.{End, Outcome, bif_outcome}
use Rattle.hipe_terms.specs.declared.class.Class.{Class}
use Rattle.hipe_terms.specs.declared.class.Class.TheVariants.{Error, Exit, Throw}
use Rattle.hipe_terms.specs.declared.primop.Primop.{Primop}
use Rattle.hipe_terms.specs.declared.primop.Primop.TheVariants.{Raise, MatchFail, BuildStacktrace}
use Rattle.hipe_terms.specs.Classes.{class_name, class_named}
use Rattle.hipe_terms.specs.Primops.{primop_named}
use Rattle.core_ast.specs.declared.tree.FunName.{FunName}
use Rattle.core_ast.specs.Trees.{Expression, Expressions, no_expression, and_expression, Clauses, no_clause, and_clause, Definitions}
use Rattle.core_ast.specs.Nodes.{patterns_nodes}
use Rattle.core_ast.specs.Names.{is_named}
use Rattle.core_ast.specs.Degrees.{count, count_patterns}
use Rattle.core_meaning.specs.Scopes.{Known, Scope, slot_of, known_of, names, binding, bound_by, count_definitions, captured_by_fun, funs, funs_in_all, funs_in_definitions, letrec_scope}
use Rattle.core_meaning.specs.Procedures.{Procedure, Program}
use Rattle.core_meaning.specs.Matching.{matched_all}

-- ---- what a run counts, and how it ends

pub record State : Type 0 where
  -- how many functions may still be entered
  pub fuel : ℕ
  -- the words that were built, and the greatest claim on the stack
  pub words : ℕ
  pub claim : ℕ
  pub printed : List Term
  -- evaluated parts with their direct parts, tested patterns, captured values and arguments
  pub work : ℕ

-- `stuck` is how no good module's run ends: a name that is not in scope, or a number of values that does not fit.
pub data Ending : Type 0 where
  values : List Term → Ending
  raised : (class : Class) (reason : Term) → Ending
  fuel_spent : Ending
  heap_full : Ending
  stack_full : Ending
  stuck : Ending

pub record Run : Type 0 where
  pub ending : Ending
  pub state : State

abbrev pub ends : Ending → State → Run
ends e s = record { ending = e; state = s }

-- the most words of the heap and of the stack, where there is a most, and the words of the stack that an activation of each function takes
pub record Limits : Type 0 where
  pub heap : Option ℕ
  pub stack : Option ℕ
  pub frame : ℕ → ℕ

-- what comes next: with values, and where a class is raised
abbrev pub Next : Type 0
Next = List Term → State → Run

abbrev pub Handler : Type 0
Handler = Class → Term → State → Run

-- an application: the number of the function, its captured values, its arguments, and the depth at which it stands on the stack
abbrev pub Calls : Type 0
Calls = ℕ → List Term → List Term → ℕ → State → Handler → Next → Run

-- ---- counting

abbrev pub passes : ℕ → Option ℕ → Bool
passes n None = false
passes n (Some most) = nat_lt most n

abbrev pub worked : ℕ → State → State
worked n s = record s { work = s.work + n }

abbrev pub printing : List Term → State → State
printing ts s = record s { printed = s.printed ++ ts }

-- an activation that reaches up to this depth, with so many captured values
abbrev pub entering : (top captured : ℕ) → State → State
entering top captured s = record s { claim = max s.claim top; work = s.work + captured }

-- goes on with so many more words, where the heap has them
unfoldable pub builds : Limits → ℕ → State → (State → Run) → Run
builds limits n s go = if passes (s.words + n) limits.heap then ends Ending.heap_full s else go (record s { words = s.words + n })

-- ---- where an expression stands

-- The scope and the values by slot; the number of the first fun in the expression; the depth behind the activation's own frame, and the depth
-- at which an application stands there, which is less in a tail position.
pub record Context : Type 0 where
  pub scope : Scope
  pub bound : List Term
  pub number : ℕ
  pub inner : ℕ
  pub depth : ℕ

-- the context of a part that is in no tail position
abbrev pub part : Context → Context
part c = record c { depth = c.inner }

-- the context behind so many funs
abbrev pub behind : ℕ → Context → Context
behind n c = record c { number = c.number + n }

-- the context where these variables are bound too
abbrev pub with : List (List ℕ) → List Term → Context → Context
with xs ts c = record c { scope = binding (length c.bound) xs c.scope; bound = c.bound ++ ts }

-- the context where the functions of a `letrec` are known too, behind them
abbrev pub with_functions : Definitions → Context → Context
with_functions ds c = record c { scope = letrec_scope c.number ds c.scope; number = c.number + funs_in_definitions ds }

abbrev pub value_in : List Term → Option ℕ → Option Term
value_in ts None = None
value_in ts (Some i) = slice_get ts i

abbrev pub value_of : List ℕ → Context → Option Term
value_of x c = value_in c.bound (slot_of x c.scope)

abbrev pub both : Option Term → Option (List Term) → Option (List Term)
both (Some t) (Some ts) = Some (t ∷ ts)
both t ts = None

-- the values in these slots
abbrev pub values_in : List Term → List ℕ → Option (List Term)
values_in ts [] = Some []
values_in ts (i ∷ is) = both (slice_get ts i) (values_in ts is)

abbrev pub function_in : List Term → Option Known → Option (ℕ × List Term)
function_in ts None = None
function_in ts (Some f) = elim (values_in ts f.captured) [ None ↦ None | Some us ↦ Some (f.number, us) ]

-- the number of the function of this name, and the values that it captured
abbrev pub function_of : FunName → Context → Option (ℕ × List Term)
function_of f c = function_in c.bound (known_of f c.scope)

-- ---- values and what is raised

abbrev pub named : List ℕ → Term
named a = atom a

abbrev pub pair : Term → Term → Term
pair t u = tuple (terms (t ∷ u ∷ []))

abbrev pub fails : List ℕ → State → Handler → Run
fails reason s r = r Error (atom reason) s

-- goes on with the only value
unfoldable pub with_one : List Term → State → (Term → State → Run) → Run
with_one (t ∷ []) s go = go t s
with_one ts s go = ends Ending.stuck s

-- goes on where there are so many values
unfoldable pub with_count : ℕ → List Term → State → Run → Run
with_count n ts s run = if length ts == n then run else ends Ending.stuck s

unfoldable pub with_value : Option Term → State → Next → Run
with_value None s k = ends Ending.stuck s
with_value (Some t) s k = k (t ∷ []) s

abbrev pub class_atom : Class → Term
class_atom class = atom (class_name class)

abbrev pub class_of : Term → Option Class
class_of (atom a) = class_named a
class_of t = None

abbrev pub is_true : Term → Bool
is_true (atom a) = bytes_eq a (codes "true")
is_true t = false

-- no clause was chosen
unfoldable pub no_clause_for : Limits → List Term → State → Handler → Run
no_clause_for limits (t ∷ []) s r = builds limits (tuple_words 2) s (λ s. r Error (pair (atom (codes "case_clause")) t) s)
no_clause_for limits ts s r = builds limits (tuple_words 2 + tuple_words (length ts)) s (λ s. r Error (pair (atom (codes "case_clause")) (tuple (terms ts))) s)

-- a fun as a value, with what it captured
unfoldable pub makes_fun : Limits → ℕ → Option (List Term) → State → Next → Run
makes_fun limits n None s k = ends Ending.stuck s
makes_fun limits n (Some ts) s k = builds limits (length ts + 2) (worked (length ts) s) (λ s. k (fun n (terms ts) ∷ []) s)

abbrev pub makes_named : Limits → Option (ℕ × List Term) → State → Next → Run
makes_named limits None s k = ends Ending.stuck s
makes_named limits (Some f) s k = makes_fun limits f.0 (Some f.1) s k

-- what `catch` gives where a class is raised
unfoldable pub caught : Limits → Class → Term → State → Next → Run
caught limits Throw t s k = k (t ∷ []) s
caught limits Exit t s k = builds limits (tuple_words 2) s (λ s. k (pair (atom (codes "EXIT")) t ∷ []) s)
caught limits Error t s k = builds limits (tuple_words 2 + tuple_words 2) s (λ s. k (pair (atom (codes "EXIT")) (pair t nil) ∷ []) s)

-- what the variables of `catch` in a `try` are bound to: class, reason and, where there are three, the trace
abbrev pub causes : Class → Term → ℕ → Option (List Term)
causes class reason (suc (suc zero)) = Some (class_atom class ∷ reason ∷ [])
causes class reason (suc (suc (suc zero))) = Some (class_atom class ∷ reason ∷ class_atom class ∷ [])
causes class reason n = None

-- ---- primitive operations

abbrev pub raises_as : Option Class → Term → State → Handler → Run
raises_as (Some class) reason s r = r class reason s
raises_as None reason s r = fails (codes "badarg") s r

-- `raise`: the class and the reason
abbrev pub raise : List Term → State → Handler → Run
raise (t ∷ reason ∷ []) s r = raises_as (class_of t) reason s r
raise ts s r = ends Ending.stuck s

abbrev pub is_function_clause : Term → Bool
is_function_clause (tuple (more (atom a) ts)) = bytes_eq a (codes "function_clause")
is_function_clause t = false

-- `match_fail`: the reason, which stands in a tuple where no clause of a function matched
abbrev pub match_fail : List Term → State → Handler → Run
match_fail (t ∷ []) s r = if is_function_clause t then fails (codes "function_clause") s r else r Error t s
match_fail ts s r = ends Ending.stuck s

-- `build_stacktrace`: there are no traces
abbrev pub build_stacktrace : List Term → State → Next → Run
build_stacktrace (t ∷ []) s k = k (nil ∷ []) s
build_stacktrace ts s k = ends Ending.stuck s

abbrev pub operation : Option Primop → List Term → State → Handler → Next → Run
operation None ts s r k = ends Ending.stuck s
operation (Some Raise) ts s r k = raise ts s r
operation (Some MatchFail) ts s r k = match_fail ts s r
operation (Some BuildStacktrace) ts s r k = build_stacktrace ts s k

-- the operation with this name
unfoldable pub primop : List ℕ → List Term → State → Handler → Next → Run
primop f ts s r k = operation (primop_named f) ts s r k

-- ---- applications

abbrev pub count_clauses : Clauses → ℕ
count_clauses no_clause = 0
count_clauses (and_clause p ps guard body cs) = suc (count_clauses cs)

-- the pattern nodes of all clauses
abbrev pub tested_nodes : Clauses → ℕ
tested_nodes no_clause = 0
tested_nodes (and_clause p ps guard body cs) = patterns_nodes ps + tested_nodes cs

-- the name of a function that is applied to as many arguments as it has parameters
abbrev pub direct : Expression → ℕ → Option FunName
direct (Expression.Name p f) n = if f.arity == n then Some f else None
direct e n = None

abbrev pub parameters_of : Option Procedure → ℕ
parameters_of None = 0
parameters_of (Some f) = length f.parameters

-- the number of parameters of the function of this number
abbrev pub arity_of : Program → ℕ → ℕ
arity_of program n = parameters_of (slice_get program.procedures n)

-- the number of the function of this name among some, counted from i
abbrev pub number_among : ℕ → FunName → List FunName → Option ℕ
number_among i f [] = None
number_among i f (g ∷ gs) = if is_named f g then Some i else number_among (suc i) f gs

-- the number of the function that the module exports under this name
abbrev pub exported : Program → FunName → Option ℕ
exported program f = if list_any (λ g. is_named f g) program.exports then number_among 0 f program.own else None

abbrev pub own_function : Program → (of name : List ℕ) → ℕ → Option ℕ
own_function program m f n = if bytes_eq m program.name then exported program (record { name = f; arity = n }) else None

unfoldable pub applies_named : Calls → Option (ℕ × List Term) → List Term → ℕ → State → Handler → Next → Run
applies_named call None ts d s r k = ends Ending.stuck s
applies_named call (Some f) ts d s r k = call f.0 f.1 ts d s r k

-- how a built-in function ends
abbrev pub comes_to : End → State → Handler → Next → Run
comes_to (End.value t) s r k = k (t ∷ []) s
comes_to (End.raised class reason) s r k = r class reason s

unfoldable pub performs : Limits → Outcome → State → Handler → Next → Run
performs limits o s r k = builds limits o.words (printing o.printed s) (λ s. comes_to o.end s r k)

module _ (program : Program) (limits : Limits) where
  -- a value is applied
  unfoldable pub applies : Calls → Term → List Term → ℕ → State → Handler → Next → Run
  applies call (fun n captured) ts d s r k =
      if arity_of program n == length ts then call n (listed captured) ts d s r k
      else builds limits (tuple_words 2 + tuple_words 2 + list_words (length ts)) s (λ s. r Error (pair (atom (codes "badarity")) (pair (fun n captured) (cells ts nil))) s)
  applies call t ts d s r k = builds limits (tuple_words 2) s (λ s. r Error (pair (atom (codes "badfun")) t) s)

  abbrev pub calls_own : Calls → Option ℕ → List Term → ℕ → State → Handler → Next → Run
  calls_own call (Some n) ts d s r k = call n [] ts d s r k
  calls_own call None ts d s r k = fails (codes "undef") s r

  -- a function of a module is called: the built-in functions are asked first, then the module's own
  unfoldable pub calls : Calls → (of name : List ℕ) → List Term → ℕ → State → Handler → Next → Run
  calls call m f ts d s r k =
      elim (built_in m f (length ts)) [ Some b ↦ performs limits (bif_outcome (arity_of program) b ts) s r k | None ↦ calls_own call (own_function program m f (length ts)) ts d s r k ]

  -- ---- expressions, from left to right

  abbrev mutual
    pub eval : Calls → Expression → Context → State → Handler → Next → Run
    eval call (Expression.Int p n) c s r k = k (integer n ∷ []) (worked 1 s)
    eval call (Expression.Atom p a) c s r k = k (atom a ∷ []) (worked 1 s)
    eval call (Expression.Nil p) c s r k = k (nil ∷ []) (worked 1 s)
    eval call (Expression.Variable p x) c s r k = with_value (value_of x c) (worked 1 s) k
    eval call (Expression.Name p f) c s r k = makes_named limits (function_of f c) (worked 1 s) k
    eval call (Expression.Tuple p parts) c s r k = eval_all call parts (part c) (worked (1 + count parts) s) r (λ ts s. builds limits (tuple_words (length ts)) s (λ s. k (tuple (terms ts) ∷ []) s))
    eval call (Expression.Cons p parts tail) c s r k =
        eval_all call parts (part c) (worked (2 + count parts) s) r (λ ts s. eval call tail (part (behind (funs_in_all parts) c)) s r (λ us s. with_one us s (λ u s. builds limits (list_words (length ts)) s (λ s. k (cells ts u ∷ []) s))))
    eval call (Expression.Values p parts) c s r k = eval_all call parts (part c) (worked (1 + count parts) s) r k
    eval call (Expression.Let p xs argument body) c s r k =
        eval call argument (part c) (worked (3 + length xs) s) r (λ ts s. with_count (length xs) ts s (eval call body (with (names xs) ts (behind (funs argument) c)) s r k))
    eval call (Expression.Case p argument cs) c s r k = eval call argument (part c) (worked (2 + count_clauses cs + tested_nodes cs) s) r (λ ts s. choose call cs ts (behind (funs argument) c) s r k)
    eval call (Expression.Lambda p q xs body) c s r k = makes_fun limits c.number (values_in c.bound (captured_by_fun c.scope (names xs) body)) (worked 2 s) k
    eval call (Expression.Letrec p ds body) c s r k = eval call body (with_functions ds c) (worked (2 + count_definitions ds) s) r k
    eval call (Expression.Apply p f args) c s r k =
        elim (direct f (count args)) [
          | Some g ↦ eval_all call args (part (behind (funs f) c)) (worked (2 + count args) s) r (λ ts s. applies_named call (function_of g c) ts c.depth s r k)
          | None ↦ eval call f (part c) (worked (2 + count args) s) r (λ fs s. with_one fs s (λ t s. eval_all call args (part (behind (funs f) c)) s r (λ ts s. applies call t ts c.depth s r k)))
        ]
    eval call (Expression.Call p m f args) c s r k = eval_all call args (part c) (worked (1 + count args) s) r (λ ts s. calls call m f ts c.depth s r k)
    eval call (Expression.Primop p f args) c s r k = eval_all call args (part c) (worked (1 + count args) s) r (λ ts s. primop f ts s r k)
    eval call (Expression.Try p tried xs body ys handler) c s r k =
        eval call tried (part c) (worked (4 + length xs + length ys) s)
        (λ class reason s. elim (causes class reason (length ys)) [ None ↦ ends Ending.stuck s | Some ts ↦ eval call handler (with (names ys) ts (behind (funs tried + funs body) c)) s r k ])
        (λ ts s. with_count (length xs) ts s (eval call body (with (names xs) ts (behind (funs tried) c)) s r k))
    eval call (Expression.Do p first second) c s r k = eval call first (part c) (worked 3 s) r (λ ts s. eval call second (behind (funs first) c) s r k)
    eval call (Expression.Catch p caught_part) c s r k = eval call caught_part (part c) (worked 2 s) (λ class reason s. caught limits class reason s k) (λ ts s. with_one ts s (λ t s. k (t ∷ []) s))

    -- each has one value
    pub eval_all : Calls → Expressions → Context → State → Handler → Next → Run
    eval_all call no_expression c s r k = k [] s
    eval_all call (and_expression e es) c s r k = eval call e c s r (λ us s. with_one us s (λ t s. eval_all call es (behind (funs e) c) s r (λ ts s. k (t ∷ ts) s)))

    -- The first clause whose patterns all match and whose guard is true. A guard that raises, or has another value, fails its clause.
    pub choose : Calls → Clauses → List Term → Context → State → Handler → Next → Run
    choose call no_clause ts c s r k = no_clause_for limits ts s r
    choose call (and_clause p ps guard body cs) ts c s r k =
        with_count (count_patterns ps) ts s
        (elim (matched_all ps (terms ts)) [
          | None ↦ choose call cs ts (behind (funs guard + funs body) c) s r k
          | Some us ↦
              eval call guard (part (with (bound_by ps) us c)) s
              (λ class reason s. choose call cs ts (behind (funs guard + funs body) c) s r k)
              (λ gs s. with_one gs s (λ g s. elim (is_true g) [ true ↦ eval call body (with (bound_by ps) us (behind (funs guard) c)) s r k | false ↦ choose call cs ts (behind (funs guard + funs body) c) s r k ]))
        ])

  -- ---- functions

  abbrev pub at_entry : Procedure → List Term → List Term → ℕ → ℕ → Context
  at_entry f captured ts inner d = record { scope = binding f.captured f.parameters f.scope; bound = captured ++ ts; number = f.first; inner = inner; depth = d }

  -- a body is entered, where n is the function's number and d the depth at which it stands: it claims its frame
  abbrev pub enters : Calls → ℕ → Option Procedure → List Term → List Term → ℕ → State → Handler → Next → Run
  enters call n None captured ts d s r k = ends Ending.stuck s
  enters call n (Some f) captured ts d s r k =
      with_count (length f.parameters) ts s
      (if passes (d + limits.frame n) limits.stack then ends Ending.stack_full s
      else eval call f.body (at_entry f captured ts (d + limits.frame n) d) (entering (d + limits.frame n) (length captured) s) r k)

  -- Applications at most so deep. Each spends one unit of fuel, and none is made where there is none.
  abbrev pub calls_within : ℕ → Calls
  calls_within zero n captured ts d s r k = ends Ending.fuel_spent s
  calls_within (suc b) n captured ts d s r k =
      elim s.fuel [ zero ↦ ends Ending.fuel_spent s | suc fuel ↦ enters (calls_within b) n (slice_get program.procedures n) captured ts d (record s { fuel = fuel }) r k ]
