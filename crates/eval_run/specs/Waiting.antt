-- What waits for the values of an expression: what comes next with them, and what comes next where a class is raised.
--
-- Each part of an expression that waits is a pair of these, given those of what waits below it. Together with what is done next they say how
-- the run goes on, by the definition of the language alone.
use Rattle.std.specs.Prelude.{ℕ, ◌+◌, true, false, Option, Some, None, List, [], ◌∷◌, ◌++◌, length}
use Rattle.hipe_terms.specs.Terms.{Term, tuple, terms, cells}
use Rattle.hipe_terms.specs.Words.{list_words, tuple_words}
use Rattle.hipe_terms.specs.declared.class.Class.{Class}
use Rattle.core_ast.specs.declared.pattern.Var.{Var}
use Rattle.core_ast.specs.declared.tree.FunName.{FunName}
use Rattle.core_ast.specs.Trees.{Expression, Expressions, Clauses}
use Rattle.core_meaning.specs.Scopes.{names, funs}
use Rattle.core_meaning.specs.Procedures.{Procedure, Program}
use Rattle.core_meaning.specs.Meaning.{State, Ending, Run, ends, Context, Next, Handler, Calls, builds, part, behind, worked, with, with_one, with_count, is_true, causes, caught, primop, applies_named, applies, calls, function_of, eval, eval_all, choose, enters, calls_within}
use Rattle.core_meaning.specs.Source.{unlimited}

pub record Waiting : Type 0 where
  pub handler : Handler
  pub next : Next

-- nothing waits: the run ends
abbrev pub at_end : Waiting
at_end = record { handler = λ class reason s. ends (Ending.raised class reason) s; next = λ ts s. ends (Ending.values ts) s }

-- what the values of a list of parts are for
pub data Purpose : Type 0 where
  for_tuple : Purpose
  -- the elements of a list before this tail
  for_list : (tail : Expression) (context : Context) → Purpose
  for_values : Purpose
  -- the arguments of a function by its name, of a value, of a module's function, and of a primitive operation
  for_name : (name : FunName) (context : Context) → Purpose
  for_value : (value : Term) (depth : ℕ) → Purpose
  for_call : (of name : List ℕ) (depth : ℕ) → Purpose
  for_primop : (name : List ℕ) → Purpose

-- Applications, each with at most as many below it as there is fuel: no run makes more.
unfoldable pub calls_by_fuel : Program → Calls
calls_by_fuel program n captured ts d s r k = calls_within program (unlimited program) s.fuel n captured ts d s r k

module _ (program : Program) where
  -- ---- expressions, lists of them, and clauses, where w waits

  unfoldable pub evaluates : Expression → Context → State → Waiting → Run
  evaluates e c s w = eval program (unlimited program) (calls_by_fuel program) e c s w.handler w.next

  unfoldable pub chooses : Clauses → List Term → Context → State → Waiting → Run
  chooses cs ts c s w = choose program (unlimited program) (calls_by_fuel program) cs ts c s w.handler w.next

  -- ---- what waits, and w below it

  -- the tail of a list of these elements
  unfoldable pub tail_waits : List Term → Waiting → Waiting
  tail_waits ts w = record { handler = w.handler; next = λ us s. with_one us s (λ u s. builds (unlimited program) (list_words (length ts)) s (λ s. w.next (cells ts u ∷ []) s)) }

  -- the function of this name is applied
  abbrev pub applies_name : FunName → Context → List Term → State → Waiting → Run
  applies_name f c ts s w = applies_named (calls_by_fuel program) (function_of f c) ts c.depth s w.handler w.next

  -- a value is applied at this depth
  abbrev pub applies_value : Term → List Term → (depth : ℕ) → State → Waiting → Run
  applies_value t ts d s w = applies program (unlimited program) (calls_by_fuel program) t ts d s w.handler w.next

  -- a function of a module is called at this depth
  abbrev pub calls_function : (of name : List ℕ) → List Term → (depth : ℕ) → State → Waiting → Run
  calls_function m f ts d s w = calls program (unlimited program) (calls_by_fuel program) m f ts d s w.handler w.next

  -- all is done with the values of a list of parts
  unfoldable pub reaches : Purpose → List Term → State → Waiting → Run
  reaches for_tuple ts s w = builds (unlimited program) (tuple_words (length ts)) s (λ s. w.next (tuple (terms ts) ∷ []) s)
  reaches (for_list tail c) ts s w = evaluates tail c s (tail_waits ts w)
  reaches for_values ts s w = w.next ts s
  reaches (for_name f c) ts s w = applies_name f c ts s w
  reaches (for_value t d) ts s w = applies_value t ts d s w
  reaches (for_call m f d) ts s w = calls_function m f ts d s w
  reaches (for_primop f) ts s w = primop f ts s w.handler w.next

  -- the parts are evaluated behind those that have these values, and all is done
  unfoldable pub evaluates_parts : Expressions → Context → Purpose → List Term → State → Waiting → Run
  evaluates_parts es c purpose done s w = eval_all program (unlimited program) (calls_by_fuel program) es c s w.handler (λ ts s. reaches purpose (done ++ ts) s w)

  -- a part of a list, with those behind it and the values of those before it
  unfoldable pub parts_wait : Expressions → List Term → Context → Purpose → Waiting → Waiting
  parts_wait es done c purpose w = record { handler = w.handler; next = λ us s. with_one us s (λ t s. evaluates_parts es c purpose (done ++ t ∷ []) s w) }

  -- what is applied to these arguments
  unfoldable pub operator_waits : Expressions → Context → ℕ → Waiting → Waiting
  operator_waits es c d w = record { handler = w.handler; next = λ fs s. with_one fs s (λ t s. evaluates_parts es c (for_value t d) [] s w) }

  -- what is applied is the name of a function with so many parameters, or a value
  abbrev pub applied_as : Option FunName → Expression → Expressions → ℕ → Context → State → Waiting → Run
  applied_as (Some g) f args n c s w = evaluates_parts args (part (behind (funs f) c)) (for_name g c) [] (worked (2 + n) s) w
  applied_as None f args n c s w = evaluates f (part c) (worked (2 + n) s) (operator_waits args (part (behind (funs f) c)) c.depth w)

  -- a body is evaluated where these variables are bound to values
  unfoldable pub binds : List Var → Expression → Context → List Term → State → Waiting → Run
  binds xs body c ts s w = with_count (length xs) ts s (evaluates body (with (names xs) ts c) s w)

  unfoldable pub let_waits : List Var → Expression → Context → Waiting → Waiting
  let_waits xs body c w = record { handler = w.handler; next = λ ts s. binds xs body c ts s w }

  unfoldable pub case_waits : Clauses → Context → Waiting → Waiting
  case_waits cs c w = record { handler = w.handler; next = λ ts s. chooses cs ts c s w }

  -- the guard of a clause with this body, in the context d; the clauses behind it are in c
  unfoldable pub guard_waits : Expression → Clauses → List Term → Context → Context → Waiting → Waiting
  guard_waits body cs ts c d w =
      record {
        handler = λ class reason s. chooses cs ts c s w;
        next = λ gs s. with_one gs s (λ g s. elim (is_true g) [ true ↦ evaluates body d s w | false ↦ chooses cs ts c s w ]);
      }

  -- the body behind `catch` is evaluated, where these causes are known
  unfoldable pub handles : List Var → Expression → Context → Option (List Term) → State → Waiting → Run
  handles ys handler d None s w = ends Ending.stuck s
  handles ys handler d (Some ts) s w = evaluates handler (with (names ys) ts d) s w

  -- the body behind `catch` is evaluated, where this class and reason were raised
  abbrev pub catches : List Var → Expression → Context → Class → Term → State → Waiting → Run
  catches ys handler d class reason s w = handles ys handler d (causes class reason (length ys)) s w

  unfoldable pub try_waits : List Var → Expression → Context → List Var → Expression → Context → Waiting → Waiting
  try_waits xs body c ys handler d w = record { handler = λ class reason s. catches ys handler d class reason s w; next = λ ts s. binds xs body c ts s w }

  unfoldable pub do_waits : Expression → Context → Waiting → Waiting
  do_waits second c w = record { handler = w.handler; next = λ ts s. evaluates second c s w }

  unfoldable pub catch_waits : Waiting → Waiting
  catch_waits w = record { handler = λ class reason s. caught (unlimited program) class reason s w.next; next = λ ts s. with_one ts s (λ t s. w.next (t ∷ []) s) }

  -- a function is entered
  unfoldable pub enters_with : ℕ → Option Procedure → List Term → List Term → ℕ → State → Waiting → Run
  enters_with n o captured ts d s w = enters program (unlimited program) (calls_by_fuel program) n o captured ts d s w.handler w.next
