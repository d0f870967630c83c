-- What waits takes nothing back.
use Rattle.std.proofs.Common.{ℕ, List, [], ◌∷◌, ◌++◌, Option, Some, None, length}
use Rattle.hipe_terms.specs.Terms.{Term}
use Rattle.core_ast.specs.declared.pattern.Var.{Var}
use Rattle.core_ast.specs.Trees.{Expression, Expressions, Clauses}
use Rattle.core_meaning.specs.Scopes.{names}
use Rattle.core_meaning.specs.Procedures.{Program}
use Rattle.core_meaning.specs.Meaning.{State, Ending, Context, with, is_true, causes, function_of}
use Rattle.core_meaning.specs.Laws.{Grown, NextGrows, HandlerGrows}
use Rattle.core_meaning.specs.Source.{unlimited}
use Rattle.core_meaning.proofs.Growth.{grown_refl, bool_grows, builds_grow, one_grows, count_grows, caught_grows, primop_grows, applies_grows, applies_named_grows, calls_grows, grows, all_grow, choose_grows}
use Rattle.eval_run.specs.declared.frame.Frame.{Frame}
use Rattle.eval_run.specs.declared.frame.Frame.TheVariants as Frames
use Rattle.eval_run.specs.Waiting.{Waiting, at_end, Purpose, for_tuple, for_list, for_values, for_name, for_value, for_call, for_primop, calls_by_fuel, evaluates, chooses, tail_waits, reaches, evaluates_parts, parts_wait, operator_waits, binds, let_waits, case_waits, guard_waits, handles, try_waits, do_waits, catch_waits}
use Rattle.eval_run.specs.Configurations.{frame_waits, frames_above, frames_wait}
use Rattle.eval_run.proofs.Fuel.{by_fuel_grows}

pub record Grows (w : Waiting) : Type 0 where
  pub handler : HandlerGrows w.handler
  pub next : NextGrows w.next

module _ (program : Program) where
  evaluates_grows : (e : Expression) (c : Context) (s : State) (w : Waiting) → Grows w → Grown s (evaluates program e c s w)
  unfolding evaluates
  evaluates_grows e c s w g = grows program (unlimited program) (calls_by_fuel program) (by_fuel_grows program) e c s w.handler w.next g.handler g.next

  chooses_grows : (cs : Clauses) (ts : List Term) (c : Context) (s : State) (w : Waiting) → Grows w → Grown s (chooses program cs ts c s w)
  unfolding chooses
  chooses_grows cs ts c s w g = choose_grows program (unlimited program) (calls_by_fuel program) (by_fuel_grows program) cs ts c s w.handler w.next g.handler g.next

  tail_grows : (ts : List Term) (w : Waiting) → Grows w → Grows (tail_waits program ts w)
  unfolding tail_waits
  tail_grows ts w g = record { handler = g.handler; next = λ us s. one_grows us s _ (λ u s. builds_grow (unlimited program) _ s _ (λ s. g.next _ s)) }

  reaches_grows : (p : Purpose) (ts : List Term) (s : State) (w : Waiting) → Grows w → Grown s (reaches program p ts s w)
  unfolding reaches
  reaches_grows for_tuple ts s w g = builds_grow (unlimited program) _ s _ (λ s. g.next _ s)
  reaches_grows (for_list e c) ts s w g = evaluates_grows e c s (tail_waits program ts w) (tail_grows ts w g)
  reaches_grows for_values ts s w g = g.next ts s
  reaches_grows (for_name f c) ts s w g = applies_named_grows program (unlimited program) (calls_by_fuel program) (by_fuel_grows program) (function_of f c) ts c.depth s w.handler w.next g.handler g.next
  reaches_grows (for_value t d) ts s w g = applies_grows program (unlimited program) (calls_by_fuel program) (by_fuel_grows program) t ts d s w.handler w.next g.handler g.next
  reaches_grows (for_call m f d) ts s w g = calls_grows program (unlimited program) (calls_by_fuel program) (by_fuel_grows program) m f ts d s w.handler w.next g.handler g.next
  reaches_grows (for_primop f) ts s w g = primop_grows f ts s w.handler w.next g.handler g.next

  all_grows : (es : Expressions) (c : Context) (p : Purpose) (done : List Term) (s : State) (w : Waiting) → Grows w → Grown s (evaluates_parts program es c p done s w)
  unfolding evaluates_parts
  all_grows es c p done s w g = all_grow program (unlimited program) (calls_by_fuel program) (by_fuel_grows program) es c s w.handler _ g.handler (λ ts s. reaches_grows p (done ++ ts) s w g)

  parts_grow : (es : Expressions) (done : List Term) (c : Context) (p : Purpose) (w : Waiting) → Grows w → Grows (parts_wait program es done c p w)
  unfolding parts_wait
  parts_grow es done c p w g = record { handler = g.handler; next = λ us s. one_grows us s _ (λ t s. all_grows es c p (done ++ t ∷ []) s w g) }

  operator_grows : (es : Expressions) (c : Context) (d : ℕ) (w : Waiting) → Grows w → Grows (operator_waits program es c d w)
  unfolding operator_waits
  operator_grows es c d w g = record { handler = g.handler; next = λ us s. one_grows us s _ (λ t s. all_grows es c (for_value t d) [] s w g) }

  binds_grows : (xs : List Var) (body : Expression) (c : Context) (ts : List Term) (s : State) (w : Waiting) → Grows w → Grown s (binds program xs body c ts s w)
  unfolding binds
  binds_grows xs body c ts s w g = count_grows (length xs) ts s _ (evaluates_grows body (with (names xs) ts c) s w g)

  let_grows : (xs : List Var) (body : Expression) (c : Context) (w : Waiting) → Grows w → Grows (let_waits program xs body c w)
  unfolding let_waits
  let_grows xs body c w g = record { handler = g.handler; next = λ ts s. binds_grows xs body c ts s w g }

  case_grows : (cs : Clauses) (c : Context) (w : Waiting) → Grows w → Grows (case_waits program cs c w)
  unfolding case_waits
  case_grows cs c w g = record { handler = g.handler; next = λ ts s. chooses_grows cs ts c s w g }

  guard_grows : (body : Expression) (cs : Clauses) (ts : List Term) (c d : Context) (w : Waiting) → Grows w → Grows (guard_waits program body cs ts c d w)
  unfolding guard_waits
  guard_grows body cs ts c d w g =
      record {
        handler = λ class reason s. chooses_grows cs ts c s w g;
        next = λ gs s. one_grows gs s _ (λ t s. bool_grows (is_true t) s _ _ (evaluates_grows body d s w g) (chooses_grows cs ts c s w g));
      }

  handles_grows : (ys : List Var) (handler : Expression) (d : Context) (o : Option (List Term)) (s : State) (w : Waiting) → Grows w → Grown s (handles program ys handler d o s w)
  unfolding handles
  handles_grows ys handler d None s w g = grown_refl Ending.stuck s
  handles_grows ys handler d (Some ts) s w g = evaluates_grows handler (with (names ys) ts d) s w g

  try_grows : (xs : List Var) (body : Expression) (c : Context) (ys : List Var) (handler : Expression) (d : Context) (w : Waiting) → Grows w → Grows (try_waits program xs body c ys handler d w)
  unfolding try_waits
  try_grows xs body c ys handler d w g =
      record { handler = λ class reason s. handles_grows ys handler d (causes class reason (length ys)) s w g; next = λ ts s. binds_grows xs body c ts s w g }

  do_grows : (second : Expression) (c : Context) (w : Waiting) → Grows w → Grows (do_waits program second c w)
  unfolding do_waits
  do_grows second c w g = record { handler = g.handler; next = λ ts s. evaluates_grows second c s w g }

  catch_grows : (w : Waiting) → Grows w → Grows (catch_waits program w)
  unfolding catch_waits
  catch_grows w g = record { handler = λ class reason s. caught_grows (unlimited program) class reason s w.next g.next; next = λ ts s. one_grows ts s _ (λ t s. g.next (t ∷ []) s) }

  frame_grows : (f : Frame) (w : Waiting) → Grows w → Grows (frame_waits program f w)
  frame_grows (Frames.Parts rest done c goal) w g = parts_grow _ _ _ _ w g
  frame_grows (Frames.Tail done) w g = tail_grows _ w g
  frame_grows (Frames.Operator args c d) w g = operator_grows _ _ d w g
  frame_grows (Frames.Let xs body c) w g = let_grows _ _ _ w g
  frame_grows (Frames.Case cs c) w g = case_grows _ _ w g
  frame_grows (Frames.Guard body cs vs c d) w g = guard_grows _ _ _ _ _ w g
  frame_grows (Frames.Try xs body c ys handler d) w g = try_grows _ _ _ _ _ _ w g
  frame_grows (Frames.Do second c) w g = do_grows _ _ w g
  frame_grows Frames.Catch w g = catch_grows w g

  above_grow : (fs : List Frame) (w : Waiting) → Grows w → Grows (frames_above program fs w)
  above_grow [] w g = g
  above_grow (f ∷ fs) w g = above_grow fs (frame_waits program f w) (frame_grows f w g)

  pub end_grows : Grows at_end
  end_grows = record { handler = λ class reason s. grown_refl (Ending.raised class reason) s; next = λ ts s. grown_refl (Ending.values ts) s }

  pub frames_grow : (fs : List Frame) → Grows (frames_wait program fs)
  unfolding frames_wait
  frames_grow fs = above_grow fs at_end end_grows
