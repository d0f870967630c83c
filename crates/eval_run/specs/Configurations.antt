-- What a configuration of the evaluator means: the run that goes on from what is done next, what waits for it, and the state so far. A step
-- of the evaluator keeps the meaning of its configuration, and so the run of the whole is the run from the start.
use Rattle.std.specs.Prelude.{◌≡◌, List, [], ◌∷◌, length, map, Result, IfOk}
use Rattle.hipe_terms.specs.Terms.{Term, cells}
use Rattle.hipe_terms.specs.Words.{list_words}
use Rattle.core_ast.specs.declared.tree.Expr.{Expr}
use Rattle.core_ast.specs.Trees.{expression_of, expressions, clause_of, clauses}
use Rattle.core_meaning.specs.Procedures.{Program}
use Rattle.core_meaning.specs.Meaning as Meant
use Rattle.core_meaning.specs.Meaning.{State, ends}
use Rattle.eval_contexts.specs.declared.context.Context.{Context}
use Rattle.eval_contexts.specs.Contexts.{context_in}
use Rattle.eval_contexts.specs.Programs.{program_in}
use Rattle.eval_values.specs.declared.value.Value.{Value}
use Rattle.eval_values.specs.Values.{term_in, terms_in}
use Rattle.eval_run.specs.Counting.{more_words}
use Rattle.eval_run.specs.Waiting.{Waiting, at_end, Purpose, for_tuple, for_list, for_values, for_name, for_value, for_call, for_primop, evaluates, evaluates_parts, chooses, tail_waits, parts_wait, operator_waits, let_waits, case_waits, guard_waits, try_waits, do_waits, catch_waits}
use Rattle.eval_run.specs.declared.frame.Goal.{Goal}
use Rattle.eval_run.specs.declared.frame.Goal.TheVariants as Goals
use Rattle.eval_run.specs.declared.frame.Frame.{Frame}
use Rattle.eval_run.specs.declared.frame.Frame.TheVariants as Frames
use Rattle.eval_run.specs.declared.frame.Ending.{Ending}
use Rattle.eval_run.specs.declared.frame.Ending.TheVariants as Endings
use Rattle.eval_run.specs.declared.frame.Control.{Control}
use Rattle.eval_run.specs.declared.frame.Control.TheVariants as Controls
use Rattle.eval_run.specs.declared.run.Run.{Run}
use Rattle.eval_run.specs.declared.run.Evaluator.{Evaluator}

-- what the values of a list of parts are for
abbrev pub purpose_in : Goal → Purpose
purpose_in Goals.Tuple = for_tuple
purpose_in (Goals.List e c) = for_list (expression_of e.now) (context_in c)
purpose_in Goals.Values = for_values
purpose_in (Goals.Name f c) = for_name f.now (context_in c)
purpose_in (Goals.Apply v d) = for_value (term_in v) d
purpose_in (Goals.Call m f d) = for_call m.now f.now d
purpose_in (Goals.Primop f) = for_primop f.now

-- how the run ends
abbrev pub ending_in : Ending → Meant.Ending
ending_in (Endings.Values vs) = Meant.Ending.values (terms_in vs)
ending_in (Endings.Raised class reason) = Meant.Ending.raised class (term_in reason)
ending_in Endings.FuelSpent = Meant.Ending.fuel_spent
ending_in Endings.Stuck = Meant.Ending.stuck

-- what was counted and printed
unfoldable pub state_in : Run → State
state_in r = record { fuel = r.counts.fuel; words = r.counts.words; claim = r.counts.claim; printed = terms_in r.printed.items; work = r.counts.work }

module _ (program : Program) where
  -- what waits in a frame, and w below it
  abbrev pub frame_waits : Frame → Waiting → Waiting
  frame_waits (Frames.Parts rest done c goal) w = parts_wait program (expressions (map expression_of rest.now)) (terms_in done) (context_in c) (purpose_in goal) w
  frame_waits (Frames.Tail done) w = tail_waits program (terms_in done) w
  frame_waits (Frames.Operator args c d) w = operator_waits program (expressions (map expression_of args.now)) (context_in c) d w
  frame_waits (Frames.Let xs body c) w = let_waits program xs.now (expression_of body.now) (context_in c) w
  frame_waits (Frames.Case cs c) w = case_waits program (clauses (map clause_of cs.now)) (context_in c) w
  frame_waits (Frames.Guard body cs vs c d) w = guard_waits program (expression_of body.now) (clauses (map clause_of cs.now)) (terms_in vs.now) (context_in c) (context_in d) w
  frame_waits (Frames.Try xs body c ys handler d) w = try_waits program xs.now (expression_of body.now) (context_in c) ys.now (expression_of handler.now) (context_in d) w
  frame_waits (Frames.Do second c) w = do_waits program (expression_of second.now) (context_in c) w
  frame_waits Frames.Catch w = catch_waits program w

  -- the frames above w, the lowest first
  abbrev pub frames_above : List Frame → Waiting → Waiting
  frames_above [] w = w
  frames_above (f ∷ fs) w = frames_above fs (frame_waits f w)

  unfoldable pub frames_wait : List Frame → Waiting
  frames_wait fs = frames_above fs at_end

  -- the run that goes on with what is done next
  abbrev pub control_run : Control → State → Waiting → Meant.Run
  control_run (Controls.Evaluate e c) s w = evaluates program (expression_of e.now) (context_in c) s w
  control_run (Controls.Value v) s w = w.next (term_in v ∷ []) s
  control_run (Controls.Values vs) s w = w.next (terms_in vs) s
  control_run (Controls.Raise class reason) s w = w.handler class (term_in reason) s
  control_run (Controls.Choose cs vs c) s w = chooses program (clauses (map clause_of cs.now)) (terms_in vs.now) (context_in c) s w
  control_run (Controls.End ending) s w = ends (ending_in ending) s

  -- the other parts of a list of the code are evaluated, behind those that have these values
  abbrev pub evaluates_rest : List Expr → Context → Goal → List Term → State → Waiting → Meant.Run
  evaluates_rest parts c goal done s w = evaluates_parts program (expressions (map expression_of parts)) (context_in c) (purpose_in goal) done s w

-- a list of these elements and this tail is made
abbrev pub gives_list : List Value → Value → State → Waiting → Meant.Run
gives_list elements tail s w = w.next (cells (terms_in elements) (term_in tail) ∷ []) (more_words (list_words (length elements)) s)

-- what is known of the module
unfoldable pub known : Evaluator → Program
known m = program_in m.program.now

-- what waits in a run
abbrev pub waits : Evaluator → Run → Waiting
waits m r = frames_wait (known m) r.frames.items

-- the run that goes on from a configuration
abbrev pub goes_on : Evaluator → Run → Control → Meant.Run
goes_on m r control = control_run (known m) control (state_in r) (waits m r)

-- Where there was memory, what is done next goes on as this run: of the program, from the state before, with what waited then.
abbrev pub IfOkRuns : {E : Type 0} → Evaluator → (before after : Run) → Result Control E → (Program → State → Waiting → Meant.Run) → Type 0
IfOkRuns m before after result run = IfOk result (λ next. goes_on m after next ≡ run (known m) (state_in before) (waits m before))

-- Where there was memory, the run ended as this run does, from the state before.
abbrev pub IfOkEnds : {E : Type 0} → Evaluator → (before after : Run) → Result Ending E → (Program → State → Meant.Run) → Type 0
IfOkEnds m before after result run = IfOk result (λ e. ends (ending_in e) (state_in after) ≡ run (known m) (state_in before))
