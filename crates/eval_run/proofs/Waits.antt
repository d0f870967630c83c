-- What waits, by what it is made of.
use Rattle.std.proofs.Common.{◌≡◌, ℕ, ◌+◌, List, [], ◌∷◌, ◌++◌, Option, Some, None, ◌-◌, ◌<◌, ◌≤◌, length, map, take, drop, get_or, refl, sym, ap, ◌∙◌, arith, append_assoc, append-nil}
use Rattle.std.specs.Prelude.{Bool, true, false}
use Rattle.std.proofs.Math.Path.{fun_ext}
use Rattle.std.proofs.Math.Seq.{take-length}
use Rattle.hipe_terms.specs.Terms.{Term, terms, cells}
use Rattle.hipe_terms.specs.Words.{list_words}
use Rattle.hipe_terms.specs.declared.class.Class.{Class}
use Rattle.hipe_terms.specs.declared.place.Place.{Place}
use Rattle.core_ast.specs.declared.pattern.Var.{Var}
use Rattle.core_ast.specs.Trees.{Patterns, Expression, Expressions, no_expression, and_expression, Clauses, no_clause, and_clause, expressions, expression_of}
use Rattle.core_ast.specs.declared.tree.Expr.{Expr}
use Rattle.core_ast.specs.Degrees.{count_patterns}
use Rattle.core_meaning.specs.Scopes.{bound_by, funs}
use Rattle.core_meaning.specs.Matching.{matched_all}
use Rattle.core_meaning.specs.Procedures.{Program}
use Rattle.core_meaning.specs.Meaning.{State, Run, Context, builds, part, behind, with, with_one, with_count, no_clause_for, is_true, causes, caught, eval, eval_all}
use Rattle.core_meaning.specs.Source.{unlimited}
use Rattle.eval_run.specs.declared.frame.Frame.{Frame}
use Rattle.eval_run.specs.Counting.{more_words}
use Rattle.eval_run.specs.Waiting.{Waiting, at_end, Purpose, for_value, calls_by_fuel, evaluates, chooses, tail_waits, reaches, evaluates_parts, parts_wait, operator_waits, binds, let_waits, case_waits, guard_waits, handles, try_waits, do_waits, catch_waits}
use Rattle.eval_run.specs.Tests.{guarded, tries}
use Rattle.eval_run.specs.Configurations.{frame_waits, frames_above, frames_wait}

module _ (program : Program) where
  -- no limit
  pub builds_more : (n : ℕ) (s : State) (go : State → Run) → builds (unlimited program) n s go ≡ go (more_words n s)
  unfolding builds
  builds_more n s go = refl

  above_last : (fs : List Frame) (f : Frame) (w : Waiting) → frames_above program (fs ++ f ∷ []) w ≡ frame_waits program f (frames_above program fs w)
  above_last [] f w = refl
  above_last (g ∷ fs) f w = above_last fs f (frame_waits program g w)

  -- the last frame is the innermost
  pub wait_last : (fs : List Frame) (f : Frame) → frames_wait program (fs ++ f ∷ []) ≡ frame_waits program f (frames_wait program fs)
  unfolding frames_wait
  wait_last fs f = above_last fs f at_end

  pub none_wait : frames_wait program [] ≡ at_end
  unfolding frames_wait
  none_wait = refl

  -- ---- what comes next

  pub tail_one : (ts : List Term) (w : Waiting) (t : Term) (s : State) → (tail_waits program ts w).next (t ∷ []) s ≡ w.next (cells ts t ∷ []) (more_words (list_words (length ts)) s)
  unfolding tail_waits with_one
  tail_one ts w t s = builds_more (list_words (length ts)) s (λ s. w.next (cells ts t ∷ []) s)

  pub parts_one : (es : Expressions) (done : List Term) (c : Context) (p : Purpose) (w : Waiting) (t : Term) (s : State) → (parts_wait program es done c p w).next (t ∷ []) s ≡ evaluates_parts program es c p (done ++ t ∷ []) s w
  unfolding parts_wait with_one
  parts_one es done c p w t s = refl

  pub operator_one : (es : Expressions) (c : Context) (d : ℕ) (w : Waiting) (t : Term) (s : State) → (operator_waits program es c d w).next (t ∷ []) s ≡ evaluates_parts program es c (for_value t d) [] s w
  unfolding operator_waits with_one
  operator_one es c d w t s = refl

  pub let_next : (xs : List Var) (body : Expression) (c : Context) (w : Waiting) (ts : List Term) (s : State) → (let_waits program xs body c w).next ts s ≡ binds program xs body c ts s w
  unfolding let_waits
  let_next xs body c w ts s = refl

  pub case_next : (cs : Clauses) (c : Context) (w : Waiting) (ts : List Term) (s : State) → (case_waits program cs c w).next ts s ≡ chooses program cs ts c s w
  unfolding case_waits
  case_next cs c w ts s = refl

  guard_same : (b : Bool) (body : Expression) (cs : Clauses) (ts : List Term) (c d : Context) (s : State) (w : Waiting) → elim b [ true ↦ evaluates program body d s w | false ↦ chooses program cs ts c s w ] ≡ guarded program b body cs ts c d s w
  guard_same true body cs ts c d s w = refl
  guard_same false body cs ts c d s w = refl

  pub guard_one : (body : Expression) (cs : Clauses) (ts : List Term) (c d : Context) (w : Waiting) (t : Term) (s : State) → (guard_waits program body cs ts c d w).next (t ∷ []) s ≡ guarded program (is_true t) body cs ts c d s w
  unfolding guard_waits with_one
  guard_one body cs ts c d w t s = guard_same (is_true t) body cs ts c d s w

  pub try_next : (xs : List Var) (body : Expression) (c : Context) (ys : List Var) (handler : Expression) (d : Context) (w : Waiting) (ts : List Term) (s : State) → (try_waits program xs body c ys handler d w).next ts s ≡ binds program xs body c ts s w
  unfolding try_waits
  try_next xs body c ys handler d w ts s = refl

  pub do_next : (second : Expression) (c : Context) (w : Waiting) (ts : List Term) (s : State) → (do_waits program second c w).next ts s ≡ evaluates program second c s w
  unfolding do_waits
  do_next second c w ts s = refl

  pub catch_one : (w : Waiting) (t : Term) (s : State) → (catch_waits program w).next (t ∷ []) s ≡ w.next (t ∷ []) s
  unfolding catch_waits with_one
  catch_one w t s = refl

  -- ---- what comes next where a class is raised

  pub tail_handler : (ts : List Term) (w : Waiting) → (tail_waits program ts w).handler ≡ w.handler
  unfolding tail_waits
  tail_handler ts w = refl

  pub parts_handler : (es : Expressions) (done : List Term) (c : Context) (p : Purpose) (w : Waiting) → (parts_wait program es done c p w).handler ≡ w.handler
  unfolding parts_wait
  parts_handler es done c p w = refl

  pub operator_handler : (es : Expressions) (c : Context) (d : ℕ) (w : Waiting) → (operator_waits program es c d w).handler ≡ w.handler
  unfolding operator_waits
  operator_handler es c d w = refl

  pub let_handler : (xs : List Var) (body : Expression) (c : Context) (w : Waiting) → (let_waits program xs body c w).handler ≡ w.handler
  unfolding let_waits
  let_handler xs body c w = refl

  pub case_handler : (cs : Clauses) (c : Context) (w : Waiting) → (case_waits program cs c w).handler ≡ w.handler
  unfolding case_waits
  case_handler cs c w = refl

  pub guard_handler : (body : Expression) (cs : Clauses) (ts : List Term) (c d : Context) (w : Waiting) (class : Class) (t : Term) (s : State) → (guard_waits program body cs ts c d w).handler class t s ≡ chooses program cs ts c s w
  unfolding guard_waits
  guard_handler body cs ts c d w class t s = refl

  pub try_handler : (xs : List Var) (body : Expression) (c : Context) (ys : List Var) (handler : Expression) (d : Context) (w : Waiting) (class : Class) (t : Term) (s : State) → (try_waits program xs body c ys handler d w).handler class t s ≡ handles program ys handler d (causes class t (length ys)) s w
  unfolding try_waits
  try_handler xs body c ys handler d w class t s = refl

  pub do_handler : (second : Expression) (c : Context) (w : Waiting) → (do_waits program second c w).handler ≡ w.handler
  unfolding do_waits
  do_handler second c w = refl

  pub catch_handler : (w : Waiting) (class : Class) (t : Term) (s : State) → (catch_waits program w).handler class t s ≡ caught (unlimited program) class t s w.next
  unfolding catch_waits
  catch_handler w class t s = refl

  -- ---- lists of parts

  pub parts_none : (c : Context) (p : Purpose) (done : List Term) (s : State) (w : Waiting) → evaluates_parts program no_expression c p done s w ≡ reaches program p done s w
  unfolding evaluates_parts
  parts_none c p done s w = ap (λ ts. reaches program p ts s w) (append-nil done)

  pub parts_first : (e : Expression) (es : Expressions) (c : Context) (p : Purpose) (done : List Term) (s : State) (w : Waiting)
      → evaluates_parts program (and_expression e es) c p done s w ≡ evaluates program e c s (parts_wait program es done (behind (funs e) c) p w)
  unfolding evaluates_parts evaluates parts_wait
  parts_first e es c p done s w =
      ap (λ k. eval program (unlimited program) (calls_by_fuel program) e c s w.handler k)
      (fun_ext (λ us. fun_ext (λ s. ap (with_one us s)
      (fun_ext (λ t. fun_ext (λ s. ap (λ k. eval_all program (unlimited program) (calls_by_fuel program) es (behind (funs e) c) s w.handler k)
      (fun_ext (λ ts. fun_ext (λ s. ap (λ l. reaches program p l s w) (sym (append_assoc done (t ∷ []) ts)))))))))))

  -- ---- clauses

  pub choose_none : (ts : List Term) (c : Context) (s : State) (w : Waiting) → chooses program no_clause ts c s w ≡ no_clause_for (unlimited program) ts s w.handler
  unfolding chooses
  choose_none ts c s w = refl

  tries_same : (o : Option (List Term)) (xs : List (List ℕ)) (guard body : Expression) (cs : Clauses) (ts : List Term) (c : Context) (s : State) (w : Waiting)
      → elim o [
        | None ↦ chooses program cs ts (behind (funs guard + funs body) c) s w
        | Some us ↦
            eval program (unlimited program) (calls_by_fuel program) guard (part (with xs us c)) s
            (λ class reason s. chooses program cs ts (behind (funs guard + funs body) c) s w)
            (λ gs s. with_one gs s (λ g s. elim (is_true g) [ true ↦ evaluates program body (with xs us (behind (funs guard) c)) s w | false ↦ chooses program cs ts (behind (funs guard + funs body) c) s w ]))
      ] ≡ tries program o xs guard body cs ts c s w
  unfolding evaluates guard_waits
  tries_same None xs guard body cs ts c s w = refl
  tries_same (Some us) xs guard body cs ts c s w = refl

  pub choose_first : (p : Place) (ps : Patterns) (guard body : Expression) (cs : Clauses) (ts : List Term) (c : Context) (s : State) (w : Waiting)
      → chooses program (and_clause p ps guard body cs) ts c s w ≡ with_count (count_patterns ps) ts s (tries program (matched_all ps (terms ts)) (bound_by ps) guard body cs ts c s w)
  unfolding chooses evaluates
  choose_first p ps guard body cs ts c s w = ap (with_count (count_patterns ps) ts s) (tries_same (matched_all ps (terms ts)) (bound_by ps) guard body cs ts c s w)

pub ruleset waiting = (wait_last, none_wait)

pub ruleset part_lists = (parts_none, parts_first)

-- ---- lists of the code

-- a list that has an element
pub first_of : {A : Type 0} (xs : List A) (x : A) → 1 ≤ length xs → x ≡ get_or xs 0 x → xs ≡ x ∷ take (length xs - 1) (drop 1 xs)
first_of [] x le is = absurd (omega arith)
first_of (y ∷ ys) x le is =
    let n : length (y ∷ ys) - 1 ≡ length ys = omega arith in
    ap (λ z. z ∷ ys) (sym is) ∙ ap (λ zs. x ∷ zs) (sym (ap (λ n. take n ys) n ∙ take-length ys))

pub none_of : {A : Type 0} (xs : List A) → length xs < 1 → xs ≡ []
none_of [] lt = refl
none_of (y ∷ ys) lt = absurd (omega arith)

module _ (program : Program) (c : Context) (p : Purpose) (done : List Term) (s : State) (w : Waiting) where
  pub parts_empty : (es : List Expr) → length es < 1 → evaluates_parts program (expressions (map expression_of es)) c p done s w ≡ reaches program p done s w
  parts_empty es lt = ap (λ es. evaluates_parts program (expressions (map expression_of es)) c p done s w) (none_of es lt) ∙ parts_none program c p done s w
