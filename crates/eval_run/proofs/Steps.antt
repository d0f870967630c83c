-- One step of each frame, and of what is applied, chosen and raised.
use Rattle.std.proofs.Common.{◌≡◌, ◌≢◌, ℕ, zero, suc, ◌+◌, ◌*◌, List, [], ◌∷◌, Some, None, length, get_or, refl, sym, ap, ◌∙◌, arith}
use Rattle.std.specs.Prelude.{false, if◌then◌else◌, ◌==◌, codes}
use Rattle.std.proofs.lemmas.List.{length-map}
use Rattle.hipe_terms.specs.declared.place.Place.{Place}
use Rattle.hipe_terms.specs.Terms.{Term, integer, atom, nil, cons, tuple, fun, Terms, none, more, terms, listed, cells}
use Rattle.hipe_terms.specs.declared.class.Class.{Class}
use Rattle.hipe_terms.specs.declared.class.Class.TheVariants.{Error}
use Rattle.core_ast.specs.declared.pattern.Var.{Var}
use Rattle.core_ast.specs.declared.tree.FunName.{FunName}
use Rattle.core_ast.specs.Degrees.{count_patterns}
use Rattle.core_ast.specs.Trees.{Patterns, Expression, Expressions, Clauses, and_clause}
use Rattle.core_ast.proofs.Levels.{levels}
use Rattle.core_meaning.specs.Matching.{matched_all}
use Rattle.core_meaning.specs.Procedures.{Program}
use Rattle.core_meaning.specs.Scopes.{names, bound_by}
use Rattle.core_meaning.specs.Meaning.{State, Ending, Run, ends, Context, Next, Handler, pair, with, with_one, class_atom, causes, raise, match_fail, is_function_clause, build_stacktrace, primop, no_clause_for, arity_of, applies, applies_named, builds, calls, function_of}
use Rattle.core_meaning.specs.Source.{unlimited}
use Rattle.eval_values.specs.declared.value.Value.{Value}
use Rattle.eval_values.specs.Values.{term_in, terms_in}
use Rattle.eval_run.specs.Counting.{more_words}
use Rattle.eval_run.specs.Shapes.{fun_of, one_of, two_of}
use Rattle.eval_run.specs.Waiting.{Waiting, Purpose, for_tuple, for_list, for_values, for_name, for_value, for_call, for_primop, calls_by_fuel, evaluates, chooses, tail_waits, reaches, parts_wait, operator_waits, binds, guard_waits, handles, catch_waits}
use Rattle.eval_run.specs.Tests.{tries}
use Rattle.eval_run.proofs.Expressions.{counted_patterns}
use Rattle.eval_run.proofs.Primitives.{listed_is, count_same, count_other}
use Rattle.eval_run.proofs.Waits.{wait_last, none_wait, choose_first, tail_one, parts_one, operator_one, let_next, case_next, guard_one, try_next, do_next, catch_one, tail_handler, parts_handler, operator_handler, let_handler, case_handler, guard_handler, try_handler, do_handler, catch_handler}

-- ---- lists of values

pub one_is : (vs : List Value) (v : Value) → length vs ≡ 1 → v ≡ get_or vs 0 v → one_of (terms_in vs) ≡ Some (term_in v)
one_is [] v n is = absurd (omega arith)
one_is (u ∷ []) v n is = ap (λ x. Some (term_in x)) (sym is)
one_is (u ∷ x ∷ vs) v n is = absurd (omega arith)

pub one_none : (vs : List Value) → length vs ≢ 1 → one_of (terms_in vs) ≡ None
one_none [] ne = refl
one_none (u ∷ []) ne = absurd (ne refl)
one_none (u ∷ x ∷ vs) ne = refl

pub two_is : (vs : List Value) (v w : Value) → length vs ≡ 2 → v ≡ get_or vs 0 v → w ≡ get_or vs 1 w → two_of (terms_in vs) ≡ Some (term_in v, term_in w)
two_is [] v w n is js = absurd (omega arith)
two_is (u ∷ []) v w n is js = absurd (omega arith)
two_is (u ∷ x ∷ []) v w n is js = ap (λ y. Some (term_in y, term_in x)) (sym is) ∙ ap (λ y. Some (term_in v, term_in y)) (sym js)
two_is (u ∷ x ∷ y ∷ vs) v w n is js = absurd (omega arith)

pub two_none : (vs : List Value) → length vs ≢ 2 → two_of (terms_in vs) ≡ None
two_none [] ne = refl
two_none (u ∷ []) ne = refl
two_none (u ∷ x ∷ []) ne = absurd (ne refl)
two_none (u ∷ x ∷ y ∷ vs) ne = refl

pub with_other : (ts : List Term) (s : State) (go : Term → State → Run) → one_of ts ≡ None → with_one ts s go ≡ ends Ending.stuck s
unfolding with_one
with_other [] s go is = refl
with_other (t ∷ []) s go is = absurd (cc)
with_other (t ∷ u ∷ ts) s go is = refl

-- ---- primitive operations

pub raise_two : (ts : List Term) (t u : Term) (s : State) (r : Handler) → two_of ts ≡ Some (t, u) → raise ts s r ≡ raise (t ∷ u ∷ []) s r
raise_two [] t u s r is = absurd (cc)
raise_two (x ∷ []) t u s r is = absurd (cc)
raise_two (x ∷ y ∷ []) t u s r is = let e : ◌≡◌ {A = Term × Term} (x, y) (t, u) = cc in ap (λ (p : Term × Term). raise (p.0 ∷ p.1 ∷ []) s r) e
raise_two (x ∷ y ∷ z ∷ ts) t u s r is = absurd (cc)

pub raise_other : (ts : List Term) (s : State) (r : Handler) → two_of ts ≡ None → raise ts s r ≡ ends Ending.stuck s
raise_other [] s r is = refl
raise_other (x ∷ []) s r is = refl
raise_other (x ∷ y ∷ []) s r is = absurd (cc)
raise_other (x ∷ y ∷ z ∷ ts) s r is = refl

pub fail_one : (ts : List Term) (t : Term) (s : State) (r : Handler) → one_of ts ≡ Some t → match_fail ts s r ≡ match_fail (t ∷ []) s r
fail_one [] t s r is = absurd (cc)
fail_one (x ∷ []) t s r is = let p : x ≡ t = cc in ap (λ a. match_fail (a ∷ []) s r) p
fail_one (x ∷ y ∷ ts) t s r is = absurd (cc)

pub fail_other : (ts : List Term) (s : State) (r : Handler) → one_of ts ≡ None → match_fail ts s r ≡ ends Ending.stuck s
fail_other [] s r is = refl
fail_other (x ∷ []) s r is = absurd (cc)
fail_other (x ∷ y ∷ ts) s r is = refl

pub trace_one : (ts : List Term) (t : Term) (s : State) (k : Next) → one_of ts ≡ Some t → build_stacktrace ts s k ≡ k (nil ∷ []) s
trace_one [] t s k is = absurd (cc)
trace_one (x ∷ []) t s k is = refl
trace_one (x ∷ y ∷ ts) t s k is = absurd (cc)

pub trace_other : (ts : List Term) (s : State) (k : Next) → one_of ts ≡ None → build_stacktrace ts s k ≡ ends Ending.stuck s
trace_other [] s k is = refl
trace_other (x ∷ []) s k is = absurd (cc)
trace_other (x ∷ y ∷ ts) s k is = refl

clause_first : (t : Term) (ts : Terms) → is_function_clause (tuple (more t ts)) ≡ is_function_clause (tuple (more t none))
clause_first (integer i) ts = refl
clause_first (atom a) ts = refl
clause_first nil ts = refl
clause_first (cons a b) ts = refl
clause_first (tuple us) ts = refl
clause_first (fun n us) ts = refl

pub clause_empty : (vs : List Value) → length vs ≡ 0 → is_function_clause (tuple (terms (terms_in vs))) ≡ false
clause_empty [] n = refl
clause_empty (v ∷ vs) n = absurd (omega arith)

pub clause_begins : (vs : List Value) (v : Value) → length vs ≢ 0 → v ≡ get_or vs 0 v → is_function_clause (tuple (terms (terms_in vs))) ≡ is_function_clause (tuple (more (term_in v) none))
clause_begins [] v ne is = absurd (ne refl)
clause_begins (u ∷ vs) v ne is = clause_first (term_in u) (terms (terms_in vs)) ∙ ap (λ x. is_function_clause (tuple (more (term_in x) none))) (sym is)

module _ (program : Program) where
  -- ---- values that are applied

  pub applied_fun : (t : Term) (n : ℕ) (us ts : List Term) (d : ℕ) (s : State) (w : Waiting) → fun_of t ≡ Some (n, us)
      → applies program (unlimited program) (calls_by_fuel program) t ts d s w.handler w.next
      ≡ (if arity_of program n == length ts then calls_by_fuel program n us ts d s w.handler w.next
      else w.handler Error (pair (atom (codes "badarity")) (pair t (cells ts nil))) (more_words (6 + 2 * length ts) s))
  unfolding applies builds
  applied_fun (fun m vs) n us ts d s w is =
      let e : ◌≡◌ {A = ℕ × List Term} (m, listed vs) (n, us) = cc in
      ap (λ (f : ℕ × List Term). if arity_of program f.0 == length ts then calls_by_fuel program f.0 f.1 ts d s w.handler w.next else w.handler Error (pair (atom (codes "badarity")) (pair (fun m vs) (cells ts nil))) (more_words (6 + 2 * length ts) s)) e
  applied_fun (integer i) n us ts d s w is = absurd (cc)
  applied_fun (atom a) n us ts d s w is = absurd (cc)
  applied_fun nil n us ts d s w is = absurd (cc)
  applied_fun (cons a b) n us ts d s w is = absurd (cc)
  applied_fun (tuple vs) n us ts d s w is = absurd (cc)

  pub applied_other : (t : Term) (ts : List Term) (d : ℕ) (s : State) (w : Waiting) → fun_of t ≡ None
      → applies program (unlimited program) (calls_by_fuel program) t ts d s w.handler w.next ≡ w.handler Error (pair (atom (codes "badfun")) t) (more_words 3 s)
  unfolding applies builds
  applied_other (fun m vs) ts d s w is = absurd (cc)
  applied_other (integer i) ts d s w is = refl
  applied_other (atom a) ts d s w is = refl
  applied_other nil ts d s w is = refl
  applied_other (cons a b) ts d s w is = refl
  applied_other (tuple vs) ts d s w is = refl

  -- ---- what is done with the values of parts

  pub reach_tuple : (ts : List Term) (s : State) (w : Waiting) → reaches program for_tuple ts s w ≡ w.next (tuple (terms ts) ∷ []) (more_words (length ts + 1) s)
  unfolding reaches builds
  reach_tuple ts s w = refl

  pub reach_list : (e : Expression) (c : Context) (ts : List Term) (s : State) (w : Waiting) → reaches program (for_list e c) ts s w ≡ evaluates program e c s (tail_waits program ts w)
  unfolding reaches
  reach_list e c ts s w = refl

  pub reach_values : (ts : List Term) (s : State) (w : Waiting) → reaches program for_values ts s w ≡ w.next ts s
  unfolding reaches
  reach_values ts s w = refl

  pub reach_name : (f : FunName) (c : Context) (ts : List Term) (s : State) (w : Waiting) → reaches program (for_name f c) ts s w ≡ applies_named (calls_by_fuel program) (function_of f c) ts c.depth s w.handler w.next
  unfolding reaches
  reach_name f c ts s w = refl

  pub reach_value : (t : Term) (d : ℕ) (ts : List Term) (s : State) (w : Waiting) → reaches program (for_value t d) ts s w ≡ applies program (unlimited program) (calls_by_fuel program) t ts d s w.handler w.next
  unfolding reaches
  reach_value t d ts s w = refl

  pub reach_call : (m f : List ℕ) (d : ℕ) (ts : List Term) (s : State) (w : Waiting) → reaches program (for_call m f d) ts s w ≡ calls program (unlimited program) (calls_by_fuel program) m f ts d s w.handler w.next
  unfolding reaches
  reach_call m f d ts s w = refl

  pub reach_primop : (f : List ℕ) (ts : List Term) (s : State) (w : Waiting) → reaches program (for_primop f) ts s w ≡ primop f ts s w.handler w.next
  unfolding reaches
  reach_primop f ts s w = refl

  -- ---- frames, where there isn't one value

  pub tail_other : (ts us : List Term) (w : Waiting) (s : State) → one_of us ≡ None → (tail_waits program ts w).next us s ≡ ends Ending.stuck s
  unfolding tail_waits
  tail_other ts us w s is = with_other us s _ is

  pub parts_other : (es : Expressions) (done us : List Term) (c : Context) (p : Purpose) (w : Waiting) (s : State) → one_of us ≡ None → (parts_wait program es done c p w).next us s ≡ ends Ending.stuck s
  unfolding parts_wait
  parts_other es done us c p w s is = with_other us s _ is

  pub operator_other : (es : Expressions) (us : List Term) (c : Context) (d : ℕ) (w : Waiting) (s : State) → one_of us ≡ None → (operator_waits program es c d w).next us s ≡ ends Ending.stuck s
  unfolding operator_waits
  operator_other es us c d w s is = with_other us s _ is

  pub guard_other : (body : Expression) (cs : Clauses) (ts us : List Term) (c d : Context) (w : Waiting) (s : State) → one_of us ≡ None → (guard_waits program body cs ts c d w).next us s ≡ ends Ending.stuck s
  unfolding guard_waits
  guard_other body cs ts us c d w s is = with_other us s _ is

  pub catch_other : (us : List Term) (w : Waiting) (s : State) → one_of us ≡ None → (catch_waits program w).next us s ≡ ends Ending.stuck s
  unfolding catch_waits
  catch_other us w s is = with_other us s _ is

  -- ---- variables that are bound

  pub binds_same : (xs : List Var) (body : Expression) (c : Context) (ts : List Term) (s : State) (w : Waiting) → length ts ≡ length xs → binds program xs body c ts s w ≡ evaluates program body (with (names xs) ts c) s w
  unfolding binds
  binds_same xs body c ts s w is = count_same (length xs) ts s _ is

  pub binds_other : (xs : List Var) (body : Expression) (c : Context) (ts : List Term) (s : State) (w : Waiting) → length ts ≢ length xs → binds program xs body c ts s w ≡ ends Ending.stuck s
  unfolding binds
  binds_other xs body c ts s w ne = count_other (length xs) ts s _ ne

  pub handles_two : (ys : List Var) (handler : Expression) (d : Context) (class : Class) (reason : Term) (s : State) (w : Waiting) (n : ℕ) → n ≡ 2
      → handles program ys handler d (causes class reason n) s w ≡ evaluates program handler (with (names ys) (class_atom class ∷ reason ∷ []) d) s w
  unfolding handles
  handles_two ys handler d class reason s w n is = ap (λ n. handles program ys handler d (causes class reason n) s w) is

  pub handles_three : (ys : List Var) (handler : Expression) (d : Context) (class : Class) (reason : Term) (s : State) (w : Waiting) (n : ℕ) → n ≡ 3
      → handles program ys handler d (causes class reason n) s w ≡ evaluates program handler (with (names ys) (class_atom class ∷ reason ∷ class_atom class ∷ []) d) s w
  unfolding handles
  handles_three ys handler d class reason s w n is = ap (λ n. handles program ys handler d (causes class reason n) s w) is

  pub handles_other : (ys : List Var) (handler : Expression) (d : Context) (class : Class) (reason : Term) (s : State) (w : Waiting) (n : ℕ) → n ≢ 2 → n ≢ 3
      → handles program ys handler d (causes class reason n) s w ≡ ends Ending.stuck s
  unfolding handles
  handles_other ys handler d class reason s w zero two three = refl
  handles_other ys handler d class reason s w (suc zero) two three = refl
  handles_other ys handler d class reason s w (suc (suc zero)) two three = absurd (two refl)
  handles_other ys handler d class reason s w (suc (suc (suc zero))) two three = absurd (three refl)
  handles_other ys handler d class reason s w (suc (suc (suc (suc n)))) two three = refl

  -- ---- clauses

  pub clause_stuck : (p : Place) (ps : Patterns) (guard body : Expression) (cs : Clauses) (ts : List Term) (c : Context) (s : State) (w : Waiting) → length ts ≢ count_patterns ps
      → chooses program (and_clause p ps guard body cs) ts c s w ≡ ends Ending.stuck s
  clause_stuck p ps guard body cs ts c s w ne = choose_first program p ps guard body cs ts c s w ∙ count_other (count_patterns ps) ts s _ ne

  pub clause_tries : (p : Place) (ps : Patterns) (guard body : Expression) (cs : Clauses) (ts : List Term) (c : Context) (s : State) (w : Waiting) → length ts ≡ count_patterns ps
      → chooses program (and_clause p ps guard body cs) ts c s w ≡ tries program (matched_all ps (terms ts)) (bound_by ps) guard body cs ts c s w
  clause_tries p ps guard body cs ts c s w is = choose_first program p ps guard body cs ts c s w ∙ count_same (count_patterns ps) ts s _ is

  pub no_clause_one : (ts : List Term) (t : Term) (s : State) (r : Handler) → one_of ts ≡ Some t → no_clause_for (unlimited program) ts s r ≡ r Error (pair (atom (codes "case_clause")) t) (more_words 3 s)
  unfolding no_clause_for builds
  no_clause_one [] t s r is = absurd (cc)
  no_clause_one (x ∷ []) t s r is = let p : x ≡ t = cc in ap (λ a. r Error (pair (atom (codes "case_clause")) a) (more_words 3 s)) p
  no_clause_one (x ∷ y ∷ ts) t s r is = absurd (cc)

  pub no_clause_other : (ts : List Term) (s : State) (r : Handler) → one_of ts ≡ None → no_clause_for (unlimited program) ts s r ≡ r Error (pair (atom (codes "case_clause")) (tuple (terms ts))) (more_words (3 + (length ts + 1)) s)
  unfolding no_clause_for builds
  no_clause_other [] s r is = refl
  no_clause_other (x ∷ []) s r is = absurd (cc)
  no_clause_other (x ∷ y ∷ ts) s r is = refl

pub ruleset lists = (one_is, one_none, two_is, two_none)

pub ruleset reaching = (length-map, reach_tuple, reach_list, reach_values, reach_name, reach_value, reach_call, reach_primop)

pub ruleset applied = (applied_fun, applied_other)

pub ruleset funs_shown = (listed_is)

pub ruleset nexts = (length-map, tail_one, parts_one, operator_one, let_next, case_next, guard_one, try_next, do_next, catch_one)

pub ruleset others = (tail_other, parts_other, operator_other, guard_other, catch_other, let_next, case_next, try_next, do_next)

pub ruleset handlers = (tail_handler, parts_handler, operator_handler, let_handler, case_handler, guard_handler, try_handler, do_handler, catch_handler)

pub ruleset binding = (length-map, binds_same, binds_other)

pub ruleset handling = (handles_two, handles_three, handles_other)

pub ruleset clause_lists = (length-map, counted_patterns, levels, clause_stuck, clause_tries)

pub ruleset unmatched = (length-map, no_clause_one, no_clause_other)

pub ruleset frames = (wait_last, none_wait)

pub ruleset raising = (raise_two, raise_other)

pub ruleset failing = (fail_one, fail_other)

pub ruleset tracing = (trace_one, trace_other)

pub ruleset first_elements = (clause_empty, clause_begins)
