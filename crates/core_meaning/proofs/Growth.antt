-- Along a run the words, the claim, the work and what is printed only grow, and the fuel never does.
use Rattle.std.proofs.Common.{◌≡◌, ℕ, zero, suc, ◌+◌, List, [], ◌∷◌, ◌++◌, Option, Some, None, refl, sym, ap, ◌∙◌, arith, append_assoc, append-nil}
use Rattle.std.specs.Prelude.{Bool, true, false, if◌then◌else◌, nat_eq, length, slice_get, codes}
use Rattle.hipe_terms.specs.Terms.{Term, integer, atom, nil, cons, tuple, fun, terms, listed}
use Rattle.hipe_terms.specs.Bifs.{built_in}
use Rattle.hipe_terms.specs.Outcome.{End, Outcome, bif_outcome}
use Rattle.hipe_terms.specs.declared.class.Class.{Class}
use Rattle.hipe_terms.specs.declared.primop.Primop.{Primop}
use Rattle.hipe_terms.specs.declared.primop.Primop.TheVariants.{Raise, MatchFail, BuildStacktrace}
use Rattle.hipe_terms.specs.Primops.{primop_named}
use Rattle.hipe_terms.specs.declared.class.Class.TheVariants.{Error, Exit, Throw}
use Rattle.core_ast.specs.Trees.{Expression, Expressions, no_expression, and_expression, Clauses, no_clause, and_clause}
use Rattle.core_meaning.specs.Scopes.{names, bound_by, count_definitions, captured_by_fun, funs, funs_in_all}
use Rattle.core_meaning.specs.Procedures.{Procedure, Program}
use Rattle.core_meaning.specs.Matching.{matched_all}
use Rattle.core_ast.specs.Degrees.{count, count_patterns}
use Rattle.core_meaning.specs.Laws.{Prefix, Later, Grown, NextGrows, HandlerGrows}
use Rattle.core_meaning.specs.Meaning.{State, Ending, Run, ends, Limits, Next, Handler, Calls, passes, worked, printing, entering, builds, Context, part, behind, with, with_functions, value_of, values_in, function_of, fails, with_one, with_count, with_value, class_of, is_true, no_clause_for, makes_fun, makes_named, caught, causes, raises_as, raise, is_function_clause, match_fail, build_stacktrace, primop, operation, count_clauses, tested_nodes, direct, arity_of, own_function, applies_named, comes_to, performs, applies, calls_own, calls, eval, eval_all, choose, at_entry, enters, calls_within}

pub prefix_refl : (a : List Term) → Prefix a a
prefix_refl a = ([], sym (append-nil a))

pub prefix_then : (a b c : List Term) → Prefix a b → Prefix b c → Prefix a c
prefix_then a b c p q = (p.0 ++ q.0, q.1 ∙ ap (λ l. l ++ q.0) p.1 ∙ append_assoc a p.0 q.0)

pub later_refl : (s : State) → Later s s
later_refl s = record { fuel = omega arith; words = omega arith; claim = omega arith; work = omega arith; printed = prefix_refl s.printed }

pub later_then : {s t u : State} → Later s t → Later t u → Later s u
later_then {s = s} {t = t} {u = u} p q =
    record {
      fuel = omega (arith, p.fuel, q.fuel);
      words = omega (arith, p.words, q.words);
      claim = omega (arith, p.claim, q.claim);
      work = omega (arith, p.work, q.work);
      printed = prefix_then s.printed t.printed u.printed p.printed q.printed;
    }

pub grown_refl : (e : Ending) (s : State) → Grown s (ends e s)
grown_refl e s = record { later = later_refl s }

pub grown_then : {s t : State} {x : Run} → Later s t → Grown t x → Grown s x
grown_then l g = record { later = later_then l g.later }

pub worked_later : (n : ℕ) (s : State) → Later s (worked n s)
worked_later n s = record { fuel = omega arith; words = omega arith; claim = omega arith; work = omega arith; printed = prefix_refl s.printed }

pub built_later : (n : ℕ) (s : State) → Later s (record s { words = s.words + n })
built_later n s = record { fuel = omega arith; words = omega arith; claim = omega arith; work = omega arith; printed = prefix_refl s.printed }

pub printing_later : (ts : List Term) (s : State) → Later s (printing ts s)
printing_later ts s = record { fuel = omega arith; words = omega arith; claim = omega arith; work = omega arith; printed = (ts, refl) }

pub entered_later : (n m : ℕ) (s : State) → Later s (entering n m s)
entered_later n m s = record { fuel = omega arith; words = omega arith; claim = grind arith; work = omega arith; printed = prefix_refl s.printed }

pub spent_later : (fuel : ℕ) (s : State) → s.fuel ≡ suc fuel → Later s (record s { fuel = fuel })
spent_later fuel s is = record { fuel = omega (arith, is); words = omega arith; claim = omega arith; work = omega arith; printed = prefix_refl s.printed }

-- ---- what comes next grows

abbrev pub CallGrows : Calls → Type 0
CallGrows call = (n : ℕ) (captured ts : List Term) (d : ℕ) (s : State) (r : Handler) (k : Next) → HandlerGrows r → NextGrows k → Grown s (call n captured ts d s r k)

pub cond_grows : (b : Bool) (s : State) (x y : Run) → Grown s x → Grown s y → Grown s (if b then x else y)
cond_grows true s x y g h = g
cond_grows false s x y g h = h

pub bool_grows : (b : Bool) (s : State) (x y : Run) → Grown s x → Grown s y → Grown s (elim b [ true ↦ x | false ↦ y ])
bool_grows true s x y g h = g
bool_grows false s x y g h = h

pub option_grows : {A : Type 0} (o : Option A) (s : State) (x : Run) (y : A → Run) → Grown s x → ((a : A) → Grown s (y a)) → Grown s (elim o [ None ↦ x | Some a ↦ y a ])
option_grows None s x y g h = g
option_grows (Some a) s x y g h = h a

pub builds_grow : (limits : Limits) (n : ℕ) (s : State) (go : State → Run) → ((s : State) → Grown s (go s)) → Grown s (builds limits n s go)
unfolding builds
builds_grow limits n s go g = cond_grows (passes (s.words + n) limits.heap) s (ends Ending.heap_full s) (go (record s { words = s.words + n })) (grown_refl _ s) (grown_then (built_later n s) (g (record s { words = s.words + n })))

pub one_grows : (ts : List Term) (s : State) (go : Term → State → Run) → ((t : Term) (s : State) → Grown s (go t s)) → Grown s (with_one ts s go)
unfolding with_one
one_grows [] s go g = grown_refl _ s
one_grows (t ∷ []) s go g = g t s
one_grows (t ∷ u ∷ ts) s go g = grown_refl _ s

pub count_grows : (n : ℕ) (ts : List Term) (s : State) (x : Run) → Grown s x → Grown s (with_count n ts s x)
unfolding with_count
count_grows n ts s x g = cond_grows (nat_eq (length ts) n) s x (ends Ending.stuck s) g (grown_refl _ s)

pub value_grows : (o : Option Term) (s : State) (k : Next) → NextGrows k → Grown s (with_value o s k)
unfolding with_value
value_grows None s k g = grown_refl _ s
value_grows (Some t) s k g = g (t ∷ []) s

pub no_clause_grows : (limits : Limits) (ts : List Term) (s : State) (r : Handler) → HandlerGrows r → Grown s (no_clause_for limits ts s r)
unfolding no_clause_for
no_clause_grows limits [] s r g = builds_grow limits _ s _ (λ s. g Error _ s)
no_clause_grows limits (t ∷ []) s r g = builds_grow limits _ s _ (λ s. g Error _ s)
no_clause_grows limits (t ∷ u ∷ ts) s r g = builds_grow limits _ s _ (λ s. g Error _ s)

pub fun_grows : (limits : Limits) (n : ℕ) (o : Option (List Term)) (s : State) (k : Next) → NextGrows k → Grown s (makes_fun limits n o s k)
unfolding makes_fun
fun_grows limits n None s k g = grown_refl _ s
fun_grows limits n (Some ts) s k g = grown_then (worked_later (length ts) s) (builds_grow limits (length ts + 2) (worked (length ts) s) (λ s. k (fun n (terms ts) ∷ []) s) (λ s. g (fun n (terms ts) ∷ []) s))

pub named_grows : (limits : Limits) (o : Option (ℕ × List Term)) (s : State) (k : Next) → NextGrows k → Grown s (makes_named limits o s k)
named_grows limits None s k g = grown_refl _ s
named_grows limits (Some f) s k g = fun_grows limits f.0 (Some f.1) s k g

pub caught_grows : (limits : Limits) (class : Class) (t : Term) (s : State) (k : Next) → NextGrows k → Grown s (caught limits class t s k)
unfolding caught
caught_grows limits Error t s k g = builds_grow limits _ s _ (λ s. g _ s)
caught_grows limits Exit t s k g = builds_grow limits _ s _ (λ s. g _ s)
caught_grows limits Throw t s k g = g (t ∷ []) s

raises_as_grows : (o : Option Class) (t : Term) (s : State) (r : Handler) → HandlerGrows r → Grown s (raises_as o t s r)
raises_as_grows None t s r g = g Error _ s
raises_as_grows (Some class) t s r g = g class t s

raise_grows : (ts : List Term) (s : State) (r : Handler) → HandlerGrows r → Grown s (raise ts s r)
raise_grows [] s r g = grown_refl _ s
raise_grows (t ∷ []) s r g = grown_refl _ s
raise_grows (t ∷ u ∷ []) s r g = raises_as_grows (class_of t) u s r g
raise_grows (t ∷ u ∷ v ∷ ts) s r g = grown_refl _ s

match_fail_grows : (ts : List Term) (s : State) (r : Handler) → HandlerGrows r → Grown s (match_fail ts s r)
match_fail_grows [] s r g = grown_refl _ s
match_fail_grows (t ∷ []) s r g = cond_grows (is_function_clause t) s (fails (codes "function_clause") s r) (r Error t s) (g Error _ s) (g Error t s)
match_fail_grows (t ∷ u ∷ ts) s r g = grown_refl _ s

stacktrace_grows : (ts : List Term) (s : State) (k : Next) → NextGrows k → Grown s (build_stacktrace ts s k)
stacktrace_grows [] s k g = grown_refl _ s
stacktrace_grows (t ∷ []) s k g = g (nil ∷ []) s
stacktrace_grows (t ∷ u ∷ ts) s k g = grown_refl _ s

operation_grows : (o : Option Primop) (ts : List Term) (s : State) (r : Handler) (k : Next) → HandlerGrows r → NextGrows k → Grown s (operation o ts s r k)
operation_grows None ts s r k gr gk = grown_refl _ s
operation_grows (Some Raise) ts s r k gr gk = raise_grows ts s r gr
operation_grows (Some MatchFail) ts s r k gr gk = match_fail_grows ts s r gr
operation_grows (Some BuildStacktrace) ts s r k gr gk = stacktrace_grows ts s k gk

pub primop_grows : (f : List ℕ) (ts : List Term) (s : State) (r : Handler) (k : Next) → HandlerGrows r → NextGrows k → Grown s (primop f ts s r k)
unfolding primop
primop_grows f ts s r k gr gk = operation_grows (primop_named f) ts s r k gr gk

pub comes_to_grows : (e : End) (s : State) (r : Handler) (k : Next) → HandlerGrows r → NextGrows k → Grown s (comes_to e s r k)
comes_to_grows (End.value t) s r k gr gk = gk (t ∷ []) s
comes_to_grows (End.raised class reason) s r k gr gk = gr class reason s

pub performs_grows : (limits : Limits) (o : Outcome) (s : State) (r : Handler) (k : Next) → HandlerGrows r → NextGrows k → Grown s (performs limits o s r k)
unfolding performs
performs_grows limits o s r k gr gk = grown_then (printing_later o.printed s) (builds_grow limits o.words (printing o.printed s) (λ s. comes_to o.end s r k) (λ s. comes_to_grows o.end s r k gr gk))

module _ (program : Program) (limits : Limits) where
  module _ (call : Calls) (call_grows : CallGrows call) where
    pub applies_grows : (t : Term) (ts : List Term) (d : ℕ) (s : State) (r : Handler) (k : Next) → HandlerGrows r → NextGrows k → Grown s (applies program limits call t ts d s r k)
    unfolding applies
    applies_grows (fun n us) ts d s r k gr gk = cond_grows (nat_eq (arity_of program n) (length ts)) s _ _ (call_grows n (listed us) ts d s r k gr gk) (builds_grow limits _ s _ (λ s. gr Error _ s))
    applies_grows (integer i) ts d s r k gr gk = builds_grow limits _ s _ (λ s. gr Error _ s)
    applies_grows (atom a) ts d s r k gr gk = builds_grow limits _ s _ (λ s. gr Error _ s)
    applies_grows nil ts d s r k gr gk = builds_grow limits _ s _ (λ s. gr Error _ s)
    applies_grows (cons a b) ts d s r k gr gk = builds_grow limits _ s _ (λ s. gr Error _ s)
    applies_grows (tuple us) ts d s r k gr gk = builds_grow limits _ s _ (λ s. gr Error _ s)

    pub applies_named_grows : (o : Option (ℕ × List Term)) (ts : List Term) (d : ℕ) (s : State) (r : Handler) (k : Next) → HandlerGrows r → NextGrows k → Grown s (applies_named call o ts d s r k)
    unfolding applies_named
    applies_named_grows None ts d s r k gr gk = grown_refl _ s
    applies_named_grows (Some f) ts d s r k gr gk = call_grows f.0 f.1 ts d s r k gr gk

    calls_own_grows : (o : Option ℕ) (ts : List Term) (d : ℕ) (s : State) (r : Handler) (k : Next) → HandlerGrows r → NextGrows k → Grown s (calls_own program limits call o ts d s r k)
    calls_own_grows None ts d s r k gr gk = gr Error _ s
    calls_own_grows (Some n) ts d s r k gr gk = call_grows n [] ts d s r k gr gk

    pub calls_grows : (m f : List ℕ) (ts : List Term) (d : ℕ) (s : State) (r : Handler) (k : Next) → HandlerGrows r → NextGrows k → Grown s (calls program limits call m f ts d s r k)
    unfolding calls
    calls_grows m f ts d s r k gr gk =
        option_grows (built_in m f (length ts)) s (calls_own program limits call (own_function program m f (length ts)) ts d s r k) (λ b. performs limits (bif_outcome (arity_of program) b ts) s r k)
        (calls_own_grows (own_function program m f (length ts)) ts d s r k gr gk) (λ b. performs_grows limits (bif_outcome (arity_of program) b ts) s r k gr gk)

    mutual
      pub grows : (e : Expression) (c : Context) (s : State) (r : Handler) (k : Next) → HandlerGrows r → NextGrows k → Grown s (eval program limits call e c s r k)
      grows (Expression.Int p n) c s r k gr gk = grown_then (worked_later 1 s) (gk _ (worked 1 s))
      grows (Expression.Atom p a) c s r k gr gk = grown_then (worked_later 1 s) (gk _ (worked 1 s))
      grows (Expression.Nil p) c s r k gr gk = grown_then (worked_later 1 s) (gk _ (worked 1 s))
      grows (Expression.Variable p x) c s r k gr gk = grown_then (worked_later 1 s) (value_grows (value_of x c) (worked 1 s) k gk)
      grows (Expression.Name p f) c s r k gr gk = grown_then (worked_later 1 s) (named_grows limits (function_of f c) (worked 1 s) k gk)
      grows (Expression.Tuple p es) c s r k gr gk = grown_then (worked_later (1 + count es) s) (all_grow es (part c) (worked (1 + count es) s) r _ gr (λ ts s. builds_grow limits _ s _ (λ s. gk _ s)))
      grows (Expression.Cons p es e) c s r k gr gk =
          grown_then (worked_later (2 + count es) s) (all_grow es (part c) (worked (2 + count es) s) r _ gr
          (λ ts s. grows e (part (behind (funs_in_all es) c)) s r _ gr (λ us s. one_grows us s _ (λ u s. builds_grow limits _ s _ (λ s. gk _ s)))))
      grows (Expression.Values p es) c s r k gr gk = grown_then (worked_later (1 + count es) s) (all_grow es (part c) (worked (1 + count es) s) r k gr gk)
      grows (Expression.Let p xs a b) c s r k gr gk =
          grown_then (worked_later (3 + length xs) s) (grows a (part c) (worked (3 + length xs) s) r _ gr (λ ts s. count_grows (length xs) ts s _ (grows b (with (names xs) ts (behind (funs a) c)) s r k gr gk)))
      grows (Expression.Case p a cs) c s r k gr gk =
          grown_then (worked_later (2 + count_clauses cs + tested_nodes cs) s) (grows a (part c) (worked (2 + count_clauses cs + tested_nodes cs) s) r _ gr (λ ts s. choose_grows cs ts (behind (funs a) c) s r k gr gk))
      grows (Expression.Lambda p q xs b) c s r k gr gk = grown_then (worked_later 2 s) (fun_grows limits c.number (values_in c.bound (captured_by_fun c.scope (names xs) b)) (worked 2 s) k gk)
      grows (Expression.Letrec p ds b) c s r k gr gk = grown_then (worked_later (2 + count_definitions ds) s) (grows b (with_functions ds c) (worked (2 + count_definitions ds) s) r k gr gk)
      grows (Expression.Apply p f es) c s r k gr gk =
          grown_then (worked_later (2 + count es) s)
          (option_grows (direct f (count es)) (worked (2 + count es) s)
          (eval program limits call f (part c) (worked (2 + count es) s) r (λ fs s. with_one fs s (λ t s. eval_all program limits call es (part (behind (funs f) c)) s r (λ ts s. applies program limits call t ts c.depth s r k))))
          (λ g. eval_all program limits call es (part (behind (funs f) c)) (worked (2 + count es) s) r (λ ts s. applies_named call (function_of g c) ts c.depth s r k))
          (grows f (part c) (worked (2 + count es) s) r _ gr (λ fs s. one_grows fs s _ (λ t s. all_grow es (part (behind (funs f) c)) s r _ gr (λ ts s. applies_grows t ts c.depth s r k gr gk))))
          (λ g. all_grow es (part (behind (funs f) c)) (worked (2 + count es) s) r _ gr (λ ts s. applies_named_grows (function_of g c) ts c.depth s r k gr gk)))
      grows (Expression.Call p m f es) c s r k gr gk = grown_then (worked_later (1 + count es) s) (all_grow es (part c) (worked (1 + count es) s) r _ gr (λ ts s. calls_grows m f ts c.depth s r k gr gk))
      grows (Expression.Primop p f es) c s r k gr gk = grown_then (worked_later (1 + count es) s) (all_grow es (part c) (worked (1 + count es) s) r _ gr (λ ts s. primop_grows f ts s r k gr gk))
      grows (Expression.Try p a xs b ys h) c s r k gr gk =
          grown_then (worked_later (4 + length xs + length ys) s) (grows a (part c) (worked (4 + length xs + length ys) s) _ _
          (λ class reason s. option_grows (causes class reason (length ys)) s (ends Ending.stuck s) (λ ts. eval program limits call h (with (names ys) ts (behind (funs a + funs b) c)) s r k) (grown_refl _ s)
          (λ ts. grows h (with (names ys) ts (behind (funs a + funs b) c)) s r k gr gk))
          (λ ts s. count_grows (length xs) ts s _ (grows b (with (names xs) ts (behind (funs a) c)) s r k gr gk)))
      grows (Expression.Do p a b) c s r k gr gk = grown_then (worked_later 3 s) (grows a (part c) (worked 3 s) r _ gr (λ ts s. grows b (behind (funs a) c) s r k gr gk))
      grows (Expression.Catch p a) c s r k gr gk = grown_then (worked_later 2 s) (grows a (part c) (worked 2 s) _ _ (λ class reason s. caught_grows limits class reason s k gk) (λ ts s. one_grows ts s _ (λ t s. gk (t ∷ []) s)))

      pub all_grow : (es : Expressions) (c : Context) (s : State) (r : Handler) (k : Next) → HandlerGrows r → NextGrows k → Grown s (eval_all program limits call es c s r k)
      all_grow no_expression c s r k gr gk = gk [] s
      all_grow (and_expression e es) c s r k gr gk = grows e c s r _ gr (λ us s. one_grows us s _ (λ t s. all_grow es (behind (funs e) c) s r _ gr (λ ts s. gk (t ∷ ts) s)))

      pub choose_grows : (cs : Clauses) (ts : List Term) (c : Context) (s : State) (r : Handler) (k : Next) → HandlerGrows r → NextGrows k → Grown s (choose program limits call cs ts c s r k)
      choose_grows no_clause ts c s r k gr gk = no_clause_grows limits ts s r gr
      choose_grows (and_clause p ps guard body cs) ts c s r k gr gk =
          count_grows (count_patterns ps) ts s _
          (option_grows (matched_all ps (terms ts)) s (choose program limits call cs ts (behind (funs guard + funs body) c) s r k)
          (λ us. eval program limits call guard (part (with (bound_by ps) us c)) s (λ class reason s. choose program limits call cs ts (behind (funs guard + funs body) c) s r k)
          (λ gs s. with_one gs s (λ g s. elim (is_true g) [ true ↦ eval program limits call body (with (bound_by ps) us (behind (funs guard) c)) s r k | false ↦ choose program limits call cs ts (behind (funs guard + funs body) c) s r k ])))
          (choose_grows cs ts (behind (funs guard + funs body) c) s r k gr gk)
          (λ us. grows guard (part (with (bound_by ps) us c)) s _ _ (λ class reason s. choose_grows cs ts (behind (funs guard + funs body) c) s r k gr gk)
          (λ gs s. one_grows gs s _ (λ g s. bool_grows (is_true g) s _ _ (grows body (with (bound_by ps) us (behind (funs guard) c)) s r k gr gk) (choose_grows cs ts (behind (funs guard + funs body) c) s r k gr gk)))))

    pub enters_grows : (n : ℕ) (o : Option Procedure) (captured ts : List Term) (d : ℕ) (s : State) (r : Handler) (k : Next) → HandlerGrows r → NextGrows k → Grown s (enters program limits call n o captured ts d s r k)
    enters_grows n None captured ts d s r k gr gk = grown_refl _ s
    enters_grows n (Some f) captured ts d s r k gr gk =
        count_grows (length f.parameters) ts s _
        (cond_grows (passes (d + limits.frame n) limits.stack) s _ _ (grown_refl _ s)
        (grown_then (entered_later (d + limits.frame n) (length captured) s) (grows f.body (at_entry program limits f captured ts (d + limits.frame n) d) (entering (d + limits.frame n) (length captured) s) r k gr gk)))

  pub fuel_grows : (fuel : ℕ) (s : State) (x : Run) (y : ℕ → Run) → Grown s x → ((f : ℕ) → fuel ≡ suc f → Grown s (y f)) → Grown s (elim fuel [ zero ↦ x | suc f ↦ y f ])
  fuel_grows zero s x y g h = g
  fuel_grows (suc f) s x y g h = h f refl

  pub calls_within_grow : (b : ℕ) → CallGrows (calls_within program limits b)
  calls_within_grow zero n captured ts d s r k gr gk = grown_refl _ s
  calls_within_grow (suc b) n captured ts d s r k gr gk =
      fuel_grows s.fuel s (ends Ending.fuel_spent s) (λ fuel. enters program limits (calls_within program limits b) n (slice_get program.procedures n) captured ts d (record s { fuel = fuel }) r k) (grown_refl _ s)
      (λ fuel is. grown_then (spent_later fuel s is) (enters_grows (calls_within program limits b) (calls_within_grow b) n (slice_get program.procedures n) captured ts d (record s { fuel = fuel }) r k gr gk))

pub evaluation_grows : (program : Program) (limits : Limits) (depth : ℕ) (e : Expression) (c : Context) (s : State) (r : Handler) (k : Next) → HandlerGrows r → NextGrows k → Grown s (eval program limits (calls_within program limits depth) e c s r k)
evaluation_grows program limits depth = grows program limits (calls_within program limits depth) (calls_within_grow program limits depth)
