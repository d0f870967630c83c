-- Two runs of one expression, under two limits. What holds of the states where they begin holds to the end, if the primitive steps keep it.
use Rattle.std.proofs.Common.{ℕ, ◌+◌, List, [], ◌∷◌, Option, Some, None}
use Rattle.std.specs.Prelude.{Bool, true, false, if◌then◌else◌, nat_eq, length, codes}
use Rattle.hipe_terms.specs.Terms.{Term, integer, atom, nil, cons, tuple, fun, terms, listed, cells}
use Rattle.hipe_terms.specs.Words.{list_words, tuple_words}
use Rattle.hipe_terms.specs.Bifs.{built_in}
use Rattle.hipe_terms.specs.Outcome.{End, Outcome, bif_outcome}
use Rattle.hipe_terms.specs.declared.class.Class.{Class}
use Rattle.hipe_terms.specs.declared.primop.Primop.{Primop}
use Rattle.hipe_terms.specs.declared.primop.Primop.TheVariants.{Raise, MatchFail, BuildStacktrace}
use Rattle.hipe_terms.specs.Primops.{primop_named}
use Rattle.hipe_terms.specs.declared.class.Class.TheVariants.{Error, Exit, Throw}
use Rattle.core_ast.specs.Trees.{Expression, Expressions, no_expression, and_expression, Clauses, no_clause, and_clause}
use Rattle.core_meaning.specs.Scopes.{names, bound_by, count_definitions, captured_by_fun, funs, funs_in_all}
use Rattle.core_meaning.specs.Procedures.{Program}
use Rattle.core_meaning.specs.Matching.{matched_all}
use Rattle.core_ast.specs.Degrees.{count, count_patterns}
use Rattle.core_meaning.specs.Meaning.{State, Ending, Run, ends, Limits, Next, Handler, Calls, worked, printing, builds, Context, part, behind, with, with_functions, value_of, values_in, function_of, fails, with_one, with_count, with_value, class_of, is_true, no_clause_for, makes_fun, makes_named, caught, causes, raises_as, raise, is_function_clause, match_fail, build_stacktrace, primop, operation, count_clauses, tested_nodes, direct, arity_of, own_function, applies_named, comes_to, performs, applies, calls_own, calls, eval, eval_all, choose}
use Rattle.core_meaning.specs.Laws.{Grown, NextGrows, HandlerGrows}
use Rattle.core_meaning.proofs.Growth.{grown_refl, CallGrows, bool_grows, option_grows, builds_grow, one_grows, count_grows, caught_grows, primop_grows, comes_to_grows, applies_grows, applies_named_grows, calls_grows, grows, all_grow, choose_grows}

-- the same context at other depths
abbrev pub moved : ℕ → ℕ → Context → Context
moved inner depth c = record c { inner = inner; depth = depth }

module _ (E : Run → Run → Type 0) where
  pub cond_alike : (b : Bool) (x y z w : Run) → E x z → E y w → E (if b then x else y) (if b then z else w)
  cond_alike true x y z w p q = p
  cond_alike false x y z w p q = q

  pub bool_alike : (b : Bool) (x y z w : Run) → E x z → E y w → E (elim b [ true ↦ x | false ↦ y ]) (elim b [ true ↦ z | false ↦ w ])
  bool_alike true x y z w p q = p
  bool_alike false x y z w p q = q

  pub option_alike : {A : Type 0} (o : Option A) (x z : Run) (y w : A → Run) → E x z → ((a : A) → E (y a) (w a)) → E (elim o [ None ↦ x | Some a ↦ y a ]) (elim o [ None ↦ z | Some a ↦ w a ])
  option_alike None x z y w p q = p
  option_alike (Some a) x z y w p q = q a

-- R relates the states of the two runs, D their depths, and E how they end
module _ (program : Program) (L M : Limits) (R : State → State → Type 0) (D : ℕ → ℕ → Type 0) (E : Run → Run → Type 0) where
  pub record Handlers (r s : Handler) : Type 0 where
    pub alike : (class : Class) (reason : Term) (x y : State) → R x y → E (r class reason x) (s class reason y)
    pub grows : HandlerGrows s

  pub record Nexts (k l : Next) : Type 0 where
    pub alike : (ts : List Term) (x y : State) → R x y → E (k ts x) (l ts y)
    pub grows : NextGrows l

  pub record CallsAlike (f g : Calls) : Type 0 where
    pub alike : (n : ℕ) (captured ts : List Term) (d e : ℕ) (x y : State) (r s : Handler) (k l : Next) → D d e → R x y → Handlers r s → Nexts k l → E (f n captured ts d x r k) (g n captured ts e y s l)
    pub grows : CallGrows g

  -- what the primitive steps keep
  pub record Steps : Type 0 where
    pub sticks : (x y : State) → R x y → E (ends Ending.stuck x) (ends Ending.stuck y)
    pub works : (n : ℕ) (x y : State) → R x y → R (worked n x) (worked n y)
    pub prints : (ts : List Term) (x y : State) → R x y → R (printing ts x) (printing ts y)
    pub builds : (n : ℕ) (x y : State) (go : State → Run) (to : State → Run) → R x y → ((x y : State) → R x y → E (go x) (to y)) → ((y : State) → Grown y (to y)) → E (builds L n x go) (builds M n y to)

  module _ (step : Steps) where
    one_alike : (ts : List Term) (x y : State) (go to : Term → State → Run) → R x y → ((t : Term) (x y : State) → R x y → E (go t x) (to t y)) → E (with_one ts x go) (with_one ts y to)
    unfolding with_one
    one_alike [] x y go to p q = step.sticks x y p
    one_alike (t ∷ []) x y go to p q = q t x y p
    one_alike (t ∷ u ∷ ts) x y go to p q = step.sticks x y p

    pub count_alike : (n : ℕ) (ts : List Term) (x y : State) (a b : Run) → R x y → E a b → E (with_count n ts x a) (with_count n ts y b)
    unfolding with_count
    count_alike n ts x y a b p q = cond_alike E (nat_eq (length ts) n) a (ends Ending.stuck x) b (ends Ending.stuck y) q (step.sticks x y p)

    value_alike : (o : Option Term) (x y : State) (k l : Next) → R x y → Nexts k l → E (with_value o x k) (with_value o y l)
    unfolding with_value
    value_alike None x y k l p q = step.sticks x y p
    value_alike (Some t) x y k l p q = q.alike (t ∷ []) x y p

    raised_alike : (n : ℕ) (reason : Term) (x y : State) (r s : Handler) → R x y → Handlers r s → E (builds L n x (λ x. r Error reason x)) (builds M n y (λ y. s Error reason y))
    raised_alike n reason x y r s p h = step.builds n x y (λ x. r Error reason x) (λ y. s Error reason y) p (λ x y p. h.alike Error reason x y p) (λ y. h.grows Error reason y)

    given_alike : (n : ℕ) (t : Term) (x y : State) (k l : Next) → R x y → Nexts k l → E (builds L n x (λ x. k (t ∷ []) x)) (builds M n y (λ y. l (t ∷ []) y))
    given_alike n t x y k l p q = step.builds n x y (λ x. k (t ∷ []) x) (λ y. l (t ∷ []) y) p (λ x y p. q.alike (t ∷ []) x y p) (λ y. q.grows (t ∷ []) y)

    no_clause_alike : (ts : List Term) (x y : State) (r s : Handler) → R x y → Handlers r s → E (no_clause_for L ts x r) (no_clause_for M ts y s)
    unfolding no_clause_for
    no_clause_alike [] x y r s p h = raised_alike _ _ x y r s p h
    no_clause_alike (t ∷ []) x y r s p h = raised_alike _ _ x y r s p h
    no_clause_alike (t ∷ u ∷ ts) x y r s p h = raised_alike _ _ x y r s p h

    fun_alike : (n : ℕ) (o : Option (List Term)) (x y : State) (k l : Next) → R x y → Nexts k l → E (makes_fun L n o x k) (makes_fun M n o y l)
    unfolding makes_fun
    fun_alike n None x y k l p q = step.sticks x y p
    fun_alike n (Some ts) x y k l p q = given_alike (length ts + 2) (fun n (terms ts)) (worked (length ts) x) (worked (length ts) y) k l (step.works (length ts) x y p) q

    named_alike : (o : Option (ℕ × List Term)) (x y : State) (k l : Next) → R x y → Nexts k l → E (makes_named L o x k) (makes_named M o y l)
    named_alike None x y k l p q = step.sticks x y p
    named_alike (Some f) x y k l p q = fun_alike f.0 (Some f.1) x y k l p q

    caught_alike : (class : Class) (t : Term) (x y : State) (k l : Next) → R x y → Nexts k l → E (caught L class t x k) (caught M class t y l)
    unfolding caught
    caught_alike Error t x y k l p q = given_alike _ _ x y k l p q
    caught_alike Exit t x y k l p q = given_alike _ _ x y k l p q
    caught_alike Throw t x y k l p q = q.alike (t ∷ []) x y p

    raises_as_alike : (o : Option Class) (t : Term) (x y : State) (r s : Handler) → R x y → Handlers r s → E (raises_as o t x r) (raises_as o t y s)
    raises_as_alike None t x y r s p h = h.alike Error _ x y p
    raises_as_alike (Some class) t x y r s p h = h.alike class t x y p

    raise_alike : (ts : List Term) (x y : State) (r s : Handler) → R x y → Handlers r s → E (raise ts x r) (raise ts y s)
    raise_alike [] x y r s p h = step.sticks x y p
    raise_alike (t ∷ []) x y r s p h = step.sticks x y p
    raise_alike (t ∷ u ∷ []) x y r s p h = raises_as_alike (class_of t) u x y r s p h
    raise_alike (t ∷ u ∷ v ∷ ts) x y r s p h = step.sticks x y p

    match_fail_alike : (ts : List Term) (x y : State) (r s : Handler) → R x y → Handlers r s → E (match_fail ts x r) (match_fail ts y s)
    match_fail_alike [] x y r s p h = step.sticks x y p
    match_fail_alike (t ∷ []) x y r s p h =
        cond_alike E (is_function_clause t) (fails (codes "function_clause") x r) (r Error t x) (fails (codes "function_clause") y s) (s Error t y) (h.alike Error _ x y p) (h.alike Error t x y p)
    match_fail_alike (t ∷ u ∷ ts) x y r s p h = step.sticks x y p

    stacktrace_alike : (ts : List Term) (x y : State) (k l : Next) → R x y → Nexts k l → E (build_stacktrace ts x k) (build_stacktrace ts y l)
    stacktrace_alike [] x y k l p q = step.sticks x y p
    stacktrace_alike (t ∷ []) x y k l p q = q.alike (nil ∷ []) x y p
    stacktrace_alike (t ∷ u ∷ ts) x y k l p q = step.sticks x y p

    operation_alike : (o : Option Primop) (ts : List Term) (x y : State) (r s : Handler) (k l : Next) → R x y → Handlers r s → Nexts k l → E (operation o ts x r k) (operation o ts y s l)
    operation_alike None ts x y r s k l p h q = step.sticks x y p
    operation_alike (Some Raise) ts x y r s k l p h q = raise_alike ts x y r s p h
    operation_alike (Some MatchFail) ts x y r s k l p h q = match_fail_alike ts x y r s p h
    operation_alike (Some BuildStacktrace) ts x y r s k l p h q = stacktrace_alike ts x y k l p q

    primop_alike : (f : List ℕ) (ts : List Term) (x y : State) (r s : Handler) (k l : Next) → R x y → Handlers r s → Nexts k l → E (primop f ts x r k) (primop f ts y s l)
    unfolding primop
    primop_alike f ts x y r s k l p h q = operation_alike (primop_named f) ts x y r s k l p h q

    comes_to_alike : (e : End) (x y : State) (r s : Handler) (k l : Next) → R x y → Handlers r s → Nexts k l → E (comes_to e x r k) (comes_to e y s l)
    comes_to_alike (End.value t) x y r s k l p h q = q.alike (t ∷ []) x y p
    comes_to_alike (End.raised class reason) x y r s k l p h q = h.alike class reason x y p

    performs_alike : (o : Outcome) (x y : State) (r s : Handler) (k l : Next) → R x y → Handlers r s → Nexts k l → E (performs L o x r k) (performs M o y s l)
    unfolding performs
    performs_alike o x y r s k l p h q =
        step.builds o.words (printing o.printed x) (printing o.printed y) (λ x. comes_to o.end x r k) (λ y. comes_to o.end y s l) (step.prints o.printed x y p)
        (λ x y p. comes_to_alike o.end x y r s k l p h q) (λ y. comes_to_grows o.end y s l h.grows q.grows)

    module _ (f g : Calls) (call : CallsAlike f g) where
      applies_alike : (t : Term) (ts : List Term) (d e : ℕ) (x y : State) (r s : Handler) (k l : Next) → D d e → R x y → Handlers r s → Nexts k l → E (applies program L f t ts d x r k) (applies program M g t ts e y s l)
      unfolding applies
      applies_alike (fun n us) ts d e x y r s k l i p h q = cond_alike E (nat_eq (arity_of program n) (length ts)) _ _ _ _ (call.alike n (listed us) ts d e x y r s k l i p h q) (raised_alike _ _ x y r s p h)
      applies_alike (integer n) ts d e x y r s k l i p h q = raised_alike _ _ x y r s p h
      applies_alike (atom a) ts d e x y r s k l i p h q = raised_alike _ _ x y r s p h
      applies_alike nil ts d e x y r s k l i p h q = raised_alike _ _ x y r s p h
      applies_alike (cons a b) ts d e x y r s k l i p h q = raised_alike _ _ x y r s p h
      applies_alike (tuple us) ts d e x y r s k l i p h q = raised_alike _ _ x y r s p h

      applies_named_alike : (o : Option (ℕ × List Term)) (ts : List Term) (d e : ℕ) (x y : State) (r s : Handler) (k l : Next) → D d e → R x y → Handlers r s → Nexts k l → E (applies_named f o ts d x r k) (applies_named g o ts e y s l)
      unfolding applies_named
      applies_named_alike None ts d e x y r s k l i p h q = step.sticks x y p
      applies_named_alike (Some m) ts d e x y r s k l i p h q = call.alike m.0 m.1 ts d e x y r s k l i p h q

      calls_own_alike : (o : Option ℕ) (ts : List Term) (d e : ℕ) (x y : State) (r s : Handler) (k l : Next) → D d e → R x y → Handlers r s → Nexts k l → E (calls_own program L f o ts d x r k) (calls_own program M g o ts e y s l)
      calls_own_alike None ts d e x y r s k l i p h q = h.alike Error _ x y p
      calls_own_alike (Some n) ts d e x y r s k l i p h q = call.alike n [] ts d e x y r s k l i p h q

      calls_alike : (m n : List ℕ) (ts : List Term) (d e : ℕ) (x y : State) (r s : Handler) (k l : Next) → D d e → R x y → Handlers r s → Nexts k l → E (calls program L f m n ts d x r k) (calls program M g m n ts e y s l)
      unfolding calls
      calls_alike m n ts d e x y r s k l i p h q =
          option_alike E (built_in m n (length ts)) _ _ (λ b. performs L (bif_outcome (arity_of program) b ts) x r k) (λ b. performs M (bif_outcome (arity_of program) b ts) y s l)
          (calls_own_alike (own_function program m n (length ts)) ts d e x y r s k l i p h q) (λ b. performs_alike (bif_outcome (arity_of program) b ts) x y r s k l p h q)

      mutual
        pub alike : (e : Expression) (c : Context) (i d : ℕ) (x y : State) (r s : Handler) (k l : Next) → D c.inner i → D c.depth d → R x y → Handlers r s → Nexts k l → E (eval program L f e c x r k) (eval program M g e (moved i d c) y s l)
        alike (Expression.Int p n) c i d x y r s k l u v w h q = q.alike _ _ _ (step.works 1 x y w)
        alike (Expression.Atom p a) c i d x y r s k l u v w h q = q.alike _ _ _ (step.works 1 x y w)
        alike (Expression.Nil p) c i d x y r s k l u v w h q = q.alike _ _ _ (step.works 1 x y w)
        alike (Expression.Variable p z) c i d x y r s k l u v w h q = value_alike (value_of z c) (worked 1 x) (worked 1 y) k l (step.works 1 x y w) q
        alike (Expression.Name p n) c i d x y r s k l u v w h q = named_alike (function_of n c) (worked 1 x) (worked 1 y) k l (step.works 1 x y w) q
        alike (Expression.Tuple p es) c i d x y r s k l u v w h q =
            all_alike es (part c) i i (worked (1 + count es) x) (worked (1 + count es) y) r s _ _ u u (step.works (1 + count es) x y w) h
            (record { alike = λ ts x y w. given_alike (tuple_words (length ts)) (tuple (terms ts)) x y k l w q; grows = λ ts y. builds_grow M _ y _ (λ y. q.grows _ y) })
        alike (Expression.Cons p es e) c i d x y r s k l u v w h q =
            all_alike es (part c) i i (worked (2 + count es) x) (worked (2 + count es) y) r s _ _ u u (step.works (2 + count es) x y w) h
            (record {
              alike = λ ts x y w. alike e (part (behind (funs_in_all es) c)) i i x y r s _ _ u u w h
                  (record {
                    alike = λ us x y w. one_alike us x y _ _ w (λ t x y w. given_alike (list_words (length ts)) (cells ts t) x y k l w q);
                    grows = λ us y. one_grows us y _ (λ t y. builds_grow M _ y _ (λ y. q.grows _ y));
                  });
              grows = λ ts y. grows program M g call.grows e (part (behind (funs_in_all es) (moved i i c))) y s _ h.grows (λ us y. one_grows us y _ (λ t y. builds_grow M _ y _ (λ y. q.grows _ y)));
            })
        alike (Expression.Values p es) c i d x y r s k l u v w h q = all_alike es (part c) i i (worked (1 + count es) x) (worked (1 + count es) y) r s k l u u (step.works (1 + count es) x y w) h q
        alike (Expression.Let p zs a b) c i d x y r s k l u v w h q =
            alike a (part c) i i (worked (3 + length zs) x) (worked (3 + length zs) y) r s _ _ u u (step.works (3 + length zs) x y w) h
            (record {
              alike = λ ts x y w. count_alike (length zs) ts x y _ _ w (alike b (with (names zs) ts (behind (funs a) c)) i d x y r s k l u v w h q);
              grows = λ ts y. count_grows (length zs) ts y _ (grows program M g call.grows b (with (names zs) ts (behind (funs a) (moved i d c))) y s l h.grows q.grows);
            })
        alike (Expression.Case p a cs) c i d x y r s k l u v w h q =
            alike a (part c) i i (worked (2 + count_clauses cs + tested_nodes cs) x) (worked (2 + count_clauses cs + tested_nodes cs) y) r s _ _ u u (step.works (2 + count_clauses cs + tested_nodes cs) x y w) h
            (record {
              alike = λ ts x y w. choose_alike cs ts (behind (funs a) c) i d x y r s k l u v w h q;
              grows = λ ts y. choose_grows program M g call.grows cs ts (behind (funs a) (moved i d c)) y s l h.grows q.grows;
            })
        alike (Expression.Lambda p p' zs b) c i d x y r s k l u v w h q = fun_alike c.number (values_in c.bound (captured_by_fun c.scope (names zs) b)) (worked 2 x) (worked 2 y) k l (step.works 2 x y w) q
        alike (Expression.Letrec p ds b) c i d x y r s k l u v w h q = alike b (with_functions ds c) i d (worked (2 + count_definitions ds) x) (worked (2 + count_definitions ds) y) r s k l u v (step.works (2 + count_definitions ds) x y w) h q
        alike (Expression.Apply p e es) c i d x y r s k l u v w h q =
            option_alike E (direct e (count es)) _ _
            (λ n. eval_all program L f es (part (behind (funs e) c)) (worked (2 + count es) x) r (λ ts x. applies_named f (function_of n c) ts c.depth x r k))
            (λ n. eval_all program M g es (part (behind (funs e) (moved i d c))) (worked (2 + count es) y) s (λ ts y. applies_named g (function_of n c) ts d y s l))
            (alike e (part c) i i (worked (2 + count es) x) (worked (2 + count es) y) r s _ _ u u (step.works (2 + count es) x y w) h
            (record {
              alike = λ fs x y w. one_alike fs x y _ _ w (λ t x y w. all_alike es (part (behind (funs e) c)) i i x y r s _ _ u u w h
                  (record {
                    alike = λ ts x y w. applies_alike t ts c.depth d x y r s k l v w h q;
                    grows = λ ts y. applies_grows program M g call.grows t ts d y s l h.grows q.grows;
                  }));
              grows = λ fs y. one_grows fs y _ (λ t y. all_grow program M g call.grows es (part (behind (funs e) (moved i d c))) y s _ h.grows (λ ts y. applies_grows program M g call.grows t ts d y s l h.grows q.grows));
            }))
            (λ n. all_alike es (part (behind (funs e) c)) i i (worked (2 + count es) x) (worked (2 + count es) y) r s _ _ u u (step.works (2 + count es) x y w) h
            (record {
              alike = λ ts x y w. applies_named_alike (function_of n c) ts c.depth d x y r s k l v w h q;
              grows = λ ts y. applies_named_grows program M g call.grows (function_of n c) ts d y s l h.grows q.grows;
            }))
        alike (Expression.Call p m n es) c i d x y r s k l u v w h q =
            all_alike es (part c) i i (worked (1 + count es) x) (worked (1 + count es) y) r s _ _ u u (step.works (1 + count es) x y w) h
            (record {
              alike = λ ts x y w. calls_alike m n ts c.depth d x y r s k l v w h q;
              grows = λ ts y. calls_grows program M g call.grows m n ts d y s l h.grows q.grows;
            })
        alike (Expression.Primop p n es) c i d x y r s k l u v w h q =
            all_alike es (part c) i i (worked (1 + count es) x) (worked (1 + count es) y) r s _ _ u u (step.works (1 + count es) x y w) h
            (record { alike = λ ts x y w. primop_alike n ts x y r s k l w h q; grows = λ ts y. primop_grows n ts y s l h.grows q.grows })
        alike (Expression.Try p a zs b ys e) c i d x y r s k l u v w h q =
            alike a (part c) i i (worked (4 + length zs + length ys) x) (worked (4 + length zs + length ys) y) _ _ _ _ u u (step.works (4 + length zs + length ys) x y w)
            (record {
              alike = λ class reason x y w. option_alike E (causes class reason (length ys)) (ends Ending.stuck x) (ends Ending.stuck y)
                  (λ ts. eval program L f e (with (names ys) ts (behind (funs a + funs b) c)) x r k) (λ ts. eval program M g e (with (names ys) ts (behind (funs a + funs b) (moved i d c))) y s l)
                  (step.sticks x y w) (λ ts. alike e (with (names ys) ts (behind (funs a + funs b) c)) i d x y r s k l u v w h q);
              grows = λ class reason y. option_grows (causes class reason (length ys)) y (ends Ending.stuck y) (λ ts. eval program M g e (with (names ys) ts (behind (funs a + funs b) (moved i d c))) y s l)
                  (grown_refl Ending.stuck y) (λ ts. grows program M g call.grows e (with (names ys) ts (behind (funs a + funs b) (moved i d c))) y s l h.grows q.grows);
            })
            (record {
              alike = λ ts x y w. count_alike (length zs) ts x y _ _ w (alike b (with (names zs) ts (behind (funs a) c)) i d x y r s k l u v w h q);
              grows = λ ts y. count_grows (length zs) ts y _ (grows program M g call.grows b (with (names zs) ts (behind (funs a) (moved i d c))) y s l h.grows q.grows);
            })
        alike (Expression.Do p a b) c i d x y r s k l u v w h q =
            alike a (part c) i i (worked 3 x) (worked 3 y) r s _ _ u u (step.works 3 x y w) h
            (record {
              alike = λ ts x y w. alike b (behind (funs a) c) i d x y r s k l u v w h q;
              grows = λ ts y. grows program M g call.grows b (behind (funs a) (moved i d c)) y s l h.grows q.grows;
            })
        alike (Expression.Catch p a) c i d x y r s k l u v w h q =
            alike a (part c) i i (worked 2 x) (worked 2 y) _ _ _ _ u u (step.works 2 x y w)
            (record { alike = λ class reason x y w. caught_alike class reason x y k l w q; grows = λ class reason y. caught_grows M class reason y l q.grows })
            (record { alike = λ ts x y w. one_alike ts x y _ _ w (λ t x y w. q.alike (t ∷ []) x y w); grows = λ ts y. one_grows ts y _ (λ t y. q.grows (t ∷ []) y) })

        pub all_alike : (es : Expressions) (c : Context) (i d : ℕ) (x y : State) (r s : Handler) (k l : Next) → D c.inner i → D c.depth d → R x y → Handlers r s → Nexts k l → E (eval_all program L f es c x r k) (eval_all program M g es (moved i d c) y s l)
        all_alike no_expression c i d x y r s k l u v w h q = q.alike [] x y w
        all_alike (and_expression e es) c i d x y r s k l u v w h q =
            alike e c i d x y r s _ _ u v w h
            (record {
              alike = λ us x y w. one_alike us x y _ _ w (λ t x y w. all_alike es (behind (funs e) c) i d x y r s _ _ u v w h (record { alike = λ ts x y w. q.alike (t ∷ ts) x y w; grows = λ ts y. q.grows (t ∷ ts) y }));
              grows = λ us y. one_grows us y _ (λ t y. all_grow program M g call.grows es (behind (funs e) (moved i d c)) y s _ h.grows (λ ts y. q.grows (t ∷ ts) y));
            })

        pub choose_alike : (cs : Clauses) (ts : List Term) (c : Context) (i d : ℕ) (x y : State) (r s : Handler) (k l : Next) → D c.inner i → D c.depth d → R x y → Handlers r s → Nexts k l → E (choose program L f cs ts c x r k) (choose program M g cs ts (moved i d c) y s l)
        choose_alike no_clause ts c i d x y r s k l u v w h q = no_clause_alike ts x y r s w h
        choose_alike (and_clause p ps guard body cs) ts c i d x y r s k l u v w h q =
            count_alike (count_patterns ps) ts x y _ _ w
            (option_alike E (matched_all ps (terms ts)) _ _
            (λ us. eval program L f guard (part (with (bound_by ps) us c)) x (λ class reason x. choose program L f cs ts (behind (funs guard + funs body) c) x r k)
            (λ gs x. with_one gs x (λ t x. elim (is_true t) [ true ↦ eval program L f body (with (bound_by ps) us (behind (funs guard) c)) x r k | false ↦ choose program L f cs ts (behind (funs guard + funs body) c) x r k ])))
            (λ us. eval program M g guard (part (with (bound_by ps) us (moved i d c))) y (λ class reason y. choose program M g cs ts (behind (funs guard + funs body) (moved i d c)) y s l)
            (λ gs y. with_one gs y (λ t y. elim (is_true t) [ true ↦ eval program M g body (with (bound_by ps) us (behind (funs guard) (moved i d c))) y s l | false ↦ choose program M g cs ts (behind (funs guard + funs body) (moved i d c)) y s l ])))
            (choose_alike cs ts (behind (funs guard + funs body) c) i d x y r s k l u v w h q)
            (λ us. alike guard (part (with (bound_by ps) us c)) i i x y _ _ _ _ u u w
            (record {
              alike = λ class reason x y w. choose_alike cs ts (behind (funs guard + funs body) c) i d x y r s k l u v w h q;
              grows = λ class reason y. choose_grows program M g call.grows cs ts (behind (funs guard + funs body) (moved i d c)) y s l h.grows q.grows;
            })
            (record {
              alike = λ gs x y w. one_alike gs x y _ _ w (λ t x y w. bool_alike E (is_true t) _ _ _ _ (alike body (with (bound_by ps) us (behind (funs guard) c)) i d x y r s k l u v w h q) (choose_alike cs ts (behind (funs guard + funs body) c) i d x y r s k l u v w h q));
              grows = λ gs y. one_grows gs y _ (λ t y. bool_grows (is_true t) y _ _ (grows program M g call.grows body (with (bound_by ps) us (behind (funs guard) (moved i d c))) y s l h.grows q.grows)
                  (choose_grows program M g call.grows cs ts (behind (funs guard + funs body) (moved i d c)) y s l h.grows q.grows));
            })))
