-- No run of a good module's call gets stuck.
use Rattle.std.proofs.Common.{◌≡◌, ℕ, zero, suc, ◌+◌, List, [], ◌∷◌, ◌++◌, Option, Some, None, refl, sym, ap, ◌∙◌, subst, arith}
use Rattle.std.specs.Prelude.{Bool, true, false, if◌then◌else◌, ◌==◌, length, map, sum, slice_get}
use Rattle.std.proofs.lemmas.List.{length-append, length-map}
use Rattle.hipe_terms.specs.declared.constant.Call.{Call}
use Rattle.hipe_terms.specs.Terms.{Term, terms, term_of}
use Rattle.hipe_terms.specs.Words.{words_of}
use Rattle.core_ast.specs.declared.pattern.Var.{Var}
use Rattle.core_ast.specs.declared.tree.FunName.{FunName}
use Rattle.core_ast.specs.Trees.{Expression, Expressions, no_expression, and_expression, Clauses, no_clause, and_clause, Module}
use Rattle.core_ast.specs.Names.{Names, has_function, has_variable, with_variables, with_functions, variables_of_all}
use Rattle.core_ast.specs.Degrees.{count, count_patterns, degree_of, degree_of_bodies}
use Rattle.core_ast.specs.Good.{IsGood}
use Rattle.core_meaning.specs.Scopes.{Scope, slot_of, known_of, names, binding, bound_by, count_definitions, captured_by_fun, captured_by_group, funs, funs_in_all, funs_in_definitions, letrec_scope, group_scope}
use Rattle.core_meaning.specs.Procedures.{Procedure, Program, fun_at, scope_at_entry, slots_at_entry, procedures, procedures_in_all, procedures_in_clauses, procedures_of_group, program_of}
use Rattle.core_meaning.specs.Matching.{matched_all}
use Rattle.core_meaning.specs.Meaning.{State, Ending, Run, ends, Limits, Next, Handler, Calls, passes, worked, entering, Context, part, behind, with, with_functions as with_known, value_in, value_of, both, values_in, function_in, function_of, with_one, is_true, count_clauses, tested_nodes, direct, exported, applies_named, applies, eval, eval_all, choose, at_entry, enters, calls_within}
use Rattle.core_meaning.specs.Source.{at_start, called_name, starts, run_within}
use Rattle.core_soundness.proofs.Basics.{some_same, not_some, same_numbers}
use Rattle.core_soundness.proofs.Lists.{AllBelow, get_found}
use Rattle.core_soundness.proofs.Terms.{GoodTerm, AllGood, terms_good, cells_good, append_good, get_good, constants_good}
use Rattle.core_soundness.proofs.Matched.{patterns_bind}
use Rattle.core_soundness.proofs.Scopes.{known_stands, slot_of_below, known_of_below, fun_below}
use Rattle.core_soundness.proofs.Fine.{Fine, FineAll, FineClauses}
use Rattle.core_soundness.proofs.Numbers.{length_all, length_group, Placed, placed_left, placed_right, placed_head, placed_behind, placed_behind_two}
use Rattle.core_soundness.proofs.Functions.{length_names, Sited, binding_sited, letrec_sited, GoodProcedure}
use Rattle.core_soundness.proofs.Modules.{module_good, exported_stands}
use Rattle.core_soundness.proofs.Steps.{Sound, cond_sound, bool_sound, option_sound, builds_sound, count_sound, NextSound, HandlerSound, CallSound, match_sound, one_sound, value_sound, no_clause_sound, fun_sound, Applicable, named_sound, caught_sound, causes_sound, primop_sound, ExportsStand, applies_sound, applies_named_sound, calls_sound}

module _ (program : Program) where
  -- the values in force in a context: good terms, one for each variable of a scope that has these names
  pub record Holds (n : Names) (s : Scope) (ts : List Term) : Type 0 where
    pub sited : Sited program n s (length ts)
    pub good : AllGood program ts

  bound_holds : (n : Names) (s : Scope) (ts : List Term) (xs : List Var) (us : List Term) → Holds n s ts → length us ≡ length xs → AllGood program us → Holds (with_variables xs n) (binding (length ts) (names xs) s) (ts ++ us)
  bound_holds n s ts xs us h size g =
      let e : length ts + length xs ≡ length (ts ++ us) = omega (arith, length-append ts us, size) in
      record { sited = subst (Sited program (with_variables xs n) (binding (length ts) (names xs) s)) e (binding_sited program n s (length ts) xs h.sited); good = append_good program ts us h.good g }

  -- the functions in an expression stand where they do with so many more values in force
  more_placed : (s : Scope) (i j : ℕ) (e : Expression) (ts us : List Term) → length us ≡ j → Placed program i (procedures s (length ts + j) i e) → Placed program i (procedures s (length (ts ++ us)) i e)
  more_placed s i j e ts us size p = let eq : length ts + j ≡ length (ts ++ us) = omega (arith, length-append ts us, size) in subst (λ m. Placed program i (procedures s m i e)) eq p

  -- ---- what is looked up

  slot_holds : (n : Names) (s : Scope) (ts : List Term) (x : List ℕ) → Holds n s ts → has_variable x n ≡ true → (t : Term) × (value_in ts (slot_of x s) ≡ Some t) × GoodTerm program t
  slot_holds n s ts x h is =
      let slot = h.sited.covers.variables x is in
      let found = get_found ts slot.0 (slot_of_below (length ts) s x slot.0 h.sited.in_force.below slot.1) in
      (found.0, ap (value_in ts) slot.1 ∙ found.1, get_good program ts slot.0 found.0 h.good found.1)

  abbrev Values : List Term → List ℕ → Type 0
  Values ts is = (us : List Term) × (values_in ts is ≡ Some us) × AllGood program us × (length us ≡ length is)

  both_hold : (ts : List Term) (i : ℕ) (is : List ℕ) (t : Term) (us : List Term) → slice_get ts i ≡ Some t → values_in ts is ≡ Some us → both (slice_get ts i) (values_in ts is) ≡ Some (t ∷ us)
  both_hold ts i is t us p q = ap (λ o. both o (values_in ts is)) p ∙ ap (λ o. both (Some t) o) q

  values_hold : (ts : List Term) (is : List ℕ) → AllGood program ts → AllBelow (length ts) is → Values ts is
  values_hold ts [] g b = ([], refl, tt, refl)
  values_hold ts (i ∷ is) g b =
      let found = get_found ts i b.0 in
      let others = values_hold ts is g b.1 in
      (found.0 ∷ others.0, both_hold ts i is found.0 others.0 found.1 others.1, (get_good program ts i found.0 g found.1, others.2), ap suc others.3)

  known_holds : (n : Names) (s : Scope) (ts : List Term) (f : FunName) → Holds n s ts → has_function f n ≡ true → Applicable program (function_in ts (known_of f s)) f.arity
  known_holds n s ts f h is =
      let known = h.sited.covers.functions f is in
      let stands = known_stands program s (length ts) f known.0 h.sited.in_force known.1 in
      let values = values_hold ts (known.0).captured h.good (known_of_below (length ts) s f known.0 h.sited.in_force.below known.1) in
      record {
        number = (known.0).number;
        values = values.0;
        is = ap (function_in ts) known.1 ∙ ap (λ o. elim o [ None ↦ None | Some us ↦ Some ((known.0).number, us) ]) values.1;
        procedure = stands.procedure;
        found = stands.found;
        captured = stands.captured ∙ sym values.3;
        parameters = stands.parameters;
        good = values.2;
      }

  if_fits : (b : Bool) (f g : FunName) → (if b then Some f else None) ≡ Some g → (b ≡ true) × (f ≡ g)
  if_fits true f g is = (refl, some_same f g is)
  if_fits false f g is = absurd (not_some is)

  direct_is : (n : Names) (e : Expression) (arguments : ℕ) (g : FunName) → direct e arguments ≡ Some g → Fine n e → (has_function g n ≡ true) × (g.arity ≡ arguments)
  direct_is n (Expression.Name p f) arguments g is h =
      let fits = if_fits (f.arity == arguments) f g is in (subst (λ f. has_function f n ≡ true) fits.1 h, ap (λ (f : FunName). f.arity) (sym fits.1) ∙ same_numbers f.arity arguments fits.0)
  direct_is n e arguments g is h = absurd (not_some is)

  module _ (limits : Limits) (call : Calls) (call_sound : CallSound program call) (exports : ExportsStand program) where
    mutual
      pub sound : (e : Expression) (c : Context) (n : Names) (s : State) (r : Handler) (k : Next) → Fine n e → Holds n c.scope c.bound → Placed program c.number (procedures c.scope (length c.bound) c.number e)
          → HandlerSound program r → NextSound program (degree_of e) k → Sound (eval program limits call e c s r k)
      sound (Expression.Int p i) c n s r k f h w gr gk = gk _ (worked 1 s) refl (tt, tt)
      sound (Expression.Atom p a) c n s r k f h w gr gk = gk _ (worked 1 s) refl (tt, tt)
      sound (Expression.Nil p) c n s r k f h w gr gk = gk _ (worked 1 s) refl (tt, tt)
      sound (Expression.Variable p x) c n s r k f h w gr gk = let value = slot_holds n c.scope c.bound x h f in value_sound program (value_of x c) value.0 (worked 1 s) k value.1 value.2 gk
      sound (Expression.Name p g) c n s r k f h w gr gk = named_sound program limits (function_of g c) g.arity (worked 1 s) k (known_holds n c.scope c.bound g h f) gk
      sound (Expression.Tuple p es) c n s r k f h w gr gk =
          all_sound es (part c) n (worked (1 + count es) s) r _ f h w gr (λ ts s is g. builds_sound limits _ s _ (λ s. gk _ s refl (terms_good program ts g, tt)))
      sound (Expression.Cons p es e) c n s r k f h w gr gk =
          let ps = procedures_in_all c.scope (length c.bound) c.number es in
          let qs = procedures c.scope (length c.bound) (c.number + funs_in_all es) e in
          all_sound es (part c) n (worked (2 + count es) s) r _ f.0 h (placed_left program c.number ps qs w) gr
          (λ ts s is g. sound e (part (behind (funs_in_all es) c)) n s r _ f.2 h (placed_right program c.number (funs_in_all es) ps qs (length_all c.scope (length c.bound) c.number es) w) gr
          (λ us s is' g'. one_sound program us s _ (f.1.is (length us) is') g' (λ u s g''. builds_sound limits _ s _ (λ s. gk _ s refl (cells_good program ts u g g'', tt)))))
      sound (Expression.Values p es) c n s r k f h w gr gk = all_sound es (part c) n (worked (1 + count es) s) r k f h w gr gk
      sound (Expression.Let p xs a b) c n s r k f h w gr gk =
          let ps = procedures c.scope (length c.bound) c.number a in
          let qs = procedures (binding (length c.bound) (names xs) c.scope) (length c.bound + length xs) (c.number + funs a) b in
          sound a (part c) n (worked (3 + length xs) s) r _ f.1 h (placed_left program c.number ps qs w) gr
          (λ ts s is g. let fits = f.0.is (length ts) is in let size = sym (some_same (length xs) (length ts) fits) in
          count_sound (length xs) ts s _ fits (sound b (with (names xs) ts (behind (funs a) c)) (with_variables xs n) s r k f.2 (bound_holds n c.scope c.bound xs ts h size g)
          (more_placed (binding (length c.bound) (names xs) c.scope) (c.number + funs a) (length xs) b c.bound ts size (placed_behind program c.scope (length c.bound) c.number a qs w)) gr gk))
      sound (Expression.Case p a cs) c n s r k f h w gr gk =
          let ps = procedures c.scope (length c.bound) c.number a in
          let qs = procedures_in_clauses c.scope (length c.bound) (c.number + funs a) cs in
          sound a (part c) n (worked (2 + count_clauses cs + tested_nodes cs) s) r _ f.0 h (placed_left program c.number ps qs w) gr
          (λ ts s is g. choose_sound cs ts (behind (funs a) c) n (degree_of a) (degree_of_bodies cs) s r k f.1 is g h (placed_behind program c.scope (length c.bound) c.number a qs w) gr gk)
      sound (Expression.Lambda p q xs b) c n s r k f h w gr gk =
          let captured = captured_by_fun c.scope (names xs) b in
          let values = values_hold c.bound captured h.good (fun_below (length c.bound) c.scope (names xs) b h.sited.in_force.below) in
          let it = fun_at c.scope c.number (names xs) b in
          fun_sound program limits c.number (values_in c.bound captured) values.0 (worked 2 s) k values.1
          (it, placed_head program c.number it (procedures (scope_at_entry it) (slots_at_entry it) (suc c.number) b) w, sym values.3) values.2 gk
      sound (Expression.Letrec p ds b) c n s r k f h w gr gk =
          let captured = captured_by_group c.scope ds in
          let ps = procedures_of_group (length captured) (group_scope c.number ds c.scope) c.number ds in
          let qs = procedures (letrec_scope c.number ds c.scope) (length c.bound) (c.number + funs_in_definitions ds) b in
          sound b (with_known ds c) (with_functions ds n) (worked (2 + count_definitions ds) s) r k f.1
          (record { sited = letrec_sited program n c.scope (length c.bound) c.number ds f.0 h.sited (placed_left program c.number ps qs w); good = h.good })
          (placed_right program c.number (funs_in_definitions ds) ps qs (length_group (length captured) (group_scope c.number ds c.scope) c.number ds) w) gr gk
      sound (Expression.Apply p e es) c n s r k f h w gr gk =
          let ps = procedures c.scope (length c.bound) c.number e in
          let qs = procedures_in_all c.scope (length c.bound) (c.number + funs e) es in
          let back = placed_behind program c.scope (length c.bound) c.number e qs w in
          option_sound (direct e (count es))
          (eval program limits call e (part c) (worked (2 + count es) s) r (λ fs s. with_one fs s (λ t s. eval_all program limits call es (part (behind (funs e) c)) s r (λ ts s. applies program limits call t ts c.depth s r k))))
          (λ g. eval_all program limits call es (part (behind (funs e) c)) (worked (2 + count es) s) r (λ ts s. applies_named call (function_of g c) ts c.depth s r k))
          (λ _. sound e (part c) n (worked (2 + count es) s) r _ f.1 h (placed_left program c.number ps qs w) gr
          (λ fs s is g. one_sound program fs s _ (f.0.is (length fs) is) g
          (λ t s g. all_sound es (part (behind (funs e) c)) n s r _ f.2 h back gr (λ ts s _ g'. applies_sound program limits call call_sound t ts c.depth s r k g g' gr gk))))
          (λ g named. let is = direct_is n e (count es) g named f.1 in
          all_sound es (part (behind (funs e) c)) n (worked (2 + count es) s) r _ f.2 h back gr
          (λ ts s many g'. applies_named_sound program limits call call_sound (function_of g c) ts c.depth s r k
          (subst (Applicable program (function_of g c)) (is.1 ∙ some_same (count es) (length ts) many) (known_holds n c.scope c.bound g h is.0)) g' gr gk))
      sound (Expression.Call p m g es) c n s r k f h w gr gk =
          all_sound es (part c) n (worked (1 + count es) s) r _ f h w gr
          (λ ts s is g'. calls_sound program limits call call_sound exports m g (count es) ts c.depth s r k (sym (some_same (count es) (length ts) is)) g' gr gk)
      sound (Expression.Primop p g es) c n s r k f h w gr gk =
          all_sound es (part c) n (worked (1 + count es) s) r _ f.1 h w gr (λ ts s is g'. primop_sound program g (count es) ts s r k f.0 (sym (some_same (count es) (length ts) is)) g' gr gk)
      sound (Expression.Try p a xs b ys e) c n s r k f h w gr gk =
          let t = binding (length c.bound) (names xs) c.scope in
          let u = binding (length c.bound) (names ys) c.scope in
          let ps = procedures c.scope (length c.bound) c.number a in
          let qs = procedures t (length c.bound + length xs) (c.number + funs a) b in
          let rs = procedures u (length c.bound + length ys) (c.number + (funs a + funs b)) e in
          let front = placed_left program c.number (ps ++ qs) rs w in
          sound a (part c) n (worked (4 + length xs + length ys) s) _ _ f.4 h (placed_left program c.number ps qs front)
          (λ class reason s g. causes_sound program class reason (length ys) (ends Ending.stuck s) (λ ts. eval program limits call e (with (names ys) ts (behind (funs a + funs b) c)) s r k) f.1 g
          (λ ts size g. sound e (with (names ys) ts (behind (funs a + funs b) c)) (with_variables ys n) s r k f.6 (bound_holds n c.scope c.bound ys ts h size g)
          (more_placed u (c.number + (funs a + funs b)) (length ys) e c.bound ts size (placed_behind_two program c.scope t (length c.bound) (length c.bound + length xs) c.number a b rs w)) gr (λ ts s is g. gk ts s (f.3.is (length ts) is) g)))
          (λ ts s is g. let fits = f.0.is (length ts) is in let size = sym (some_same (length xs) (length ts) fits) in
          count_sound (length xs) ts s _ fits (sound b (with (names xs) ts (behind (funs a) c)) (with_variables xs n) s r k f.5 (bound_holds n c.scope c.bound xs ts h size g)
          (more_placed t (c.number + funs a) (length xs) b c.bound ts size (placed_behind program c.scope (length c.bound) c.number a qs front)) gr (λ ts s is g. gk ts s (f.2.is (length ts) is) g)))
      sound (Expression.Do p a b) c n s r k f h w gr gk =
          let ps = procedures c.scope (length c.bound) c.number a in
          let qs = procedures c.scope (length c.bound) (c.number + funs a) b in
          sound a (part c) n (worked 3 s) r _ f.0 h (placed_left program c.number ps qs w) gr
          (λ ts s is g. sound b (behind (funs a) c) n s r k f.1 h (placed_behind program c.scope (length c.bound) c.number a qs w) gr gk)
      sound (Expression.Catch p a) c n s r k f h w gr gk =
          sound a (part c) n (worked 2 s) _ _ f.1 h w (λ class reason s g. caught_sound program limits class reason s k g gk)
          (λ ts s is g. one_sound program ts s _ (f.0.is (length ts) is) g (λ t s g. gk (t ∷ []) s refl (g, tt)))

      all_sound : (es : Expressions) (c : Context) (n : Names) (s : State) (r : Handler) (k : Next) → FineAll n es → Holds n c.scope c.bound → Placed program c.number (procedures_in_all c.scope (length c.bound) c.number es)
          → HandlerSound program r → NextSound program (Some (count es)) k → Sound (eval_all program limits call es c s r k)
      all_sound no_expression c n s r k f h w gr gk = gk [] s refl tt
      all_sound (and_expression e es) c n s r k f h w gr gk =
          let ps = procedures c.scope (length c.bound) c.number e in
          let qs = procedures_in_all c.scope (length c.bound) (c.number + funs e) es in
          sound e c n s r _ f.1 h (placed_left program c.number ps qs w) gr
          (λ us s is g. one_sound program us s _ (f.0.is (length us) is) g
          (λ t s g. all_sound es (behind (funs e) c) n s r _ f.2 h (placed_behind program c.scope (length c.bound) c.number e qs w) gr
          (λ ts s many g'. gk (t ∷ ts) s (ap (λ m. Some (suc m)) (some_same (count es) (length ts) many)) (g, g'))))

      choose_sound : (cs : Clauses) (ts : List Term) (c : Context) (n : Names) (a d : Option ℕ) (s : State) (r : Handler) (k : Next) → FineClauses n a d cs → a ≡ Some (length ts) → AllGood program ts → Holds n c.scope c.bound
          → Placed program c.number (procedures_in_clauses c.scope (length c.bound) c.number cs) → HandlerSound program r → NextSound program d k → Sound (choose program limits call cs ts c s r k)
      choose_sound no_clause ts c n a d s r k f is g h w gr gk = no_clause_sound program limits ts s r g gr
      choose_sound (and_clause p ps guard body cs) ts c n a d s r k f is g h w gr gk =
          let xs = variables_of_all ps in
          let t = binding (length c.bound) (names xs) c.scope in
          let j = length c.bound + length (names xs) in
          let us = procedures t j c.number guard in
          let vs = procedures t j (c.number + funs guard) body in
          let ws = procedures_in_clauses c.scope (length c.bound) (c.number + (funs guard + funs body)) cs in
          let front = placed_left program c.number (us ++ vs) ws w in
          let back = placed_behind_two program t t j j c.number guard body ws w in
          count_sound (count_patterns ps) ts s _ (f.0.is (length ts) is)
          (match_sound program (matched_all ps (terms ts)) (length (bound_by ps)) (choose program limits call cs ts (behind (funs guard + funs body) c) s r k)
          (λ us. eval program limits call guard (part (with (bound_by ps) us c)) s (λ class reason s. choose program limits call cs ts (behind (funs guard + funs body) c) s r k)
          (λ gs s. with_one gs s (λ g s. elim (is_true g) [ true ↦ eval program limits call body (with (bound_by ps) us (behind (funs guard) c)) s r k | false ↦ choose program limits call cs ts (behind (funs guard + funs body) c) s r k ])))
          (patterns_bind program ps ts g) (choose_sound cs ts (behind (funs guard + funs body) c) n a d s r k f.5 is g h back gr gk)
          (λ bound g' size. sound guard (part (with (bound_by ps) bound c)) (with_variables xs n) s _ _ f.3 (bound_holds n c.scope c.bound xs bound h (size ∙ length_names xs) g')
          (more_placed t c.number (length (names xs)) guard c.bound bound size (placed_left program c.number us vs front))
          (λ class reason s _. choose_sound cs ts (behind (funs guard + funs body) c) n a d s r k f.5 is g h back gr gk)
          (λ gs s is' g''. one_sound program gs s _ (f.1.is (length gs) is') g''
          (λ u s _. bool_sound (is_true u) _ _
          (sound body (with (bound_by ps) bound (behind (funs guard) c)) (with_variables xs n) s r k f.4 (bound_holds n c.scope c.bound xs bound h (size ∙ length_names xs) g')
          (more_placed t (c.number + funs guard) (length (names xs)) body c.bound bound size (placed_behind program t j c.number guard vs front)) gr (λ ts s is g. gk ts s (f.2.is (length ts) is) g))
          (choose_sound cs ts (behind (funs guard + funs body) c) n a d s r k f.5 is g h back gr gk)))))

    -- ---- functions

    entered : (n : ℕ) (f : Procedure) (captured ts : List Term) (d : ℕ) (s : State) (r : Handler) (k : Next) → GoodProcedure program f → f.captured ≡ length captured → length f.parameters ≡ length ts → AllGood program captured → AllGood program ts
        → HandlerSound program r → NextSound program (Some 1) k → Sound (enters program limits call n (Some f) captured ts d s r k)
    entered n f captured ts d s r k it p q g h gr gk =
        let e : f.captured + length f.parameters ≡ length (captured ++ ts) = omega (arith, length-append captured ts, p, q) in
        count_sound (length f.parameters) ts s _ (ap Some q)
        (cond_sound (passes (d + limits.frame n) limits.stack) _ _ (λ _. record { is = tt })
        (λ _. sound f.body (at_entry program limits f captured ts (d + limits.frame n) d) it.names (entering (d + limits.frame n) (length captured) s) r k it.fine
        (record { sited = subst (Sited program it.names (scope_at_entry f)) e it.sited; good = append_good program captured ts g h })
        (subst (λ m. Placed program f.first (procedures (scope_at_entry f) m f.first f.body)) e it.placed) gr (λ ts s is g. gk ts s (it.one.is (length ts) is) g)))

    enters_sound : (n : ℕ) (o : Option Procedure) (f : Procedure) (captured ts : List Term) (d : ℕ) (s : State) (r : Handler) (k : Next) → GoodProcedure program f → o ≡ Some f → f.captured ≡ length captured → length f.parameters ≡ length ts
        → AllGood program captured → AllGood program ts → HandlerSound program r → NextSound program (Some 1) k → Sound (enters program limits call n o captured ts d s r k)
    enters_sound n o f captured ts d s r k it is p q g h gr gk = subst (λ o. Sound (enters program limits call n o captured ts d s r k)) (sym is) (entered n f captured ts d s r k it p q g h gr gk)

  fuel_sound : (fuel : ℕ) (x : Run) (y : ℕ → Run) → Sound x → ((f : ℕ) → Sound (y f)) → Sound (elim fuel [ zero ↦ x | suc f ↦ y f ])
  fuel_sound zero x y g h = g
  fuel_sound (suc f) x y g h = h f

  -- a program of good functions
  module _ (limits : Limits) (functions : (n : ℕ) (f : Procedure) → slice_get program.procedures n ≡ Some f → GoodProcedure program f) (exports : ExportsStand program) where
    calls_within_sound : (b : ℕ) → CallSound program (calls_within program limits b)
    calls_within_sound zero n captured ts d s r k f is p q g h gr gk = record { is = tt }
    calls_within_sound (suc b) n captured ts d s r k f is p q g h gr gk =
        fuel_sound s.fuel (ends Ending.fuel_spent s) (λ fuel. enters program limits (calls_within program limits b) n (slice_get program.procedures n) captured ts d (record s { fuel = fuel }) r k) (record { is = tt })
        (λ fuel. enters_sound limits (calls_within program limits b) (calls_within_sound b) exports n (slice_get program.procedures n) f captured ts d (record s { fuel = fuel }) r k (functions n f is) is p q g h gr gk)

    starts_sound : (f : FunName) (o : Option ℕ) (ts : List Term) (words fuel : ℕ) → exported program f ≡ o → f.arity ≡ length ts → AllGood program ts → Sound (starts program limits o ts words fuel)
    starts_sound f None ts words fuel is size g = record { is = tt }
    starts_sound f (Some n) ts words fuel is size g =
        let it = exports f n is in
        builds_sound limits words (at_start fuel (length ts)) _
        (λ s. enters_sound limits (calls_within program limits fuel) (calls_within_sound fuel) exports n (slice_get program.procedures n) it.procedure [] ts 0 s _ _ (functions n it.procedure it.found) it.found it.captured (it.parameters ∙ size) tt g
        (λ class reason s _. record { is = tt }) (λ us s one _. record { is = sym (some_same 1 (length us) one) }))

    pub run_sound : (c : Call) (fuel : ℕ) → Sound (run_within program limits c fuel)
    run_sound c fuel = starts_sound (called_name c) (exported program (called_name c)) (map term_of c.args) (sum (map words_of c.args)) fuel refl (sym (length-map c.args term_of)) (constants_good program c.args)

pub module_sound : (m : Module) (good : IsGood m) (limits : Limits) (c : Call) (fuel : ℕ) → Sound (run_within (program_of m) limits c fuel)
module_sound m good limits c fuel = run_sound (program_of m) limits (module_good m good) (exported_stands m good) c fuel
