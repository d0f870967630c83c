-- The walk that counts finds what the rules on degrees, arities, primitive operations and sizes say is broken.
use Rattle.std.proofs.Common.{◌≡◌, ℕ, zero, suc, ◌+◌, ◌-◌, Bool, true, false, not, ◌||◌, nat_eq, nat_lt, List, [], ◌∷◌, ◌++◌, map, length, length-append, Option, Some, None, arith, refl, ap, sym, ◌∙◌}
use Rattle.std.proofs.lemmas.Bool.Decides.{nat_tests}
use Rattle.std.proofs.lemmas.List.{append_assoc, append-nil}
use Rattle.hipe_terms.specs.declared.place.Place.{Place}
use Rattle.hipe_base.specs.declared.limits.TheConstants.{ARITY_LIMIT, NODE_LIMIT, FUNCTION_LIMIT}
use Rattle.core_ast.specs.declared.pattern.Var.{Var}
use Rattle.core_ast.specs.declared.tree.FunName.{FunName}
use Rattle.core_ast.specs.declared.rule.Rule.{Rule}
use Rattle.core_ast.specs.declared.rule.Broken.{Broken}
use Rattle.core_ast.specs.declared.rule.Rule.TheVariants.{Degree, ArityLimit, UnknownPrimop, SizeLimit}
use Rattle.core_ast.specs.Trees.{Patterns, Expression, Expressions, no_expression, and_expression, Clauses, no_clause, and_clause, Definitions, no_definition, and_definition, Module}
use Rattle.core_ast.specs.Nodes.{expression_nodes}
use Rattle.core_ast.specs.Names.{Names, with_variables, with_functions, variables_of_all}
use Rattle.core_ast.specs.Places.{place_of, funs, funs_of_all, funs_of_clauses, funs_of_definitions}
use Rattle.core_ast.specs.Degrees.{count, count_patterns, first_degree, degree_of, degree_of_bodies, fits, misfit, misfits, one_each, agreeing, agreeing_bodies, needs_of_clauses, needs_in}
use Rattle.core_ast.specs.Part.{Part}
use Rattle.core_ast.specs.Parts.{parts, parts_of_all, parts_of_clauses, parts_of_definitions, parts_of_module, names_of}
use Rattle.core_ast.specs.Rules.{unless, beyond_nodes, first_beyond, is_primop, miscounted_causes}
use Rattle.core_ast.specs.First.{broken_at, noted_all}
use Rattle.core_ast.proofs.Firsts.{occurs, occurs-append, noted_all-append}
use Rattle.core_ast.proofs.Spots.{hits, hits-append}
use Rattle.core_lint.specs.declared.tally.Tally.{Tally}
use Rattle.core_lint.specs.Tallies.{tested, begun, caught, agreed, tallied, tallied_each, tallied_clauses, tallied_definitions, tallied_exports, sized, tallied_module}
use Rattle.core_lint.proofs.Totals.{total, total-append, count_hits}
use Rattle.core_lint.proofs.Counts.{first_degree-None, first_degree-assoc}
use Rattle.core_lint.proofs.Finding.{noted_unless_is}

-- the place, of these, of the function that is the first beyond the limit, where so many are left
abbrev pub beyond : ℕ → List Place → List Place
beyond left [] = []
beyond left (p ∷ ps) = unless (not (nat_eq left 1)) p ++ beyond (left - 1) ps

beyond-append : (left : ℕ) (ps qs : List Place) → beyond left (ps ++ qs) ≡ beyond left ps ++ beyond (left - length ps) qs
beyond-append left [] qs = ap (λ n. beyond n qs) (omega arith)
beyond-append left (p ∷ ps) qs =
    ap (λ xs. unless (not (nat_eq left 1)) p ++ xs) (beyond-append (left - 1) ps qs)
    ∙ ap (λ n. unless (not (nat_eq left 1)) p ++ (beyond (left - 1) ps ++ beyond n qs)) (omega arith)
    ∙ sym (append_assoc (unless (not (nat_eq left 1)) p) (beyond (left - 1) ps) (beyond (left - length (p ∷ ps)) qs))

-- a step of the walk meets the functions at these places, and finds as much as `found` says
pub record Tells (step : Tally → Tally) (places : List Place) (found : Broken → ℕ) : Type 0 where
  pub spots : ℕ → List Broken
  pub is : (t : Tally) → step t ≡ record { first = noted_all (spots t.left) t.first; left = t.left - length places }
  pub counted : (left : ℕ) (b : Broken) → occurs b (spots left) ≡ hits b SizeLimit (beyond left places) + found b

tells_nothing : Tells (λ t. t) [] (λ b. 0)
tells_nothing = record { spots = λ left. []; is = λ t. ap (λ n. record { first = t.first; left = n }) (omega arith); counted = λ left b. refl }

later : (n : ℕ) (ps qs : List Place) → n - length ps - length qs ≡ n - length (ps ++ qs)
later n ps qs = let l = length-append ps qs in omega (arith, l)

tells_then : {g h : Tally → Tally} {ps qs : List Place} {k l : Broken → ℕ} → Tells g ps k → Tells h qs l → Tells (λ t. h (g t)) (ps ++ qs) (λ b. k b + l b)
tells_then {g} {h} {ps} {qs} {k} {l} x y = record {
  spots = λ left. x.spots left ++ y.spots (left - length ps);
  is = λ t.
      ap h (x.is t) ∙ y.is (record { first = noted_all (x.spots t.left) t.first; left = t.left - length ps })
      ∙ ap (λ f. record { first = f; left = t.left - length ps - length qs }) (sym (noted_all-append (x.spots t.left) (y.spots (t.left - length ps)) t.first))
      ∙ ap (λ n. record { first = noted_all (x.spots t.left ++ y.spots (t.left - length ps)) t.first; left = n }) (later t.left ps qs);
  counted = λ left b.
      let split = ap (λ zs. hits b SizeLimit zs) (beyond-append left ps qs) ∙ hits-append b SizeLimit (beyond left ps) (beyond (left - length ps) qs) in
      omega (arith, split, occurs-append b (x.spots left) (y.spots (left - length ps)), x.counted left b, y.counted (left - length ps) b);
}

tells_same : {g : Tally → Tally} {ps : List Place} {k l : Broken → ℕ} → Tells g ps k → ((b : Broken) → k b ≡ l b) → Tells g ps l
tells_same x e = record { spots = x.spots; is = x.is; counted = λ left b. let h = x.counted left b in let i = e b in omega (arith, h, i) }

-- a test
tells_test : (holds : Bool) (r : Rule) (p : Place) → Tells (tested holds r p) [] (λ b. hits b r (unless holds p))
tells_test holds r p = record {
  spots = λ left. map (λ q. broken_at r q) (unless holds p);
  is = λ t. ap (λ f. record { first = f; left = t.left }) (noted_unless_is holds r p t.first) ∙ ap (λ n. record { first = noted_all (map (λ q. broken_at r q) (unless holds p)) t.first; left = n }) (omega arith);
  counted = λ left b. omega arith;
}

-- a step, and then a test
tells_tested : {g : Tally → Tally} {ps : List Place} {k : Broken → ℕ} (holds : Bool) (r : Rule) (p : Place) → Tells g ps k → Tells (λ t. tested holds r p (g t)) ps (λ b. k b + hits b r (unless holds p))
tells_tested {g} {ps} {k} holds r p x = record {
  spots = λ left. x.spots left ++ map (λ q. broken_at r q) (unless holds p);
  is = λ t.
      ap (tested holds r p) (x.is t)
      ∙ ap (λ f. record { first = f; left = t.left - length ps })
      (noted_unless_is holds r p (noted_all (x.spots t.left) t.first) ∙ sym (noted_all-append (x.spots t.left) (map (λ q. broken_at r q) (unless holds p)) t.first));
  counted = λ left b. let h = occurs-append b (x.spots left) (map (λ q. broken_at r q) (unless holds p)) in omega (arith, h, x.counted left b);
}

-- a function begins
tells_begun : (p : Place) → Tells (begun p) (p ∷ []) (λ b. 0)
tells_begun p = record {
  spots = λ left. map (λ q. broken_at SizeLimit q) (unless (not (nat_eq left 1)) p);
  is = λ t. ap (λ f. record { first = f; left = t.left - 1 }) (noted_unless_is (not (nat_eq t.left 1)) SizeLimit p t.first);
  counted = λ left b. let h = hits-append b SizeLimit (unless (not (nat_eq left 1)) p) [] in omega (arith, h);
}

tells_caught : {g : Tally → Tally} {ps : List Place} {k : Broken → ℕ} (p : Place) (ys : List Var) → Tells g ps k → Tells (λ t. caught p ys (g t)) ps (λ b. k b + hits b Degree (miscounted_causes p ys))
tells_caught p [] x = tells_tested false Degree p x
tells_caught p (y ∷ ys) x = tells_tested (nat_eq (length ys) 1 || nat_eq (length ys) 2) Degree y.at x

one_misfit : (b : Broken) (e : Expression) (n : ℕ) → hits b Degree (unless (fits (degree_of e) n) (place_of e)) + 0 ≡ hits b Degree (misfits ((e, n) ∷ []))
one_misfit b e n = sym (hits-append b Degree (misfit (e, n)) [])

-- a body that agrees with the first before it
tells_agreed : {g : Tally → Tally} {ps : List Place} {k : Broken → ℕ} (before : Option ℕ) (body : Expression) → Tells g ps k → Tells (λ t. agreed before (degree_of body) (place_of body) (g t)) ps (λ b. k b + hits b Degree (misfits (agreeing body before)))
tells_agreed None body x = tells_same x (λ b. omega arith)
tells_agreed (Some n) body x = tells_same (tells_tested (fits (degree_of body) n) Degree (place_of body) x) (λ b. let h = one_misfit b body n in omega (arith, h))

eq_self : (n : ℕ) → nat_eq n n ≡ true
eq_self n = grind (arith, nat_tests)

-- a body fits the degree that it has itself, or has none
fits_own : (b : Broken) (body : Expression) (rest : Option ℕ) → hits b Degree (misfits (agreeing body (first_degree (degree_of body) rest))) ≡ 0
fits_own b body rest = go (degree_of body) refl rest where
  no_degree : (n : ℕ) → degree_of body ≡ None → misfit (body, n) ≡ []
  no_degree n e = ap (λ d. unless (fits d n) (place_of body)) e

  own_degree : (n : ℕ) → degree_of body ≡ Some n → misfit (body, n) ≡ []
  own_degree n e = ap (λ d. unless (fits d n) (place_of body)) e ∙ ap (λ x. unless x (place_of body)) (eq_self n)

  go : (d : Option ℕ) → degree_of body ≡ d → (r : Option ℕ) → hits b Degree (misfits (agreeing body (first_degree d r))) ≡ 0
  go None e None = refl
  go None e (Some n) = ap (λ ps. hits b Degree (ps ++ [])) (no_degree n e)
  go (Some n) e r = ap (λ ps. hits b Degree (ps ++ [])) (own_degree n e)

-- to agree with the first of all is to agree with the first before
agrees : (b : Broken) (before : Option ℕ) (body : Expression) (rest : Option ℕ) → hits b Degree (misfits (agreeing body (first_degree before (first_degree (degree_of body) rest)))) ≡ hits b Degree (misfits (agreeing body before))
agrees b None body rest = fits_own b body rest
agrees b (Some n) body rest = refl

misfits-append : (b : Broken) (xs ys : List (Expression × ℕ)) → hits b Degree (misfits (xs ++ ys)) ≡ hits b Degree (misfits xs) + hits b Degree (misfits ys)
misfits-append b [] ys = omega arith
misfits-append b (x ∷ xs) ys =
    let all = hits-append b Degree (misfit x) (misfits (xs ++ ys)) in
    let front = hits-append b Degree (misfit x) (misfits xs) in
    let h = misfits-append b xs ys in
    omega (arith, all, front, h)

misfits-cons : (b : Broken) (e : Expression) (n : ℕ) (xs : List (Expression × ℕ)) → hits b Degree (misfits ((e, n) ∷ xs)) ≡ hits b Degree (unless (fits (degree_of e) n) (place_of e)) + hits b Degree (misfits xs)
misfits-cons b e n xs = hits-append b Degree (misfit (e, n)) (misfits xs)

try_hits : (s : Names) (p : Place) (part : Expression) (xs : List Var) (body : Expression) (ys : List Var) (handler : Expression) (b : Broken) →
    total (count_hits b) (parts s part) + hits b Degree (unless (fits (degree_of part) (length xs)) (place_of part)) + total (count_hits b) (parts (with_variables xs s) body)
    + total (count_hits b) (parts (with_variables ys s) handler) + hits b Degree (misfits (agreeing handler (degree_of body))) + hits b Degree (miscounted_causes p ys)
    ≡ total (count_hits b) (parts s (Expression.Try p part xs body ys handler))
try_hits s p part xs body ys handler b =
    let all = first_degree (degree_of body) (degree_of handler) in
    let own = hits-append b Degree (misfits (needs_in (Expression.Try p part xs body ys handler))) (miscounted_causes p ys) in
    let needs = misfits-cons b part (length xs) (agreeing body all ++ agreeing handler all) in
    let bodies = misfits-append b (agreeing body all) (agreeing handler all) in
    let first = fits_own b body (degree_of handler) in
    let second =
    ap (λ d. hits b Degree (misfits (agreeing handler (first_degree (degree_of body) d)))) (sym (first_degree-None (degree_of handler))) ∙ agrees b (degree_of body) handler None in
    simp total-append (omega (arith, own, needs, bodies, first, second))

clause_hits : (s : Names) (values : Expression) (before : Option ℕ) (p : Place) (ps : Patterns) (guard body : Expression) (cs : Clauses) (b : Broken) →
    hits b Degree (unless (fits (degree_of values) (count_patterns ps)) (place_of values)) + total (count_hits b) (parts (with_variables (variables_of_all ps) s) guard)
    + hits b Degree (unless (fits (degree_of guard) 1) (place_of guard)) + total (count_hits b) (parts (with_variables (variables_of_all ps) s) body)
    + hits b Degree (misfits (agreeing body before))
    + (hits b Degree (misfits (needs_of_clauses values cs)) + (hits b Degree (misfits (agreeing_bodies cs (first_degree (first_degree before (degree_of body)) (degree_of_bodies cs)))) + total (count_hits b) (parts_of_clauses s cs)))
    ≡ hits b Degree (misfits (needs_of_clauses values (and_clause p ps guard body cs)))
    + (hits b Degree (misfits (agreeing_bodies (and_clause p ps guard body cs) (first_degree before (degree_of_bodies (and_clause p ps guard body cs))))) + total (count_hits b) (parts_of_clauses s (and_clause p ps guard body cs)))
clause_hits s values before p ps guard body cs b =
    let all = first_degree before (first_degree (degree_of body) (degree_of_bodies cs)) in
    let argument = misfits-cons b values (count_patterns ps) ((guard, 1) ∷ needs_of_clauses values cs) in
    let test = misfits-cons b guard 1 (needs_of_clauses values cs) in
    let bodies = misfits-append b (agreeing body all) (agreeing_bodies cs all) in
    let own = agrees b before body (degree_of_bodies cs) in
    let rest = ap (λ d. hits b Degree (misfits (agreeing_bodies cs d))) (first_degree-assoc before (degree_of body) (degree_of_bodies cs)) in
    simp total-append (omega (arith, argument, test, bodies, own, rest))

mutual
  tells : (s : Names) (e : Expression) → Tells (tallied e) (funs e) (λ b. total (count_hits b) (parts s e))
  tells s (Expression.Int p n) = tells_same tells_nothing (λ b. omega arith)
  tells s (Expression.Atom p a) = tells_same tells_nothing (λ b. omega arith)
  tells s (Expression.Nil p) = tells_same tells_nothing (λ b. omega arith)
  tells s (Expression.Variable p x) = tells_same tells_nothing (λ b. omega arith)
  tells s (Expression.Name p f) = tells_same (tells_test (not (nat_lt ARITY_LIMIT f.arity)) ArityLimit p) (λ b. omega arith)
  tells s (Expression.Tuple p es) = tells_same (tells_each s es) (λ b. omega arith)
  tells s (Expression.Cons p es tail) =
      tells_same (tells_tested (fits (degree_of tail) 1) Degree (place_of tail) (tells_then (tells_each s es) (tells s tail)))
      (λ b. let own = misfits-append b (one_each es) ((tail, 1) ∷ []) in let last = one_misfit b tail 1 in simp total-append (omega (arith, own, last)))
  tells s (Expression.Values p es) = tells_same (tells_each s es) (λ b. omega arith)
  tells s (Expression.Let p xs values body) =
      tells_same (tells_then (tells_tested (fits (degree_of values) (length xs)) Degree (place_of values) (tells s values)) (tells (with_variables xs s) body))
      (λ b. let own = one_misfit b values (length xs) in simp total-append (omega (arith, own)))
  tells s (Expression.Case p values cs) =
      tells_same (tells_then (tells s values) (tells_clauses s values None cs))
      (λ b. let own = misfits-append b (needs_of_clauses values cs) (agreeing_bodies cs (degree_of_bodies cs)) in simp total-append (omega (arith, own)))
  tells s (Expression.Lambda p q xs body) =
      tells_same
      (tells_tested (fits (degree_of body) 1) Degree (place_of body)
      (tells_then (tells_tested (not (nat_lt ARITY_LIMIT (length xs))) ArityLimit q (tells_begun q)) (tells (with_variables xs s) body)))
      (λ b. let own = one_misfit b body 1 in omega (arith, own))
  tells s (Expression.Letrec p ds body) =
      tells_same (tells_then (tells_definitions (with_functions ds s) ds) (tells (with_functions ds s) body)) (λ b. simp total-append (omega arith))
  tells s (Expression.Apply p f args) =
      tells_same
      (tells_tested (not (nat_lt ARITY_LIMIT (count args))) ArityLimit p
      (tells_then (tells_tested (fits (degree_of f) 1) Degree (place_of f) (tells s f)) (tells_each s args)))
      (λ b. let own = misfits-cons b f 1 (one_each args) in simp total-append (omega (arith, own)))
  tells s (Expression.Call p m f args) = tells_same (tells_tested (not (nat_lt ARITY_LIMIT (count args))) ArityLimit p (tells_each s args)) (λ b. omega arith)
  tells s (Expression.Primop p f args) =
      tells_same (tells_tested (is_primop f (count args)) UnknownPrimop p (tells_tested (not (nat_lt ARITY_LIMIT (count args))) ArityLimit p (tells_each s args))) (λ b. omega arith)
  tells s (Expression.Try p part xs body ys handler) =
      tells_same
      (tells_caught p ys
      (tells_agreed (degree_of body) handler
      (tells_then
      (tells_then (tells_tested (fits (degree_of part) (length xs)) Degree (place_of part) (tells s part)) (tells (with_variables xs s) body))
      (tells (with_variables ys s) handler))))
      (λ b. try_hits s p part xs body ys handler b)
  tells s (Expression.Do p first second) = tells_same (tells_then (tells s first) (tells s second)) (λ b. simp total-append (omega arith))
  tells s (Expression.Catch p part) =
      tells_same (tells_tested (fits (degree_of part) 1) Degree (place_of part) (tells s part)) (λ b. let own = one_misfit b part 1 in omega (arith, own))

  tells_each : (s : Names) (es : Expressions) → Tells (tallied_each es) (funs_of_all es) (λ b. hits b Degree (misfits (one_each es)) + total (count_hits b) (parts_of_all s es))
  tells_each s no_expression = tells_same tells_nothing (λ b. omega arith)
  tells_each s (and_expression e es) =
      tells_same (tells_then (tells_tested (fits (degree_of e) 1) Degree (place_of e) (tells s e)) (tells_each s es))
      (λ b. let own = misfits-cons b e 1 (one_each es) in simp total-append (omega (arith, own)))

  tells_clauses : (s : Names) (values : Expression) (before : Option ℕ) (cs : Clauses) → Tells (tallied_clauses (degree_of values) (place_of values) before cs) (funs_of_clauses cs)
      (λ b. hits b Degree (misfits (needs_of_clauses values cs)) + (hits b Degree (misfits (agreeing_bodies cs (first_degree before (degree_of_bodies cs)))) + total (count_hits b) (parts_of_clauses s cs)))
  tells_clauses s values before no_clause = tells_same tells_nothing (λ b. omega arith)
  tells_clauses s values before (and_clause p ps guard body cs) =
      tells_same
      (tells_then
      (tells_agreed before body
      (tells_then
      (tells_tested (fits (degree_of guard) 1) Degree (place_of guard)
      (tells_then (tells_test (fits (degree_of values) (count_patterns ps)) Degree (place_of values)) (tells (with_variables (variables_of_all ps) s) guard)))
      (tells (with_variables (variables_of_all ps) s) body)))
      (tells_clauses s values (first_degree before (degree_of body)) cs))
      (λ b. clause_hits s values before p ps guard body cs b)

  tells_definitions : (s : Names) (ds : Definitions) → Tells (tallied_definitions ds) (funs_of_definitions ds) (λ b. total (count_hits b) (parts_of_definitions s ds))
  tells_definitions s no_definition = tells_same tells_nothing (λ b. omega arith)
  tells_definitions s (and_definition p f q xs body ds) =
      tells_same
      (tells_then
      (tells_tested (fits (degree_of body) 1) Degree (place_of body)
      (tells_then
      (tells_tested (not (nat_lt ARITY_LIMIT (length xs))) ArityLimit q
      (tells_then (tells_tested (nat_eq (length xs) f.arity) Degree q (tells_test (not (nat_lt ARITY_LIMIT f.arity)) ArityLimit p)) (tells_begun q)))
      (tells (with_variables xs s) body)))
      (tells_definitions s ds))
      (λ b.
      let own = one_misfit b body 1 in
      let degrees = hits-append b Degree (misfits ((body, 1) ∷ [])) (unless (nat_eq (length xs) f.arity) q) in
      let arities = hits-append b ArityLimit (unless (not (nat_lt ARITY_LIMIT f.arity)) p) (unless (not (nat_lt ARITY_LIMIT (length xs))) q) in
      simp total-append (omega (arith, own, degrees, arities)))

tells_exports : (s : Names) (es : List (FunName × Place)) → Tells (tallied_exports es) [] (λ b. total (count_hits b) (map (λ e. (Part.Export e.0 e.1, s)) es))
tells_exports s [] = tells_same tells_nothing (λ b. omega arith)
tells_exports s (e ∷ es) = tells_same (tells_then (tells_test (not (nat_lt ARITY_LIMIT (e.0).arity)) ArityLimit e.1) (tells_exports s es)) (λ b. omega arith)

tells_sized : (ds : Definitions) → Tells (sized ds) [] (λ b. hits b SizeLimit (beyond_nodes ds))
tells_sized no_definition = tells_same tells_nothing (λ b. omega arith)
tells_sized (and_definition p f q xs body ds) =
    tells_same (tells_then (tells_test (not (nat_lt NODE_LIMIT (expression_nodes body))) SizeLimit p) (tells_sized ds))
    (λ b. let own = hits-append b SizeLimit (unless (not (nat_lt NODE_LIMIT (expression_nodes body))) p) (beyond_nodes ds) in omega (arith, own))

beyond_none : (ps : List Place) → beyond 0 ps ≡ []
beyond_none [] = refl
beyond_none (p ∷ ps) = beyond_none ps

not_one : (n : ℕ) → nat_eq (suc (suc n)) 1 ≡ false
not_one n = grind (arith, nat_tests)

-- the first beyond the limit
beyond_is : (n : ℕ) (ps : List Place) → beyond (suc n) ps ≡ first_beyond n ps
beyond_is zero [] = refl
beyond_is zero (p ∷ ps) = ap (λ xs. p ∷ xs) (beyond_none ps)
beyond_is (suc n) [] = refl
beyond_is (suc n) (p ∷ ps) =
    ap (λ x. unless (not x) p ++ beyond (suc (suc n) - 1) ps) (not_one n) ∙ ap (λ k. beyond k ps) (omega arith) ∙ beyond_is n ps

-- what the whole walk finds
pub record FindsAll (m : Module) (first : Option Broken) : Type 0 where
  pub spots : List Broken
  pub is : (tallied_module m (record { first = first; left = FUNCTION_LIMIT + 1 })).first ≡ noted_all spots first
  pub counted : (b : Broken) → occurs b spots ≡ total (count_hits b) (parts_of_module m)

pub tells_module : (m : Module) (first : Option Broken) → FindsAll m first
tells_module m first = record {
  spots = all.spots (FUNCTION_LIMIT + 1);
  is = ap (λ t. t.first) (all.is (record { first = first; left = FUNCTION_LIMIT + 1 }));
  counted = λ b.
      let none : beyond (FUNCTION_LIMIT + 1) (funs_of_definitions m.definitions ++ []) ≡ first_beyond FUNCTION_LIMIT (funs_of_definitions m.definitions) =
      ap (λ ps. beyond (FUNCTION_LIMIT + 1) ps) (append-nil (funs_of_definitions m.definitions)) ∙ beyond_is FUNCTION_LIMIT (funs_of_definitions m.definitions) in
      let functions = ap (λ ps. hits b SizeLimit ps) none in
      let sizes = hits-append b SizeLimit (beyond_nodes m.definitions) (first_beyond FUNCTION_LIMIT (funs_of_definitions m.definitions)) in
      let counted = all.counted (FUNCTION_LIMIT + 1) b in
      let behind = total-append (count_hits b) (map (λ e. (Part.Export e.0 e.1, names_of m)) m.exports) ((Part.Group m.definitions, names_of m) ∷ parts_of_definitions (names_of m) m.definitions) in
      omega (arith, functions, sizes, counted, behind);
} where
  all : Tells (tallied_module m) (([] ++ funs_of_definitions m.definitions) ++ []) (λ b. total (count_hits b) (map (λ e. (Part.Export e.0 e.1, names_of m)) m.exports) + total (count_hits b) (parts_of_definitions (names_of m) m.definitions) + hits b SizeLimit (beyond_nodes m.definitions))
  all = tells_then (tells_then (tells_exports (names_of m) m.exports) (tells_definitions (names_of m) m.definitions)) (tells_sized m.definitions)
