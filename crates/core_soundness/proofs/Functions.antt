-- Each function of a good module is good: its body is fine with the names found where it is entered, and the functions in it are placed.
use Rattle.std.proofs.Common.{◌≡◌, ℕ, suc, ◌+◌, List, ◌++◌, Option, refl, sym, ◌∙◌, subst, arith}
use Rattle.std.specs.Prelude.{length}
use Rattle.std.proofs.lemmas.List.{length-map}
use Rattle.core_ast.specs.declared.pattern.Var.{Var}
use Rattle.core_ast.specs.Trees.{Expression, Expressions, no_expression, and_expression, Clauses, no_clause, and_clause, Definitions, no_definition, and_definition}
use Rattle.core_ast.specs.Names.{Names, with_variables, with_functions, variables_of_all}
use Rattle.core_ast.specs.Degrees.{degree_of}
use Rattle.core_meaning.specs.Scopes.{Scope, names, binding, function_names, hiding, hiding_functions, occurring, occurring_in_definitions, captured_by_fun, captured_by_group, carried, numbered_functions, slots_from, funs, funs_in_all, funs_in_definitions, letrec_scope, group_scope}
use Rattle.core_meaning.specs.Procedures.{Procedure, Program, fun_at, scope_at_entry, slots_at_entry, procedures, procedures_in_all, procedures_in_clauses, procedures_of_group}
use Rattle.core_soundness.proofs.Lists.{Each, each_append, firsts_have}
use Rattle.core_soundness.proofs.Scopes.{EachStands, InForce, binding_in_force, carried_in_force, knowing_in_force, slots_below, length_slots, group_below}
use Rattle.core_soundness.proofs.Fine.{Suits, Fine, FineAll, FineClauses, FineDefinitions}
use Rattle.core_soundness.proofs.Captured.{Covers, binding_covers, knowing_covers, names_in, scope_covers, carried_names, binding_carries, knowing_carries, narrow, narrow_definitions}
use Rattle.core_soundness.proofs.Numbers.{length_all, length_group, Placed, placed_left, placed_right, placed_head, placed_tail, placed_behind, placed_behind_two}

pub length_names : (xs : List Var) → length (names xs) ≡ length xs
length_names xs = length-map xs (λ x. x.name)

module _ (program : Program) where
  -- a scope that has these names, where so many variables are in force
  pub record Sited (n : Names) (s : Scope) (k : ℕ) : Type 0 where
    pub covers : Covers n s
    pub in_force : InForce program s k

  pub binding_sited : (n : Names) (s : Scope) (k : ℕ) (xs : List Var) → Sited n s k → Sited (with_variables xs n) (binding k (names xs) s) (k + length xs)
  binding_sited n s k xs w =
      record { covers = binding_covers n s k xs w.covers; in_force = subst (λ m. InForce program (binding k (names xs) s) (k + m)) (length_names xs) (binding_in_force program s k (names xs) w.in_force) }

  pub clause_sited : (n : Names) (s : Scope) (k : ℕ) (xs : List Var) → Sited n s k → Sited (with_variables xs n) (binding k (names xs) s) (k + length (names xs))
  clause_sited n s k xs w = record { covers = binding_covers n s k xs w.covers; in_force = binding_in_force program s k (names xs) w.in_force }

  -- ---- the functions of a `letrec`

  group_stand : (n : Names) (c : ℕ) (s : Scope) (i : ℕ) (captured : List ℕ) (ds : Definitions) → c ≡ length captured → FineDefinitions n ds → Placed program i (procedures_of_group c s i ds) → Each (EachStands program) (numbered_functions i captured ds)
  group_stand n c s i captured no_definition size f p = tt
  group_stand n c s i captured (and_definition a g q xs b ds) size f p =
      let ps = procedures (binding c (names xs) s) (c + length xs) (suc i) b in
      let first : Procedure = record { parameters = names xs; body = b; scope = s; captured = c; first = suc i } in
      let others : Placed program (i + 1 + funs b) (procedures_of_group c s (i + 1 + funs b) ds) =
      let e : suc i + funs b ≡ i + 1 + funs b = omega arith in
      subst (λ j. Placed program j (procedures_of_group c s (i + 1 + funs b) ds)) e
      (placed_behind program (binding c (names xs) s) (c + length xs) (suc i) b (procedures_of_group c s (i + 1 + funs b) ds) (placed_tail program i first (ps ++ procedures_of_group c s (i + 1 + funs b) ds) p)) in (
        record { procedure = first; found = placed_head program i first (ps ++ procedures_of_group c s (i + 1 + funs b) ds) p; captured = size; parameters = length_names xs ∙ f.0 },
        group_stand n c s (i + 1 + funs b) captured ds size f.3 others,
      )

  -- the scope of the body of a `letrec`
  pub letrec_sited : (n : Names) (s : Scope) (k i : ℕ) (ds : Definitions) → FineDefinitions (with_functions ds n) ds → Sited n s k → Placed program i (procedures_of_group (length (captured_by_group s ds)) (group_scope i ds s) i ds)
      → Sited (with_functions ds n) (letrec_scope i ds s) k
  letrec_sited n s k i ds f w p =
      record {
        covers = knowing_covers n s i (captured_by_group s ds) ds w.covers;
        in_force = knowing_in_force program s k i (captured_by_group s ds) ds w.in_force (group_below k s ds w.in_force.below)
            (group_stand (with_functions ds n) (length (captured_by_group s ds)) (group_scope i ds s) i (captured_by_group s ds) ds refl f p);
      }

  -- the scope of its functions
  group_sited : (n : Names) (s : Scope) (k i : ℕ) (ds : Definitions) → FineDefinitions (with_functions ds n) ds → Sited n s k → Placed program i (procedures_of_group (length (captured_by_group s ds)) (group_scope i ds s) i ds)
      → Sited (with_functions ds (names_in (carried (captured_by_group s ds) s))) (group_scope i ds s) (length (captured_by_group s ds))
  group_sited n s k i ds f w p =
      let captured = captured_by_group s ds in
      let slots = slots_from 0 (length captured) in
      record {
        covers = knowing_covers (names_in (carried captured s)) (carried captured s) i slots ds (scope_covers (carried captured s));
        in_force = knowing_in_force program (carried captured s) (length captured) i slots ds (carried_in_force program s captured k w.in_force) (slots_below 0 (length captured) (length captured) (omega arith))
            (group_stand (with_functions ds n) (length captured) (group_scope i ds s) i slots ds (sym (length_slots 0 (length captured))) f p);
      }

  group_fine : (n : Names) (s : Scope) (ds : Definitions) → Covers n s → FineDefinitions (with_functions ds n) ds → FineDefinitions (with_functions ds (names_in (carried (captured_by_group s ds) s))) ds
  group_fine n s ds c f =
      let captured = captured_by_group s ds in
      narrow_definitions captured (with_functions ds n) (hiding_functions (function_names ds) s) (with_functions ds (names_in (carried captured s))) ds
      (knowing_carries n s captured (names_in (carried captured s)) ds (carried_names n s captured c)) (firsts_have (occurring_in_definitions (hiding_functions (function_names ds) s) ds)) f

  -- ---- good functions

  pub record GoodProcedure (f : Procedure) : Type 0 where
    pub names : Names
    pub fine : Fine names f.body
    pub one : Suits (degree_of f.body) 1
    pub sited : Sited names (scope_at_entry f) (slots_at_entry f)
    pub placed : Placed program f.first (procedures (scope_at_entry f) (slots_at_entry f) f.first f.body)

  fun_good : (n : Names) (s : Scope) (k i : ℕ) (xs : List Var) (b : Expression) → Suits (degree_of b) 1 → Fine (with_variables xs n) b → Sited n s k
      → Placed program (suc i) (procedures (scope_at_entry (fun_at s i (names xs) b)) (slots_at_entry (fun_at s i (names xs) b)) (suc i) b) → GoodProcedure (fun_at s i (names xs) b)
  fun_good n s k i xs b one f w p =
      let captured = captured_by_fun s (names xs) b in
      record {
        names = with_variables xs (names_in (carried captured s));
        fine = narrow captured (with_variables xs n) (hiding (names xs) s) (with_variables xs (names_in (carried captured s))) b (binding_carries n s captured (names_in (carried captured s)) xs (carried_names n s captured w.covers))
            (firsts_have (occurring (hiding (names xs) s) b)) f;
        one = one;
        sited = record {
          covers = binding_covers (names_in (carried captured s)) (carried captured s) (length captured) xs (scope_covers (carried captured s));
          in_force = binding_in_force program (carried captured s) (length captured) (names xs) (carried_in_force program s captured k w.in_force);
        };
        placed = p;
      }

  pub defined_good : (n : Names) (s : Scope) (c i : ℕ) (xs : List Var) (b : Expression) → Suits (degree_of b) 1 → Fine (with_variables xs n) b → Sited n s c → Placed program i (procedures (binding c (names xs) s) (c + length xs) i b)
      → GoodProcedure (record { parameters = names xs; body = b; scope = s; captured = c; first = i })
  defined_good n s c i xs b one f w p =
      record { names = with_variables xs n; fine = f; one = one; sited = clause_sited n s c xs w; placed = subst (λ m. Placed program i (procedures (binding c (names xs) s) (c + m) i b)) (sym (length_names xs)) p }

  join : (ps qs : List Procedure) → Each GoodProcedure ps → Each GoodProcedure qs → Each GoodProcedure (ps ++ qs)
  join ps qs g h = each_append GoodProcedure ps qs g h

  mutual
    pub good : (n : Names) (s : Scope) (k i : ℕ) (e : Expression) → Fine n e → Sited n s k → Placed program i (procedures s k i e) → Each GoodProcedure (procedures s k i e)
    good n s k i (Expression.Int a b) f w p = tt
    good n s k i (Expression.Atom a b) f w p = tt
    good n s k i (Expression.Nil a) f w p = tt
    good n s k i (Expression.Variable a x) f w p = tt
    good n s k i (Expression.Name a g) f w p = tt
    good n s k i (Expression.Tuple a es) f w p = all_good n s k i es f w p
    good n s k i (Expression.Cons a es e) f w p =
        let ps = procedures_in_all s k i es in
        let qs = procedures s k (i + funs_in_all es) e in
        join ps qs (all_good n s k i es f.0 w (placed_left program i ps qs p)) (good n s k (i + funs_in_all es) e f.2 w (placed_right program i (funs_in_all es) ps qs (length_all s k i es) p))
    good n s k i (Expression.Values a es) f w p = all_good n s k i es f w p
    good n s k i (Expression.Let q xs a b) f w p =
        let ps = procedures s k i a in
        let qs = procedures (binding k (names xs) s) (k + length xs) (i + funs a) b in
        join ps qs (good n s k i a f.1 w (placed_left program i ps qs p)) (good (with_variables xs n) (binding k (names xs) s) (k + length xs) (i + funs a) b f.2 (binding_sited n s k xs w) (placed_behind program s k i a qs p))
    good n s k i (Expression.Case q a cs) f w p =
        let ps = procedures s k i a in
        let qs = procedures_in_clauses s k (i + funs a) cs in
        join ps qs (good n s k i a f.0 w (placed_left program i ps qs p)) (clauses_good n s k (i + funs a) _ _ cs f.1 w (placed_behind program s k i a qs p))
    good n s k i (Expression.Lambda a q xs b) f w p =
        let g = fun_at s i (names xs) b in
        let inside = placed_tail program i g (procedures (scope_at_entry g) (slots_at_entry g) (suc i) b) p in
        let it = fun_good n s k i xs b f.0 f.1 w inside in
        (it, good it.names (scope_at_entry g) (slots_at_entry g) (suc i) b it.fine it.sited inside)
    good n s k i (Expression.Letrec a ds b) f w p =
        let captured = captured_by_group s ds in
        let ps = procedures_of_group (length captured) (group_scope i ds s) i ds in
        let qs = procedures (letrec_scope i ds s) k (i + funs_in_definitions ds) b in
        let front = placed_left program i ps qs p in
        join ps qs (group_good (with_functions ds (names_in (carried captured s))) (group_scope i ds s) (length captured) i ds (group_fine n s ds w.covers f.0) (group_sited n s k i ds f.0 w front) front)
        (good (with_functions ds n) (letrec_scope i ds s) k (i + funs_in_definitions ds) b f.1 (letrec_sited n s k i ds f.0 w front)
        (placed_right program i (funs_in_definitions ds) ps qs (length_group (length captured) (group_scope i ds s) i ds) p))
    good n s k i (Expression.Apply a g es) f w p =
        let ps = procedures s k i g in
        let qs = procedures_in_all s k (i + funs g) es in
        join ps qs (good n s k i g f.1 w (placed_left program i ps qs p)) (all_good n s k (i + funs g) es f.2 w (placed_behind program s k i g qs p))
    good n s k i (Expression.Call a m g es) f w p = all_good n s k i es f w p
    good n s k i (Expression.Primop a g es) f w p = all_good n s k i es f.1 w p
    good n s k i (Expression.Try q a xs b ys h) f w p =
        let t = binding k (names xs) s in
        let u = binding k (names ys) s in
        let ps = procedures s k i a in
        let qs = procedures t (k + length xs) (i + funs a) b in
        let rs = procedures u (k + length ys) (i + (funs a + funs b)) h in
        let front = placed_left program i (ps ++ qs) rs p in
        join (ps ++ qs) rs
        (join ps qs (good n s k i a f.4 w (placed_left program i ps qs front)) (good (with_variables xs n) t (k + length xs) (i + funs a) b f.5 (binding_sited n s k xs w) (placed_behind program s k i a qs front)))
        (good (with_variables ys n) u (k + length ys) (i + (funs a + funs b)) h f.6 (binding_sited n s k ys w) (placed_behind_two program s t k (k + length xs) i a b rs p))
    good n s k i (Expression.Do q a b) f w p =
        let ps = procedures s k i a in
        let qs = procedures s k (i + funs a) b in
        join ps qs (good n s k i a f.0 w (placed_left program i ps qs p)) (good n s k (i + funs a) b f.1 w (placed_behind program s k i a qs p))
    good n s k i (Expression.Catch q a) f w p = good n s k i a f.1 w p

    all_good : (n : Names) (s : Scope) (k i : ℕ) (es : Expressions) → FineAll n es → Sited n s k → Placed program i (procedures_in_all s k i es) → Each GoodProcedure (procedures_in_all s k i es)
    all_good n s k i no_expression f w p = tt
    all_good n s k i (and_expression e es) f w p =
        let ps = procedures s k i e in
        let qs = procedures_in_all s k (i + funs e) es in
        join ps qs (good n s k i e f.1 w (placed_left program i ps qs p)) (all_good n s k (i + funs e) es f.2 w (placed_behind program s k i e qs p))

    clauses_good : (n : Names) (s : Scope) (k i : ℕ) (a d : Option ℕ) (cs : Clauses) → FineClauses n a d cs → Sited n s k → Placed program i (procedures_in_clauses s k i cs) → Each GoodProcedure (procedures_in_clauses s k i cs)
    clauses_good n s k i a d no_clause f w p = tt
    clauses_good n s k i a d (and_clause q ps g b cs) f w p =
        let xs = variables_of_all ps in
        let t = binding k (names xs) s in
        let j = k + length (names xs) in
        let us = procedures t j i g in
        let vs = procedures t j (i + funs g) b in
        let ws = procedures_in_clauses s k (i + (funs g + funs b)) cs in
        let front = placed_left program i (us ++ vs) ws p in
        join (us ++ vs) ws
        (join us vs (good (with_variables xs n) t j i g f.3 (clause_sited n s k xs w) (placed_left program i us vs front)) (good (with_variables xs n) t j (i + funs g) b f.4 (clause_sited n s k xs w) (placed_behind program t j i g vs front)))
        (clauses_good n s k (i + (funs g + funs b)) a d cs f.5 w (placed_behind_two program t t j j i g b ws p))

    group_good : (n : Names) (s : Scope) (c i : ℕ) (ds : Definitions) → FineDefinitions n ds → Sited n s c → Placed program i (procedures_of_group c s i ds) → Each GoodProcedure (procedures_of_group c s i ds)
    group_good n s c i no_definition f w p = tt
    group_good n s c i (and_definition a g q xs b ds) f w p =
        let t = binding c (names xs) s in
        let ps = procedures t (c + length xs) (suc i) b in
        let qs = procedures_of_group c s (i + 1 + funs b) ds in
        let first : Procedure = record { parameters = names xs; body = b; scope = s; captured = c; first = suc i } in
        let inside = placed_tail program i first (ps ++ qs) p in
        let others : Placed program (i + 1 + funs b) qs =
        let e : suc i + funs b ≡ i + 1 + funs b = omega arith in subst (λ j. Placed program j qs) e (placed_behind program t (c + length xs) (suc i) b qs inside) in (
          defined_good n s c (suc i) xs b f.1 f.2 w (placed_left program (suc i) ps qs inside),
          join ps qs (good (with_variables xs n) t (c + length xs) (suc i) b f.2 (binding_sited n s c xs w) (placed_left program (suc i) ps qs inside)) (group_good n s c (i + 1 + funs b) ds f.3 w others),
        )
