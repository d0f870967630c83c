-- The functions in an expression stand in the program from the number of the first on, as many as are counted.
use Rattle.std.proofs.Common.{◌≡◌, ℕ, zero, suc, ◌+◌, List, [], ◌∷◌, ◌++◌, Some, refl, ap, subst, arith}
use Rattle.std.specs.Prelude.{length, slice_get}
use Rattle.std.proofs.lemmas.List.{length-append}
use Rattle.core_ast.specs.Trees.{Expression, Expressions, no_expression, and_expression, Clauses, no_clause, and_clause, Definitions, no_definition, and_definition}
use Rattle.core_meaning.specs.Scopes.{Scope, names, binding, bound_by, count_definitions, captured_by_group, funs, funs_in_all, funs_in_clauses, funs_in_definitions, letrec_scope, group_scope}
use Rattle.core_meaning.specs.Procedures.{Procedure, Program, fun_at, scope_at_entry, slots_at_entry, procedures, procedures_in_all, procedures_in_clauses, procedures_of_group, own_procedures}
use Rattle.core_soundness.proofs.Basics.{not_some}

-- ---- how many there are

both_lengths : (ps qs : List Procedure) (m n : ℕ) → length ps ≡ m → length qs ≡ n → length (ps ++ qs) ≡ m + n
both_lengths ps qs m n p q = omega (arith, length-append ps qs, p, q)

mutual
  pub length_procedures : (s : Scope) (k n : ℕ) (e : Expression) → length (procedures s k n e) ≡ funs e
  length_procedures s k n (Expression.Int p i) = refl
  length_procedures s k n (Expression.Atom p a) = refl
  length_procedures s k n (Expression.Nil p) = refl
  length_procedures s k n (Expression.Variable p x) = refl
  length_procedures s k n (Expression.Name p f) = refl
  length_procedures s k n (Expression.Tuple p es) = length_all s k n es
  length_procedures s k n (Expression.Cons p es e) = both_lengths (procedures_in_all s k n es) (procedures s k (n + funs_in_all es) e) (funs_in_all es) (funs e) (length_all s k n es) (length_procedures s k (n + funs_in_all es) e)
  length_procedures s k n (Expression.Values p es) = length_all s k n es
  length_procedures s k n (Expression.Let p xs a b) =
      both_lengths (procedures s k n a) (procedures (binding k (names xs) s) (k + length xs) (n + funs a) b) (funs a) (funs b) (length_procedures s k n a) (length_procedures (binding k (names xs) s) (k + length xs) (n + funs a) b)
  length_procedures s k n (Expression.Case p a cs) = both_lengths (procedures s k n a) (procedures_in_clauses s k (n + funs a) cs) (funs a) (funs_in_clauses cs) (length_procedures s k n a) (length_clauses s k (n + funs a) cs)
  length_procedures s k n (Expression.Lambda p q xs b) =
      let i = length_procedures (scope_at_entry (fun_at s n (names xs) b)) (slots_at_entry (fun_at s n (names xs) b)) (suc n) b in omega (arith, i)
  length_procedures s k n (Expression.Letrec p ds b) =
      both_lengths (procedures_of_group (length (captured_by_group s ds)) (group_scope n ds s) n ds) (procedures (letrec_scope n ds s) k (n + funs_in_definitions ds) b) (funs_in_definitions ds) (funs b)
      (length_group (length (captured_by_group s ds)) (group_scope n ds s) n ds) (length_procedures (letrec_scope n ds s) k (n + funs_in_definitions ds) b)
  length_procedures s k n (Expression.Apply p f es) = both_lengths (procedures s k n f) (procedures_in_all s k (n + funs f) es) (funs f) (funs_in_all es) (length_procedures s k n f) (length_all s k (n + funs f) es)
  length_procedures s k n (Expression.Call p m f es) = length_all s k n es
  length_procedures s k n (Expression.Primop p f es) = length_all s k n es
  length_procedures s k n (Expression.Try p a xs b ys h) =
      let ps = procedures (binding k (names xs) s) (k + length xs) (n + funs a) b in
      let qs = procedures (binding k (names ys) s) (k + length ys) (n + (funs a + funs b)) h in
      both_lengths (procedures s k n a ++ ps) qs (funs a + funs b) (funs h)
      (both_lengths (procedures s k n a) ps (funs a) (funs b) (length_procedures s k n a) (length_procedures (binding k (names xs) s) (k + length xs) (n + funs a) b))
      (length_procedures (binding k (names ys) s) (k + length ys) (n + (funs a + funs b)) h)
  length_procedures s k n (Expression.Do p a b) = both_lengths (procedures s k n a) (procedures s k (n + funs a) b) (funs a) (funs b) (length_procedures s k n a) (length_procedures s k (n + funs a) b)
  length_procedures s k n (Expression.Catch p a) = length_procedures s k n a

  pub length_all : (s : Scope) (k n : ℕ) (es : Expressions) → length (procedures_in_all s k n es) ≡ funs_in_all es
  length_all s k n no_expression = refl
  length_all s k n (and_expression e es) = both_lengths (procedures s k n e) (procedures_in_all s k (n + funs e) es) (funs e) (funs_in_all es) (length_procedures s k n e) (length_all s k (n + funs e) es)

  length_clauses : (s : Scope) (k n : ℕ) (cs : Clauses) → length (procedures_in_clauses s k n cs) ≡ funs_in_clauses cs
  length_clauses s k n no_clause = refl
  length_clauses s k n (and_clause p ps g b cs) =
      let t = binding k (bound_by ps) s in
      let j = k + length (bound_by ps) in
      both_lengths (procedures t j n g ++ procedures t j (n + funs g) b) (procedures_in_clauses s k (n + (funs g + funs b)) cs) (funs g + funs b) (funs_in_clauses cs)
      (both_lengths (procedures t j n g) (procedures t j (n + funs g) b) (funs g) (funs b) (length_procedures t j n g) (length_procedures t j (n + funs g) b)) (length_clauses s k (n + (funs g + funs b)) cs)

  pub length_group : (c : ℕ) (s : Scope) (n : ℕ) (ds : Definitions) → length (procedures_of_group c s n ds) ≡ funs_in_definitions ds
  length_group c s n no_definition = refl
  length_group c s n (and_definition p f q xs b ds) =
      let ps = procedures (binding c (names xs) s) (c + length xs) (suc n) b in
      let i = both_lengths ps (procedures_of_group c s (n + 1 + funs b) ds) (funs b) (funs_in_definitions ds) (length_procedures (binding c (names xs) s) (c + length xs) (suc n) b) (length_group c s (n + 1 + funs b) ds) in
      omega (arith, i)

pub length_own : (s : Scope) (n : ℕ) (ds : Definitions) → length (own_procedures s n ds) ≡ count_definitions ds
length_own s n no_definition = refl
length_own s n (and_definition p f q xs b ds) = ap suc (length_own s (n + funs b) ds)

-- ---- where they stand

get_left : (ps qs : List Procedure) (i : ℕ) (f : Procedure) → slice_get ps i ≡ Some f → slice_get (ps ++ qs) i ≡ Some f
get_left [] qs i f is = absurd (not_some is)
get_left (p ∷ ps) qs zero f is = is
get_left (p ∷ ps) qs (suc i) f is = get_left ps qs i f is

get_right : (ps qs : List Procedure) (i : ℕ) (f : Procedure) → slice_get qs i ≡ Some f → slice_get (ps ++ qs) (length ps + i) ≡ Some f
get_right [] qs i f is = subst (λ j. slice_get qs j ≡ Some f) (omega arith) is
get_right (p ∷ ps) qs i f is =
    let e : suc (length ps + i) ≡ suc (length ps) + i = omega arith in
    subst (λ j. slice_get (p ∷ (ps ++ qs)) j ≡ Some f) e (get_right ps qs i f is)

module _ (program : Program) where
  -- these functions have the numbers from n on
  pub record Placed (n : ℕ) (ps : List Procedure) : Type 0 where
    pub at : (i : ℕ) (f : Procedure) → slice_get ps i ≡ Some f → slice_get program.procedures (n + i) ≡ Some f

  pub placed_left : (n : ℕ) (ps qs : List Procedure) → Placed n (ps ++ qs) → Placed n ps
  placed_left n ps qs p = record { at = λ i f is. p.at i f (get_left ps qs i f is) }

  pub placed_right : (n m : ℕ) (ps qs : List Procedure) → length ps ≡ m → Placed n (ps ++ qs) → Placed (n + m) qs
  placed_right n m ps qs size p =
      record { at = λ i f is. let e : n + (length ps + i) ≡ (n + m) + i = omega (arith, size) in subst (λ j. slice_get program.procedures j ≡ Some f) e (p.at (length ps + i) f (get_right ps qs i f is)) }

  pub placed_head : (n : ℕ) (f : Procedure) (ps : List Procedure) → Placed n (f ∷ ps) → slice_get program.procedures n ≡ Some f
  placed_head n f ps p = let e : n + 0 ≡ n = omega arith in subst (λ j. slice_get program.procedures j ≡ Some f) e (p.at 0 f refl)

  pub placed_tail : (n : ℕ) (f : Procedure) (ps : List Procedure) → Placed n (f ∷ ps) → Placed (suc n) ps
  placed_tail n f ps p = record { at = λ i g is. let e : n + suc i ≡ suc n + i = omega arith in subst (λ j. slice_get program.procedures j ≡ Some g) e (p.at (suc i) g is) }

  -- what stands behind an expression
  pub placed_behind : (s : Scope) (k n : ℕ) (e : Expression) (qs : List Procedure) → Placed n (procedures s k n e ++ qs) → Placed (n + funs e) qs
  placed_behind s k n e qs p = placed_right n (funs e) (procedures s k n e) qs (length_procedures s k n e) p

  -- what stands behind two
  pub placed_behind_two : (s t : Scope) (k j n : ℕ) (a b : Expression) (qs : List Procedure) → Placed n ((procedures s k n a ++ procedures t j (n + funs a) b) ++ qs) → Placed (n + (funs a + funs b)) qs
  placed_behind_two s t k j n a b qs p =
      placed_right n (funs a + funs b) (procedures s k n a ++ procedures t j (n + funs a) b) qs
      (both_lengths (procedures s k n a) (procedures t j (n + funs a) b) (funs a) (funs b) (length_procedures s k n a) (length_procedures t j (n + funs a) b)) p
