-- What a fun captures is enough: each name that its body speaks of is found in the scope inside it.
use Rattle.std.proofs.Common.{◌≡◌, ℕ, suc, ◌+◌, List, [], ◌∷◌, ◌++◌, Option, Some, None, refl, sym, ap, ◌∙◌, subst, inl, inr}
use Rattle.std.specs.Prelude.{Bool, true, false, if◌then◌else◌, ◌⊎◌, map, bytes_eq}
use Rattle.std.specs.List.{list_any}
use Rattle.std.specs.Map.{lookup}
use Rattle.std.proofs.lemmas.List.Folds.{list_any-append}
use Rattle.core_ast.specs.declared.pattern.Var.{Var}
use Rattle.core_ast.specs.declared.tree.FunName.{FunName}
use Rattle.core_ast.specs.Trees.{Expression, Expressions, no_expression, and_expression, Clauses, no_clause, and_clause, Definitions, no_definition, and_definition}
use Rattle.core_ast.specs.Names.{Names, is_named, has_variable, has_function, with_variables, with_functions, defined, variables_of_all}
use Rattle.core_meaning.specs.Scopes.{Known, Scope, slot_of, known_of, names, numbered, binding, bound_by, function_names, hiding, hiding_functions, slot_if_any, slots_if_known, occurring, occurring_in_all, occurring_in_clauses, occurring_in_definitions, position, positions, carried_variable, carried_variables, carried_function, carried_functions, carried, numbered_functions, knowing, funs}
use Rattle.core_meaning.specs.Procedures.{known_from, module_scope}
use Rattle.core_soundness.proofs.Basics.{some_same, not_some, not_true, same_bytes}
use Rattle.core_soundness.proofs.Lists.{Each, IsFound, each_left, each_right, cond_listed, listed_found, found_listed, or_left, or_right, or_cases, hidden_found, IsIn, positions_found}
use Rattle.core_soundness.proofs.Scopes.{bytes_turned, named_turned, same_named}
use Rattle.core_soundness.proofs.Fine.{Fine, FineAll, FineClauses, FineDefinitions}

-- ---- the names that a scope has

-- each of these names is found in the scope
pub record Covers (n : Names) (s : Scope) : Type 0 where
  pub variables : (x : List ℕ) → has_variable x n ≡ true → IsFound (slot_of x s)
  pub functions : (f : FunName) → has_function f n ≡ true → IsFound (known_of f s)

bound_found : (x : List ℕ) (k : ℕ) (ys zs : List (List ℕ)) (vs : List (List ℕ × ℕ)) → (list_any (λ y. bytes_eq x y) zs ≡ true → IsFound (lookup (λ y. bytes_eq x y) vs))
    → list_any (λ y. bytes_eq x y) (ys ++ zs) ≡ true → IsFound (lookup (λ y. bytes_eq x y) (numbered k ys ++ vs))
bound_found x k [] zs vs f is = f is
bound_found x k (y ∷ ys) zs vs f is = cond_listed (bytes_eq x y) k (lookup (λ y. bytes_eq x y) (numbered (suc k) ys ++ vs)) (list_any (λ y. bytes_eq x y) (ys ++ zs)) (bound_found x (suc k) ys zs vs f) is

pub binding_covers : (n : Names) (s : Scope) (k : ℕ) (xs : List Var) → Covers n s → Covers (with_variables xs n) (binding k (names xs) s)
binding_covers n s k xs c = record { variables = λ x is. bound_found x k (names xs) n.variables s.variables (c.variables x) is; functions = c.functions }

known_found : (f : FunName) (i : ℕ) (captured : List ℕ) (ds : Definitions) (gs : List FunName) (fs : List (FunName × Known)) → (list_any (λ g. is_named f g) gs ≡ true → IsFound (lookup (λ g. is_named f g) fs))
    → list_any (λ g. is_named f g) (map (λ d. d.0) (defined ds) ++ gs) ≡ true → IsFound (lookup (λ g. is_named f g) (numbered_functions i captured ds ++ fs))
known_found f i captured no_definition gs fs h is = h is
known_found f i captured (and_definition p g q xs b ds) gs fs h is =
    cond_listed (is_named f g) (record { number = i; captured = captured }) (lookup (λ g. is_named f g) (numbered_functions (i + 1 + funs b) captured ds ++ fs)) (list_any (λ g. is_named f g) (map (λ d. d.0) (defined ds) ++ gs))
    (known_found f (i + 1 + funs b) captured ds gs fs h) is

pub knowing_covers : (n : Names) (s : Scope) (i : ℕ) (captured : List ℕ) (ds : Definitions) → Covers n s → Covers (with_functions ds n) (knowing i captured ds s)
knowing_covers n s i captured ds c = record { variables = c.variables; functions = λ f is. known_found f i captured ds n.functions s.functions (c.functions f) is }

own_found : (f : FunName) (i : ℕ) (ds : Definitions) → list_any (λ g. is_named f g) (map (λ d. d.0) (defined ds) ++ []) ≡ true → IsFound (lookup (λ g. is_named f g) (known_from i ds))
own_found f i no_definition is = absurd (not_true is)
own_found f i (and_definition p g q xs b ds) is =
    cond_listed (is_named f g) (record { number = i; captured = [] }) (lookup (λ g. is_named f g) (known_from (suc i) ds)) (list_any (λ g. is_named f g) (map (λ d. d.0) (defined ds) ++ [])) (own_found f (suc i) ds) is

pub module_covers : (ds : Definitions) → Covers (with_functions ds (record { variables = []; functions = [] })) (module_scope ds)
module_covers ds = record { variables = λ x is. absurd (not_true is); functions = λ f is. own_found f 0 ds is }

-- the names in a scope
abbrev pub names_in : Scope → Names
names_in s = record { variables = map (λ v. v.0) s.variables; functions = map (λ f. f.0) s.functions }

pub scope_covers : (s : Scope) → Covers (names_in s) s
scope_covers s = record { variables = λ x is. listed_found (λ y. bytes_eq x y) s.variables is; functions = λ f is. listed_found (λ g. is_named f g) s.functions is }

-- ---- what is carried into a fun

slot_carried_at : (x : List ℕ) (captured : List ℕ) (v : List ℕ × ℕ) (vs ws : List (List ℕ × ℕ)) (i : ℕ) (b : Bool) (o : Option ℕ) → bytes_eq x v.0 ≡ b → position v.1 captured ≡ o → IsIn captured i
    → (lookup (λ y. bytes_eq x y) vs ≡ Some i → IsFound (lookup (λ y. bytes_eq x y) ws)) → (if b then Some v.1 else lookup (λ y. bytes_eq x y) vs) ≡ Some i
    → IsFound (lookup (λ y. bytes_eq x y) (carried_variable v o ++ ws))
slot_carried_at x captured v vs ws i true None is at found f there = absurd (not_some (sym at ∙ ap (λ j. position j captured) (some_same v.1 i there) ∙ found.1))
slot_carried_at x captured v vs ws i true (Some j) is at found f there = (j, ap (λ b. if b then Some j else lookup (λ y. bytes_eq x y) ws) is)
slot_carried_at x captured v vs ws i false None is at found f there = f there
slot_carried_at x captured v vs ws i false (Some j) is at found f there = let g = f there in (g.0, ap (λ b. if b then Some j else lookup (λ y. bytes_eq x y) ws) is ∙ g.1)

slot_carried : (x : List ℕ) (captured : List ℕ) (vs : List (List ℕ × ℕ)) (i : ℕ) → lookup (λ y. bytes_eq x y) vs ≡ Some i → IsIn captured i → IsFound (lookup (λ y. bytes_eq x y) (carried_variables captured vs))
slot_carried x captured [] i is found = absurd (not_some is)
slot_carried x captured (v ∷ vs) i is found =
    slot_carried_at x captured v vs (carried_variables captured vs) i (bytes_eq x v.0) (position v.1 captured) refl refl found (λ is. slot_carried x captured vs i is found) is

known_carried_at : (f : FunName) (captured : List ℕ) (e : FunName × Known) (es ws : List (FunName × Known)) (g : Known) (b : Bool) (o : Option (List ℕ)) → is_named f e.0 ≡ b → positions (e.1).captured captured ≡ o → Each (IsIn captured) g.captured
    → (lookup (λ y. is_named f y) es ≡ Some g → IsFound (lookup (λ y. is_named f y) ws)) → (if b then Some e.1 else lookup (λ y. is_named f y) es) ≡ Some g
    → IsFound (lookup (λ y. is_named f y) (carried_function e o ++ ws))
known_carried_at f captured e es ws g true None is at found h there =
    absurd (not_some (sym at ∙ ap (λ (j : Known). positions j.captured captured) (some_same e.1 g there) ∙ (positions_found captured g.captured found).1))
known_carried_at f captured e es ws g true (Some js) is at found h there =
    (record { number = (e.1).number; captured = js }, ap (λ b. if b then Some (record { number = (e.1).number; captured = js }) else lookup (λ y. is_named f y) ws) is)
known_carried_at f captured e es ws g false None is at found h there = h there
known_carried_at f captured e es ws g false (Some js) is at found h there =
    let r = h there in (r.0, ap (λ b. if b then Some (record { number = (e.1).number; captured = js }) else lookup (λ y. is_named f y) ws) is ∙ r.1)

known_carried : (f : FunName) (captured : List ℕ) (es : List (FunName × Known)) (g : Known) → lookup (λ y. is_named f y) es ≡ Some g → Each (IsIn captured) g.captured → IsFound (lookup (λ y. is_named f y) (carried_functions captured es))
known_carried f captured [] g is found = absurd (not_some is)
known_carried f captured (e ∷ es) g is found =
    known_carried_at f captured e es (carried_functions captured es) g (is_named f e.0) (positions (e.1).captured captured) refl refl found (λ is. known_carried f captured es g is found) is

-- ---- inside a body

-- Each name of n is among those of t, or it stands for captured slots of the scope s, and is among those of t if they all are captured.
pub record Carries (n : Names) (s : Scope) (captured : List ℕ) (t : Names) : Type 0 where
  pub variables : (x : List ℕ) → has_variable x n ≡ true → (has_variable x t ≡ true) ⊎ ((i : ℕ) × (slot_of x s ≡ Some i) × (IsIn captured i → has_variable x t ≡ true))
  pub functions : (f : FunName) → has_function f n ≡ true → (has_function f t ≡ true) ⊎ ((g : Known) × (known_of f s ≡ Some g) × (Each (IsIn captured) g.captured → has_function f t ≡ true))

pub carried_names : (n : Names) (s : Scope) (captured : List ℕ) → Covers n s → Carries n s captured (names_in (carried captured s))
carried_names n s captured c =
    record {
      variables = λ x is. let found = c.variables x is in inr (found.0, found.1, λ h. found_listed (λ y. bytes_eq x y) (carried_variables captured s.variables) (slot_carried x captured s.variables found.0 found.1 h));
      functions = λ f is. let found = c.functions f is in inr (found.0, found.1, λ h. found_listed (λ g. is_named f g) (carried_functions captured s.functions) (known_carried f captured s.functions found.0 found.1 h));
    }

listed_left : {K : Type 0} (test : K → Bool) (ys zs : List K) → list_any test ys ≡ true → list_any test (ys ++ zs) ≡ true
listed_left test ys zs is = list_any-append test ys zs ∙ or_left (list_any test ys) (list_any test zs) is

listed_right : {K : Type 0} (test : K → Bool) (ys zs : List K) → list_any test zs ≡ true → list_any test (ys ++ zs) ≡ true
listed_right test ys zs is = list_any-append test ys zs ∙ or_right (list_any test ys) (list_any test zs) is

listed_cases : {K : Type 0} (test : K → Bool) (ys zs : List K) → list_any test (ys ++ zs) ≡ true → (list_any test ys ≡ true) ⊎ ((list_any test ys ≡ false) × (list_any test zs ≡ true))
listed_cases test ys zs is = or_cases (list_any test ys) (list_any test zs) (sym (list_any-append test ys zs) ∙ is)

pub binding_carries : (n : Names) (s : Scope) (captured : List ℕ) (t : Names) (xs : List Var) → Carries n s captured t → Carries (with_variables xs n) (hiding (names xs) s) captured (with_variables xs t)
binding_carries n s captured t xs c = record { variables = λ x is. go x (listed_cases (λ y. bytes_eq x y) (names xs) n.variables is); functions = c.functions } where
  behind : (x : List ℕ) → list_any (λ y. bytes_eq x y) (names xs) ≡ false → (has_variable x t ≡ true) ⊎ ((i : ℕ) × (slot_of x s ≡ Some i) × (IsIn captured i → has_variable x t ≡ true))
      → (has_variable x (with_variables xs t) ≡ true) ⊎ ((i : ℕ) × (slot_of x (hiding (names xs) s) ≡ Some i) × (IsIn captured i → has_variable x (with_variables xs t) ≡ true))
  behind x free (inl has) = inl (listed_right (λ y. bytes_eq x y) (names xs) t.variables has)
  behind x free (inr there) = inr (there.0, hidden_found bytes_eq same_bytes bytes_turned s.variables x there.0 (names xs) free there.1, λ h. listed_right (λ y. bytes_eq x y) (names xs) t.variables (there.2 h))

  go : (x : List ℕ) → (list_any (λ y. bytes_eq x y) (names xs) ≡ true) ⊎ ((list_any (λ y. bytes_eq x y) (names xs) ≡ false) × (has_variable x n ≡ true))
      → (has_variable x (with_variables xs t) ≡ true) ⊎ ((i : ℕ) × (slot_of x (hiding (names xs) s) ≡ Some i) × (IsIn captured i → has_variable x (with_variables xs t) ≡ true))
  go x (inl listed) = inl (listed_left (λ y. bytes_eq x y) (names xs) t.variables listed)
  go x (inr free) = behind x free.0 (c.variables x free.1)

pub knowing_carries : (n : Names) (s : Scope) (captured : List ℕ) (t : Names) (ds : Definitions) → Carries n s captured t → Carries (with_functions ds n) (hiding_functions (function_names ds) s) captured (with_functions ds t)
knowing_carries n s captured t ds c = record { variables = c.variables; functions = λ f is. go f (listed_cases (λ g. is_named f g) (function_names ds) n.functions is) } where
  behind : (f : FunName) → list_any (λ g. is_named f g) (function_names ds) ≡ false → (has_function f t ≡ true) ⊎ ((g : Known) × (known_of f s ≡ Some g) × (Each (IsIn captured) g.captured → has_function f t ≡ true))
      → (has_function f (with_functions ds t) ≡ true) ⊎ ((g : Known) × (known_of f (hiding_functions (function_names ds) s) ≡ Some g) × (Each (IsIn captured) g.captured → has_function f (with_functions ds t) ≡ true))
  behind f free (inl has) = inl (listed_right (λ g. is_named f g) (function_names ds) t.functions has)
  behind f free (inr there) = inr (there.0, hidden_found is_named same_named named_turned s.functions f there.0 (function_names ds) free there.1, λ h. listed_right (λ g. is_named f g) (function_names ds) t.functions (there.2 h))

  go : (f : FunName) → (list_any (λ g. is_named f g) (function_names ds) ≡ true) ⊎ ((list_any (λ g. is_named f g) (function_names ds) ≡ false) × (has_function f n ≡ true))
      → (has_function f (with_functions ds t) ≡ true) ⊎ ((g : Known) × (known_of f (hiding_functions (function_names ds) s) ≡ Some g) × (Each (IsIn captured) g.captured → has_function f (with_functions ds t) ≡ true))
  go f (inl listed) = inl (listed_left (λ g. is_named f g) (function_names ds) t.functions listed)
  go f (inr free) = behind f free.0 (c.functions f free.1)

module _ (captured : List ℕ) where
  variable_carried : (b : Bool) (o : Option ℕ) → (b ≡ true) ⊎ ((i : ℕ) × (o ≡ Some i) × (IsIn captured i → b ≡ true)) → Each (IsIn captured) (slot_if_any o) → b ≡ true
  variable_carried b o (inl is) g = is
  variable_carried b o (inr there) g = there.2 (subst (λ o. Each (IsIn captured) (slot_if_any o)) there.1 g).0

  function_carried : (b : Bool) (o : Option Known) → (b ≡ true) ⊎ ((g : Known) × (o ≡ Some g) × (Each (IsIn captured) g.captured → b ≡ true)) → Each (IsIn captured) (slots_if_known o) → b ≡ true
  function_carried b o (inl is) g = is
  function_carried b o (inr there) g = there.2 (subst (λ o. Each (IsIn captured) (slots_if_known o)) there.1 g)

  abbrev In : List ℕ → Type 0
  In is = Each (IsIn captured) is

  left : (is js : List ℕ) → In (is ++ js) → In is
  left is js g = each_left (IsIn captured) is js g

  right : (is js : List ℕ) → In (is ++ js) → In js
  right is js g = each_right (IsIn captured) is js g

  -- an expression that is fine with the names outside is so with those inside, if all its slots are captured
  mutual
    pub narrow : (n : Names) (s : Scope) (t : Names) (e : Expression) → Carries n s captured t → In (occurring s e) → Fine n e → Fine t e
    narrow n s t (Expression.Int p i) c g f = tt
    narrow n s t (Expression.Atom p a) c g f = tt
    narrow n s t (Expression.Nil p) c g f = tt
    narrow n s t (Expression.Variable p x) c g f = variable_carried (has_variable x t) (slot_of x s) (c.variables x f) g
    narrow n s t (Expression.Name p h) c g f = function_carried (has_function h t) (known_of h s) (c.functions h f) g
    narrow n s t (Expression.Tuple p es) c g f = narrow_all n s t es c g f
    narrow n s t (Expression.Cons p es e) c g f = (narrow_all n s t es c (left (occurring_in_all s es) (occurring s e) g) f.0, f.1, narrow n s t e c (right (occurring_in_all s es) (occurring s e) g) f.2)
    narrow n s t (Expression.Values p es) c g f = narrow_all n s t es c g f
    narrow n s t (Expression.Let p xs a b) c g f = (
      f.0,
      narrow n s t a c (left (occurring s a) (occurring (hiding (names xs) s) b) g) f.1,
      narrow (with_variables xs n) (hiding (names xs) s) (with_variables xs t) b (binding_carries n s captured t xs c) (right (occurring s a) (occurring (hiding (names xs) s) b) g) f.2,
    )
    narrow n s t (Expression.Case p a cs) c g f =
        (narrow n s t a c (left (occurring s a) (occurring_in_clauses s cs) g) f.0, narrow_clauses n s t _ _ cs c (right (occurring s a) (occurring_in_clauses s cs) g) f.1)
    narrow n s t (Expression.Lambda p q xs b) c g f = (f.0, narrow (with_variables xs n) (hiding (names xs) s) (with_variables xs t) b (binding_carries n s captured t xs c) g f.1)
    narrow n s t (Expression.Letrec p ds b) c g f =
        let h = hiding_functions (function_names ds) s in (
          narrow_definitions (with_functions ds n) h (with_functions ds t) ds (knowing_carries n s captured t ds c) (left (occurring_in_definitions h ds) (occurring h b) g) f.0,
          narrow (with_functions ds n) h (with_functions ds t) b (knowing_carries n s captured t ds c) (right (occurring_in_definitions h ds) (occurring h b) g) f.1,
        )
    narrow n s t (Expression.Apply p h es) c g f =
        (f.0, narrow n s t h c (left (occurring s h) (occurring_in_all s es) g) f.1, narrow_all n s t es c (right (occurring s h) (occurring_in_all s es) g) f.2)
    narrow n s t (Expression.Call p m h es) c g f = narrow_all n s t es c g f
    narrow n s t (Expression.Primop p h es) c g f = (f.0, narrow_all n s t es c g f.1)
    narrow n s t (Expression.Try p a xs b ys h) c g f =
        let front = left (occurring s a ++ occurring (hiding (names xs) s) b) (occurring (hiding (names ys) s) h) g in (
          f.0,
          f.1,
          f.2,
          f.3,
          narrow n s t a c (left (occurring s a) (occurring (hiding (names xs) s) b) front) f.4,
          narrow (with_variables xs n) (hiding (names xs) s) (with_variables xs t) b (binding_carries n s captured t xs c) (right (occurring s a) (occurring (hiding (names xs) s) b) front) f.5,
          narrow (with_variables ys n) (hiding (names ys) s) (with_variables ys t) h (binding_carries n s captured t ys c) (right (occurring s a ++ occurring (hiding (names xs) s) b) (occurring (hiding (names ys) s) h) g) f.6,
        )
    narrow n s t (Expression.Do p a b) c g f = (narrow n s t a c (left (occurring s a) (occurring s b) g) f.0, narrow n s t b c (right (occurring s a) (occurring s b) g) f.1)
    narrow n s t (Expression.Catch p a) c g f = (f.0, narrow n s t a c g f.1)

    narrow_all : (n : Names) (s : Scope) (t : Names) (es : Expressions) → Carries n s captured t → In (occurring_in_all s es) → FineAll n es → FineAll t es
    narrow_all n s t no_expression c g f = tt
    narrow_all n s t (and_expression e es) c g f = (f.0, narrow n s t e c (left (occurring s e) (occurring_in_all s es) g) f.1, narrow_all n s t es c (right (occurring s e) (occurring_in_all s es) g) f.2)

    narrow_clauses : (n : Names) (s : Scope) (t : Names) (a d : Option ℕ) (cs : Clauses) → Carries n s captured t → In (occurring_in_clauses s cs) → FineClauses n a d cs → FineClauses t a d cs
    narrow_clauses n s t a d no_clause c g f = tt
    narrow_clauses n s t a d (and_clause p ps guard b cs) c g f =
        let xs = variables_of_all ps in
        let h = hiding (bound_by ps) s in
        let front = left (occurring h guard ++ occurring h b) (occurring_in_clauses s cs) g in (
          f.0,
          f.1,
          f.2,
          narrow (with_variables xs n) h (with_variables xs t) guard (binding_carries n s captured t xs c) (left (occurring h guard) (occurring h b) front) f.3,
          narrow (with_variables xs n) h (with_variables xs t) b (binding_carries n s captured t xs c) (right (occurring h guard) (occurring h b) front) f.4,
          narrow_clauses n s t a d cs c (right (occurring h guard ++ occurring h b) (occurring_in_clauses s cs) g) f.5,
        )

    pub narrow_definitions : (n : Names) (s : Scope) (t : Names) (ds : Definitions) → Carries n s captured t → In (occurring_in_definitions s ds) → FineDefinitions n ds → FineDefinitions t ds
    narrow_definitions n s t no_definition c g f = tt
    narrow_definitions n s t (and_definition p h q xs b ds) c g f = (
      f.0,
      f.1,
      narrow (with_variables xs n) (hiding (names xs) s) (with_variables xs t) b (binding_carries n s captured t xs c) (left (occurring (hiding (names xs) s) b) (occurring_in_definitions s ds) g) f.2,
      narrow_definitions n s t ds c (right (occurring (hiding (names xs) s) b) (occurring_in_definitions s ds) g) f.3,
    )
