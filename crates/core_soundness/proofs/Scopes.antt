-- Well-formed scopes: each slot is in force, and each function's number names a procedure of the program that fits its name and what it captures.
use Rattle.std.proofs.Common.{◌≡◌, ℕ, zero, suc, ◌+◌, ◌<◌, ◌≤◌, List, [], ◌∷◌, ◌++◌, Option, Some, None, refl, sym, ap, ◌∙◌, arith}
use Rattle.std.specs.Prelude.{true, not, ◌&&◌, ◌==◌, length, slice_get, bytes_eq}
use Rattle.std.specs.List.{list_any}
use Rattle.std.proofs.lemmas.Bool.Decides.{same_from_decides, Decides-eqb}
use Rattle.std.proofs.lemmas.Slice.Eq.{bytes_eq-Decides}
use Rattle.core_ast.specs.declared.tree.FunName.{FunName}
use Rattle.core_ast.specs.Trees.{Expression, Expressions, no_expression, and_expression, Clauses, no_clause, and_clause, Definitions, no_definition, and_definition}
use Rattle.core_ast.specs.Names.{is_named}
use Rattle.core_meaning.specs.Scopes.{Known, Scope, slot_of, known_of, names, numbered, binding, bound_by, function_names, hiding, hiding_functions, slot_if_any, slots_if_known, occurring, occurring_in_all, occurring_in_clauses, occurring_in_definitions, captured_by_fun, captured_by_group, position, positions, carried_variable, carried_variables, carried_function, carried_functions, carried, numbered_functions, knowing, slots_from, funs}
use Rattle.core_meaning.specs.Procedures.{Procedure, Program}
use Rattle.core_soundness.proofs.Basics.{both_parts, same_bytes, same_numbers}
use Rattle.core_soundness.proofs.Lists.{Each, each_append, each_filter, each_weaker, each_found, AllBelow, each_first, position_below, positions_fit}

-- ---- equality of names

pub bytes_turned : (x y : List ℕ) → bytes_eq x y ≡ bytes_eq y x
bytes_turned x y = same_from_decides (bytes_eq x y) (bytes_eq y x) (bytes_eq-Decides x y) ((λ p. sym ((bytes_eq-Decides y x).0 p)), (λ p. (bytes_eq-Decides y x).1 (sym p)))

numbers_turned : (x y : ℕ) → (x == y) ≡ (y == x)
numbers_turned x y = same_from_decides (x == y) (y == x) (Decides-eqb x y) ((λ p. sym ((Decides-eqb y x).0 p)), (λ p. (Decides-eqb y x).1 (sym p)))

pub named_turned : (f g : FunName) → is_named f g ≡ is_named g f
named_turned f g = ap (λ b. b && f.arity == g.arity) (bytes_turned f.name g.name) ∙ ap (λ b. bytes_eq g.name f.name && b) (numbers_turned f.arity g.arity)

abbrev called : List ℕ → ℕ → FunName
called n a = record { name = n; arity = a }

pub same_named : (f g : FunName) → is_named f g ≡ true → f ≡ g
same_named f g is =
    let p = both_parts (bytes_eq f.name g.name) (f.arity == g.arity) is in
    ap (λ n. called n f.arity) (same_bytes f.name g.name p.0) ∙ ap (λ a. called g.name a) (same_numbers f.arity g.arity p.1)

pub arity_named : (f g : FunName) → is_named f g ≡ true → f.arity ≡ g.arity
arity_named f g is = same_numbers f.arity g.arity (both_parts (bytes_eq f.name g.name) (f.arity == g.arity) is).1

-- ---- slots in force

abbrev SlotBelow : ℕ → List ℕ × ℕ → Type 0
SlotBelow k v = v.1 < k

abbrev pub SlotsBelow : ℕ → FunName × Known → Type 0
SlotsBelow k f = AllBelow k (f.1).captured

-- all slots that a scope speaks of are below
pub record Below (k : ℕ) (s : Scope) : Type 0 where
  pub variables : Each (SlotBelow k) s.variables
  pub functions : Each (SlotsBelow k) s.functions

pub hiding_below : (k : ℕ) (xs : List (List ℕ)) (s : Scope) → Below k s → Below k (hiding xs s)
hiding_below k xs s b = record { variables = each_filter (SlotBelow k) (λ v. not (list_any (λ x. bytes_eq x v.0) xs)) s.variables b.variables; functions = b.functions }

pub hiding_functions_below : (k : ℕ) (fs : List FunName) (s : Scope) → Below k s → Below k (hiding_functions fs s)
hiding_functions_below k fs s b = record { variables = b.variables; functions = each_filter (SlotsBelow k) (λ g. not (list_any (λ f. is_named f g.0) fs)) s.functions b.functions }

slot_below : (k : ℕ) (o : Option ℕ) → ((i : ℕ) → o ≡ Some i → i < k) → AllBelow k (slot_if_any o)
slot_below k None f = tt
slot_below k (Some i) f = (f i refl, tt)

known_below : (k : ℕ) (o : Option Known) → ((g : Known) → o ≡ Some g → AllBelow k g.captured) → AllBelow k (slots_if_known o)
known_below k None f = tt
known_below k (Some g) f = f g refl

pub slot_of_below : (k : ℕ) (s : Scope) (x : List ℕ) (i : ℕ) → Below k s → slot_of x s ≡ Some i → i < k
slot_of_below k s x i b is = (each_found (SlotBelow k) (λ y. bytes_eq x y) s.variables i b.variables is).2

pub known_of_below : (k : ℕ) (s : Scope) (f : FunName) (g : Known) → Below k s → known_of f s ≡ Some g → AllBelow k g.captured
known_of_below k s f g b is = (each_found (SlotsBelow k) (λ g. is_named f g) s.functions g b.functions is).2

join : (k : ℕ) (is js : List ℕ) → AllBelow k is → AllBelow k js → AllBelow k (is ++ js)
join k is js g h = each_append (λ i. i < k) is js g h

-- the slots that occur are below
mutual
  pub occurring_below : (k : ℕ) (s : Scope) (e : Expression) → Below k s → AllBelow k (occurring s e)
  occurring_below k s (Expression.Int p n) b = tt
  occurring_below k s (Expression.Atom p a) b = tt
  occurring_below k s (Expression.Nil p) b = tt
  occurring_below k s (Expression.Variable p x) b = slot_below k (slot_of x s) (λ i is. slot_of_below k s x i b is)
  occurring_below k s (Expression.Name p f) b = known_below k (known_of f s) (λ g is. known_of_below k s f g b is)
  occurring_below k s (Expression.Tuple p es) b = all_below k s es b
  occurring_below k s (Expression.Cons p es e) b = join k (occurring_in_all s es) (occurring s e) (all_below k s es b) (occurring_below k s e b)
  occurring_below k s (Expression.Values p es) b = all_below k s es b
  occurring_below k s (Expression.Let p xs a e) b = join k (occurring s a) (occurring (hiding (names xs) s) e) (occurring_below k s a b) (occurring_below k (hiding (names xs) s) e (hiding_below k (names xs) s b))
  occurring_below k s (Expression.Case p a cs) b = join k (occurring s a) (occurring_in_clauses s cs) (occurring_below k s a b) (clauses_below k s cs b)
  occurring_below k s (Expression.Lambda p q xs e) b = occurring_below k (hiding (names xs) s) e (hiding_below k (names xs) s b)
  occurring_below k s (Expression.Letrec p ds e) b =
      join k (occurring_in_definitions (hiding_functions (function_names ds) s) ds) (occurring (hiding_functions (function_names ds) s) e)
      (definitions_below k (hiding_functions (function_names ds) s) ds (hiding_functions_below k (function_names ds) s b)) (occurring_below k (hiding_functions (function_names ds) s) e (hiding_functions_below k (function_names ds) s b))
  occurring_below k s (Expression.Apply p f es) b = join k (occurring s f) (occurring_in_all s es) (occurring_below k s f b) (all_below k s es b)
  occurring_below k s (Expression.Call p m f es) b = all_below k s es b
  occurring_below k s (Expression.Primop p f es) b = all_below k s es b
  occurring_below k s (Expression.Try p a xs e ys h) b =
      join k (occurring s a ++ occurring (hiding (names xs) s) e) (occurring (hiding (names ys) s) h)
      (join k (occurring s a) (occurring (hiding (names xs) s) e) (occurring_below k s a b) (occurring_below k (hiding (names xs) s) e (hiding_below k (names xs) s b)))
      (occurring_below k (hiding (names ys) s) h (hiding_below k (names ys) s b))
  occurring_below k s (Expression.Do p a e) b = join k (occurring s a) (occurring s e) (occurring_below k s a b) (occurring_below k s e b)
  occurring_below k s (Expression.Catch p a) b = occurring_below k s a b

  all_below : (k : ℕ) (s : Scope) (es : Expressions) → Below k s → AllBelow k (occurring_in_all s es)
  all_below k s no_expression b = tt
  all_below k s (and_expression e es) b = join k (occurring s e) (occurring_in_all s es) (occurring_below k s e b) (all_below k s es b)

  clauses_below : (k : ℕ) (s : Scope) (cs : Clauses) → Below k s → AllBelow k (occurring_in_clauses s cs)
  clauses_below k s no_clause b = tt
  clauses_below k s (and_clause p ps g e cs) b =
      join k (occurring (hiding (bound_by ps) s) g ++ occurring (hiding (bound_by ps) s) e) (occurring_in_clauses s cs)
      (join k (occurring (hiding (bound_by ps) s) g) (occurring (hiding (bound_by ps) s) e) (occurring_below k (hiding (bound_by ps) s) g (hiding_below k (bound_by ps) s b))
      (occurring_below k (hiding (bound_by ps) s) e (hiding_below k (bound_by ps) s b)))
      (clauses_below k s cs b)

  pub definitions_below : (k : ℕ) (s : Scope) (ds : Definitions) → Below k s → AllBelow k (occurring_in_definitions s ds)
  definitions_below k s no_definition b = tt
  definitions_below k s (and_definition p f q xs e ds) b = join k (occurring (hiding (names xs) s) e) (occurring_in_definitions s ds) (occurring_below k (hiding (names xs) s) e (hiding_below k (names xs) s b)) (definitions_below k s ds b)

-- what is captured is in force
pub fun_below : (k : ℕ) (s : Scope) (xs : List (List ℕ)) (e : Expression) → Below k s → AllBelow k (captured_by_fun s xs e)
fun_below k s xs e b = each_first (λ i. i < k) (occurring (hiding xs s) e) (occurring_below k (hiding xs s) e (hiding_below k xs s b))

pub group_below : (k : ℕ) (s : Scope) (ds : Definitions) → Below k s → AllBelow k (captured_by_group s ds)
group_below k s ds b = each_first (λ i. i < k) (occurring_in_definitions (hiding_functions (function_names ds) s) ds) (definitions_below k (hiding_functions (function_names ds) s) ds (hiding_functions_below k (function_names ds) s b))

-- ---- the functions of a scope

module _ (program : Program) where
  -- a function's number names a procedure with as many parameters as its name says, which captures so many values
  pub record Stands (f : FunName) (g : Known) : Type 0 where
    pub procedure : Procedure
    pub found : slice_get program.procedures g.number ≡ Some procedure
    pub captured : procedure.captured ≡ length g.captured
    pub parameters : length procedure.parameters ≡ f.arity

  abbrev pub EachStands : FunName × Known → Type 0
  EachStands f = Stands f.0 f.1

  -- a scope where so many variables are in force
  pub record InForce (s : Scope) (k : ℕ) : Type 0 where
    pub below : Below k s
    pub stand : Each EachStands s.functions

  pub known_stands : (s : Scope) (k : ℕ) (f : FunName) (g : Known) → InForce s k → known_of f s ≡ Some g → Stands f g
  known_stands s k f g i is =
      let found = each_found EachStands (λ g. is_named f g) s.functions g i.stand is in
      let h = found.2 in
      record { procedure = h.procedure; found = h.found; captured = h.captured; parameters = h.parameters ∙ sym (arity_named f found.0 found.1) }

  -- ---- variables are bound

  more_below : (m k : ℕ) → m ≤ k → (s : Scope) → Below m s → Below k s
  more_below m k le s b =
      record {
        variables = each_weaker (SlotBelow m) (SlotBelow k) (λ v lt. omega (arith, lt, le)) s.variables b.variables;
        functions = each_weaker (SlotsBelow m) (SlotsBelow k) (λ f g. each_weaker (λ i. i < m) (λ i. i < k) (λ i lt. omega (arith, lt, le)) (f.1).captured g) s.functions b.functions;
      }

  numbered_below : (k n : ℕ) (xs : List (List ℕ)) → k + length xs ≤ n → Each (SlotBelow n) (numbered k xs)
  numbered_below k n [] le = tt
  numbered_below k n (x ∷ xs) le = (omega (arith, le), numbered_below (suc k) n xs (omega (arith, le)))

  pub binding_in_force : (s : Scope) (k : ℕ) (xs : List (List ℕ)) → InForce s k → InForce (binding k xs s) (k + length xs)
  binding_in_force s k xs i =
      let b = more_below k (k + length xs) (omega arith) s i.below in
      record {
        below = record { variables = each_append (SlotBelow (k + length xs)) (numbered k xs) s.variables (numbered_below k (k + length xs) xs (omega arith)) b.variables; functions = b.functions };
        stand = i.stand;
      }

  -- ---- what is carried into a fun

  carried_variables_below : (captured : List ℕ) (vs : List (List ℕ × ℕ)) → Each (SlotBelow (length captured)) (carried_variables captured vs)
  carried_variables_below captured [] = tt
  carried_variables_below captured (v ∷ vs) =
      each_append (SlotBelow (length captured)) (carried_variable v (position v.1 captured)) (carried_variables captured vs)
      (one (position v.1 captured) (λ k is. position_below v.1 captured k is)) (carried_variables_below captured vs) where
        one : (o : Option ℕ) → ((k : ℕ) → o ≡ Some k → k < length captured) → Each (SlotBelow (length captured)) (carried_variable v o)
        one None f = tt
        one (Some k) f = (f k refl, tt)

  carried_functions_below : (captured : List ℕ) (fs : List (FunName × Known)) → Each (SlotsBelow (length captured)) (carried_functions captured fs)
  carried_functions_below captured [] = tt
  carried_functions_below captured (f ∷ fs) =
      each_append (SlotsBelow (length captured)) (carried_function f (positions (f.1).captured captured)) (carried_functions captured fs)
      (one (positions (f.1).captured captured) (λ js is. (positions_fit captured (f.1).captured js is).0)) (carried_functions_below captured fs) where
        one : (o : Option (List ℕ)) → ((js : List ℕ) → o ≡ Some js → AllBelow (length captured) js) → Each (SlotsBelow (length captured)) (carried_function f o)
        one None g = tt
        one (Some js) g = (g js refl, tt)

  carried_functions_stand : (captured : List ℕ) (fs : List (FunName × Known)) → Each EachStands fs → Each EachStands (carried_functions captured fs)
  carried_functions_stand captured [] g = tt
  carried_functions_stand captured (f ∷ fs) g =
      each_append EachStands (carried_function f (positions (f.1).captured captured)) (carried_functions captured fs)
      (one (positions (f.1).captured captured) (λ js is. (positions_fit captured (f.1).captured js is).1)) (carried_functions_stand captured fs g.1) where
        one : (o : Option (List ℕ)) → ((js : List ℕ) → o ≡ Some js → length js ≡ length (f.1).captured) → Each EachStands (carried_function f o)
        one None h = tt
        one (Some js) h = (record { procedure = g.0.procedure; found = g.0.found; captured = g.0.captured ∙ sym (h js refl); parameters = g.0.parameters }, tt)

  pub carried_in_force : (s : Scope) (captured : List ℕ) (k : ℕ) → InForce s k → InForce (carried captured s) (length captured)
  carried_in_force s captured k i =
      record {
        below = record { variables = carried_variables_below captured s.variables; functions = carried_functions_below captured s.functions };
        stand = carried_functions_stand captured s.functions i.stand;
      }

  -- ---- the functions of a `letrec`

  numbered_functions_below : (k n : ℕ) (captured : List ℕ) (ds : Definitions) → AllBelow k captured → Each (SlotsBelow k) (numbered_functions n captured ds)
  numbered_functions_below k n captured no_definition g = tt
  numbered_functions_below k n captured (and_definition p f q xs e ds) g = (g, numbered_functions_below k (n + 1 + funs e) captured ds g)

  pub knowing_in_force : (s : Scope) (k n : ℕ) (captured : List ℕ) (ds : Definitions) → InForce s k → AllBelow k captured → Each EachStands (numbered_functions n captured ds) → InForce (knowing n captured ds s) k
  knowing_in_force s k n captured ds i g h =
      record {
        below = record { variables = i.below.variables; functions = each_append (SlotsBelow k) (numbered_functions n captured ds) s.functions (numbered_functions_below k n captured ds g) i.below.functions };
        stand = each_append EachStands (numbered_functions n captured ds) s.functions h i.stand;
      }

pub slots_below : (k n m : ℕ) → k + n ≤ m → AllBelow m (slots_from k n)
slots_below k zero m le = tt
slots_below k (suc n) m le = (omega (arith, le), slots_below (suc k) n m (omega (arith, le)))

pub length_slots : (k n : ℕ) → length (slots_from k n) ≡ n
length_slots k zero = refl
length_slots k (suc n) = ap suc (length_slots (suc k) n)
