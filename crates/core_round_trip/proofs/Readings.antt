-- What is derived from terminals of given kinds, and what comes behind it.
use Rattle.std.proofs.Common.{◌≡◌, ℤ, pos, negsuc, List, [], ◌∷◌, map, refl, ap}
use Rattle.hipe_terms.specs.declared.place.Place.{Place}
use Rattle.core_ast.specs.declared.pattern.Var.{Var}
use Rattle.core_ast.specs.declared.tree.FunName.{FunName}
use Rattle.core_ast.specs.SameTree.{placeless_variable, placeless_variables, placeless_export}
use Rattle.core_grammar.specs.declared.terminal.Kind.{Kind}
use Rattle.core_grammar.specs.declared.terminal.Mark.{Mark}
use Rattle.core_grammar.specs.declared.terminal.Terminal.{Terminal}
use Rattle.core_grammar.specs.Leave.{Leave, token}
use Rattle.core_grammar.specs.Grammar as G
use Rattle.core_round_trip.proofs.TreeKinds.{Kinds, next, integer_kind, name_kinds, variables_behind, variables_kinds, binders_kinds, exports_behind, exports_kinds}

-- a part that these terminals begin with, and terminals of the kinds ks behind it
pub record Reading (A : Type 0) (X : A → List Terminal → List Terminal → Type 0) (Same : A → Type 0) (ks : List Kind) (ts : List Terminal) : Type 0 where
  pub tree : A
  pub rest : List Terminal
  pub derived : X tree ts rest
  pub same : Same tree
  pub behind : Kinds ks rest

-- the same, where a terminal of the kind k comes next, and those of the kinds ks behind it
pub record ReadingTo (A : Type 0) (X : A → List Terminal → List Terminal → Type 0) (Same : A → Type 0) (k : Kind) (ks : List Kind) (ts : List Terminal) : Type 0 where
  pub tree : A
  pub at : Place
  pub rest : List Terminal
  pub derived : X tree ts (token k at ∷ rest)
  pub same : Same tree
  pub behind : Kinds ks rest

module _ {A : Type 0} {X : A → List Terminal → List Terminal → Type 0} {Same : A → Type 0} {k : Kind} {ks : List Kind} {ts : List Terminal} where
  up_to_by : (a : A) (us : List Terminal) → X a ts us → Same a → Kinds (k ∷ ks) us → ReadingTo A X Same k ks ts
  up_to_by a us d s (next {ts = vs} p h) = record { tree = a; at = p; rest = vs; derived = d; same = s; behind = h }

  pub up_to : Reading A X Same (k ∷ ks) ts → ReadingTo A X Same k ks ts
  up_to b = up_to_by b.tree b.rest b.derived b.same b.behind

-- ---- integers, names and variables

pub integer_is : (n : ℤ) → G.Integer (integer_kind n) n
integer_is (pos n) = G.digits n
integer_is (negsuc n) = G.signed_or_character (negsuc n)

abbrev pub NameReading : FunName → List Kind → List Terminal → Type 0
NameReading f ks ts = Reading Place (G.NameOf f) (λ p. Unit {0}) ks ts

pub name_reading : (f : FunName) (ks : List Kind) (ts : List Terminal) → Kinds (name_kinds f ks) ts → NameReading f ks ts
name_reading f ks ts (next p (next q (next {ts = us} r h))) = record { tree = p; rest = us; derived = G.function_name q r; same = tt; behind = h }

module _ (ok : Leave) where
  abbrev pub SameVariables : List Var → List Var → Type 0
  SameVariables xs ys = placeless_variables ys ≡ placeless_variables xs

  some_variables : (x : Var) (xs : List Var) (ks : List Kind) (ts : List Terminal) → Kinds (Kind.Variable x.name ∷ variables_behind xs ks) ts
      → Reading (List Var) (G.SomeOf Var (G.AnnotatedVariable ok)) (SameVariables (x ∷ xs)) ks ts
  some_variables x [] ks ts (next {ts = us} p h) = record { tree = record { name = x.name; at = p } ∷ []; rest = us; derived = G.last_of (G.bare G.variable); same = refl; behind = h }
  some_variables x (y ∷ ys) ks ts (next p (next {ts = us} q h)) =
      let r = some_variables y ys ks us h in
      record { tree = record { name = x.name; at = p } ∷ r.tree; rest = r.rest; derived = G.more_of q (G.bare G.variable) r.derived; same = ap (λ zs. placeless_variable x ∷ zs) r.same; behind = r.behind }

  abbrev pub VariablesReading : List Var → List Kind → List Terminal → Type 0
  VariablesReading xs ks ts = Reading (List Var) (G.ListOf Var (G.AnnotatedVariable ok)) (SameVariables xs) ks ts

  pub variables_reading : (xs : List Var) (ks : List Kind) (ts : List Terminal) → Kinds (variables_kinds xs ks) ts → VariablesReading xs ks ts
  variables_reading [] ks ts h = record { tree = []; rest = ts; derived = G.none_of; same = refl; behind = h }
  variables_reading (x ∷ xs) ks ts h = let r = some_variables x xs ks ts h in record { tree = r.tree; rest = r.rest; derived = G.some_of r.derived; same = r.same; behind = r.behind }

  abbrev pub BindersReading : List Var → List Kind → List Terminal → Type 0
  BindersReading xs ks ts = Reading (List Var) (G.VariablesOf ok) (SameVariables xs) ks ts

  pub binders_reading : (xs : List Var) (ks : List Kind) (ts : List Terminal) → Kinds (binders_kinds xs ks) ts → BindersReading xs ks ts
  binders_reading xs ks ts (next {ts = us} p h) =
      let r = up_to (variables_reading xs (Kind.Mark Mark.Greater ∷ ks) us h) in
      record { tree = r.tree; rest = r.rest; derived = G.value_variables p r.at r.derived; same = r.same; behind = r.behind }

  -- ---- exports

  abbrev pub SameExports : List (FunName × Place) → List (FunName × Place) → Type 0
  SameExports es fs = map placeless_export fs ≡ map placeless_export es

  abbrev pub ExportsReading : List (FunName × Place) → List Kind → List Terminal → Type 0
  ExportsReading es ks ts = Reading (List (FunName × Place)) (G.ListOf (FunName × Place) (G.ExportOf ok)) (SameExports es) ks ts

  some_exports : (e : FunName × Place) (es : List (FunName × Place)) (ks : List Kind) (ts : List Terminal) → NameReading e.0 (exports_behind es ks) ts
      → Reading (List (FunName × Place)) (G.SomeOf (FunName × Place) (G.ExportOf ok)) (SameExports (e ∷ es)) ks ts
  some_exports e [] ks ts b = record { tree = (e.0, b.tree) ∷ []; rest = b.rest; derived = G.last_of (G.bare b.derived); same = refl; behind = b.behind }
  some_exports e (f ∷ fs) ks ts b =
      let x = up_to b in
      let r = some_exports f fs ks x.rest (name_reading f.0 (exports_behind fs ks) x.rest x.behind) in
      record { tree = (e.0, x.tree) ∷ r.tree; rest = r.rest; derived = G.more_of x.at (G.bare x.derived) r.derived; same = ap (λ gs. placeless_export e ∷ gs) r.same; behind = r.behind }

  pub exports_reading : (es : List (FunName × Place)) (ks : List Kind) (ts : List Terminal) → Kinds (exports_kinds es ks) ts → ExportsReading es ks ts
  exports_reading [] ks ts h = record { tree = []; rest = ts; derived = G.none_of; same = refl; behind = h }
  exports_reading (e ∷ es) ks ts h =
      let r = some_exports e es ks ts (name_reading e.0 (exports_behind es ks) ts h) in
      record { tree = r.tree; rest = r.rest; derived = G.some_of r.derived; same = r.same; behind = r.behind }
