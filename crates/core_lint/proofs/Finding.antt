-- The walk through the scopes finds what the rules on names say is broken.
use Rattle.std.proofs.Common.{◌≡◌, ℕ, ◌+◌, Bool, true, false, not, ◌&&◌, List, [], ◌∷◌, ◌++◌, map, length, drop, Option, Some, None, arith, refl, ap, sym, ◌∙◌, bytes_eq}
use Rattle.std.specs.List.{list_any}
use Rattle.std.proofs.lemmas.List.{map-append}
use Rattle.hipe_terms.specs.declared.place.Place.{Place}
use Rattle.core_ast.specs.declared.pattern.Var.{Var}
use Rattle.core_ast.specs.declared.tree.FunName.{FunName}
use Rattle.core_ast.specs.declared.rule.Rule.{Rule}
use Rattle.core_ast.specs.declared.rule.Broken.{Broken}
use Rattle.core_ast.specs.declared.rule.Rule.TheVariants.{DuplicateFunction, ExportUndefined, UnboundFunction, UnboundVariable, DuplicateVariable}
use Rattle.core_ast.specs.Trees.{Expression, Expressions, no_expression, and_expression, Clauses, no_clause, and_clause, Definitions, no_definition, and_definition, Module}
use Rattle.core_ast.specs.Names.{Names, is_named, has_variable, has_function, with_variables, with_functions, defined, variables_of_all}
use Rattle.core_ast.specs.Part.{Part}
use Rattle.core_ast.specs.Parts.{parts, parts_of_all, parts_of_clauses, parts_of_definitions, parts_of_module, names_of}
use Rattle.core_ast.specs.Rules.{unless, repeated, repeated_variables, repeated_functions}
use Rattle.core_ast.specs.First.{broken_at, noted_all}
use Rattle.core_ast.proofs.Firsts.{occurs, occurs-append, noted_all-append}
use Rattle.core_ast.proofs.Spots.{hits, hits-append}
use Rattle.hipe_terms.proofs.AtomTexts.{bytes_eq-encode}
use Rattle.core_lint.specs.declared.walk.Walk.{Walk}
use Rattle.core_lint.specs.Keys.{same_key}
use Rattle.core_lint.specs.Noted.{noted_unless}
use Rattle.core_lint.specs.Entries.{Entry, variable_key, function_key, variable_entries, function_entries, entered, repeats}
use Rattle.core_lint.specs.Walks.{used_variable, used_function, bound, within, within_functions, visited, visited_all, visited_clauses, visited_definitions, visited_exports, visited_module}
use Rattle.core_lint.proofs.Totals.{total, total-append, name_hits}

-- the state of the walk where these names are in scope
abbrev pub state : Names → Option Broken → Walk
state s first = record { variables = map variable_key s.variables; functions = map function_key s.functions; first = first }

-- a step of the walk keeps the names in scope, and finds as much as `count` says
pub record Finds (step : Walk → Walk) (s : Names) (found : Broken → ℕ) : Type 0 where
  pub spots : List Broken
  pub is : (first : Option Broken) → step (state s first) ≡ state s (noted_all spots first)
  pub counted : (b : Broken) → occurs b spots ≡ found b

finds_nothing : (s : Names) → Finds (λ w. w) s (λ b. 0)
finds_nothing s = record { spots = []; is = λ first. refl; counted = λ b. refl }

finds_then : {g h : Walk → Walk} (s : Names) {k l : Broken → ℕ} → Finds g s k → Finds h s l → Finds (λ w. h (g w)) s (λ b. k b + l b)
finds_then {g} {h} s {k} {l} x y = record {
  spots = x.spots ++ y.spots;
  is = λ first. ap h (x.is first) ∙ y.is (noted_all x.spots first) ∙ ap (state s) (sym (noted_all-append x.spots y.spots first));
  counted = λ b. omega (arith, occurs-append b x.spots y.spots, x.counted b, y.counted b);
}

finds_same : {g : Walk → Walk} (s : Names) {k l : Broken → ℕ} → Finds g s k → ((b : Broken) → k b ≡ l b) → Finds g s l
finds_same s x e = record { spots = x.spots; is = x.is; counted = λ b. x.counted b ∙ e b }

-- one place
pub noted_unless_is : (holds : Bool) (r : Rule) (p : Place) (first : Option Broken) → noted_unless holds r p first ≡ noted_all (map (λ q. broken_at r q) (unless holds p)) first
noted_unless_is true r p first = refl
noted_unless_is false r p None = refl
noted_unless_is false r p (Some a) = refl

-- names are the same as keys and as names
and_true : (b : Bool) → (b && true) ≡ b
and_true true = refl
and_true false = refl

any_variable : (x : List ℕ) (ys : List (List ℕ)) → list_any (λ k. same_key (variable_key x) k) (map variable_key ys) ≡ list_any (λ y. bytes_eq x y) ys
any_variable x [] = refl
any_variable x (y ∷ ys) = rw (and_true (bytes_eq x y), any_variable x ys) refl

any_function : (f : FunName) (gs : List FunName) → list_any (λ k. same_key (function_key f) k) (map function_key gs) ≡ list_any (λ g. is_named f g) gs
any_function f [] = refl
any_function f (g ∷ gs) = rw (bytes_eq-encode f.name g.name, any_function f gs) refl

noted_places : (r : Rule) (ps qs : List Place) (first : Option Broken) → noted_all (map (λ q. broken_at r q) qs) (noted_all (map (λ q. broken_at r q) ps) first) ≡ noted_all (map (λ q. broken_at r q) (ps ++ qs)) first
noted_places r ps qs first =
    sym (ap (λ l. noted_all l first) (map-append (λ q. broken_at r q) ps qs) ∙ noted_all-append (map (λ q. broken_at r q) ps) (map (λ q. broken_at r q) qs) first)

repeats_variables : (r : Rule) (seen : List (List ℕ)) (xs : List Var) (first : Option Broken) → repeats r (map variable_key seen) (variable_entries xs) first ≡ noted_all (map (λ q. broken_at r q) (repeated bytes_eq seen (map (λ x. (x.name, x.at)) xs))) first
repeats_variables r seen [] first = refl
repeats_variables r seen (x ∷ xs) first =
    let again = not (list_any (bytes_eq x.name) seen) in
    ap (λ h. repeats r (map variable_key (x.name ∷ seen)) (variable_entries xs) (noted_unless (not h) r x.at first)) (any_variable x.name seen)
    ∙ ap (λ f. repeats r (map variable_key (x.name ∷ seen)) (variable_entries xs) f) (noted_unless_is again r x.at first)
    ∙ repeats_variables r (x.name ∷ seen) xs (noted_all (map (λ q. broken_at r q) (unless again x.at)) first)
    ∙ noted_places r (unless again x.at) (repeated bytes_eq (x.name ∷ seen) (map (λ y. (y.name, y.at)) xs)) first

repeats_functions : (r : Rule) (seen : List FunName) (ds : List (FunName × Place)) (first : Option Broken) → repeats r (map function_key seen) (map (λ d. (function_key d.0, d.1)) ds) first ≡ noted_all (map (λ q. broken_at r q) (repeated is_named seen ds)) first
repeats_functions r seen [] first = refl
repeats_functions r seen (d ∷ ds) first =
    let again = not (list_any (is_named d.0) seen) in
    ap (λ h. repeats r (map function_key (d.0 ∷ seen)) (map (λ e. (function_key e.0, e.1)) ds) (noted_unless (not h) r d.1 first)) (any_function d.0 seen)
    ∙ ap (λ f. repeats r (map function_key (d.0 ∷ seen)) (map (λ e. (function_key e.0, e.1)) ds) f) (noted_unless_is again r d.1 first)
    ∙ repeats_functions r (d.0 ∷ seen) ds (noted_all (map (λ q. broken_at r q) (unless again d.1)) first)
    ∙ noted_places r (unless again d.1) (repeated is_named (d.0 ∷ seen) ds) first

finds_variable : (s : Names) (x : List ℕ) (p : Place) → Finds (used_variable x p) s (λ b. hits b UnboundVariable (unless (has_variable x s) p))
finds_variable s x p = record {
  spots = map (λ q. broken_at UnboundVariable q) (unless (has_variable x s) p);
  is = λ first. ap (state s) (ap (λ h. noted_unless h UnboundVariable p first) (any_variable x s.variables) ∙ noted_unless_is (has_variable x s) UnboundVariable p first);
  counted = λ b. refl;
}

finds_function : (s : Names) (r : Rule) (f : FunName) (p : Place) → Finds (used_function r f p) s (λ b. hits b r (unless (has_function f s) p))
finds_function s r f p = record {
  spots = map (λ q. broken_at r q) (unless (has_function f s) p);
  is = λ first. ap (state s) (ap (λ h. noted_unless h r p first) (any_function f s.functions) ∙ noted_unless_is (has_function f s) r p first);
  counted = λ b. refl;
}

finds_bound : (s : Names) (xs : List Var) → Finds (bound DuplicateVariable (variable_entries xs)) s (λ b. hits b DuplicateVariable (repeated_variables xs))
finds_bound s xs = record {
  spots = map (λ q. broken_at DuplicateVariable q) (repeated_variables xs);
  is = λ first. ap (state s) (repeats_variables DuplicateVariable [] xs first);
  counted = λ b. refl;
}

finds_group : (s : Names) (ds : Definitions) → Finds (bound DuplicateFunction (function_entries ds)) s (λ b. hits b DuplicateFunction (repeated_functions ds))
finds_group s ds = record {
  spots = map (λ q. broken_at DuplicateFunction q) (repeated_functions ds);
  is = λ first. ap (state s) (repeats_functions DuplicateFunction [] (defined ds) first);
  counted = λ b. refl;
}

-- names that are taken into scope, and left
entered_variables_are : (xs : List Var) (vs : List (List ℕ)) → entered (variable_entries xs) (map variable_key vs) ≡ map variable_key (map (λ x. x.name) xs ++ vs)
entered_variables_are [] vs = refl
entered_variables_are (x ∷ xs) vs = ap (λ ks. variable_key x.name ∷ ks) (entered_variables_are xs vs)

left_variables_are : (xs : List Var) (vs : List (List ℕ)) → drop (length (variable_entries xs)) (map variable_key (map (λ x. x.name) xs ++ vs)) ≡ map variable_key vs
left_variables_are [] vs = refl
left_variables_are (x ∷ xs) vs = left_variables_are xs vs

entered_functions_are : (ds : List (FunName × Place)) (fs : List FunName) → entered (map (λ d. (function_key d.0, d.1)) ds) (map function_key fs) ≡ map function_key (map (λ d. d.0) ds ++ fs)
entered_functions_are [] fs = refl
entered_functions_are (d ∷ ds) fs = ap (λ ks. function_key d.0 ∷ ks) (entered_functions_are ds fs)

left_functions_are : (ds : List (FunName × Place)) (fs : List FunName) → drop (length (map {B = Entry} (λ d. (function_key d.0, d.1)) ds)) (map function_key (map (λ d. d.0) ds ++ fs)) ≡ map function_key fs
left_functions_are [] fs = refl
left_functions_are (d ∷ ds) fs = left_functions_are ds fs

finds_within : {g : Walk → Walk} (s : Names) (xs : List Var) {k : Broken → ℕ} → Finds g (with_variables xs s) k → Finds (within (variable_entries xs) g) s k
finds_within {g} s xs x = record {
  spots = x.spots;
  is = λ first.
      ap (λ vs. left (g (record { variables = vs; functions = map function_key s.functions; first = first }))) (entered_variables_are xs s.variables)
      ∙ ap left (x.is first)
      ∙ ap (λ vs. record { variables = vs; functions = map function_key s.functions; first = noted_all x.spots first }) (left_variables_are xs s.variables);
  counted = x.counted;
} where
  left : Walk → Walk
  left w = record w { variables = drop (length (variable_entries xs)) w.variables }

finds_within_functions : {g : Walk → Walk} (s : Names) (ds : Definitions) {k : Broken → ℕ} → Finds g (with_functions ds s) k → Finds (within_functions (function_entries ds) g) s k
finds_within_functions {g} s ds x = record {
  spots = x.spots;
  is = λ first.
      ap (λ fs. left (g (record { variables = map variable_key s.variables; functions = fs; first = first }))) (entered_functions_are (defined ds) s.functions)
      ∙ ap left (x.is first)
      ∙ ap (λ fs. record { variables = map variable_key s.variables; functions = fs; first = noted_all x.spots first }) (left_functions_are (defined ds) s.functions);
  counted = x.counted;
} where
  left : Walk → Walk
  left w = record w { functions = drop (length (function_entries ds)) w.functions }

mutual
  finds : (s : Names) (e : Expression) → Finds (visited e) s (λ b. total (name_hits b) (parts s e))
  finds s (Expression.Int p n) = finds_same s (finds_nothing s) (λ b. omega arith)
  finds s (Expression.Atom p a) = finds_same s (finds_nothing s) (λ b. omega arith)
  finds s (Expression.Nil p) = finds_same s (finds_nothing s) (λ b. omega arith)
  finds s (Expression.Variable p x) = finds_same s (finds_variable s x p) (λ b. omega arith)
  finds s (Expression.Name p f) = finds_same s (finds_function s UnboundFunction f p) (λ b. omega arith)
  finds s (Expression.Tuple p es) = finds_same s (finds_all s es) (λ b. omega arith)
  finds s (Expression.Cons p es tail) = finds_same s (finds_then s (finds_all s es) (finds s tail)) (λ b. simp total-append (omega arith))
  finds s (Expression.Values p es) = finds_same s (finds_all s es) (λ b. omega arith)
  finds s (Expression.Let p xs values body) =
      finds_same s (finds_then s (finds_bound s xs) (finds_then s (finds s values) (finds_within s xs (finds (with_variables xs s) body)))) (λ b. simp total-append (omega arith))
  finds s (Expression.Case p values cs) = finds_same s (finds_then s (finds s values) (finds_clauses s cs)) (λ b. simp total-append (omega arith))
  finds s (Expression.Lambda p q xs body) = finds_same s (finds_then s (finds_bound s xs) (finds_within s xs (finds (with_variables xs s) body))) (λ b. simp total-append (omega arith))
  finds s (Expression.Letrec p ds body) =
      finds_same s (finds_then s (finds_group s ds) (finds_within_functions s ds (finds_then (with_functions ds s) (finds_definitions (with_functions ds s) ds) (finds (with_functions ds s) body)))) (λ b. simp total-append (omega arith))
  finds s (Expression.Apply p f args) = finds_same s (finds_then s (finds s f) (finds_all s args)) (λ b. simp total-append (omega arith))
  finds s (Expression.Call p m f args) = finds_same s (finds_all s args) (λ b. omega arith)
  finds s (Expression.Primop p f args) = finds_same s (finds_all s args) (λ b. omega arith)
  finds s (Expression.Try p part xs body ys handler) =
      finds_same s
      (finds_then s (finds_then s (finds_bound s xs) (finds_bound s ys))
      (finds_then s (finds s part) (finds_then s (finds_within s xs (finds (with_variables xs s) body)) (finds_within s ys (finds (with_variables ys s) handler)))))
      (λ b. let both = hits-append b DuplicateVariable (repeated_variables xs) (repeated_variables ys) in simp total-append (omega (arith, both)))
  finds s (Expression.Do p first second) = finds_same s (finds_then s (finds s first) (finds s second)) (λ b. simp total-append (omega arith))
  finds s (Expression.Catch p part) = finds_same s (finds s part) (λ b. omega arith)

  finds_all : (s : Names) (es : Expressions) → Finds (visited_all es) s (λ b. total (name_hits b) (parts_of_all s es))
  finds_all s no_expression = finds_nothing s
  finds_all s (and_expression e es) = finds_same s (finds_then s (finds s e) (finds_all s es)) (λ b. simp total-append (omega arith))

  finds_clauses : (s : Names) (cs : Clauses) → Finds (visited_clauses cs) s (λ b. total (name_hits b) (parts_of_clauses s cs))
  finds_clauses s no_clause = finds_nothing s
  finds_clauses s (and_clause p ps guard body cs) =
      finds_same s
      (finds_then s (finds_bound s (variables_of_all ps))
      (finds_then s
      (finds_within s (variables_of_all ps) (finds_then (with_variables (variables_of_all ps) s) (finds (with_variables (variables_of_all ps) s) guard) (finds (with_variables (variables_of_all ps) s) body)))
      (finds_clauses s cs)))
      (λ b. simp total-append (omega arith))

  finds_definitions : (s : Names) (ds : Definitions) → Finds (visited_definitions ds) s (λ b. total (name_hits b) (parts_of_definitions s ds))
  finds_definitions s no_definition = finds_nothing s
  finds_definitions s (and_definition p f q xs body ds) =
      finds_same s (finds_then s (finds_then s (finds_bound s xs) (finds_within s xs (finds (with_variables xs s) body))) (finds_definitions s ds)) (λ b. simp total-append (omega arith))

finds_exports : (s : Names) (es : List (FunName × Place)) → Finds (visited_exports es) s (λ b. total (name_hits b) (map (λ e. (Part.Export e.0 e.1, s)) es))
finds_exports s [] = finds_nothing s
finds_exports s (e ∷ es) = finds_same s (finds_then s (finds_function s ExportUndefined e.0 e.1) (finds_exports s es)) (λ b. omega arith)

abbrev nothing : Names
nothing = record { variables = []; functions = [] }

-- the whole walk
pub finds_module : (m : Module) → Finds (visited_module m) nothing (λ b. total (name_hits b) (parts_of_module m))
finds_module m =
    finds_same nothing
    (finds_within_functions nothing m.definitions
    (finds_then (names_of m) (finds_then (names_of m) (finds_exports (names_of m) m.exports) (finds_group (names_of m) m.definitions)) (finds_definitions (names_of m) m.definitions)))
    (λ b. simp total-append (omega arith))
