-- What the rules of good modules say of an expression and the names in scope there, in one statement by its structure.
use Rattle.std.proofs.Common.{◌≡◌, ℕ, suc, List, [], ◌∷◌, ◌++◌, Option, Some, None, refl, sym, ap, ◌∙◌, subst, inl, inr}
use Rattle.std.specs.Prelude.{Bool, true, false, if◌then◌else◌, ◌||◌, ◌⊎◌, ◌==◌, length, map}
use Rattle.std.specs.List.{flat_map}
use Rattle.hipe_terms.specs.declared.place.Place.{Place}
use Rattle.core_ast.specs.declared.pattern.Var.{Var}
use Rattle.core_ast.specs.declared.rule.Rule.{Rule}
use Rattle.core_ast.specs.declared.rule.Rule.TheVariants as Rules
use Rattle.core_ast.specs.Trees.{Expression, Expressions, no_expression, and_expression, Clauses, no_clause, and_clause, Definitions, no_definition, and_definition, Module}
use Rattle.core_ast.specs.Names.{Names, has_variable, has_function, with_variables, with_functions, variables_of_all}
use Rattle.core_ast.specs.Degrees.{count, count_patterns, first_degree, degree_of, degree_of_bodies, Need, one_each, needs_of_clauses, agreeing, agreeing_bodies, fits, misfit, misfits}
use Rattle.core_ast.specs.Places.{place_of}
use Rattle.core_ast.specs.Part.{Part}
use Rattle.core_ast.specs.Parts.{Scoped, parts, parts_of_all, parts_of_clauses, parts_of_definitions, names_of, parts_of_module}
use Rattle.core_ast.specs.Rules.{unless, miscounted_causes, is_primop, broken_by}
use Rattle.core_ast.specs.Good.{IsGood}
use Rattle.core_soundness.proofs.Basics.{some_same, not_some, not_empty, empty_left, empty_right, flat_left, flat_right, same_numbers}

-- ---- degrees

-- so many values of the first degree are as many of the second
pub record Within (a b : Option ℕ) : Type 0 where
  pub is : (n : ℕ) → a ≡ Some n → b ≡ Some n

-- an expression of this degree fits a place that needs so many values
abbrev pub Suits : Option ℕ → ℕ → Type 0
Suits d n = Within d (Some n)

pub none_within : (d : Option ℕ) → Within None d
none_within d = record { is = λ n p. absurd (not_some p) }

abbrev pub SuitCauses : ℕ → Type 0
SuitCauses n = (n ≡ 2) ⊎ (n ≡ 3)

-- ---- the statement

abbrev mutual
  -- names are in scope, parts suit their places, and primitive operations are known
  pub Fine : Names → Expression → Type 0
  Fine s (Expression.Int p n) = Unit {0}
  Fine s (Expression.Atom p a) = Unit {0}
  Fine s (Expression.Nil p) = Unit {0}
  Fine s (Expression.Variable p x) = has_variable x s ≡ true
  Fine s (Expression.Name p f) = has_function f s ≡ true
  Fine s (Expression.Tuple p es) = FineAll s es
  Fine s (Expression.Cons p es e) = FineAll s es × Suits (degree_of e) 1 × Fine s e
  Fine s (Expression.Values p es) = FineAll s es
  Fine s (Expression.Let p xs a b) = Suits (degree_of a) (length xs) × Fine s a × Fine (with_variables xs s) b
  Fine s (Expression.Case p a cs) = Fine s a × FineClauses s (degree_of a) (degree_of_bodies cs) cs
  Fine s (Expression.Lambda p q xs b) = Suits (degree_of b) 1 × Fine (with_variables xs s) b
  Fine s (Expression.Letrec p ds b) = FineDefinitions (with_functions ds s) ds × Fine (with_functions ds s) b
  Fine s (Expression.Apply p f es) = Suits (degree_of f) 1 × Fine s f × FineAll s es
  Fine s (Expression.Call p m f es) = FineAll s es
  Fine s (Expression.Primop p f es) = (is_primop f (count es) ≡ true) × FineAll s es
  Fine s (Expression.Try p a xs b ys h) =
      Suits (degree_of a) (length xs) × SuitCauses (length ys) × Within (degree_of b) (first_degree (degree_of b) (degree_of h)) × Within (degree_of h) (first_degree (degree_of b) (degree_of h))
      × Fine s a × Fine (with_variables xs s) b × Fine (with_variables ys s) h
  Fine s (Expression.Do p a b) = Fine s a × Fine s b
  Fine s (Expression.Catch p a) = Suits (degree_of a) 1 × Fine s a

  pub FineAll : Names → Expressions → Type 0
  FineAll s no_expression = Unit {0}
  FineAll s (and_expression e es) = Suits (degree_of e) 1 × Fine s e × FineAll s es

  -- where the argument has degree a, and the `case` degree d
  pub FineClauses : Names → (a d : Option ℕ) → Clauses → Type 0
  FineClauses s a d no_clause = Unit {0}
  FineClauses s a d (and_clause p ps g b cs) =
      Suits a (count_patterns ps) × Suits (degree_of g) 1 × Within (degree_of b) d × Fine (with_variables (variables_of_all ps) s) g × Fine (with_variables (variables_of_all ps) s) b × FineClauses s a d cs

  pub FineDefinitions : Names → Definitions → Type 0
  FineDefinitions s no_definition = Unit {0}
  FineDefinitions s (and_definition p f q xs b ds) = (length xs ≡ f.arity) × Suits (degree_of b) 1 × Fine (with_variables xs s) b × FineDefinitions s ds

-- ---- it follows from the rules

-- no rule is broken at these parts
pub record Clean (ps : List Scoped) : Type 0 where
  pub is : (r : Rule) → flat_map (broken_by r) ps ≡ []

clean_left : (xs ys : List Scoped) → Clean (xs ++ ys) → Clean xs
clean_left xs ys c = record { is = λ r. flat_left (broken_by r) xs ys (c.is r) }

clean_right : (xs ys : List Scoped) → Clean (xs ++ ys) → Clean ys
clean_right xs ys c = record { is = λ r. flat_right (broken_by r) xs ys (c.is r) }

here : {x : Scoped} {xs : List Scoped} → Clean (x ∷ xs) → (r : Rule) → broken_by r x ≡ []
here {x = x} {xs = xs} c r = empty_left (broken_by r x) (flat_map (broken_by r) xs) (c.is r)

rest : {x : Scoped} {xs : List Scoped} → Clean (x ∷ xs) → Clean xs
rest {x = x} {xs = xs} c = record { is = λ r. empty_right (broken_by r x) (flat_map (broken_by r) xs) (c.is r) }

unless_holds : (b : Bool) (p : Place) → unless b p ≡ [] → b ≡ true
unless_holds true p is = refl
unless_holds false p is = absurd (not_empty p [] is)

number_suits : (b : Bool) (m n : ℕ) (p : Place) → (m == n) ≡ b → (if b then [] else p ∷ []) ≡ [] → Suits (Some m) n
number_suits true m n p is found = record { is = λ k q. ap Some (sym (same_numbers m n is) ∙ some_same m k q) }
number_suits false m n p is found = absurd (not_empty p [] found)

suits : (d : Option ℕ) (n : ℕ) (p : Place) → (if fits d n then [] else p ∷ []) ≡ [] → Suits d n
suits None n p is = none_within (Some n)
suits (Some m) n p is = number_suits (m == n) m n p refl is

first_suits : (e : Expression) (n : ℕ) (needs : List Need) → misfits ((e, n) ∷ needs) ≡ [] → Suits (degree_of e) n
first_suits e n needs is = suits (degree_of e) n (place_of e) (empty_left (misfit (e, n)) (misfits needs) is)

others_fit : (e : Expression) (n : ℕ) (needs : List Need) → misfits ((e, n) ∷ needs) ≡ [] → misfits needs ≡ []
others_fit e n needs is = empty_right (misfit (e, n)) (misfits needs) is

fit_left : (xs ys : List Need) → misfits (xs ++ ys) ≡ [] → misfits xs ≡ []
fit_left xs ys is = flat_left misfit xs ys is

fit_right : (xs ys : List Need) → misfits (xs ++ ys) ≡ [] → misfits ys ≡ []
fit_right xs ys is = flat_right misfit xs ys is

agrees : (e : Expression) (d : Option ℕ) → misfits (agreeing e d) ≡ [] → (d ≡ None → degree_of e ≡ None) → Within (degree_of e) d
agrees e None is f = subst (λ a. Within a None) (sym (f refl)) (none_within None)
agrees e (Some n) is f = first_suits e n [] is

first_none : (a b : Option ℕ) → first_degree a b ≡ None → (a ≡ None) × (b ≡ None)
first_none None b is = (refl, is)
first_none (Some n) b is = absurd (not_some (sym is))

causes_suit : (b c : Bool) (p : Place) (n : ℕ) → (n == 1) ≡ b → (n == 2) ≡ c → unless (b || c) p ≡ [] → SuitCauses (suc n)
causes_suit true c p n i j is = inl (ap suc (same_numbers n 1 i))
causes_suit false true p n i j is = inr (ap suc (same_numbers n 2 j))
causes_suit false false p n i j is = absurd (not_empty p [] is)

counted_causes : (p : Place) (ys : List Var) → miscounted_causes p ys ≡ [] → SuitCauses (length ys)
counted_causes p [] is = absurd (not_empty p [] is)
counted_causes p (y ∷ ys) is = causes_suit (length ys == 1) (length ys == 2) y.at (length ys) refl refl is

mutual
  pub fine : (s : Names) (e : Expression) → Clean (parts s e) → Fine s e
  fine s (Expression.Int p n) c = tt
  fine s (Expression.Atom p a) c = tt
  fine s (Expression.Nil p) c = tt
  fine s (Expression.Variable p x) c = unless_holds (has_variable x s) p (here c Rules.UnboundVariable)
  fine s (Expression.Name p f) c = unless_holds (has_function f s) p (here c Rules.UnboundFunction)
  fine s (Expression.Tuple p es) c = all_fine s es (here c Rules.Degree) (rest c)
  fine s (Expression.Cons p es e) c = (
    all_fine s es (fit_left (one_each es) ((e, 1) ∷ []) (here c Rules.Degree)) (clean_left (parts_of_all s es) (parts s e) (rest c)),
    first_suits e 1 [] (fit_right (one_each es) ((e, 1) ∷ []) (here c Rules.Degree)),
    fine s e (clean_right (parts_of_all s es) (parts s e) (rest c)),
  )
  fine s (Expression.Values p es) c = all_fine s es (here c Rules.Degree) (rest c)
  fine s (Expression.Let p xs a b) c = (
    first_suits a (length xs) [] (here c Rules.Degree),
    fine s a (clean_left (parts s a) (parts (with_variables xs s) b) (rest c)),
    fine (with_variables xs s) b (clean_right (parts s a) (parts (with_variables xs s) b) (rest c)),
  )
  fine s (Expression.Case p a cs) c = (
    fine s a (clean_left (parts s a) (parts_of_clauses s cs) (rest c)),
    clauses_fine s a (degree_of_bodies cs) cs (fit_left (needs_of_clauses a cs) (agreeing_bodies cs (degree_of_bodies cs)) (here c Rules.Degree))
        (fit_right (needs_of_clauses a cs) (agreeing_bodies cs (degree_of_bodies cs)) (here c Rules.Degree)) (λ is. is) (clean_right (parts s a) (parts_of_clauses s cs) (rest c)),
  )
  fine s (Expression.Lambda p q xs b) c = (first_suits b 1 [] (here c Rules.Degree), fine (with_variables xs s) b (rest c))
  fine s (Expression.Letrec p ds b) c = (
    definitions_fine (with_functions ds s) ds (clean_left (parts_of_definitions (with_functions ds s) ds) (parts (with_functions ds s) b) (rest (rest c))),
    fine (with_functions ds s) b (clean_right (parts_of_definitions (with_functions ds s) ds) (parts (with_functions ds s) b) (rest (rest c))),
  )
  fine s (Expression.Apply p f es) c = (
    first_suits f 1 (one_each es) (here c Rules.Degree),
    fine s f (clean_left (parts s f) (parts_of_all s es) (rest c)),
    all_fine s es (others_fit f 1 (one_each es) (here c Rules.Degree)) (clean_right (parts s f) (parts_of_all s es) (rest c)),
  )
  fine s (Expression.Call p m f es) c = all_fine s es (here c Rules.Degree) (rest c)
  fine s (Expression.Primop p f es) c = (unless_holds (is_primop f (count es)) p (here c Rules.UnknownPrimop), all_fine s es (here c Rules.Degree) (rest c))
  fine s (Expression.Try p a xs b ys h) c =
      let d = first_degree (degree_of b) (degree_of h) in
      let needs : misfits ((a, length xs) ∷ (agreeing b d ++ agreeing h d)) ≡ [] = empty_left (misfits ((a, length xs) ∷ (agreeing b d ++ agreeing h d))) (miscounted_causes p ys) (here c Rules.Degree) in
      let causes = empty_right (misfits ((a, length xs) ∷ (agreeing b d ++ agreeing h d))) (miscounted_causes p ys) (here c Rules.Degree) in
      let bodies = others_fit a (length xs) (agreeing b d ++ agreeing h d) needs in
      let front = clean_left (parts s a ++ parts (with_variables xs s) b) (parts (with_variables ys s) h) (rest c) in (
        first_suits a (length xs) (agreeing b d ++ agreeing h d) needs,
        counted_causes p ys causes,
        agrees b d (fit_left (agreeing b d) (agreeing h d) bodies) (λ is. (first_none (degree_of b) (degree_of h) is).0),
        agrees h d (fit_right (agreeing b d) (agreeing h d) bodies) (λ is. (first_none (degree_of b) (degree_of h) is).1),
        fine s a (clean_left (parts s a) (parts (with_variables xs s) b) front),
        fine (with_variables xs s) b (clean_right (parts s a) (parts (with_variables xs s) b) front),
        fine (with_variables ys s) h (clean_right (parts s a ++ parts (with_variables xs s) b) (parts (with_variables ys s) h) (rest c)),
      )
  fine s (Expression.Do p a b) c = (fine s a (clean_left (parts s a) (parts s b) (rest c)), fine s b (clean_right (parts s a) (parts s b) (rest c)))
  fine s (Expression.Catch p a) c = (first_suits a 1 [] (here c Rules.Degree), fine s a (rest c))

  all_fine : (s : Names) (es : Expressions) → misfits (one_each es) ≡ [] → Clean (parts_of_all s es) → FineAll s es
  all_fine s no_expression is c = tt
  all_fine s (and_expression e es) is c =
      (first_suits e 1 (one_each es) is, fine s e (clean_left (parts s e) (parts_of_all s es) c), all_fine s es (others_fit e 1 (one_each es) is) (clean_right (parts s e) (parts_of_all s es) c))

  clauses_fine : (s : Names) (a : Expression) (d : Option ℕ) (cs : Clauses) → misfits (needs_of_clauses a cs) ≡ [] → misfits (agreeing_bodies cs d) ≡ [] → (d ≡ None → degree_of_bodies cs ≡ None) → Clean (parts_of_clauses s cs)
      → FineClauses s (degree_of a) d cs
  clauses_fine s a d no_clause needs bodies f c = tt
  clauses_fine s a d (and_clause p ps g b cs) needs bodies f c =
      let t = with_variables (variables_of_all ps) s in
      let front = clean_left (parts t g ++ parts t b) (parts_of_clauses s cs) (rest c) in
      let others = others_fit a (count_patterns ps) ((g, 1) ∷ needs_of_clauses a cs) needs in (
        first_suits a (count_patterns ps) ((g, 1) ∷ needs_of_clauses a cs) needs,
        first_suits g 1 (needs_of_clauses a cs) others,
        agrees b d (fit_left (agreeing b d) (agreeing_bodies cs d) bodies) (λ is. (first_none (degree_of b) (degree_of_bodies cs) (f is)).0),
        fine t g (clean_left (parts t g) (parts t b) front),
        fine t b (clean_right (parts t g) (parts t b) front),
        clauses_fine s a d cs (others_fit g 1 (needs_of_clauses a cs) others) (fit_right (agreeing b d) (agreeing_bodies cs d) bodies) (λ is. (first_none (degree_of b) (degree_of_bodies cs) (f is)).1)
            (clean_right (parts t g ++ parts t b) (parts_of_clauses s cs) (rest c)),
      )

  pub definitions_fine : (s : Names) (ds : Definitions) → Clean (parts_of_definitions s ds) → FineDefinitions s ds
  definitions_fine s no_definition c = tt
  definitions_fine s (and_definition p f q xs b ds) c =
      let arity = empty_right (misfits ((b, 1) ∷ [])) (unless (length xs == f.arity) q) (here c Rules.Degree) in (
        same_numbers (length xs) f.arity (unless_holds (length xs == f.arity) q arity),
        first_suits b 1 [] (empty_left (misfits ((b, 1) ∷ [])) (unless (length xs == f.arity) q) (here c Rules.Degree)),
        fine (with_variables xs s) b (clean_left (parts (with_variables xs s) b) (parts_of_definitions s ds) (rest c)),
        definitions_fine s ds (clean_right (parts (with_variables xs s) b) (parts_of_definitions s ds) (rest c)),
      )

-- the functions of a good module
pub module_fine : (m : Module) → IsGood m → FineDefinitions (names_of m) m.definitions
module_fine m good =
    let all : Clean (parts_of_module m) = record { is = good } in
    definitions_fine (names_of m) m.definitions (rest (clean_right (map (λ e. (Part.Export e.0 e.1, names_of m)) m.exports) ((Part.Group m.definitions, names_of m) ∷ parts_of_definitions (names_of m) m.definitions) (rest all)))
