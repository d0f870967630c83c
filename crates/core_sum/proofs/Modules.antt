-- The sum of a good module, or the first part that isn't of the form.
use Rattle.std.proofs.Common.{◌≡◌, ◌≢◌, ℕ, zero, suc, ◌+◌, ◌*◌, ◌<◌, ◌≤◌, Bool, true, false, not, ◌&&◌, ◌||◌, ◌==◌, nat_lt, List, [], ◌∷◌, ◌++◌, map, length, Option, Some, None, Result, Ok, Err, IfOk, IfErr, Contains, bytes_eq, arith, refl, sym, ap, ◌∙◌, subst, append_assoc}
use Rattle.std.specs.Prelude.{codes, if◌then◌else◌}
use Rattle.std.specs.List.{flat_map, list_any}
use Rattle.std.proofs.lemmas.Bool.Decides.{nat_tests}
use Rattle.std.proofs.lemmas.Slice.Eq.{bytes_eq-Decides}
use Rattle.std.proofs.lemmas.Grind.{flat_map-append}
use Rattle.hipe_terms.specs.declared.place.Place.{Place}
use Rattle.hipe_base.specs.declared.limits.TheConstants.{NODE_LIMIT}
use Rattle.core_ast.specs.declared.pattern.Var.{Var}
use Rattle.core_ast.specs.declared.tree.FunName.{FunName}
use Rattle.core_ast.specs.declared.rule.Rule.{Rule}
use Rattle.core_ast.specs.declared.rule.Rule.TheVariants as Rules
use Rattle.core_ast.specs.declared.tree.FunDef.{FunDef}
use Rattle.core_ast.specs.Trees.{definition_of, definitions, Expression, Definitions, no_definition, and_definition, Module}
use Rattle.core_ast.specs.Nodes.{expression_nodes}
use Rattle.core_ast.specs.Names.{Names, is_named, with_variables}
use Rattle.core_ast.specs.Places.{place_of}
use Rattle.core_ast.specs.Part.{Part}
use Rattle.core_ast.specs.Parts.{Scoped, parts, parts_of_definitions, names_of}
use Rattle.core_ast.specs.Degrees.{misfits}
use Rattle.core_ast.specs.Rules.{unless, broken_by, beyond_nodes}
use Rattle.core_ast.specs.Good.{IsGood}
use Rattle.core_sum.specs.declared.sum.Sum.{Sum}
use Rattle.core_sum.specs.declared.sum.SumRefusal.{SumRefusal}
use Rattle.core_sum.specs.Sums.{count_of, HasSmallIntegers}
use Rattle.core_sum.specs.Form.{main, IsSum, integer, addition, IsSumModule, IsUnbuilt, function, expression, IsFirst, here, behind, IsFirstUnbuilt, IsSumRefusal}
use Rattle.core_sum.specs.Made.{has_main, sum_in, alone, sum_of_definitions, Finds}
use Rattle.core_sum.proofs.Forms.{small_integers, few_integers, is_made, none_made}

-- ---- names

both : (a b : Bool) → (a && b) ≡ true → (a ≡ true) × (b ≡ true)
both true b e = (refl, e)
both false b e = absurd (cc)

same_name : (f g : FunName) → f.name ≡ g.name → f.arity ≡ g.arity → f ≡ g
same_name f g n a = ap (λ (x : List ℕ). let h : FunName = record { name = x; arity = f.arity } in h) n ∙ ap (λ (k : ℕ). let h : FunName = record { name = g.name; arity = k } in h) a

named_is : (f : FunName) → is_named f main ≡ true → f ≡ main
named_is f h =
    let two = both (bytes_eq f.name (codes "main")) (f.arity == 0) h in
    let n : f.name ≡ codes "main" = (bytes_eq-Decides f.name (codes "main")).0 two.0 in
    let a : f.arity ≡ 0 = grind (arith, nat_tests, two.1) in
    same_name f main n a

not_named : (f : FunName) → is_named f main ≡ false → f ≢ main
not_named f h e = let t : is_named f main ≡ true = ap (λ g. is_named g main) e in absurd (cc)

main_there : (es : List (FunName × Place)) → has_main es ≡ true → Contains (map (λ e. e.0) es) main
main_there [] h = absurd (cc)
main_there (e ∷ es) h = go (is_named e.0 main) refl h (λ k. main_there es k) where
  go : (b : Bool) → is_named e.0 main ≡ b → (b || has_main es) ≡ true → (has_main es ≡ true → Contains (map (λ e. e.0) es) main) → Contains (map (λ e. e.0) (e ∷ es)) main
  go true n h later = (0, omega arith, named_is e.0 n)
  go false n h later = let c = later h in (suc c.0, omega (arith, c.1), c.2)

main_absent : (es : List (FunName × Place)) → has_main es ≡ false → Contains (map (λ e. e.0) es) main → ⊥
main_absent [] h c = absurd (omega (arith, c.1))
main_absent (e ∷ es) h c = go (is_named e.0 main) refl h c (λ k. main_absent es k) where
  go : (b : Bool) → is_named e.0 main ≡ b → (b || has_main es) ≡ false → Contains (map (λ e. e.0) (e ∷ es)) main → (has_main es ≡ false → Contains (map (λ e. e.0) es) main → ⊥) → ⊥
  go true n h c later = absurd (cc)
  go false n h (zero, l, is) later = not_named e.0 n is
  go false n h (suc k, l, is) later = later h (k, omega (arith, l), is)

-- ---- what good modules hold

append_none : {A : Type 0} (xs ys : List A) → xs ++ ys ≡ [] → (xs ≡ []) × (ys ≡ [])
append_none [] ys h = (refl, h)
append_none (x ∷ xs) ys h = absurd (cc)

-- the parts of a module before its functions
abbrev heads : Module → List Scoped
heads m = (Part.Module m, names_of m) ∷ map (λ e. (Part.Export e.0 e.1, names_of m)) m.exports

-- no part of a good module breaks a rule
rule_kept : (m : Module) → IsGood m → (r : Rule) → (flat_map (broken_by r) (heads m) ≡ []) × (flat_map (broken_by r) ((Part.Group m.definitions, names_of m) ∷ parts_of_definitions (names_of m) m.definitions) ≡ [])
rule_kept m good r =
    append_none (flat_map (broken_by r) (heads m)) (flat_map (broken_by r) ((Part.Group m.definitions, names_of m) ∷ parts_of_definitions (names_of m) m.definitions))
    (sym (flat_map-append (broken_by r) (heads m) ((Part.Group m.definitions, names_of m) ∷ parts_of_definitions (names_of m) m.definitions)) ∙ good r)

-- where nothing is defined no export is good
no_export : (s : Names) (es : List (FunName × Place)) → s.functions ≡ [] → flat_map (broken_by Rules.ExportUndefined) (map (λ e. (Part.Export e.0 e.1, s)) es) ≡ [] → es ≡ []
no_export s [] none h = refl
no_export s (e ∷ es) none h =
    let broken : (unless (list_any (λ g. is_named e.0 g) []) e.1 ++ flat_map (broken_by Rules.ExportUndefined) (map (λ e. (Part.Export e.0 e.1, s)) es)) ≡ [] =
    subst (λ fs. (unless (list_any (λ g. is_named e.0 g) fs) e.1 ++ flat_map (broken_by Rules.ExportUndefined) (map (λ e. (Part.Export e.0 e.1, s)) es)) ≡ []) none h in
    absurd (cc)

pub some_function : (m : Module) → IsGood m → has_main m.exports ≡ true → m.definitions ≡ no_definition → ⊥
some_function m good exported none =
    let kept = (rule_kept m good Rules.ExportUndefined).0 in
    let functions : (names_of m).functions ≡ [] = ap (λ ds. (names_of (record { name = m.name; exports = m.exports; attributes = m.attributes; definitions = ds })).functions) none in
    let exports : m.exports ≡ [] = no_export (names_of m) m.exports functions kept in
    let h : has_main [] ≡ true = subst (λ es. has_main es ≡ true) exports exported in
    absurd (cc)

pub some_defs : (defs : List FunDef) (m : Module) → IsGood m → has_main m.exports ≡ true → m.definitions ≡ definitions (map definition_of defs) → 0 < length defs
some_defs [] m good exported is = absurd (some_function m good exported is)
some_defs (d ∷ defs) m good exported is = omega arith

module _ (m : Module) (good : IsGood m) (p q : Place) (xs : List Var) (body : Expression) (ds : Definitions) (is : m.definitions ≡ and_definition p main q xs body ds) where
  -- the second function isn't 'main'/0 too
  other_name : (r s : Place) (f : FunName) (ys : List Var) (e : Expression) (es : Definitions) → ds ≡ and_definition r f s ys e es → f ≢ main
  other_name r s f ys e es two same =
      let kept = (rule_kept m good Rules.DuplicateFunction).1 in
      let at : flat_map (broken_by Rules.DuplicateFunction) ((Part.Group (and_definition p main q xs body (and_definition r main s ys e es)), names_of m) ∷ parts_of_definitions (names_of m) m.definitions) ≡ [] =
      subst (λ g. flat_map (broken_by Rules.DuplicateFunction) ((Part.Group (and_definition p main q xs body (and_definition r g s ys e es)), names_of m) ∷ parts_of_definitions (names_of m) m.definitions) ≡ []) same
      (subst (λ d. flat_map (broken_by Rules.DuplicateFunction) ((Part.Group (and_definition p main q xs body d), names_of m) ∷ parts_of_definitions (names_of m) m.definitions) ≡ []) two
      (subst (λ d. flat_map (broken_by Rules.DuplicateFunction) ((Part.Group d, names_of m) ∷ parts_of_definitions (names_of m) m.definitions) ≡ []) is kept)) in
      absurd (cc)

  -- 'main'/0 has no parameters
  no_parameters : xs ≡ []
  no_parameters =
      let kept = (rule_kept m good Rules.Degree).1 in
      let at : flat_map (broken_by Rules.Degree) (parts_of_definitions (names_of m) (and_definition p main q xs body ds)) ≡ [] =
      subst (λ d. flat_map (broken_by Rules.Degree) (parts_of_definitions (names_of m) d) ≡ []) is kept in
      let first = (append_none ((misfits ((body, 1) ∷ []) ++ unless (length xs == 0) q)) _ at).0 in
      let count = (append_none (misfits ((body, 1) ∷ [])) (unless (length xs == 0) q) first).1 in
      of xs count
    where
      of : (ys : List Var) → unless (length ys == 0) q ≡ [] → ys ≡ []
      of [] h = refl
      of (y ∷ ys) h = let more : (length (y ∷ ys) == 0) ≡ false = grind (arith, nat_tests) in let broken : unless false q ≡ [] = subst (λ b. unless b q ≡ []) more h in absurd (cc)

  -- its body has few nodes
  few_nodes : expression_nodes body ≤ NODE_LIMIT
  few_nodes =
      let kept = (rule_kept m good Rules.SizeLimit).0 in
      let sizes = (append_none _ _ ((append_none _ _ kept).0)).0 in
      let at : beyond_nodes (and_definition p main q xs body ds) ≡ [] = subst (λ d. beyond_nodes d ≡ []) is sizes in
      of (nat_lt NODE_LIMIT (expression_nodes body)) refl (append_none (unless (not (nat_lt NODE_LIMIT (expression_nodes body))) p) (beyond_nodes ds) at).0
    where
      of : (b : Bool) → nat_lt NODE_LIMIT (expression_nodes body) ≡ b → unless (not b) p ≡ [] → expression_nodes body ≤ NODE_LIMIT
      of true e h = absurd (cc)
      of false e h = grind (arith, nat_tests, e)

-- ---- the parts that are of the form

abbrev bare : List Scoped → List Part
bare xs = map (λ x. x.0) xs

bare-append : (xs ys : List Scoped) → bare (xs ++ ys) ≡ bare xs ++ bare ys
bare-append [] ys = refl
bare-append (x ∷ xs) ys = ap (λ zs. x.0 ∷ zs) (bare-append xs ys)

built : (e : Expression) (s : Sum) → IsSum e s → (q : Place) → IsUnbuilt (Part.Expression e) q → ⊥
built e s is q (expression _ none) = none s is

-- the first behind the parts of a sum
behind_sum : (n : Names) (e : Expression) (s : Sum) → IsSum e s → (xs : List Part) (p : Place) → IsFirst xs p → IsFirst (bare (parts n e) ++ xs) p
behind_sum n _ _ (integer p k h) xs q f = behind (built (Expression.Int p k) _ (integer p k h)) f
behind_sum n _ _ (addition p a b d e x y) xs q f =
    behind (built _ _ (addition p a b d e x y))
    (subst (λ zs. IsFirst zs q) (sym parts_are) (behind_sum n a d x (bare (parts n b) ++ xs) q (behind_sum n b e y xs q f)))
  where
    parts_are : bare (parts n a ++ (parts n b ++ [])) ++ xs ≡ bare (parts n a) ++ (bare (parts n b) ++ xs)
    parts_are =
        ap (λ zs. zs ++ xs) (bare-append (parts n a) (parts n b ++ []) ∙ ap (λ zs. bare (parts n a) ++ zs) (bare-append (parts n b) [])) ∙ append_assoc (bare (parts n a)) (bare (parts n b) ++ []) xs
        ∙ ap (λ zs. bare (parts n a) ++ zs) (append_assoc (bare (parts n b)) [] xs)

-- the parts of an expression begin with itself
first_part : (n : Names) (e : Expression) (xs : List Part) (p : Place) → IsUnbuilt (Part.Expression e) p → IsFirst (bare (parts n e) ++ xs) p
first_part n (Expression.Int p k) xs q u = here u
first_part n (Expression.Atom p a) xs q u = here u
first_part n (Expression.Nil p) xs q u = here u
first_part n (Expression.Variable p x) xs q u = here u
first_part n (Expression.Name p f) xs q u = here u
first_part n (Expression.Tuple p es) xs q u = here u
first_part n (Expression.Cons p es tail) xs q u = here u
first_part n (Expression.Values p es) xs q u = here u
first_part n (Expression.Let p ys values body) xs q u = here u
first_part n (Expression.Case p values cs) xs q u = here u
first_part n (Expression.Lambda p r ys body) xs q u = here u
first_part n (Expression.Letrec p ds body) xs q u = here u
first_part n (Expression.Apply p f args) xs q u = here u
first_part n (Expression.Call p m f args) xs q u = here u
first_part n (Expression.Primop p f args) xs q u = here u
first_part n (Expression.Try p part ys body zs handler) xs q u = here u
first_part n (Expression.Do p first second) xs q u = here u
first_part n (Expression.Catch p part) xs q u = here u

no_module : (m : Module) (q : Place) → IsUnbuilt (Part.Module m) q → ⊥
no_module m q x' = elim x' [ ]

no_group : (ds : Definitions) (q : Place) → IsUnbuilt (Part.Group ds) q → ⊥
no_group ds q x' = elim x' [ ]

no_export_part : (f : FunName) (p q : Place) → IsUnbuilt (Part.Export f p) q → ⊥
no_export_part f p q x' = elim x' [ ]

behind_exports : (n : Names) (es : List (FunName × Place)) (xs : List Part) (p : Place) → IsFirst xs p → IsFirst (bare (map (λ e. (Part.Export e.0 e.1, n)) es) ++ xs) p
behind_exports n [] xs p f = f
behind_exports n (e ∷ es) xs p f = behind (no_export_part e.0 e.1) (behind_exports n es xs p f)

-- the first of the functions is the first of the module
of_functions : (m : Module) (p : Place) → IsFirst (bare (parts_of_definitions (names_of m) m.definitions)) p → IsFirstUnbuilt m p
of_functions m p f =
    subst (λ xs. IsFirst xs p) (sym (bare-append (heads m) ((Part.Group m.definitions, names_of m) ∷ parts_of_definitions (names_of m) m.definitions)))
    (behind (no_module m) (behind_exports (names_of m) m.exports _ p (behind (no_group m.definitions) f)))

main_built : (p q : Place) (xs : List Var) (body : Expression) (r : Place) → IsUnbuilt (Part.Definition (record { name = main; function = record { parameters = xs; body = body; at = q }; at = p })) r → ⊥
main_built p q xs body r (function _ other) = other refl

-- ---- the answers

module _ (m : Module) (good : IsGood m) (exported : has_main m.exports ≡ true) where
  abbrev Found : Result Sum Place → Type 0
  Found (Ok e) = IsSumModule m e × (2 * count_of e ≤ NODE_LIMIT + 1) × HasSmallIntegers e
  Found (Err p) = IsFirstUnbuilt m p

  abbrev IsIt : Definitions → Type 0
  IsIt ds = m.definitions ≡ ds

  -- the body is no sum
  body_first : (p q : Place) (xs : List Var) (body : Expression) (ds : Definitions) → IsIt (and_definition p main q xs body ds) → sum_in body ≡ None → IsFirstUnbuilt m (place_of body)
  body_first p q xs body ds is none =
      of_functions m (place_of body)
      (subst (λ d. IsFirst (bare (parts_of_definitions (names_of m) d)) (place_of body)) (sym is)
      (behind (main_built p q xs body)
      (subst (λ zs. IsFirst zs (place_of body)) (sym (bare-append (parts (with_variables xs (names_of m)) body) (parts_of_definitions (names_of m) ds)))
      (first_part (with_variables xs (names_of m)) body (bare (parts_of_definitions (names_of m) ds)) (place_of body) (expression body (none_made body none))))))

  -- another function follows
  other_first : (p q : Place) (xs : List Var) (body : Expression) (s : Sum) (r t : Place) (f : FunName) (ys : List Var) (e : Expression) (es : Definitions)
      → IsIt (and_definition p main q xs body (and_definition r f t ys e es)) → IsSum body s → IsFirstUnbuilt m r
  other_first p q xs body s r t f ys e es is made =
      of_functions m r
      (subst (λ d. IsFirst (bare (parts_of_definitions (names_of m) d)) r) (sym is)
      (behind (main_built p q xs body)
      (subst (λ zs. IsFirst zs r) (sym (bare-append (parts (with_variables xs (names_of m)) body) (parts_of_definitions (names_of m) (and_definition r f t ys e es))))
      (behind_sum (with_variables xs (names_of m)) body s made (bare (parts_of_definitions (names_of m) (and_definition r f t ys e es))) r
      (here (function (record { name = f; function = record { parameters = ys; body = e; at = t }; at = r }) (other_name m good p q xs body (and_definition r f t ys e es) is r t f ys e es refl)))))))

  -- another function comes first
  first_other : (p q : Place) (f : FunName) (xs : List Var) (body : Expression) (ds : Definitions) → IsIt (and_definition p f q xs body ds) → f ≢ main → IsFirstUnbuilt m p
  first_other p q f xs body ds is other =
      of_functions m p
      (subst (λ d. IsFirst (bare (parts_of_definitions (names_of m) d)) p) (sym is)
      (here (function (record { name = f; function = record { parameters = xs; body = body; at = q }; at = p }) other)))

  only_function : (p q : Place) (xs : List Var) (body : Expression) (s : Sum) → IsIt (and_definition p main q xs body no_definition) → IsSum body s → Found (Ok s)
  only_function p q xs body s is made = (
    record {
      exported = main_there m.exports exported;
      name_at = p;
      fun_at = q;
      body = body;
      only = is ∙ ap (λ ys. and_definition p main q ys body no_definition) (no_parameters m good p q xs body no_definition is);
      made = made;
    },
    omega (arith, few_nodes m good p q xs body no_definition is, few_integers body s made),
    small_integers body s made,
  )

  found_alone : (p q : Place) (xs : List Var) (body : Expression) (ds : Definitions) → IsIt (and_definition p main q xs body ds) → (o : Option Sum) → sum_in body ≡ o → Found (alone o (place_of body) ds)
  found_alone p q xs body ds is None none = body_first p q xs body ds is none
  found_alone p q xs body no_definition is (Some s) made = only_function p q xs body s is (is_made body s made)
  found_alone p q xs body (and_definition r f t ys e es) is (Some s) made = other_first p q xs body s r t f ys e es is (is_made body s made)

  found : (ds : Definitions) → IsIt ds → Found (sum_of_definitions ds)
  found no_definition is = absurd (some_function m good exported is)
  found (and_definition p f q xs body ds) is = go (is_named f main) refl where
    go : (b : Bool) → is_named f main ≡ b → Found (if b then alone (sum_in body) (place_of body) ds else Err p)
    go true n = found_alone p q xs body ds (is ∙ ap (λ g. and_definition p g q xs body ds) (named_is f n)) (sum_in body) refl
    go false n = first_other p q f xs body ds is (not_named f n)

-- what the walk over the functions finds is the answer
pub answered : (m : Module) → IsGood m → has_main m.exports ≡ true → (r : Result Sum SumRefusal) → Finds (sum_of_definitions m.definitions) r
    → IfOk r (λ e. IsSumModule m e) × IfErr r (λ refusal. IsSumRefusal m refusal) × IfOk r (λ e. HasSmallIntegers e) × IfOk r (λ e. count_of e ≤ 32768)
answered m good exported (Ok e) h =
    let f = subst (Found m good exported) h (found m good exported m.definitions refl) in
    (f.0, tt, f.2, omega (arith, f.1))
answered m good exported (Err (SumRefusal.NotYet p)) h =
    let f = subst (Found m good exported) h (found m good exported m.definitions refl) in
    (tt, (main_there m.exports exported, f), tt, tt)
answered m good exported (Err SumRefusal.NotExported) h = absurd h
answered m good exported (Err SumRefusal.Memory) h = (tt, tt, tt, tt)

pub not_exported : (m : Module) → has_main m.exports ≡ false → IsSumRefusal m SumRefusal.NotExported
not_exported m h = main_absent m.exports h

-- ---- no part of a sum's module isn't of the form

nothing_first : (p : Place) → IsFirst [] p → ⊥
nothing_first p x' = elim x' [ ]

past : (x : Part) (xs : List Part) (p : Place) → ((q : Place) → IsUnbuilt x q → ⊥) → IsFirst (x ∷ xs) p → IsFirst xs p
past x xs p kept (here u) = absurd (kept p u)
past x xs p kept (behind other f) = f

past_sum : (n : Names) (e : Expression) (s : Sum) → IsSum e s → (xs : List Part) (p : Place) → IsFirst (bare (parts n e) ++ xs) p → IsFirst xs p
past_sum n _ _ (integer p k h) xs q f = past _ xs q (built (Expression.Int p k) _ (integer p k h)) f
past_sum n _ _ (addition p a b d e x y) xs q f =
    past_sum n b e y xs q
    (past_sum n a d x (bare (parts n b) ++ xs) q
    (subst (λ zs. IsFirst zs q) parts_are (past _ (bare (parts n a ++ (parts n b ++ [])) ++ xs) q (built _ _ (addition p a b d e x y)) f)))
  where
    parts_are : bare (parts n a ++ (parts n b ++ [])) ++ xs ≡ bare (parts n a) ++ (bare (parts n b) ++ xs)
    parts_are =
        ap (λ zs. zs ++ xs) (bare-append (parts n a) (parts n b ++ []) ∙ ap (λ zs. bare (parts n a) ++ zs) (bare-append (parts n b) [])) ∙ append_assoc (bare (parts n a)) (bare (parts n b) ++ []) xs
        ∙ ap (λ zs. bare (parts n a) ++ zs) (append_assoc (bare (parts n b)) [] xs)

past_exports : (n : Names) (es : List (FunName × Place)) (xs : List Part) (p : Place) → IsFirst (bare (map (λ e. (Part.Export e.0 e.1, n)) es) ++ xs) p → IsFirst xs p
past_exports n [] xs p f = f
past_exports n (e ∷ es) xs p f = past_exports n es xs p (past _ _ p (no_export_part e.0 e.1) f)

pub none_unbuilt : (m : Module) (e : Sum) → IsSumModule m e → (p : Place) → IsFirstUnbuilt m p → ⊥
none_unbuilt m e is p f =
    let split : IsFirst (bare (heads m) ++ bare ((Part.Group m.definitions, names_of m) ∷ parts_of_definitions (names_of m) m.definitions)) p =
    subst (λ xs. IsFirst xs p) (bare-append (heads m) ((Part.Group m.definitions, names_of m) ∷ parts_of_definitions (names_of m) m.definitions)) f in
    let rest = past_exports (names_of m) m.exports (Part.Group m.definitions ∷ bare (parts_of_definitions (names_of m) m.definitions)) p (past _ _ p (no_module m) split) in
    let functions : IsFirst (bare (parts_of_definitions (names_of m) m.definitions)) p = past _ _ p (no_group m.definitions) rest in
    let only : IsFirst (bare (parts_of_definitions (names_of m) (and_definition is.name_at main is.fun_at [] is.body no_definition))) p =
    subst (λ ds. IsFirst (bare (parts_of_definitions (names_of m) ds)) p) is.only functions in
    let body : IsFirst (bare (parts (with_variables [] (names_of m)) is.body ++ [])) p = past _ _ p (main_built is.name_at is.fun_at [] is.body) only in
    nothing_first p
    (past_sum (with_variables [] (names_of m)) is.body e is.made [] p (subst (λ xs. IsFirst xs p) (bare-append (parts (with_variables [] (names_of m)) is.body) []) body))
