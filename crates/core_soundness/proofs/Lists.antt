-- What holds of each element of a list, and look-ups by a test of equality.
use Rattle.std.proofs.Common.{◌≡◌, ℕ, zero, suc, ◌<◌, List, [], ◌∷◌, ◌++◌, Option, Some, None, refl, sym, ap, ◌∙◌, subst, arith, inl, inr}
use Rattle.std.specs.Prelude.{Bool, true, false, not, if◌then◌else◌, ◌||◌, ◌⊎◌, ◌==◌, length, map, slice_get, option_map}
use Rattle.std.specs.List.{filter, list_any}
use Rattle.std.specs.Map.{lookup}
use Rattle.core_meaning.specs.Scopes.{first_occurrences, position, positions, joined}
use Rattle.core_soundness.proofs.Basics.{some_same, not_some, not_true, same_numbers, numbers_same}

abbrev pub Each : {A : Type 0} → (A → Type 0) → List A → Type 0
Each P [] = Unit {0}
Each P (x ∷ xs) = P x × Each P xs

-- an option that has something
abbrev pub IsFound : {A : Type 0} → Option A → Type 0
IsFound {A = A} o = (a : A) × (o ≡ Some a)

module _ {A : Type 0} (P : A → Type 0) where
  pub each_append : (xs ys : List A) → Each P xs → Each P ys → Each P (xs ++ ys)
  each_append [] ys g h = h
  each_append (x ∷ xs) ys g h = (g.0, each_append xs ys g.1 h)

  pub each_left : (xs ys : List A) → Each P (xs ++ ys) → Each P xs
  each_left [] ys g = tt
  each_left (x ∷ xs) ys g = (g.0, each_left xs ys g.1)

  pub each_right : (xs ys : List A) → Each P (xs ++ ys) → Each P ys
  each_right [] ys g = g
  each_right (x ∷ xs) ys g = each_right xs ys g.1

  cond_each : (b : Bool) (x : A) (xs : List A) → P x → Each P xs → Each P (if b then x ∷ xs else xs)
  cond_each true x xs p g = (p, g)
  cond_each false x xs p g = g

  pub each_filter : (test : A → Bool) (xs : List A) → Each P xs → Each P (filter test xs)
  each_filter test [] g = tt
  each_filter test (x ∷ xs) g = cond_each (test x) x (filter test xs) g.0 (each_filter test xs g.1)

  pub each_weaker : (Q : A → Type 0) → ((x : A) → P x → Q x) → (xs : List A) → Each P xs → Each Q xs
  each_weaker Q f [] g = tt
  each_weaker Q f (x ∷ xs) g = (f x g.0, each_weaker Q f xs g.1)

  pub each_get : (xs : List A) (i : ℕ) (x : A) → Each P xs → slice_get xs i ≡ Some x → P x
  each_get [] i x g is = absurd (not_some is)
  each_get (y ∷ xs) zero x g is = subst P (some_same y x is) g.0
  each_get (y ∷ xs) (suc i) x g is = each_get xs i x g.1 is

pub get_found : {A : Type 0} (xs : List A) (i : ℕ) → i < length xs → IsFound (slice_get xs i)
get_found [] i lt = absurd (let no_slot : ⊥ = omega (arith, lt) in no_slot)
get_found (x ∷ xs) zero lt = (x, refl)
get_found (x ∷ xs) (suc i) lt = get_found xs i (omega (arith, lt))

-- ---- look-ups

module _ {K X : Type 0} (P : K × X → Type 0) (test : K → Bool) where
  abbrev Found : X → Type 0
  Found x = (k : K) × (test k ≡ true) × P (k, x)

  cond_found : (b : Bool) (e : K × X) (o : Option X) (x : X) → test e.0 ≡ b → P e → (o ≡ Some x → Found x) → (if b then Some e.1 else o) ≡ Some x → Found x
  cond_found true e o x is p f found = (e.0, is, subst (λ y. P (e.0, y)) (some_same e.1 x found) p)
  cond_found false e o x is p f found = f found

  pub each_found : (es : List (K × X)) (x : X) → Each P es → lookup test es ≡ Some x → Found x
  each_found [] x g is = absurd (not_some is)
  each_found (e ∷ es) x g is = cond_found (test e.0) e (lookup test es) x refl g.0 (each_found es x g.1) is

pub cond_listed : {X : Type 0} (b : Bool) (x : X) (o : Option X) (c : Bool) → (c ≡ true → IsFound o) → (b || c) ≡ true → IsFound (if b then Some x else o)
cond_listed true x o c f is = (x, refl)
cond_listed false x o c f is = f is

cond_found_listed : {X : Type 0} (b : Bool) (x : X) (o : Option X) (c : Bool) → (IsFound o → c ≡ true) → IsFound (if b then Some x else o) → (b || c) ≡ true
cond_found_listed true x o c f is = refl
cond_found_listed false x o c f is = f is

module _ {K X : Type 0} (test : K → Bool) where
  -- a key that is listed is found
  pub listed_found : (es : List (K × X)) → list_any test (map (λ e. e.0) es) ≡ true → IsFound (lookup test es)
  listed_found [] is = absurd (not_true is)
  listed_found (e ∷ es) is = cond_listed (test e.0) e.1 (lookup test es) (list_any test (map (λ e. e.0) es)) (listed_found es) is

  pub found_listed : (es : List (K × X)) → IsFound (lookup test es) → list_any test (map (λ e. e.0) es) ≡ true
  found_listed [] is = absurd (not_some is.1)
  found_listed (e ∷ es) is = cond_found_listed (test e.0) e.1 (lookup test es) (list_any test (map (λ e. e.0) es)) (found_listed es) is

pub or_left : (a b : Bool) → a ≡ true → (a || b) ≡ true
or_left true b p = refl
or_left false b p = absurd (not_true p)

pub or_right : (a b : Bool) → b ≡ true → (a || b) ≡ true
or_right true b p = refl
or_right false b p = p

pub or_cases : (a b : Bool) → (a || b) ≡ true → (a ≡ true) ⊎ ((a ≡ false) × (b ≡ true))
or_cases true b p = inl refl
or_cases false b p = inr (refl, p)

module _ {K : Type 0} (eq : K → K → Bool) (turned : (x y : K) → eq x y ≡ eq y x) where
  turned_any : (x : K) (ys : List K) → list_any (λ z. eq z x) ys ≡ list_any (λ z. eq x z) ys
  turned_any x [] = refl
  turned_any x (y ∷ ys) = ap (λ b. b || list_any (λ z. eq z x) ys) (turned y x) ∙ ap (λ b. eq x y || b) (turned_any x ys)

module _ {K V : Type 0} (eq : K → K → Bool) (same : (x y : K) → eq x y ≡ true → x ≡ y) (turned : (x y : K) → eq x y ≡ eq y x) where
  kept_found : (b c : Bool) (e : K × V) (es : List (K × V)) (x : K) (v : V) (o : Option V) (ys : List K) → list_any (λ y. eq x y) ys ≡ false → eq x e.0 ≡ b → list_any (λ z. eq z e.0) ys ≡ c
      → (o ≡ Some v → lookup (λ y. eq x y) es ≡ Some v) → (if b then Some e.1 else o) ≡ Some v → lookup (λ y. eq x y) (if not c then e ∷ es else es) ≡ Some v
  kept_found true false e es x v o ys free is passes f found = ap (λ b. if b then Some e.1 else lookup (λ y. eq x y) es) is ∙ found
  kept_found true true e es x v o ys free is passes f found =
      absurd (not_true (sym free ∙ sym (turned_any eq turned x ys) ∙ subst (λ z. list_any (λ y. eq y z) ys ≡ true) (sym (same x e.0 is)) passes))
  kept_found false false e es x v o ys free is passes f found = ap (λ b. if b then Some e.1 else lookup (λ y. eq x y) es) is ∙ f found
  kept_found false true e es x v o ys free is passes f found = f found

  -- what isn't hidden is found as before
  pub hidden_found : (es : List (K × V)) (x : K) (v : V) (ys : List K) → list_any (λ y. eq x y) ys ≡ false → lookup (λ y. eq x y) es ≡ Some v
      → lookup (λ y. eq x y) (filter (λ e. not (list_any (λ z. eq z e.0) ys)) es) ≡ Some v
  hidden_found [] x v ys free found = absurd (not_some found)
  hidden_found (e ∷ es) x v ys free found =
      kept_found (eq x e.0) (list_any (λ z. eq z e.0) ys) e (filter (λ e. not (list_any (λ z. eq z e.0) ys)) es) x v (lookup (λ y. eq x y) es) ys free refl refl (λ is. hidden_found es x v ys free is) found

-- ---- slots and where they stand in a list of captured ones

abbrev pub AllBelow : ℕ → List ℕ → Type 0
AllBelow k is = Each (λ i. i < k) is

-- a slot among the captured ones
abbrev pub IsIn : List ℕ → ℕ → Type 0
IsIn captured i = IsFound (position i captured)

cond_in : (b : Bool) (o : Option ℕ) → IsFound o → IsFound (if b then Some 0 else option_map suc o)
cond_in true o f = (0, refl)
cond_in false o f = (suc f.0, ap (option_map suc) f.1)

pub in_behind : (i j : ℕ) (js : List ℕ) → IsIn js i → IsIn (j ∷ js) i
in_behind i j js f = cond_in (i == j) (position i js) f

pub in_front : (i j : ℕ) (js : List ℕ) → i ≡ j → IsIn (j ∷ js) i
in_front i j js is = (0, ap (λ b. if b then Some 0 else option_map suc (position i js)) (numbers_same i j is))

less_found : (o : Option ℕ) → IsFound (option_map suc o) → IsFound o
less_found None f = absurd (not_some f.1)
less_found (Some a) f = (a, refl)

cond_kept : (c : Bool) (i j : ℕ) (ks : List ℕ) → IsIn ks i → IsIn (if not c then j ∷ ks else ks) i
cond_kept true i j ks f = f
cond_kept false i j ks f = in_behind i j ks f

in_filter_at : (b c : Bool) (i j k : ℕ) (js ks : List ℕ) → (i == j) ≡ b → (j == k) ≡ c → (i == k) ≡ false → (IsIn js i → IsIn ks i) → IsFound (if b then Some 0 else option_map suc (position i js)) → IsIn (if not c then j ∷ ks else ks) i
in_filter_at true false i j k js ks p q r f g = in_front i j ks (same_numbers i j p)
in_filter_at true true i j k js ks p q r f g = absurd (not_true (sym r ∙ numbers_same i k (same_numbers i j p ∙ same_numbers j k q)))
in_filter_at false c i j k js ks p q r f g = cond_kept c i j ks (f (less_found (position i js) g))

pub in_filter : (i k : ℕ) (js : List ℕ) → (i == k) ≡ false → IsIn js i → IsIn (filter (λ j. not (j == k)) js) i
in_filter i k [] r g = absurd (not_some g.1)
in_filter i k (j ∷ js) r g = in_filter_at (i == j) (j == k) i j k js (filter (λ j. not (j == k)) js) refl refl r (λ g. in_filter i k js r g) g

in_firsts : (b : Bool) (i j : ℕ) (js : List ℕ) → (j == i) ≡ b → IsIn js j → IsIn (i ∷ filter (λ j. not (j == i)) js) j
in_firsts true i j js p f = in_front j i (filter (λ j. not (j == i)) js) (same_numbers j i p)
in_firsts false i j js p f = in_behind j i (filter (λ j. not (j == i)) js) (in_filter j i js p f)

-- each slot is among the first occurrences
pub firsts_have : (is : List ℕ) → Each (IsIn (first_occurrences is)) is
firsts_have [] = tt
firsts_have (i ∷ is) = (
  in_front i i (filter (λ j. not (j == i)) (first_occurrences is)) refl,
  each_weaker (IsIn (first_occurrences is)) (IsIn (first_occurrences (i ∷ is))) (λ j f. in_firsts (j == i) i j (first_occurrences is) refl f) is (firsts_have is),
)

pub each_first : (P : ℕ → Type 0) (is : List ℕ) → Each P is → Each P (first_occurrences is)
each_first P [] g = tt
each_first P (i ∷ is) g = (g.0, each_filter P (λ j. not (j == i)) (first_occurrences is) (each_first P is g.1))

below_at : (b : Bool) (o : Option ℕ) (n k : ℕ) → ((j : ℕ) → o ≡ Some j → j < n) → (if b then Some 0 else option_map suc o) ≡ Some k → k < suc n
below_at true o n k f is = subst (λ k. k < suc n) (some_same 0 k is) (omega arith)
below_at false None n k f is = absurd (not_some is)
below_at false (Some j) n k f is = subst (λ k. k < suc n) (some_same (suc j) k is) (omega (arith, f j refl))

-- a position is below the length
pub position_below : (i : ℕ) (js : List ℕ) (k : ℕ) → position i js ≡ Some k → k < length js
position_below i [] k is = absurd (not_some is)
position_below i (j ∷ js) k is = below_at (i == j) (position i js) (length js) k (position_below i js) is

joined_found : (o : Option ℕ) (p : Option (List ℕ)) → IsFound o → IsFound p → IsFound (joined o p)
joined_found None p f g = absurd (not_some f.1)
joined_found (Some i) None f g = absurd (not_some g.1)
joined_found (Some i) (Some is) f g = (i ∷ is, refl)

pub positions_found : (captured is : List ℕ) → Each (IsIn captured) is → IsFound (positions is captured)
positions_found captured [] g = ([], refl)
positions_found captured (i ∷ is) g = joined_found (position i captured) (positions is captured) g.0 (positions_found captured is g.1)

-- what positions give: so many slots, all below
abbrev pub Fits : (n k : ℕ) → List ℕ → Type 0
Fits n k is = AllBelow k is × (length is ≡ n)

joined_fit : (n k : ℕ) (o : Option ℕ) (p : Option (List ℕ)) (js : List ℕ) → ((j : ℕ) → o ≡ Some j → j < k) → ((js : List ℕ) → p ≡ Some js → Fits n k js) → joined o p ≡ Some js → Fits (suc n) k js
joined_fit n k None p js f g is = absurd (not_some is)
joined_fit n k (Some i) None js f g is = absurd (not_some is)
joined_fit n k (Some i) (Some is') js f g is = subst (Fits (suc n) k) (some_same (i ∷ is') js is) ((f i refl, (g is' refl).0), ap suc (g is' refl).1)

pub positions_fit : (captured is js : List ℕ) → positions is captured ≡ Some js → Fits (length is) (length captured) js
positions_fit captured [] js is = subst (Fits 0 (length captured)) (some_same [] js is) (tt, refl)
positions_fit captured (i ∷ is') js is = joined_fit (length is') (length captured) (position i captured) (positions is' captured) js (position_below i captured) (λ js p. positions_fit captured is' js p) is
