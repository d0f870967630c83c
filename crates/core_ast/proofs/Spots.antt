-- Broken rules as a list, and the first of them.
use Rattle.std.proofs.Common.{◌≡◌, ℕ, zero, suc, ◌+◌, ◌<◌, ◌⊎◌, inl, inr, Bool, true, false, cond, ◌&&◌, ◌||◌, nat_lt, nat_eq, List, [], ◌∷◌, ◌++◌, map, Option, Some, None, MatchOption, Contains, arith, refl, ap, sym, ◌∙◌, subst}
use Rattle.std.proofs.lemmas.Bool.Decides.{nat_tests}
use Rattle.hipe_terms.specs.declared.place.Place.{Place}
use Rattle.core_ast.specs.declared.rule.Rule.{Rule}
use Rattle.core_ast.specs.declared.rule.Broken.{Broken}
use Rattle.core_ast.specs.declared.rule.Rule.TheVariants.{DuplicateFunction, ExportUndefined, UnboundFunction, UnboundVariable, DuplicateVariable, Degree, ArityLimit, UnknownPrimop, SizeLimit}
use Rattle.core_ast.specs.Trees.{Module}
use Rattle.core_ast.specs.Rules.{rank}
use Rattle.core_ast.specs.Good.{broken_in, IsBroken, IsGood, IsBefore, IsFirstBroken}
use Rattle.core_ast.specs.First.{broken_at, is_sooner, noted_all}
use Rattle.core_ast.proofs.Firsts.{is_same, is_same_is, is_same_refl, occurs, occurs-append, IsFirstOf, first_of_all, none_of_all}

-- how often b is one of the places at which a rule is broken
abbrev pub hits : Broken → Rule → List Place → ℕ
hits b r places = occurs b (map (λ p. broken_at r p) places)

pub hits-append : (b : Broken) (r : Rule) (ps qs : List Place) → hits b r (ps ++ qs) ≡ hits b r ps + hits b r qs
hits-append b r [] qs = omega arith
hits-append b r (p ∷ ps) qs = rw (hits-append b r ps qs) (omega arith)

abbrev pub all_rules : List Rule
all_rules = DuplicateFunction ∷ ExportUndefined ∷ UnboundFunction ∷ UnboundVariable ∷ DuplicateVariable ∷ Degree ∷ ArityLimit ∷ UnknownPrimop ∷ SizeLimit ∷ []

abbrev pub hits_by : Broken → Module → List Rule → ℕ
hits_by b m [] = 0
hits_by b m (r ∷ rs) = hits b r (broken_in r m) + hits_by b m rs

-- how often b is broken in a module
abbrev pub hits_in : Broken → Module → ℕ
hits_in b m = hits_by b m all_rules

first_element : {X : Type 0} (x : X) (xs : List X) → Contains (x ∷ xs) x
first_element x xs = (0, omega arith, refl)

next_element : {X : Type 0} (x y : X) (xs : List X) → Contains xs x → Contains (y ∷ xs) x
next_element x y xs c = (suc c.0, omega arith, c.2)

-- what is hit is the rule, at one of the places
pub hit_is : (b : Broken) (r : Rule) (ps : List Place) → 0 < hits b r ps → (r ≡ b.rule) × Contains ps b.at
hit_is b r [] l = absurd (omega arith)
hit_is b r (p ∷ ps) l = go (is_same b (broken_at r p)) refl l (hit_is b r ps) where
  go : (s : Bool) → is_same b (broken_at r p) ≡ s → 0 < cond s 1 0 + hits b r ps → (0 < hits b r ps → (r ≡ b.rule) × Contains ps b.at) → (r ≡ b.rule) × Contains (p ∷ ps) b.at
  go true e k h =
      let same = is_same_is b (broken_at r p) e in
      let at : b.at ≡ p = ap (λ x. x.at) same in
      (sym (ap (λ x. x.rule) same), subst (λ q. Contains (q ∷ ps) b.at) at (first_element b.at ps))
  go false e k h = let i = h (omega arith) in (i.0, next_element b.at p ps i.1)

-- each of the places is hit
pub hit_by : (r : Rule) (p : Place) (ps : List Place) → Contains ps p → 0 < hits (broken_at r p) r ps
hit_by r p [] c = absurd (omega (arith, c.1))
hit_by r p (q ∷ ps) (zero, l, e) = subst (λ x. 0 < cond (is_same (broken_at r p) (broken_at r x)) 1 0 + hits (broken_at r p) r ps) (sym e) (rw (is_same_refl (broken_at r p)) (omega arith))
hit_by r p (q ∷ ps) (suc k, l, e) = let h = hit_by r p ps (k, omega (arith, l), e) in omega (arith, h)

either : (a b : ℕ) → 0 < a + b → (0 < a) ⊎ (0 < b)
either zero b l = inr (omega (arith, l))
either (suc a) b l = inl (omega arith)

hit_broken : (m : Module) (b : Broken) (r : Rule) → 0 < hits b r (broken_in r m) → IsBroken m b.rule b.at
hit_broken m b r l = let h = hit_is b r (broken_in r m) l in subst (λ s. Contains (broken_in s m) b.at) h.0 h.1

-- what is hit is broken
hits_broken : (m : Module) (b : Broken) (rs : List Rule) → 0 < hits_by b m rs → IsBroken m b.rule b.at
hits_broken m b [] l = absurd (omega arith)
hits_broken m b (r ∷ rs) l = go (either (hits b r (broken_in r m)) (hits_by b m rs) l) (hits_broken m b rs) where
  go : (0 < hits b r (broken_in r m)) ⊎ (0 < hits_by b m rs) → (0 < hits_by b m rs → IsBroken m b.rule b.at) → IsBroken m b.rule b.at
  go (inl k) h = hit_broken m b r k
  go (inr k) h = h k

hit_in : (m : Module) (b : Broken) (r : Rule) → 0 < hits b r (broken_in r m) → 0 < hits_in b m
hit_in m b DuplicateFunction l = omega arith
hit_in m b ExportUndefined l = omega arith
hit_in m b UnboundFunction l = omega arith
hit_in m b UnboundVariable l = omega arith
hit_in m b DuplicateVariable l = omega arith
hit_in m b Degree l = omega arith
hit_in m b ArityLimit l = omega arith
hit_in m b UnknownPrimop l = omega arith
hit_in m b SizeLimit l = omega arith

-- what is broken is hit
broken_hits : (m : Module) (r : Rule) (p : Place) → IsBroken m r p → 0 < hits_in (broken_at r p) m
broken_hits m r p c = hit_in m (broken_at r p) r (hit_by r p (broken_in r m) c)

before_sooner : (l m c d r s : ℕ) → (l < m) ⊎ ((l ≡ m) × (c < d)) → (nat_lt l m || (nat_eq l m && (nat_lt c d || (nat_eq c d && nat_lt r s)))) ≡ true
before_sooner l m c d r s (inl h) = grind (arith, nat_tests)
before_sooner l m c d r s (inr (e, h)) = grind (arith, nat_tests)

earlier_rule : (l c r s : ℕ) → r < s → (nat_lt l l || (nat_eq l l && (nat_lt c c || (nat_eq c c && nat_lt r s)))) ≡ true
earlier_rule l c r s h = grind (arith, nat_tests)

-- the first of a list in which everything that is broken stands is the first broken rule
pub first_is_broken : (m : Module) (list : List Broken) → ((b : Broken) → occurs b list ≡ hits_in b m) → (b : Broken) → noted_all list None ≡ Some b → IsFirstBroken m b.rule b.at
first_is_broken m list same b e = record { broken = broken h.member; no_place_before = place; no_rule_before = rule } where
  h : IsFirstOf list None b
  h = first_of_all list None b e

  broken : (None ≡ Some b) ⊎ (0 < occurs b list) → IsBroken m b.rule b.at
  broken (inl k) = absurd (cc)
  broken (inr l) = hits_broken m b all_rules (subst (λ n. 0 < n) (same b) l)

  not_sooner : (s : Rule) (q : Place) → IsBroken m s q → is_sooner (broken_at s q) b ≡ false
  not_sooner s q c = h.before_none (broken_at s q) (subst (λ n. 0 < n) (sym (same (broken_at s q))) (broken_hits m s q c))

  place : (s : Rule) (q : Place) → IsBroken m s q → IsBefore q b.at → ⊥
  place s q c k =
      let no = not_sooner s q c in
      let yes = before_sooner q.line b.at.line q.col b.at.col (rank s) (rank b.rule) k in
      cc

  rule : (s : Rule) → IsBroken m s b.at → rank s < rank b.rule → ⊥
  rule s c k =
      let no = not_sooner s b.at c in
      let yes = earlier_rule b.at.line b.at.col (rank s) (rank b.rule) k in
      cc

no_places : (r : Rule) (ps : List Place) → ((p : Place) → hits (broken_at r p) r ps ≡ 0) → ps ≡ []
no_places r [] h = refl
no_places r (p ∷ ps) h = let l = hit_by r p (p ∷ ps) (first_element p ps) in absurd (omega (arith, l, h p))

nothing_hit : (m : Module) (r : Rule) (b : Broken) → hits_in b m ≡ 0 → hits b r (broken_in r m) ≡ 0
nothing_hit m r b e = go (hits b r (broken_in r m)) refl where
  go : (n : ℕ) → hits b r (broken_in r m) ≡ n → n ≡ 0
  go zero k = refl
  go (suc n) k = let l = hit_in m b r (omega (arith, k)) in absurd (omega (arith, l, e))

-- where none is first, the module is good
pub none_is_broken : (m : Module) (list : List Broken) → ((b : Broken) → occurs b list ≡ hits_in b m) → noted_all list None ≡ None → IsGood m
none_is_broken m list same e r =
    no_places r (broken_in r m) (λ p. nothing_hit m r (broken_at r p) (sym (same (broken_at r p)) ∙ none_of_all list e (broken_at r p)))

-- both
pub first_is : (m : Module) (list : List Broken) → ((b : Broken) → occurs b list ≡ hits_in b m) → (first : Option Broken) → noted_all list None ≡ first → MatchOption first (IsGood m) (λ b. IsFirstBroken m b.rule b.at)
first_is m list same None e = none_is_broken m list same e
first_is m list same (Some b) e = first_is_broken m list same b e

-- everything that is broken, in one list
pub spots_by : Module → List Rule → List Broken
spots_by m [] = []
spots_by m (r ∷ rs) = map (λ p. broken_at r p) (broken_in r m) ++ spots_by m rs

spots_hit : (m : Module) (rs : List Rule) (b : Broken) → occurs b (spots_by m rs) ≡ hits_by b m rs
unfolding spots_by
spots_hit m [] b = refl
spots_hit m (r ∷ rs) b = occurs-append b (map (λ p. broken_at r p) (broken_in r m)) (spots_by m rs) ∙ ap (λ n. hits b r (broken_in r m) + n) (spots_hit m rs b)

pub first_or_good : (m : Module) → MatchOption (noted_all (spots_by m all_rules) None) (IsGood m) (λ b. IsFirstBroken m b.rule b.at)
first_or_good m = first_is m (spots_by m all_rules) (spots_hit m all_rules) (noted_all (spots_by m all_rules) None) refl
