-- The first broken rule: there is one if and only if the module isn't good, and no other.
use Rattle.std.proofs.Common.{◌≡◌, ℕ, zero, suc, ◌<◌, ◌⊎◌, inl, inr, List, [], Option, Some, None, MatchOption, Contains, length, arith, refl, ap, sym, subst}
use Rattle.hipe_terms.specs.declared.place.Place.{Place}
use Rattle.core_ast.specs.declared.rule.Rule.{Rule}
use Rattle.core_ast.specs.declared.rule.Broken.{Broken}
use Rattle.core_ast.specs.Trees.{Module}
use Rattle.core_ast.specs.Rules.{rank}
use Rattle.core_ast.specs.Good.{broken_in, IsBroken, IsGood, IsBefore, IsFirstBroken}
use Rattle.core_ast.specs.First.{noted_all}
use Rattle.core_ast.specs.GoodLaws.{BrokenWhereNotGood, SomeRuleIsFirst, OneRuleIsFirst}
use Rattle.core_ast.proofs.Firsts.{rank_same}
use Rattle.core_ast.proofs.Spots.{all_rules, spots_by, first_or_good}

pub some_first : SomeRuleIsFirst
some_first m bad = go (noted_all (spots_by m all_rules) None) (first_or_good m) where
  go : (first : Option Broken) → MatchOption first (IsGood m) (λ b. IsFirstBroken m b.rule b.at) → (r : Rule) × (p : Place) × IsFirstBroken m r p
  go None h = absurd (bad h)
  go (Some b) h = (b.rule, b.at, h)

nowhere : (ps : List Place) (p : Place) → ps ≡ [] → Contains ps p → ⊥
nowhere ps p e c = let l = subst (λ xs. c.0 < length xs) e c.1 in omega (arith, l)

-- a module with a first broken rule isn't good
pub broken_is_bad : (m : Module) (rule : Rule) (p : Place) → IsFirstBroken m rule p → IsGood m → ⊥
broken_is_bad m rule p first good = nowhere (broken_in rule m) p (good rule) first.broken

pub broken_somewhere : BrokenWhereNotGood
broken_somewhere m =
    ((λ b good. nowhere (broken_in b.0 m) b.1 (good b.0) b.2), (λ bad. let h = some_first m bad in (h.0, h.1, (h.2).broken)))

order_of : (m n : ℕ) → (m < n) ⊎ ((m ≡ n) ⊎ (n < m))
order_of zero zero = inr (inl refl)
order_of zero (suc n) = inl (omega arith)
order_of (suc m) zero = inr (inr (omega arith))
order_of (suc m) (suc n) = go (order_of m n) where
  go : (m < n) ⊎ ((m ≡ n) ⊎ (n < m)) → (suc m < suc n) ⊎ ((suc m ≡ suc n) ⊎ (suc n < suc m))
  go (inl l) = inl (omega arith)
  go (inr (inl e)) = inr (inl (ap suc e))
  go (inr (inr l)) = inr (inr (omega arith))

place_order : (p q : Place) → IsBefore p q ⊎ ((p ≡ q) ⊎ IsBefore q p)
place_order p q = go (order_of p.line q.line) (order_of p.col q.col) where
  go : (p.line < q.line) ⊎ ((p.line ≡ q.line) ⊎ (q.line < p.line)) → (p.col < q.col) ⊎ ((p.col ≡ q.col) ⊎ (q.col < p.col)) → IsBefore p q ⊎ ((p ≡ q) ⊎ IsBefore q p)
  go (inl l) c = inl (inl l)
  go (inr (inr l)) c = inr (inr (inl l))
  go (inr (inl e)) (inl c) = inl (inr (e, c))
  go (inr (inl e)) (inr (inl f)) = inr (inl (λ i. record { line = e i; col = f i }))
  go (inr (inl e)) (inr (inr c)) = inr (inr (inr (sym e, c)))

pub one_first : OneRuleIsFirst
one_first m r s p q x y = places (place_order p q) where
  rules : p ≡ q → (rank r < rank s) ⊎ ((rank r ≡ rank s) ⊎ (rank s < rank r)) → (r ≡ s) × (p ≡ q)
  rules e (inl l) = absurd (y.no_rule_before r (subst (λ z. IsBroken m r z) e x.broken) l)
  rules e (inr (inl f)) = (rank_same r s f, e)
  rules e (inr (inr l)) = absurd (x.no_rule_before s (subst (λ z. IsBroken m s z) (sym e) y.broken) l)

  places : IsBefore p q ⊎ ((p ≡ q) ⊎ IsBefore q p) → (r ≡ s) × (p ≡ q)
  places (inl b) = absurd (y.no_place_before r p x.broken b)
  places (inr (inl e)) = rules e (order_of (rank r) (rank s))
  places (inr (inr b)) = absurd (x.no_place_before s q y.broken b)
