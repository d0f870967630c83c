-- The starts in a table.
use Rattle.std.proofs.Common.{◌≡◌, ℕ, inl, inr, true, false, List, [], ◌∷◌, map, length, set, nat_eq, ◌==◌, refl, sym, ◌∙◌, subst, length-set, get_or-set_same, get_or-set_other, ne_eqb, true≢false}
use Rattle.std.specs.List.{AllByRecursion, list_any, IsDistinct}
use Rattle.std.proofs.lemmas.Bool.{cases_eq, cases_Bool, eqb-false}
use Rattle.lattice_laws.specs.Lattices.{LatticeMeaning, IsLattice}
use Rattle.coord_core.specs.Tables.{value_of, IsAtMost}
use Rattle.coord_core.specs.States.{started}
use Rattle.coord_core.proofs.Joins as joins

module _ {V : Type 0} (is_value : V → Type 0) (l : LatticeMeaning V) (laws : IsLattice is_value l) where
  abbrev AreValues : List V → Type 0
  AreValues = joins.AreValues is_value l laws

  abbrev IsOutput : ℕ → ℕ × V → Type 0
  IsOutput = joins.IsOutput is_value l laws

  abbrev IsWithin : List V → ℕ × V → Type 0
  IsWithin = joins.IsWithin is_value l laws

  abbrev outputs_still : (t : List V) (o : ℕ × V) (os : List (ℕ × V)) → AllByRecursion (IsOutput (length t)) os → AllByRecursion (IsOutput (length (set t o.0 o.1))) os
  outputs_still t o os g = subst (λ n. AllByRecursion (IsOutput n) os) (sym (length-set t o.0 _)) g

  pub length-started : (os : List (ℕ × V)) (t : List V) → length (started t os) ≡ length t
  length-started [] t = refl
  length-started (o ∷ os) t = length-started os (set t o.0 o.1) ∙ length-set t o.0 o.1

  set_values : (t : List V) (o : ℕ × V) → AreValues t → IsOutput (length t) o → AreValues (set t o.0 o.1)
  set_values t o v g c =
      elim (cases_eq c o.0) [
        | inl e ↦ subst (λ d. is_value (value_of l (set t o.0 o.1) d)) (sym e) (subst is_value (sym (get_or-set_same t o.0 o.1 l.bottom g.0)) g.1)
        | inr ne ↦ subst is_value (sym (get_or-set_other t o.0 c o.1 l.bottom ne)) (v c)
      ]

  set_least : (t : List V) (o : ℕ × V) (u : List V) → IsOutput (length t) o → IsAtMost l t u → IsWithin u o → IsAtMost l (set t o.0 o.1) u
  set_least t o u g h w c =
      elim (cases_eq c o.0) [
        | inl e ↦ subst (λ d. l.at_most (value_of l (set t o.0 o.1) d) (value_of l u d) ≡ true) (sym e) (subst (λ x. l.at_most x (value_of l u o.0) ≡ true) (sym (get_or-set_same t o.0 o.1 l.bottom g.0)) w)
        | inr ne ↦ subst (λ x. l.at_most x (value_of l u c) ≡ true) (sym (get_or-set_other t o.0 c o.1 l.bottom ne)) (h c)
      ]

  pub started_values : (os : List (ℕ × V)) (t : List V) → AreValues t → AllByRecursion (IsOutput (length t)) os → AreValues (started t os)
  started_values [] t v g = v
  started_values (o ∷ os) t v g = started_values os (set t o.0 o.1) (set_values t o v g.0) (outputs_still t o os g.1)

  pub started_least : (os : List (ℕ × V)) (t u : List V) → AllByRecursion (IsOutput (length t)) os → IsAtMost l t u → AllByRecursion (IsWithin u) os → IsAtMost l (started t os) u
  started_least [] t u g h w = h
  started_least (o ∷ os) t u g h w = started_least os (set t o.0 o.1) u (outputs_still t o os g.1) (set_least t o u g.0 h w.0) w.1

  -- a cell that doesn't start keeps what it had
  pub started_other : (os : List (ℕ × V)) (t : List V) (c : ℕ) → list_any (λ start. start.0 == c) os ≡ false → value_of l (started t os) c ≡ value_of l t c
  started_other [] t c h = refl
  started_other (o ∷ os) t c h =
      elim (cases_Bool (o.0 == c)) [
        | inl e ↦ absurd (true≢false (rw e at h))
        | inr f ↦ started_other os (set t o.0 o.1) c (rw f at h) ∙ get_or-set_other t o.0 c o.1 l.bottom (λ e. eqb-false o.0 c f (sym e))
      ]

  no_start : (c : ℕ) (os : List (ℕ × V)) → AllByRecursion (λ y. nat_eq c y ≡ false) (map (λ o. o.0) os) → list_any (λ start. start.0 == c) os ≡ false
  no_start c [] a = refl
  no_start c (o ∷ os) a = rw (ne_eqb o.0 c (λ e. eqb-false c o.0 a.0 (sym e))) (no_start c os a.1)

  -- a cell that starts with a value has it
  pub started_has : (os : List (ℕ × V)) (t : List V) → AllByRecursion (IsOutput (length t)) os → IsDistinct nat_eq (map (λ o. o.0) os) → AllByRecursion (λ o. value_of l (started t os) o.0 ≡ o.1) os
  unfolding IsDistinct
  started_has [] t g d = tt
  started_has (o ∷ os) t g d =
      (started_other os (set t o.0 o.1) o.0 (no_start o.0 os d.0) ∙ get_or-set_same t o.0 o.1 l.bottom g.0.0, started_has os (set t o.0 o.1) (outputs_still t o os g.1) d.1)
