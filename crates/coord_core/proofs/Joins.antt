-- Tables of a lattice: reading, order, and joining outputs into their cells.
use Rattle.std.proofs.Common.{◌≡◌, ℕ, zero, suc, ◌<◌, inl, inr, true, List, [], ◌∷◌, length, replicate, IsTrue, refl, sym, ap, ◌∙◌, subst, length-set, get_or-set_same, get_or-set_other}
use Rattle.std.specs.List.{AllByRecursion, AllZip, zip}
use Rattle.std.proofs.lemmas.Bool.{cases_eq, cases_lt}
use Rattle.std.proofs.lemmas.List.{get_or_past, get_or-replicate}
use Rattle.lattice_laws.specs.Lattices.{LatticeMeaning, IsLattice}
use Rattle.coord_core.specs.Tables.{value_of, values_of, joined, joined_all, IsAtMost}

module _ {V : Type 0} (is_value : V → Type 0) (l : LatticeMeaning V) (laws : IsLattice is_value l) where
  -- each cell has a value
  abbrev pub AreValues : List V → Type 0
  AreValues table = (cell : ℕ) → is_value (value_of l table cell)

  -- an output that is a value for a cell below n
  abbrev pub IsOutput : ℕ → ℕ × V → Type 0
  IsOutput n output = (output.0 < n) × is_value output.1

  -- an output that the table's cell is at least
  abbrev pub IsWithin : List V → ℕ × V → Type 0
  IsWithin table output = l.at_most output.1 (value_of l table output.0) ≡ true

  pub at_most-refl : (t : List V) → AreValues t → IsAtMost l t t
  at_most-refl t v c = laws.reflexive _ (v c)

  pub at_most-trans : (t u w : List V) → AreValues t → AreValues u → AreValues w → IsAtMost l t u → IsAtMost l u w → IsAtMost l t w
  at_most-trans t u w tv uv wv h k c = laws.transitive _ _ _ (tv c) (uv c) (wv c) (h c) (k c)

  pub bottoms_read : (n c : ℕ) → value_of l (replicate n l.bottom) c ≡ l.bottom
  bottoms_read n c =
      elim (cases_lt c n) [ inl h ↦ get_or-replicate n c l.bottom l.bottom h | inr h ↦ get_or_past (replicate n l.bottom) c l.bottom (rw length_is h) ]
    where
      length_is : length (replicate n l.bottom) ≡ n
      length_is = long n
        where
          long : (n : ℕ) → length (replicate n l.bottom) ≡ n
          long zero = refl
          long (suc n) = ap suc (long n)

  pub bottoms_are_values : (n : ℕ) → AreValues (replicate n l.bottom)
  bottoms_are_values n c = subst is_value (sym (bottoms_read n c)) laws.bottom_is_value

  pub bottoms_at_most : (n : ℕ) (t : List V) → AreValues t → IsAtMost l (replicate n l.bottom) t
  bottoms_at_most n t v c = subst (λ x. l.at_most x (value_of l t c) ≡ true) (sym (bottoms_read n c)) (laws.bottom_least _ (v c))

  -- one value joined into its cell
  pub joined_same : (t : List V) (o : ℕ × V) → o.0 < length t → value_of l (joined l t o) o.0 ≡ l.join (value_of l t o.0) o.1
  joined_same t o h = get_or-set_same t o.0 _ l.bottom h

  pub joined_other : (t : List V) (o : ℕ × V) (c : ℕ) → (c ≡ o.0 → ⊥) → value_of l (joined l t o) c ≡ value_of l t c
  joined_other t o c ne = get_or-set_other t o.0 c _ l.bottom ne

  pub joined_values : (t : List V) (o : ℕ × V) → AreValues t → IsOutput (length t) o → AreValues (joined l t o)
  joined_values t o v g c =
      elim (cases_eq c o.0) [
        | inl e ↦ subst (λ d. is_value (value_of l (joined l t o) d)) (sym e) (subst is_value (sym (joined_same t o g.0)) (laws.join_is_value _ _ (v o.0) g.1))
        | inr ne ↦ subst is_value (sym (joined_other t o c ne)) (v c)
      ]

  pub joined_above : (t : List V) (o : ℕ × V) → AreValues t → IsOutput (length t) o → IsAtMost l t (joined l t o)
  joined_above t o v g c =
      elim (cases_eq c o.0) [
        | inl e ↦ subst (λ d. l.at_most (value_of l t d) (value_of l (joined l t o) d) ≡ true) (sym e) (subst (λ x. l.at_most (value_of l t o.0) x ≡ true) (sym (joined_same t o g.0)) (laws.join_above_first _ _ (v o.0) g.1))
        | inr ne ↦ subst (λ x. l.at_most (value_of l t c) x ≡ true) (sym (joined_other t o c ne)) (laws.reflexive _ (v c))
      ]

  pub joined_has : (t : List V) (o : ℕ × V) → AreValues t → IsOutput (length t) o → IsWithin (joined l t o) o
  joined_has t o v g = subst (λ x. l.at_most o.1 x ≡ true) (sym (joined_same t o g.0)) (laws.join_above_second _ _ (v o.0) g.1)

  pub joined_least : (t : List V) (o : ℕ × V) (u : List V) → AreValues t → IsOutput (length t) o → AreValues u → IsAtMost l t u → IsWithin u o → IsAtMost l (joined l t o) u
  joined_least t o u v g uv h w c =
      elim (cases_eq c o.0) [
        | inl e ↦ subst (λ d. l.at_most (value_of l (joined l t o) d) (value_of l u d) ≡ true) (sym e) (subst (λ x. l.at_most x (value_of l u o.0) ≡ true) (sym (joined_same t o g.0)) (laws.join_least _ _ _ (v o.0) g.1 (uv o.0) (h o.0) w))
        | inr ne ↦ subst (λ x. l.at_most x (value_of l u c) ≡ true) (sym (joined_other t o c ne)) (h c)
      ]

  -- where the value isn't more than the cell has, nothing changes
  pub joined_unchanged : (t : List V) (o : ℕ × V) → AreValues t → IsOutput (length t) o → IsWithin t o → (c : ℕ) → value_of l (joined l t o) c ≡ value_of l t c
  joined_unchanged t o v g w c =
      laws.antisymmetric _ _ (joined_values t o v g c) (v c) (joined_least t o t v g v (at_most-refl t v) w c) (joined_above t o v g c)

  -- what is within a table is within a greater one
  pub within_up : (t u : List V) (n : ℕ) → AreValues t → AreValues u → IsAtMost l t u → (os : List (ℕ × V)) → AllByRecursion (IsOutput n) os → AllByRecursion (IsWithin t) os → AllByRecursion (IsWithin u) os
  within_up t u n tv uv h [] g w = tt
  within_up t u n tv uv h (o ∷ os) g w = (laws.transitive _ _ _ g.0.1 (tv o.0) (uv o.0) w.0 (h o.0), within_up t u n tv uv h os g.1 w.1)

  -- many values joined into their cells
  pub length-joined_all : (os : List (ℕ × V)) (t : List V) → length (joined_all l t os) ≡ length t
  length-joined_all [] t = refl
  length-joined_all (o ∷ os) t = length-joined_all os (joined l t o) ∙ length-set t o.0 _

  abbrev outputs_still : (t : List V) (o : ℕ × V) (os : List (ℕ × V)) → AllByRecursion (IsOutput (length t)) os → AllByRecursion (IsOutput (length (joined l t o))) os
  outputs_still t o os g = subst (λ n. AllByRecursion (IsOutput n) os) (sym (length-set t o.0 _)) g

  pub joined_all_values : (os : List (ℕ × V)) (t : List V) → AreValues t → AllByRecursion (IsOutput (length t)) os → AreValues (joined_all l t os)
  joined_all_values [] t v g = v
  joined_all_values (o ∷ os) t v g = joined_all_values os (joined l t o) (joined_values t o v g.0) (outputs_still t o os g.1)

  pub joined_all_above : (os : List (ℕ × V)) (t : List V) → AreValues t → AllByRecursion (IsOutput (length t)) os → IsAtMost l t (joined_all l t os)
  joined_all_above [] t v g = at_most-refl t v
  joined_all_above (o ∷ os) t v g =
      let v1 = joined_values t o v g.0 in let g1 = outputs_still t o os g.1 in
      at_most-trans t (joined l t o) (joined_all l (joined l t o) os) v v1 (joined_all_values os (joined l t o) v1 g1) (joined_above t o v g.0) (joined_all_above os (joined l t o) v1 g1)

  pub joined_all_least : (os : List (ℕ × V)) (t u : List V) → AreValues t → AllByRecursion (IsOutput (length t)) os → AreValues u → IsAtMost l t u → AllByRecursion (IsWithin u) os → IsAtMost l (joined_all l t os) u
  joined_all_least [] t u v g uv h w = h
  joined_all_least (o ∷ os) t u v g uv h w =
      joined_all_least os (joined l t o) u (joined_values t o v g.0) (outputs_still t o os g.1) uv (joined_least t o u v g.0 uv h w.0) w.1

  pub joined_all_has : (os : List (ℕ × V)) (t : List V) → AreValues t → AllByRecursion (IsOutput (length t)) os → AllByRecursion (IsWithin (joined_all l t os)) os
  joined_all_has [] t v g = tt
  joined_all_has (o ∷ os) t v g =
      let v1 = joined_values t o v g.0 in let g1 = outputs_still t o os g.1 in
      (laws.transitive _ _ _ g.0.1 (v1 o.0) (joined_all_values os (joined l t o) v1 g1 o.0) (joined_has t o v g.0) (joined_all_above os (joined l t o) v1 g1 o.0), joined_all_has os (joined l t o) v1 g1)

  -- the values of some cells
  pub values_of-length : (t : List V) (cs : List ℕ) → length (values_of l t cs) ≡ length cs
  values_of-length t [] = refl
  values_of-length t (c ∷ cs) = ap suc (values_of-length t cs)

  pub values_of-values : (t : List V) → AreValues t → (cs : List ℕ) → AllByRecursion is_value (values_of l t cs)
  values_of-values t v [] = tt
  values_of-values t v (c ∷ cs) = (v c, values_of-values t v cs)

  pub values_of-at_most : (t u : List V) → IsAtMost l t u → (cs : List ℕ) → AllZip (λ x y. IsTrue (l.at_most x y)) (values_of l t cs) (values_of l u cs)
  values_of-at_most t u h [] = tt
  values_of-at_most t u h (c ∷ cs) = (h c, values_of-at_most t u h cs)

  pub zip-trans : (xs ys zs : List V) → AllByRecursion is_value xs → AllByRecursion is_value ys → AllByRecursion is_value zs → AllZip (λ x y. IsTrue (l.at_most x y)) xs ys → AllZip (λ x y. IsTrue (l.at_most x y)) ys zs → AllZip (λ x y. IsTrue (l.at_most x y)) xs zs
  zip-trans [] [] [] a b c h k = tt
  zip-trans [] [] (z ∷ zs) a b c h k = absurd k
  zip-trans [] (y ∷ ys) zs a b c h k = absurd h
  zip-trans (x ∷ xs) [] zs a b c h k = absurd h
  zip-trans (x ∷ xs) (y ∷ ys) [] a b c h k = absurd k
  zip-trans (x ∷ xs) (y ∷ ys) (z ∷ zs) a b c h k = (laws.transitive _ _ _ a.0 b.0 c.0 h.0 k.0, zip-trans xs ys zs a.1 b.1 c.1 h.1 k.1)

  -- cells with values, beside greater ones
  pub within_zip : (t : List V) → AreValues t → (cs : List ℕ) (xs ys : List V) → AllByRecursion is_value xs → AllByRecursion is_value ys → AllZip (λ x y. IsTrue (l.at_most x y)) xs ys → AllByRecursion (IsWithin t) (zip cs ys) → AllByRecursion (IsWithin t) (zip cs xs)
  within_zip t tv [] xs ys a b h w = tt
  within_zip t tv (c ∷ cs) [] ys a b h w = tt
  within_zip t tv (c ∷ cs) (x ∷ xs) [] a b h w = absurd h
  within_zip t tv (c ∷ cs) (x ∷ xs) (y ∷ ys) a b h w = (laws.transitive _ _ _ a.0 b.0 (tv c) h.0 w.0, within_zip t tv cs xs ys a.1 b.1 h.1 w.1)

  pub outputs_zip : (n : ℕ) (cs : List ℕ) (xs : List V) → AllByRecursion (λ c. c < n) cs → AllByRecursion is_value xs → AllByRecursion (IsOutput n) (zip cs xs)
  outputs_zip n [] xs a b = tt
  outputs_zip n (c ∷ cs) [] a b = tt
  outputs_zip n (c ∷ cs) (x ∷ xs) a b = ((a.0, b.0), outputs_zip n cs xs a.1 b.1)

  pub within_bottoms : (t : List V) → AreValues t → (cs : List ℕ) (xs : List V) → AllByRecursion (λ x. x ≡ l.bottom) xs → AllByRecursion (IsWithin t) (zip cs xs)
  within_bottoms t tv [] xs a = tt
  within_bottoms t tv (c ∷ cs) [] a = tt
  within_bottoms t tv (c ∷ cs) (x ∷ xs) a = (subst (λ y. l.at_most y (value_of l t c) ≡ true) (sym a.0) (laws.bottom_least _ (tv c)), within_bottoms t tv cs xs a.1)
