-- Sweeps of a system: what a solution is at least, and that the least table is one.
use Rattle.std.proofs.Common.{◌≡◌, ℕ, zero, suc, ◌+◌, ◌*◌, ◌<◌, ◌≤◌, ◌⊎◌, inl, inr, true, List, [], ◌∷◌, ◌++◌, length, replicate, IsTrue, refl, sym, ap, ◌∙◌, subst, arith, zero-le, ext_get_or}
use Rattle.std.specs.List.{AllByRecursion, AllZip, flat_map}
use Rattle.std.proofs.lemmas.Bool.{cases_Bool, false≢true}
use Rattle.lattice_laws.specs.Lattices.{LatticeMeaning, IsLattice}
use Rattle.lattice_laws.specs.Systems.{SystemMeaning, IsSystem, IsOneForEach}
use Rattle.coord_core.specs.Tables.{values_of, IsAtMost, local_of, outputs_on, bottoms, sweep, sweeps, least, IsSolution, numbers_below}
use Rattle.coord_core.proofs.Lists.{each-append, each-append_left, each-append_right, each_from_all, all_from_each, each_both, each_below, each_from_below}
use Rattle.coord_core.proofs.Joins as joins

module _ {V : Type 0} (is_value : V → Type 0) (l : LatticeMeaning V) (s : SystemMeaning V) (laws : IsLattice is_value l) (sys : IsSystem is_value l s) where
  abbrev AreValues : List V → Type 0
  AreValues = joins.AreValues is_value l laws

  abbrev IsOutput : ℕ → ℕ × V → Type 0
  IsOutput = joins.IsOutput is_value l laws

  abbrev IsWithin : List V → ℕ × V → Type 0
  IsWithin = joins.IsWithin is_value l laws

  pub one_for_each : (t : List V) → AreValues t → (n : ℕ) → IsOneForEach is_value (s.needs n) (values_of l t (s.needs n))
  one_for_each t v n = (joins.values_of-length is_value l laws t (s.needs n), all_from_each is_value _ (joins.values_of-values is_value l laws t v (s.needs n)))

  -- what a node makes of values is a value for each of its cells
  pub local_outputs : (n : ℕ) (xs : List V) → n < s.nodes → IsOneForEach is_value (s.needs n) xs → AllByRecursion (IsOutput s.cells) (local_of s n xs)
  local_outputs n xs h o =
      joins.outputs_zip is_value l laws s.cells (s.gives n) (s.local n xs) (each_from_all _ _ (sys.gives_in_range n h)) (each_from_all is_value _ (sys.local_gives n xs h o).1)

  -- where what a node makes of some values is within a table, what it makes of lesser values is too
  pub local_within : (u : List V) → AreValues u → (n : ℕ) (xs ys : List V) → n < s.nodes → IsOneForEach is_value (s.needs n) xs → IsOneForEach is_value (s.needs n) ys → AllZip (λ x y. IsTrue (l.at_most x y)) xs ys → AllByRecursion (IsWithin u) (local_of s n ys) → AllByRecursion (IsWithin u) (local_of s n xs)
  local_within u uv n xs ys h ox oy z w =
      joins.within_zip is_value l laws u uv (s.gives n) (s.local n xs) (s.local n ys) (each_from_all is_value _ (sys.local_gives n xs h ox).1) (each_from_all is_value _ (sys.local_gives n ys h oy).1) (sys.local_monotone n xs ys h ox oy z) w

  pub starts_are_outputs : AllByRecursion (IsOutput s.cells) s.starts
  starts_are_outputs = each_both _ _ s.starts (each_from_all _ _ sys.starts_in_range) (each_from_all _ _ sys.starts_are_values)

  abbrev swept : List V → List (ℕ × V)
  swept t = s.starts ++ flat_map (outputs_on l s t) (numbers_below s.nodes)

  swept_outputs : (t : List V) → AreValues t → AllByRecursion (IsOutput s.cells) (swept t)
  swept_outputs t v =
      each-append (IsOutput s.cells) s.starts _ starts_are_outputs
      (each_from_below (IsOutput s.cells) (outputs_on l s t) s.nodes (λ n h. local_outputs n (values_of l t (s.needs n)) h (one_for_each t v n)))

  pub length-bottoms : length (bottoms l s) ≡ s.cells
  length-bottoms = long s.cells
    where
      long : (n : ℕ) → length (replicate n l.bottom) ≡ n
      long zero = refl
      long (suc n) = ap suc (long n)

  pub bottoms_values : AreValues (bottoms l s)
  bottoms_values = joins.bottoms_are_values is_value l laws s.cells

  pub outputs_at : (t : List V) (os : List (ℕ × V)) → length t ≡ s.cells → AllByRecursion (IsOutput s.cells) os → AllByRecursion (IsOutput (length t)) os
  outputs_at t os e g = subst (λ n. AllByRecursion (IsOutput n) os) (sym e) g

  pub length-sweep : (t : List V) → length (sweep l s t) ≡ s.cells
  length-sweep t = joins.length-joined_all is_value l laws (swept t) (bottoms l s) ∙ length-bottoms

  pub sweep_values : (t : List V) → AreValues t → AreValues (sweep l s t)
  sweep_values t v = joins.joined_all_values is_value l laws (swept t) (bottoms l s) bottoms_values (outputs_at (bottoms l s) (swept t) length-bottoms (swept_outputs t v))

  pub sweep_has : (t : List V) → AreValues t → AllByRecursion (IsWithin (sweep l s t)) (swept t)
  sweep_has t v = joins.joined_all_has is_value l laws (swept t) (bottoms l s) bottoms_values (outputs_at (bottoms l s) (swept t) length-bottoms (swept_outputs t v))

  pub sweep_least : (t u : List V) → AreValues t → AreValues u → AllByRecursion (IsWithin u) s.starts → ((n : ℕ) → n < s.nodes → AllByRecursion (IsWithin u) (outputs_on l s t n)) → IsAtMost l (sweep l s t) u
  sweep_least t u v uv ws f =
      joins.joined_all_least is_value l laws (swept t) (bottoms l s) u bottoms_values (outputs_at (bottoms l s) (swept t) length-bottoms (swept_outputs t v)) uv (joins.bottoms_at_most is_value l laws s.cells u uv)
      (each-append (IsWithin u) s.starts _ ws (each_from_below (IsWithin u) (outputs_on l s t) s.nodes f))

  sweep_has_starts : (t : List V) → AreValues t → AllByRecursion (IsWithin (sweep l s t)) s.starts
  sweep_has_starts t v = each-append_left (IsWithin (sweep l s t)) s.starts _ (sweep_has t v)

  sweep_has_outputs : (t : List V) → AreValues t → (n : ℕ) → n < s.nodes → AllByRecursion (IsWithin (sweep l s t)) (outputs_on l s t n)
  sweep_has_outputs t v n h = each_below (IsWithin (sweep l s t)) (outputs_on l s t) s.nodes n (each-append_right (IsWithin (sweep l s t)) s.starts _ (sweep_has t v)) h

  pub sweep_monotone : (t u : List V) → AreValues t → AreValues u → IsAtMost l t u → IsAtMost l (sweep l s t) (sweep l s u)
  sweep_monotone t u tv uv h =
      sweep_least t (sweep l s u) tv (sweep_values u uv) (sweep_has_starts u uv)
      (λ n k. local_within (sweep l s u) (sweep_values u uv) n (values_of l t (s.needs n)) (values_of l u (s.needs n)) k (one_for_each t tv n) (one_for_each u uv n) (joins.values_of-at_most is_value l laws t u h (s.needs n)) (sweep_has_outputs u uv n k))

  -- what a solution is at least
  pub solution_starts : (u : List V) → IsSolution is_value l s u → AllByRecursion (IsWithin u) s.starts
  solution_starts u sol = joins.within_up is_value l laws (sweep l s u) u s.cells (sweep_values u sol.values) sol.values sol.swept s.starts starts_are_outputs (sweep_has_starts u sol.values)

  pub solution_outputs : (u : List V) → IsSolution is_value l s u → (n : ℕ) → n < s.nodes → AllByRecursion (IsWithin u) (outputs_on l s u n)
  solution_outputs u sol n h = joins.within_up is_value l laws (sweep l s u) u s.cells (sweep_values u sol.values) sol.values sol.swept (outputs_on l s u n) (local_outputs n _ h (one_for_each u sol.values n)) (sweep_has_outputs u sol.values n h)

  -- so many sweeps from bottom
  pub sweeps_values : (n : ℕ) → AreValues (sweeps l s n)
  sweeps_values zero = bottoms_values
  sweeps_values (suc n) = sweep_values (sweeps l s n) (sweeps_values n)

  pub length-sweeps : (n : ℕ) → length (sweeps l s n) ≡ s.cells
  length-sweeps zero = length-bottoms
  length-sweeps (suc n) = length-sweep (sweeps l s n)

  sweeps_below : (u : List V) → IsSolution is_value l s u → (n : ℕ) → IsAtMost l (sweeps l s n) u
  sweeps_below u sol zero = joins.bottoms_at_most is_value l laws s.cells u sol.values
  sweeps_below u sol (suc n) =
      joins.at_most-trans is_value l laws (sweeps l s (suc n)) (sweep l s u) u (sweeps_values (suc n)) (sweep_values u sol.values) sol.values (sweep_monotone (sweeps l s n) u (sweeps_values n) sol.values (sweeps_below u sol n)) sol.swept

  sweeps_rise : (n : ℕ) → IsAtMost l (sweeps l s n) (sweeps l s (suc n))
  sweeps_rise zero = joins.bottoms_at_most is_value l laws s.cells (sweeps l s 1) (sweeps_values 1)
  sweeps_rise (suc n) = sweep_monotone (sweeps l s n) (sweeps l s (suc n)) (sweeps_values n) (sweeps_values (suc n)) (sweeps_rise n)

  -- the ranks of a table's cells, together
  ranks : List V → ℕ
  ranks [] = 0
  ranks (x ∷ xs) = l.rank x + ranks xs

  ranks_within : (xs : List V) → AllByRecursion is_value xs → ranks xs ≤ l.height * length xs
  unfolding ranks
  ranks_within [] a = zero-le
  ranks_within (x ∷ xs) a = bound (l.rank x) (ranks xs) l.height (length xs) (laws.rank_within x a.0) (ranks_within xs a.1)
    where
      bound : (r m h k : ℕ) → r ≤ h → m ≤ h * k → r + m ≤ h * suc k
      bound r m h k p q = grind arith

  same_or_more : (xs ys : List V) → AllByRecursion is_value xs → AllByRecursion is_value ys → AllZip (λ x y. IsTrue (l.at_most x y)) xs ys → (ys ≡ xs) ⊎ (ranks xs < ranks ys)
  unfolding ranks
  same_or_more [] [] a b z = inl refl
  same_or_more [] (y ∷ ys) a b z = absurd z
  same_or_more (x ∷ xs) [] a b z = absurd z
  same_or_more (x ∷ xs) (y ∷ ys) a b z =
      elim (cases_Bool (l.at_most y x)) [
        | inl t ↦ let e = laws.antisymmetric y x b.0 a.0 t z.0 in
            elim (same_or_more xs ys a.1 b.1 z.1) [ inl f ↦ inl (ap (λ v. v ∷ ys) e ∙ ap (λ vs. x ∷ vs) f) | inr m ↦ inr (more_rest (l.rank x) (l.rank y) (ranks xs) (ranks ys) (ap l.rank e) m) ]
        | inr f ↦
            let m = laws.rank_rises x y a.0 b.0 z.0 (λ e. false≢true (sym f ∙ subst (λ v. l.at_most y v ≡ true) (sym e) (laws.reflexive y b.0))) in
            inr (more_first (l.rank x) (l.rank y) (ranks xs) (ranks ys) m (elim (same_or_more xs ys a.1 b.1 z.1) [ inl g ↦ at_most_same xs ys g | inr k ↦ at_most_more (ranks xs) (ranks ys) k ]))
      ]
    where
      more_rest : (p q m n : ℕ) → q ≡ p → m < n → p + m < q + n
      more_rest p q m n e h = omega arith

      more_first : (p q m n : ℕ) → p < q → m ≤ n → p + m < q + n
      more_first p q m n h k = omega arith

      at_most_more : (m n : ℕ) → m < n → m ≤ n
      at_most_more m n h = omega arith

      at_most_same : (xs ys : List V) → ys ≡ xs → ranks xs ≤ ranks ys
      at_most_same xs ys e = subst (λ v. ranks v ≤ ranks ys) e (omega arith)

  -- the values of a table, as a list
  pub each_value : (t : List V) → AreValues t → AllByRecursion is_value t
  each_value [] v = tt
  each_value (x ∷ xs) v = (v 0, each_value xs (λ c. v (suc c)))

  pub each_at_most : (t u : List V) → length t ≡ length u → IsAtMost l t u → AllZip (λ x y. IsTrue (l.at_most x y)) t u
  each_at_most [] [] e h = tt
  each_at_most [] (y ∷ ys) e h = absurd (not_long (length ys) e)
    where
      not_long : (n : ℕ) → zero ≡ suc n → ⊥
      not_long n e = omega arith
  each_at_most (x ∷ xs) [] e h = absurd (not_long (length xs) e)
    where
      not_long : (n : ℕ) → suc n ≡ zero → ⊥
      not_long n e = omega arith
  each_at_most (x ∷ xs) (y ∷ ys) e h = (h 0, each_at_most xs ys (less (length xs) (length ys) e) (λ c. h (suc c)))
    where
      less : (m n : ℕ) → suc m ≡ suc n → m ≡ n
      less m n e = omega arith

  one_more_sweep : (n : ℕ) → (sweeps l s (suc n) ≡ sweeps l s n) ⊎ (ranks (sweeps l s n) < ranks (sweeps l s (suc n)))
  one_more_sweep n =
      same_or_more (sweeps l s n) (sweeps l s (suc n)) (each_value (sweeps l s n) (sweeps_values n)) (each_value (sweeps l s (suc n)) (sweeps_values (suc n)))
      (each_at_most (sweeps l s n) (sweeps l s (suc n)) (length-sweeps n ∙ sym (length-sweeps (suc n))) (sweeps_rise n))

  -- either a sweep changes nothing any more, or each sweep so far raised some rank
  settled_or_ranked : (n : ℕ) → (sweeps l s (suc n) ≡ sweeps l s n) ⊎ (n < ranks (sweeps l s (suc n)))
  settled_or_ranked zero = elim (one_more_sweep zero) [ inl e ↦ inl e | inr h ↦ inr (some_more (ranks (sweeps l s 0)) (ranks (sweeps l s 1)) h) ]
    where
      some_more : (m n : ℕ) → m < n → 0 < n
      some_more m n h = omega arith
  settled_or_ranked (suc n) =
      elim (settled_or_ranked n) [
        | inl e ↦ inl (ap (sweep l s) e)
        | inr h ↦ elim (one_more_sweep (suc n)) [ inl e ↦ inl e | inr k ↦ inr (one_more n (ranks (sweeps l s (suc n))) (ranks (sweeps l s (suc (suc n)))) h k) ]
      ]
    where
      one_more : (n a b : ℕ) → n < a → a < b → suc n < b
      one_more n a b h k = omega arith

  pub least_swept : sweep l s (least l s) ≡ least l s
  least_swept =
      elim (settled_or_ranked ((l.height + 1) * s.cells)) [
        | inl e ↦ e
        | inr h ↦
            let n : ℕ = (l.height + 1) * s.cells in
            absurd (too_high l.height s.cells (ranks (sweeps l s (suc n))) (length (sweeps l s (suc n))) (length-sweeps (suc n)) h (ranks_within (sweeps l s (suc n)) (each_value (sweeps l s (suc n)) (sweeps_values (suc n)))))
      ]
    where
      too_high : (h c r m : ℕ) → m ≡ c → (h + 1) * c < r → r ≤ h * m → ⊥
      too_high h c r m e p q = subst (λ k. r ≤ h * k → ⊥) (sym e) (λ q. grind arith) q

  pub least_values : AreValues (least l s)
  least_values = sweeps_values ((l.height + 1) * s.cells)

  pub length-least : length (least l s) ≡ s.cells
  length-least = length-sweeps ((l.height + 1) * s.cells)

  pub least_solves : IsSolution is_value l s (least l s)
  least_solves = record {
    cells = length-least;
    values = least_values;
    swept = subst (λ t. IsAtMost l t (least l s)) (sym least_swept) (joins.at_most-refl is_value l laws (least l s) least_values);
  }

  pub least_below : (u : List V) → IsSolution is_value l s u → IsAtMost l (least l s) u
  least_below u sol = sweeps_below u sol ((l.height + 1) * s.cells)

  -- a table that is at least the starts and what each node makes of it is a solution
  pub solves : (t : List V) → length t ≡ s.cells → AreValues t → AllByRecursion (IsWithin t) s.starts → ((n : ℕ) → n < s.nodes → AllByRecursion (IsWithin t) (outputs_on l s t n)) → IsSolution is_value l s t
  solves t e v ws f = record { cells = e; values = v; swept = sweep_least t t v v ws f }

  -- two tables of values that are at most each other are one
  pub same_table : (t u : List V) → length t ≡ s.cells → length u ≡ s.cells → AreValues t → AreValues u → IsAtMost l t u → IsAtMost l u t → t ≡ u
  same_table t u et eu tv uv h k = ext_get_or l.bottom t u (et ∙ sym eu) (λ c i. laws.antisymmetric _ _ (tv c) (uv c) (h c) (k c))
