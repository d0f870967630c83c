-- One output after another, as a loop over cells and values joins them.
use Rattle.std.proofs.Common.{◌≡◌, ℕ, zero, suc, ◌+◌, ◌<◌, ◌≤◌, Bool, true, false, List, [], ◌∷◌, length, get_or, drop, refl, sym, ap, ◌∙◌, subst, arith, if◌then◌else◌, add-one}
use Rattle.std.specs.List.{zip}
use Rattle.lattice_laws.specs.Lattices.{LatticeMeaning}
use Rattle.lattice_laws.specs.Systems.{SystemMeaning}
use Rattle.coord_core.specs.Tables.{joined, joined_all}
use Rattle.coord_core.specs.States.{rises, risen, queued_after, queue_after}

module _ {V : Type 0} where
  pub zip-rest : (cs : List ℕ) (vs : List V) (i : ℕ) (v : V) → i < length cs → i < length vs → v ≡ get_or vs i v → drop i (zip cs vs) ≡ (get_or cs i 0, v) ∷ drop (i + 1) (zip cs vs)
  zip-rest cs vs i v h k e = rw (add-one i) (rest cs vs i h k e)
    where
      rest : (cs : List ℕ) (vs : List V) (i : ℕ) → i < length cs → i < length vs → v ≡ get_or vs i v → drop i (zip cs vs) ≡ (get_or cs i 0, v) ∷ drop (suc i) (zip cs vs)
      rest [] vs i h k e = absurd (omega arith)
      rest (c ∷ cs) [] i h k e = absurd (omega arith)
      rest (c ∷ cs) (w ∷ vs) zero h k e = ap (λ x. (c, x) ∷ zip cs vs) (sym e)
      rest (c ∷ cs) (w ∷ vs) (suc i) h k e = rest cs vs i (omega arith) (omega arith) e

  drop_none : (i : ℕ) → drop {A = ℕ × V} i [] ≡ []
  drop_none zero = refl
  drop_none (suc i) = refl

  pub zip-end : (cs : List ℕ) (vs : List V) (i : ℕ) → length cs ≤ i → drop i (zip cs vs) ≡ []
  zip-end [] vs i h = drop_none i
  zip-end (c ∷ cs) [] i h = drop_none i
  zip-end (c ∷ cs) (v ∷ vs) zero h = absurd (omega arith)
  zip-end (c ∷ cs) (v ∷ vs) (suc i) h = zip-end cs vs i (omega arith)

module _ {V : Type 0} (l : LatticeMeaning V) (s : SystemMeaning V) (os rest : List (ℕ × V)) (o : ℕ × V) (is : os ≡ o ∷ rest) (t t1 : List V) (after : t1 ≡ joined l t o) where
  pub table_more : (whole : List V) → joined_all l t os ≡ whole → joined_all l t1 rest ≡ whole
  table_more whole h = subst (λ u. joined_all l u rest ≡ whole) (sym after) (subst (λ os. joined_all l t os ≡ whole) is h)

  pub queue_more : (q q1 whole : List ℕ) → q1 ≡ queued_after l s t q o → queue_after l s t q os ≡ whole → queue_after l s t1 q1 rest ≡ whole
  queue_more q q1 whole e h = subst (λ p. queue_after l s t1 p rest ≡ whole) (sym e) (subst (λ u. queue_after l s u (queued_after l s t q o) rest ≡ whole) (sym after) (subst (λ os. queue_after l s t q os ≡ whole) is h))

  pub risen_more : (n n1 whole : ℕ) → n1 ≡ n + (if rises l t o then 1 else 0) → n + risen l t os ≡ whole → n1 + risen l t1 rest ≡ whole
  risen_more n n1 whole e h =
      sums n n1 (if rises l t o then 1 else 0) (risen l t1 rest) whole e (subst (λ u. n + ((if rises l t o then 1 else 0) + risen l u rest) ≡ whole) (sym after) (subst (λ os. n + risen l t os ≡ whole) is h))
    where
      sums : (n n1 k r w : ℕ) → n1 ≡ n + k → n + (k + r) ≡ w → n1 + r ≡ w
      sums n n1 k r w e h = omega arith

pub one_if : (b c : Bool) (n m : ℕ) → c ≡ b → b ≡ true → m ≡ n + 1 → m ≡ n + (if c then 1 else 0)
one_if b c n m e t h = rw (e ∙ t) h

pub none_if : (b c : Bool) (n m : ℕ) → c ≡ b → b ≡ false → m ≡ n → m ≡ n + (if c then 1 else 0)
none_if b c n m e t h = rw (e ∙ t) (omega arith)

pub at_most_one : (n m i : ℕ) (b : Bool) → m ≡ n + (if b then 1 else 0) → n ≤ i → m ≤ i + 1
at_most_one n m i true e h = omega arith
at_most_one n m i false e h = omega arith
