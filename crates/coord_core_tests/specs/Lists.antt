-- Lists of one and of two elements, and outputs that are bottom where the first need is.
use Rattle.std.proofs.Common.{◌≡◌, ℕ, zero, suc, ◌<◌, ◌≤◌, ◌⊎◌, inl, inr, ◌==◌, Bool, false, List, [], ◌∷◌, length, slice_index, IsTrue, refl, arith, leb-true, eq-eqb, ne_eqb, if◌then◌else◌}
use Rattle.std.specs.List.{All, AllZip, Contains, IsDistinct}
use Rattle.std.specs.List.Sorted.{IsStrictlyIncreasing}
use Rattle.std.proofs.lemmas.Bool.{cases_Bool, eqb-false}
use Rattle.std.proofs.lemmas.List.Elements.{AllZip-get_or}
use Rattle.lattice_laws.specs.Systems.{IsOneForEach}
use Rattle.coord_core_tests.specs.Levels.{IsLevel, levels}

pub all_one : {X : Type 0} (P : X → Type 0) (a : X) → P a → All P (a ∷ [])
all_one P a p zero d h = p
all_one P a p (suc k) d h = absurd (omega arith)

pub all_two : {X : Type 0} (P : X → Type 0) (a b : X) → P a → P b → All P (a ∷ b ∷ [])
all_two P a b p q zero d h = p
all_two P a b p q (suc zero) d h = q
all_two P a b p q (suc (suc k)) d h = absurd (omega arith)

pub increasing_one : (a : ℕ) → IsStrictlyIncreasing (a ∷ [])
increasing_one a k h = absurd (omega arith)

pub increasing_two : (a b : ℕ) → a < b → IsStrictlyIncreasing (a ∷ b ∷ [])
increasing_two a b l zero h = l
increasing_two a b l (suc k) h = absurd (omega arith)

pub contains_one : (a x : ℕ) → Contains (a ∷ []) x → a ≡ x
contains_one a x (zero, h, e) = e
contains_one a x (suc k, h, e) = absurd (omega arith)

pub contains_two : (a b x : ℕ) → Contains (a ∷ b ∷ []) x → (a ≡ x) ⊎ (b ≡ x)
contains_two a b x (zero, h, e) = inl e
contains_two a b x (suc zero, h, e) = inr e
contains_two a b x (suc (suc k), h, e) = absurd (omega arith)

pub the_one : (a : ℕ) → Contains (a ∷ []) a
the_one a = (0, omega arith, refl)

pub first_of_two : (a b : ℕ) → Contains (a ∷ b ∷ []) a
first_of_two a b = (0, omega arith, refl)

pub second_of_two : (a b : ℕ) → Contains (a ∷ b ∷ []) b
second_of_two a b = (1, omega arith, refl)

pub distinct_one : {X : Type 0} (e : X → X → Bool) (a : X) → IsDistinct e (a ∷ [])
unfolding IsDistinct
distinct_one e a = (tt, tt)

pub distinct_two : {X : Type 0} (e : X → X → Bool) (a b : X) → e a b ≡ false → IsDistinct e (a ∷ b ∷ [])
unfolding IsDistinct
distinct_two e a b h = ((h, tt), (tt, tt))

-- the second of two values of levels
pub second_is_level : (cs xs : List ℕ) → length cs ≡ 2 → IsOneForEach IsLevel cs xs → IsLevel (slice_index xs 1)
second_is_level cs xs e o = o.1 1 0 (omega (arith, o.0, e))

abbrev pub AreUpTo : List ℕ → List ℕ → Type 0
AreUpTo xs ys = AllZip (λ x y. IsTrue (levels.at_most x y)) xs ys

pub up_to_at : (xs ys : List ℕ) (i : ℕ) → AreUpTo xs ys → i < length xs → slice_index xs i ≤ slice_index ys i
up_to_at xs ys i z h = leb-true _ _ (AllZip-get_or (λ x y. IsTrue (levels.at_most x y)) xs ys i 0 0 z h)

-- where the first need isn't bottom, what is given rises with the rest; where it is, bottoms are given
pub guarded_rises : (a b : ℕ) (zeros ps qs : List ℕ) → a ≤ b → AreUpTo zeros zeros → AreUpTo zeros qs → AreUpTo ps qs → AreUpTo (if a == 0 then zeros else ps) (if b == 0 then zeros else qs)
guarded_rises a b zeros ps qs h zz zq pq =
    elim (cases_Bool (a == 0)) [
      | inl e ↦ elim (cases_Bool (b == 0)) [ inl f ↦ rw (e, f) zz | inr f ↦ rw (e, f) zq ]
      | inr e ↦ rw e (rw (ne_eqb b 0 (λ z. eqb-false a 0 e (none z h))) pq)
    ]
  where
    none : b ≡ 0 → a ≤ b → a ≡ 0
    none z h = omega arith

pub guarded_is : (P : List ℕ → Type 0) (a : ℕ) (zeros ps : List ℕ) → P zeros → P ps → P (if a == 0 then zeros else ps)
guarded_is P a zeros ps z p = elim (cases_Bool (a == 0)) [ inl e ↦ rw e z | inr e ↦ rw e p ]

pub guarded_none : (P : List ℕ → Type 0) (a : ℕ) (zeros ps : List ℕ) → a ≡ 0 → P zeros → P (if a == 0 then zeros else ps)
guarded_none P a zeros ps e z = rw (eq-eqb a 0 e) z
