-- Lists of numbers and of pairs: what holds of each element, membership, and how long a list without repeats is.
use Rattle.std.proofs.Common.{◌≡◌, ℕ, zero, suc, ◌<◌, ◌⊎◌, inl, inr, Bool, true, false, cond, List, [], ◌∷◌, ◌++◌, nat_eq, refl, sym, ap, subst, arith, eqb-true, eq-eqb}
use Rattle.std.specs.List.{All, AllByRecursion, list_any, flat_map, filter, Contains}
use Rattle.std.proofs.lemmas.Bool.{cases_eq, cases_Bool, false≢true}
use Rattle.coord_core.specs.Tables.{numbers_below}

module _ {X : Type 0} (P : X → Type 0) where
  pub each-append : (xs ys : List X) → AllByRecursion P xs → AllByRecursion P ys → AllByRecursion P (xs ++ ys)
  each-append [] ys a b = b
  each-append (x ∷ xs) ys a b = (a.0, each-append xs ys a.1 b)

  pub each-append_left : (xs ys : List X) → AllByRecursion P (xs ++ ys) → AllByRecursion P xs
  each-append_left [] ys a = tt
  each-append_left (x ∷ xs) ys a = (a.0, each-append_left xs ys a.1)

  pub each-append_right : (xs ys : List X) → AllByRecursion P (xs ++ ys) → AllByRecursion P ys
  each-append_right [] ys a = a
  each-append_right (x ∷ xs) ys a = each-append_right xs ys a.1

  pub each_filter : (p : X → Bool) (xs : List X) → AllByRecursion P xs → AllByRecursion P (filter p xs)
  each_filter p [] a = tt
  each_filter p (x ∷ xs) a =
      elim (p x) as (λ b. AllByRecursion P (cond b (x ∷ filter p xs) (filter p xs))) [ true ↦ (a.0, each_filter p xs a.1) | false ↦ each_filter p xs a.1 ]

  pub each_from_all : (xs : List X) → All P xs → AllByRecursion P xs
  each_from_all [] a = tt
  each_from_all (x ∷ xs) a = (a 0 x (omega arith), each_from_all xs (λ k d h. a (suc k) d (omega arith)))

  pub all_from_each : (xs : List X) → AllByRecursion P xs → All P xs
  all_from_each [] a k d h = absurd (omega arith)
  all_from_each (x ∷ xs) a zero d h = a.0
  all_from_each (x ∷ xs) a (suc k) d h = all_from_each xs a.1 k d (omega arith)

pub each_weaker : {X : Type 0} (P Q : X → Type 0) → ((x : X) → P x → Q x) → (xs : List X) → AllByRecursion P xs → AllByRecursion Q xs
each_weaker P Q f [] a = tt
each_weaker P Q f (x ∷ xs) a = (f x a.0, each_weaker P Q f xs a.1)

pub each_both : {X : Type 0} (P Q : X → Type 0) (xs : List X) → AllByRecursion P xs → AllByRecursion Q xs → AllByRecursion (λ x. P x × Q x) xs
each_both P Q [] a b = tt
each_both P Q (x ∷ xs) a b = ((a.0, b.0), each_both P Q xs a.1 b.1)

pub flat_map-append : {X Y : Type 0} (f : X → List Y) (xs ys : List X) → flat_map f (xs ++ ys) ≡ flat_map f xs ++ flat_map f ys
flat_map-append f [] ys = refl
flat_map-append f (x ∷ xs) ys = rw (flat_map-append f xs ys) (sym (append_three (f x) (flat_map f xs) (flat_map f ys)))
  where
    append_three : {Y : Type 0} (a b c : List Y) → (a ++ b) ++ c ≡ a ++ (b ++ c)
    append_three [] b c = refl
    append_three (x ∷ a) b c = ap (λ r. x ∷ r) (append_three a b c)

-- what holds of each element of what f makes of the numbers below n, and of f at each
module _ {Y : Type 0} (P : Y → Type 0) (f : ℕ → List Y) where
  pub each_below : (n k : ℕ) → AllByRecursion P (flat_map f (numbers_below n)) → k < n → AllByRecursion P (f k)
  each_below zero k a h = absurd (omega arith)
  each_below (suc n) k a h =
      let parts : AllByRecursion P (flat_map f (numbers_below n) ++ (f n ++ [])) = rw flat_map-append at a in
      elim (cases_eq k n) [
        | inl e ↦ subst (λ m. AllByRecursion P (f m)) (sym e) (each-append_left P (f n) [] (each-append_right P (flat_map f (numbers_below n)) (f n ++ []) parts))
        | inr ne ↦ each_below n k (each-append_left P (flat_map f (numbers_below n)) (f n ++ []) parts) (below ne)
      ]
    where
      below : (k ≡ n → ⊥) → k < n
      below ne = omega (arith, h)

  pub each_from_below : (n : ℕ) → ((k : ℕ) → k < n → AllByRecursion P (f k)) → AllByRecursion P (flat_map f (numbers_below n))
  each_from_below zero g = tt
  each_from_below (suc n) g =
      rw flat_map-append
      (each-append P (flat_map f (numbers_below n)) (f n ++ []) (each_from_below n (λ k h. g k (omega arith)))
      (each-append P (f n) [] (g n (omega arith)) tt))

-- membership
pub has-append_left : (n : ℕ) (xs ys : List ℕ) → list_any (nat_eq n) xs ≡ true → list_any (nat_eq n) (xs ++ ys) ≡ true
has-append_left n [] ys h = absurd (false≢true h)
has-append_left n (x ∷ xs) ys h =
    elim (cases_Bool (nat_eq n x)) [ inl e ↦ rw e refl | inr e ↦ rw e (has-append_left n xs ys (rw e at h)) ]

pub has_last : (n : ℕ) (xs : List ℕ) → list_any (nat_eq n) (xs ++ n ∷ []) ≡ true
has_last n [] = rw (eq-eqb n n refl) refl
has_last n (x ∷ xs) = elim (cases_Bool (nat_eq n x)) [ inl e ↦ rw e refl | inr e ↦ rw e (has_last n xs) ]

pub has-append_cases : (n : ℕ) (xs ys : List ℕ) → list_any (nat_eq n) (xs ++ ys) ≡ true → (list_any (nat_eq n) xs ≡ true) ⊎ (list_any (nat_eq n) ys ≡ true)
has-append_cases n [] ys h = inr h
has-append_cases n (x ∷ xs) ys h =
    elim (cases_Bool (nat_eq n x)) [ inl e ↦ inl (rw e refl) | inr e ↦ elim (has-append_cases n xs ys (rw e at h)) [ inl l ↦ inl (rw e l) | inr r ↦ inr r ] ]

pub has_from_contains : (n : ℕ) (xs : List ℕ) → Contains xs n → list_any (nat_eq n) xs ≡ true
has_from_contains n [] c = absurd (omega (arith, c.1))
has_from_contains n (x ∷ xs) (zero, h, e) = rw (eq-eqb n x (sym e)) refl
has_from_contains n (x ∷ xs) (suc k, h, e) =
    elim (cases_Bool (nat_eq n x)) [ inl t ↦ rw t refl | inr t ↦ rw t (has_from_contains n xs (k, omega arith, e)) ]

pub contains_from_has : (n : ℕ) (xs : List ℕ) → list_any (nat_eq n) xs ≡ true → Contains xs n
contains_from_has n [] h = absurd (false≢true h)
contains_from_has n (x ∷ xs) h =
    elim (cases_Bool (nat_eq n x)) [
      | inl t ↦ (0, omega arith, sym (eqb-true n x t))
      | inr t ↦ let c = contains_from_has n xs (rw t at h) in (suc c.0, omega (arith, c.1), c.2)
    ]

pub each_has : (P : ℕ → Type 0) (n : ℕ) (xs : List ℕ) → AllByRecursion P xs → list_any (nat_eq n) xs ≡ true → P n
each_has P n [] a h = absurd (false≢true h)
each_has P n (x ∷ xs) a h =
    elim (cases_Bool (nat_eq n x)) [ inl t ↦ subst P (sym (eqb-true n x t)) a.0 | inr t ↦ each_has P n xs a.1 (rw t at h) ]

pub each_from_has : (P : ℕ → Type 0) (xs : List ℕ) → ((n : ℕ) → list_any (nat_eq n) xs ≡ true → P n) → AllByRecursion P xs
each_from_has P [] f = tt
each_from_has P (x ∷ xs) f =
    (f x (rw (eq-eqb x x refl) refl), each_from_has P xs (λ n h. f n (elim (cases_Bool (nat_eq n x)) [ inl t ↦ rw t refl | inr t ↦ rw t h ])))
