-- Lists of numbers without repeats, how long they are, and sums over a list of numbers.
use Rattle.std.proofs.Common.{◌≡◌, ℕ, zero, suc, ◌+◌, ◌<◌, ◌≤◌, inl, inr, Bool, true, false, cond, List, [], ◌∷◌, ◌++◌, length, get_or, nat_eq, refl, sym, ap, ◌∙◌, subst, arith, length-append, zero-le, eqb-true, eq-eqb, ne_eqb, true≢false, drop}
use Rattle.std.specs.List.{AllByRecursion, list_any, filter, sum_by, IsDistinct}
use Rattle.std.specs.List.Sorted.{IsStrictlyIncreasing}
use Rattle.std.proofs.lemmas.Bool.{cases_eq, cases_Bool, false≢true, eqb-false}
use Rattle.std.proofs.lemmas.List.Recursion.{is_sum_by}
use Rattle.coord_core.specs.Tables.{numbers_below}
use Rattle.coord_core.proofs.Lists.{each-append, each_weaker, each_has, has-append_left, has_last}

pub distinct-push : (xs : List ℕ) (n : ℕ) → IsDistinct nat_eq xs → list_any (nat_eq n) xs ≡ false → IsDistinct nat_eq (xs ++ n ∷ [])
unfolding IsDistinct
distinct-push [] n d h = (tt, tt)
distinct-push (x ∷ xs) n d h =
    elim (cases_Bool (nat_eq n x)) [
      | inl t ↦ absurd (true≢false (rw t at h))
      | inr f ↦
          (each-append (λ y. nat_eq x y ≡ false) xs (n ∷ []) d.0 (ne_eqb x n (λ e. eqb-false n x f (sym e)), tt), distinct-push xs n d.1 (rw f at h))
    ]

pub distinct-rest : (xs : List ℕ) → IsDistinct nat_eq xs → IsDistinct nat_eq (drop 1 xs)
unfolding IsDistinct
distinct-rest [] d = tt
distinct-rest (x ∷ xs) d = d.1

-- ys without the first n
without_one : ℕ → List ℕ → List ℕ
without_one n [] = []
without_one n (y ∷ ys) = cond (nat_eq n y) ys (y ∷ without_one n ys)

length-without_one : (n : ℕ) (ys : List ℕ) → list_any (nat_eq n) ys ≡ true → length ys ≡ suc (length (without_one n ys))
unfolding without_one
length-without_one n [] h = absurd (false≢true h)
length-without_one n (y ∷ ys) h =
    elim (cases_Bool (nat_eq n y)) [ inl t ↦ rw t refl | inr f ↦ rw f (ap suc (length-without_one n ys (rw f at h))) ]

has-without_one : (m n : ℕ) (ys : List ℕ) → nat_eq n m ≡ false → list_any (nat_eq m) ys ≡ true → list_any (nat_eq m) (without_one n ys) ≡ true
unfolding without_one
has-without_one m n [] ne h = h
has-without_one m n (y ∷ ys) ne h =
    elim (cases_Bool (nat_eq n y)) [
      | inl t ↦ rw t (elim (cases_Bool (nat_eq m y)) [
        | inl s ↦ absurd (true≢false (sym (eq-eqb n m (eqb-true n y t ∙ sym (eqb-true m y s))) ∙ ne))
        | inr f ↦ rw f at h
      ])
      | inr g ↦ rw g (elim (cases_Bool (nat_eq m y)) [ inl s ↦ rw s refl | inr f ↦ rw f (has-without_one m n ys ne (rw f at h)) ])
    ]

-- a list without repeats of which each element is in another is no longer than that
pub distinct_within : (xs ys : List ℕ) → IsDistinct nat_eq xs → ((n : ℕ) → list_any (nat_eq n) xs ≡ true → list_any (nat_eq n) ys ≡ true) → length xs ≤ length ys
unfolding IsDistinct
distinct_within [] ys d f = zero-le
distinct_within (x ∷ xs) ys d f =
    let here : list_any (nat_eq x) ys ≡ true = f x (rw (eq-eqb x x refl) refl) in
    let rest : length xs ≤ length (without_one x ys) = distinct_within xs (without_one x ys) d.1 (λ n h. has-without_one n x ys (each_has (λ y. nat_eq x y ≡ false) n xs d.0 h) (f n (elim (cases_Bool (nat_eq n x)) [ inl t ↦ rw t refl | inr t ↦ rw t h ]))) in
    omega (arith, length-without_one x ys here, rest)

pub has_below : (n k : ℕ) → k < n → list_any (nat_eq k) (numbers_below n) ≡ true
has_below zero k h = absurd (omega arith)
has_below (suc n) k h =
    elim (cases_eq k n) [
      | inl e ↦ rw e (has_last n (numbers_below n))
      | inr ne ↦ has-append_left k (numbers_below n) (n ∷ []) (has_below n k (omega (arith, ne, h)))
    ]

pub each_is_below : (n : ℕ) → AllByRecursion (λ k. k < n) (numbers_below n)
each_is_below zero = tt
each_is_below (suc n) = each-append (λ k. k < suc n) (numbers_below n) (n ∷ []) (each_weaker (λ k. k < n) (λ k. k < suc n) (λ k h. omega arith) (numbers_below n) (each_is_below n)) (omega arith, tt)

pub length-numbers_below : (n : ℕ) → length (numbers_below n) ≡ n
length-numbers_below zero = refl
length-numbers_below (suc n) = rw length-append (omega (arith, length-numbers_below n))

-- without repeats and below n: at most n
pub distinct_below : (n : ℕ) (xs : List ℕ) → IsDistinct nat_eq xs → AllByRecursion (λ k. k < n) xs → length xs ≤ n
distinct_below n xs d b = subst (λ m. length xs ≤ m) (length-numbers_below n) (distinct_within xs (numbers_below n) d (λ k h. has_below n k (each_has (λ k. k < n) k xs b h)))

-- one more, which isn't among them, still leaves at most n
pub distinct_room : (n k : ℕ) (xs : List ℕ) → IsDistinct nat_eq xs → AllByRecursion (λ k. k < n) xs → k < n → list_any (nat_eq k) xs ≡ false → length xs < n
distinct_room n k xs d b h f =
    let p : length (xs ++ k ∷ []) ≤ n = distinct_below n (xs ++ k ∷ []) (distinct-push xs k d f) (each-append (λ k. k < n) xs (k ∷ []) b (h, tt)) in
    omega (arith, length-append xs (k ∷ []), p)

-- ascending lists
increasing-rest : (x : ℕ) (xs : List ℕ) → IsStrictlyIncreasing (x ∷ xs) → IsStrictlyIncreasing xs
increasing-rest x xs f k h =
    subst (λ m. get_or xs k 0 < get_or (x ∷ xs) m 0) (one_more k) (f (suc k) (omega (arith, h)))
  where
    one_more : (k : ℕ) → suc k + 1 ≡ suc (k + 1)
    one_more k = omega arith

above_first : (low : ℕ) (xs : List ℕ) → IsStrictlyIncreasing (low ∷ xs) → AllByRecursion (λ y. low < y) xs
above_first low [] f = tt
above_first low (y ∷ ys) f =
    let first : low < y = f 0 (omega arith) in
    (first, each_weaker (λ z. y < z) (λ z. low < z) (λ z h. omega (arith, h, first)) ys (above_first y ys (increasing-rest low (y ∷ ys) f)))

pub distinct_from_increasing : (xs : List ℕ) → IsStrictlyIncreasing xs → IsDistinct nat_eq xs
unfolding IsDistinct
distinct_from_increasing [] f = tt
distinct_from_increasing (x ∷ xs) f =
    (each_weaker (λ y. x < y) (λ y. nat_eq x y ≡ false) (λ y h. ne_eqb x y (λ e. omega (arith, e, h))) xs (above_first x xs f), distinct_from_increasing xs (increasing-rest x xs f))

-- the sum of f over a list
abbrev pub total : (ℕ → ℕ) → List ℕ → ℕ
total f [] = 0
total f (x ∷ xs) = f x + total f xs

pub total-sum_by : (f : ℕ → ℕ) (xs : List ℕ) → total f xs ≡ sum_by f xs
total-sum_by f xs = is_sum_by (total f) f refl (λ _ _. refl) xs

pub total_at_most : (f g : ℕ → ℕ) → ((n : ℕ) → f n ≤ g n) → (xs : List ℕ) → total f xs ≤ total g xs
total_at_most f g h [] = zero-le
total_at_most f g h (x ∷ xs) = omega (arith, h x, total_at_most f g h xs)

pub sum_rises : (f g : ℕ → ℕ) (p : ℕ → Bool) → ((n : ℕ) → f n + cond (p n) 1 0 ≤ g n) → (xs : List ℕ) → total f xs + length (filter p xs) ≤ total g xs
sum_rises f g p h [] = omega arith
sum_rises f g p h (x ∷ xs) =
    elim (cases_Bool (p x)) [
      | inl t ↦ rw t (both_more (f x) (g x) (total f xs) (total g xs) (length (filter p xs)) (rw t at (h x)) (sum_rises f g p h xs))
      | inr t ↦ rw t (both (f x) (g x) (total f xs) (total g xs) (length (filter p xs)) (rw t at (h x)) (sum_rises f g p h xs))
    ]
  where
    both_more : (a b m n k : ℕ) → a + 1 ≤ b → m + k ≤ n → (a + m) + suc k ≤ b + n
    both_more a b m n k h j = omega arith

    both : (a b m n k : ℕ) → a + 0 ≤ b → m + k ≤ n → (a + m) + k ≤ b + n
    both a b m n k h j = omega arith

pub has-filter : (p : ℕ → Bool) (n : ℕ) (xs : List ℕ) → list_any (nat_eq n) xs ≡ true → p n ≡ true → list_any (nat_eq n) (filter p xs) ≡ true
has-filter p n [] h q = h
has-filter p n (x ∷ xs) h q =
    elim (cases_Bool (nat_eq n x)) [
      | inl t ↦ rw (subst (λ m. p m ≡ true) (eqb-true n x t) q) (rw t refl)
      | inr f ↦ elim (cases_Bool (p x)) [
        | inl t ↦ rw t (rw f (has-filter p n xs (rw f at h) q))
        | inr t ↦ rw t (has-filter p n xs (rw f at h) q)
      ]
    ]

pub has-filter_passes : (p : ℕ → Bool) (n : ℕ) (xs : List ℕ) → list_any (nat_eq n) (filter p xs) ≡ true → p n ≡ true
has-filter_passes p n [] h = absurd (false≢true h)
has-filter_passes p n (x ∷ xs) h =
    elim (cases_Bool (p x)) [
      | inl t ↦ let h' = rw t at h in elim (cases_Bool (nat_eq n x)) [ inl e ↦ subst (λ m. p m ≡ true) (sym (eqb-true n x e)) t | inr f ↦ has-filter_passes p n xs (rw f at h') ]
      | inr t ↦ has-filter_passes p n xs (rw t at h)
    ]

pub distinct-filter : (p : ℕ → Bool) (xs : List ℕ) → IsDistinct nat_eq xs → IsDistinct nat_eq (filter p xs)
unfolding IsDistinct
distinct-filter p [] d = tt
distinct-filter p (x ∷ xs) d =
    elim (cases_Bool (p x)) [ inl t ↦ rw t (each_filtered x xs d.0, distinct-filter p xs d.1) | inr t ↦ rw t (distinct-filter p xs d.1) ]
  where
    each_filtered : (x : ℕ) (xs : List ℕ) → AllByRecursion (λ y. nat_eq x y ≡ false) xs → AllByRecursion (λ y. nat_eq x y ≡ false) (filter p xs)
    each_filtered x [] a = tt
    each_filtered x (y ∷ ys) a = elim (cases_Bool (p y)) [ inl t ↦ rw t (a.0, each_filtered x ys a.1) | inr t ↦ rw t (each_filtered x ys a.1) ]

pub distinct_numbers : (n : ℕ) → IsDistinct nat_eq (numbers_below n)
unfolding IsDistinct
distinct_numbers zero = tt
distinct_numbers (suc n) = distinct-push (numbers_below n) n (distinct_numbers n) (elim (cases_Bool (list_any (nat_eq n) (numbers_below n))) [ inl t ↦ absurd (omega (arith, each_has (λ k. k < n) n (numbers_below n) (each_is_below n) t)) | inr f ↦ f ])

pub length-filter_le : (p : ℕ → Bool) (xs : List ℕ) → length (filter p xs) ≤ length xs
length-filter_le p [] = zero-le
length-filter_le p (x ∷ xs) = elim (cases_Bool (p x)) [ inl t ↦ rw t (omega (arith, length-filter_le p xs)) | inr t ↦ rw t (omega (arith, length-filter_le p xs)) ]
