-- The tickets that are out: membership, the order of their numbers, and finding one by its number.
use Rattle.std.proofs.Common.{◌≡◌, ℕ, zero, suc, ◌+◌, ◌<◌, ◌⊎◌, inl, inr, Bool, true, false, not, List, [], ◌∷◌, ◌++◌, map, slice_index, ◌==◌, refl, sym, ap, ◌∙◌, subst, arith, eq-eqb, ne_eqb, Some}
use Rattle.std.specs.List.{AllByRecursion, Contains, filter, find}
use Rattle.std.specs.List.Sorted.{IsStrictlyIncreasing}
use Rattle.std.proofs.lemmas.Bool.{cases_Bool}
use Rattle.coord_core.specs.Tickets.{TicketView}
use Rattle.coord_core.specs.States.{has_number, is_given, without}
use Rattle.coord_core.proofs.Lists.{each-append}

-- x is one of the elements
abbrev pub IsIn : {X : Type 0} → X → List X → Type 0
IsIn x [] = ⊥
IsIn x (y ∷ ys) = (y ≡ x) ⊎ IsIn x ys

module _ {X : Type 0} where
  pub contains_from_in : (x : X) (xs : List X) → IsIn x xs → Contains xs x
  contains_from_in x [] h = absurd h
  contains_from_in x (y ∷ ys) (inl e) = (0, omega arith, e)
  contains_from_in x (y ∷ ys) (inr h) = let c = contains_from_in x ys h in (suc c.0, omega (arith, c.1), c.2)

  pub in_from_contains : (x : X) (xs : List X) → Contains xs x → IsIn x xs
  in_from_contains x [] c = absurd (omega (arith, c.1))
  in_from_contains x (y ∷ ys) (zero, h, e) = inl e
  in_from_contains x (y ∷ ys) (suc k, h, e) = inr (in_from_contains x ys (k, omega arith, e))

  pub in-append_left : (x : X) (xs ys : List X) → IsIn x xs → IsIn x (xs ++ ys)
  in-append_left x [] ys h = absurd h
  in-append_left x (y ∷ xs) ys (inl e) = inl e
  in-append_left x (y ∷ xs) ys (inr h) = inr (in-append_left x xs ys h)

  pub in_last : (x : X) (xs : List X) → IsIn x (xs ++ x ∷ [])
  in_last x [] = inl refl
  in_last x (y ∷ xs) = inr (in_last x xs)

  pub in-filter : (p : X → Bool) (x : X) (xs : List X) → p x ≡ true → IsIn x xs → IsIn x (filter p xs)
  in-filter p x [] t h = absurd h
  in-filter p x (y ∷ ys) t (inl e) = rw (subst (λ z. p z ≡ true) (sym e) t) (inl e)
  in-filter p x (y ∷ ys) t (inr h) = elim (cases_Bool (p y)) [ inl k ↦ rw k (inr (in-filter p x ys t h)) | inr k ↦ rw k (in-filter p x ys t h) ]

  pub each_in : (P : X → Type 0) (x : X) (xs : List X) → AllByRecursion P xs → IsIn x xs → P x
  each_in P x [] a h = absurd h
  each_in P x (y ∷ ys) a (inl e) = subst P e a.0
  each_in P x (y ∷ ys) a (inr h) = each_in P x ys a.1 h

  pub find_passes : (p : X → Bool) (xs : List X) (x : X) → find p xs ≡ Some x → IsIn x xs × (p x ≡ true)
  find_passes p [] x e = cc
  find_passes p (y ∷ ys) x e =
      elim (cases_Bool (p y)) [
        | inl t ↦ let same : y ≡ x = some_same y x (rw t at e) in (inl same, subst (λ z. p z ≡ true) same t)
        | inr f ↦ let r = find_passes p ys x (rw f at e) in (inr r.0, r.1)
      ]
    where
      some_same : (y x : X) → Some y ≡ Some x → y ≡ x
      some_same y x e = cc

module _ {V : Type 0} where
  -- the numbers of the tickets ascend
  abbrev pub Ascends : List (TicketView V) → Type 0
  Ascends [] = Unit {0}
  Ascends (t ∷ ts) = AllByRecursion (λ u. t.number < u.number) ts × Ascends ts

  pub ascends-push : (ts : List (TicketView V)) (t : TicketView V) → Ascends ts → AllByRecursion (λ u. u.number < t.number) ts → Ascends (ts ++ t ∷ [])
  ascends-push [] t a b = (tt, tt)
  ascends-push (u ∷ ts) t a b = (each-append (λ w. u.number < w.number) ts (t ∷ []) a.0 (b.0, tt), ascends-push ts t a.1 b.1)

  pub ascends-filter : (p : TicketView V → Bool) (ts : List (TicketView V)) → Ascends ts → Ascends (filter p ts)
  ascends-filter p [] a = tt
  ascends-filter p (t ∷ ts) a =
      elim (cases_Bool (p t)) [ inl k ↦ rw k (each_kept t ts a.0, ascends-filter p ts a.1) | inr k ↦ rw k (ascends-filter p ts a.1) ]
    where
      each_kept : (t : TicketView V) (ts : List (TicketView V)) → AllByRecursion (λ u. t.number < u.number) ts → AllByRecursion (λ u. t.number < u.number) (filter p ts)
      each_kept t [] a = tt
      each_kept t (u ∷ ts) a = elim (cases_Bool (p u)) [ inl k ↦ rw k (a.0, each_kept t ts a.1) | inr k ↦ rw k (each_kept t ts a.1) ]

  pub increasing-numbers : (ts : List (TicketView V)) → Ascends ts → IsStrictlyIncreasing (map (λ t. t.number) ts)
  increasing-numbers [] a k h = absurd (omega (arith, h))
  increasing-numbers (t ∷ []) a k h = absurd (omega (arith, h))
  increasing-numbers (t ∷ u ∷ ts) a zero h = a.0.0
  increasing-numbers (t ∷ u ∷ ts) a (suc k) h =
      subst (λ n. slice_index (map (λ (w : TicketView V). w.number) (u ∷ ts)) k < slice_index (map (λ (w : TicketView V). w.number) (t ∷ u ∷ ts)) n) (sym (one_more k)) (increasing-numbers (u ∷ ts) a.1 k (omega (arith, h)))
    where
      one_more : (k : ℕ) → suc k + 1 ≡ suc (k + 1)
      one_more k = omega arith

  -- a number names one ticket
  pub one_ticket : (ts : List (TicketView V)) (t u : TicketView V) → Ascends ts → IsIn t ts → IsIn u ts → t.number ≡ u.number → t ≡ u
  one_ticket [] t u a h k e = absurd h
  one_ticket (w ∷ ts) t u a (inl p) (inl q) e = sym p ∙ q
  one_ticket (w ∷ ts) t u a (inl p) (inr k) e =
      absurd (not_less w.number t.number u.number (ap (λ x. x.number) p) e (each_in (λ x. w.number < x.number) u ts a.0 k))
    where
      not_less : (w t u : ℕ) → w ≡ t → t ≡ u → w < u → ⊥
      not_less w t u p e h = omega arith
  one_ticket (w ∷ ts) t u a (inr h) (inl q) e =
      absurd (not_less w.number t.number u.number (ap (λ x. x.number) q) e (each_in (λ x. w.number < x.number) t ts a.0 h))
    where
      not_less : (w t u : ℕ) → w ≡ u → t ≡ u → w < t → ⊥
      not_less w t u p e h = omega arith
  one_ticket (w ∷ ts) t u a (inr h) (inr k) e = one_ticket ts t u a.1 h k e

  pub is_given_itself : (t : TicketView V) → is_given t.worker t.number t ≡ true
  is_given_itself t = rw (eq-eqb t.number t.number refl) (eq-eqb t.worker t.worker refl)

  -- a ticket that is out is found under its worker and number
  pub finds : (ts : List (TicketView V)) (t : TicketView V) → Ascends ts → IsIn t ts → find (is_given t.worker t.number) ts ≡ Some t
  finds [] t a h = absurd h
  finds (u ∷ ts) t a (inl e) = rw (subst (λ z. is_given t.worker t.number z ≡ true) (sym e) (is_given_itself t)) (ap Some e)
  finds (u ∷ ts) t a (inr h) = rw (other u.number t.number (each_in (λ x. u.number < x.number) t ts a.0 h)) (finds ts t a.1 h)
    where
      other : (m n : ℕ) → m < n → (m == n) ≡ false
      other m n h = ne_eqb m n (λ e. omega arith)

  -- another ticket stays
  pub stays : (ts : List (TicketView V)) (t u : TicketView V) → (u.number ≡ t.number → ⊥) → IsIn u ts → IsIn u (without t.number ts)
  stays ts t u ne h = in-filter (λ w. not (has_number t.number w)) u ts (rw (ne_eqb u.number t.number ne) refl) h
