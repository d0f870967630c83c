-- The loops with which a coordinator opens.
use Rattle.std.proofs.Common.{◌≡◌, ℕ, zero, suc, ◌+◌, ◌<◌, inl, inr, Bool, true, false, ◌||◌, cond, List, [], ◌∷◌, ◌++◌, length, get_or, set, take, nat_eq, ◌==◌, refl, sym, ap, ◌∙◌, subst, arith, get_or-set_same, get_or-set_other, eq-eqb, ne_eqb, add-one, append-nil}
use Rattle.std.specs.List.{list_any, filter}
use Rattle.std.proofs.lemmas.Bool.{cases_eq, cases_Bool}
use Rattle.std.proofs.lemmas.List.Folds.{list_any_more}
use Rattle.std.proofs.lemmas.List.Elements.{filter-append}
use Rattle.coord_core.specs.Tables.{numbers_below}
use Rattle.coord_core.specs.States.{with_node}
use Rattle.coord_core.proofs.Lists.{each_filter, each_has}
use Rattle.coord_core.proofs.Distinct.{each_is_below}

or_true : (a b : Bool) → b ≡ true → (a || b) ≡ true
or_true true b e = refl
or_true false b e = e

or_false : (a b : Bool) → b ≡ false → (a || b) ≡ a
or_false true b e = refl
or_false false b e = e

-- one more start is marked
pub marked_more : {V : Type 0} (n : ℕ) (flags : List Bool) (starts : List (ℕ × V)) (i : ℕ) (x : ℕ × V) → length flags ≡ n → ((cell : ℕ) → cell < n → get_or flags cell false ≡ list_any (λ start. start.0 == cell) (take i starts)) → i < length starts → x ≡ get_or starts i x → x.0 < n → (cell : ℕ) → cell < n → get_or (set flags x.0 true) cell false ≡ list_any (λ start. start.0 == cell) (take (i + 1) starts)
marked_more n flags starts i x e f h is k cell c =
    let more = list_any_more (λ start. start.0 == cell) starts i x h in
    elim (cases_eq cell x.0) [
      | inl same ↦
          subst (λ d. get_or (set flags x.0 true) d false ≡ true) (sym same) (get_or-set_same flags x.0 true false (subst (λ m. x.0 < m) (sym e) k))
          ∙ sym (more ∙ or_true (list_any (λ start. start.0 == cell) (take i starts)) ((get_or starts i x).0 == cell) (eq-eqb _ cell (sym (ap (λ y. y.0) is) ∙ sym same)))
      | inr ne ↦ get_or-set_other flags x.0 cell true false ne ∙ (f cell c ∙ sym (more ∙ or_false (list_any (λ start. start.0 == cell) (take i starts)) ((get_or starts i x).0 == cell) (ne_eqb _ cell (λ y. ne (sym (ap (λ y. y.0) is ∙ y))))))
    ]

pub start_in_range : {V : Type 0} (n : ℕ) (starts : List (ℕ × V)) (i : ℕ) (x : ℕ × V) → ((k : ℕ) (d : ℕ × V) → k < length starts → (get_or starts k d).0 < n) → i < length starts → x ≡ get_or starts i x → x.0 < n
start_in_range n starts i x f h is = subst (λ y. y.0 < n) (sym is) (f i x h)

not_yet : (p : ℕ → Bool) (n : ℕ) → list_any (nat_eq n) (filter p (numbers_below n)) ≡ false
not_yet p n =
    elim (cases_Bool (list_any (nat_eq n) (filter p (numbers_below n)))) [
      | inl t ↦ absurd (omega (arith, each_has (λ k. k < n) n (filter p (numbers_below n)) (each_filter (λ k. k < n) p (numbers_below n) (each_is_below n)) t))
      | inr f ↦ f
    ]

-- one more node, which is started or isn't
pub started_more : (p : ℕ → Bool) (n : ℕ) (q : List ℕ) → q ≡ filter p (numbers_below n) → p n ≡ true → with_node q n ≡ filter p (numbers_below (n + 1))
started_more p n q e t =
    rw add-one (rw (e, not_yet p n) (sym (filter-append p (numbers_below n) (n ∷ []) ∙ ap (λ b. filter p (numbers_below n) ++ cond b (n ∷ []) []) t)))

pub not_started_more : (p : ℕ → Bool) (n : ℕ) (q : List ℕ) → q ≡ filter p (numbers_below n) → p n ≡ false → q ≡ filter p (numbers_below (n + 1))
not_started_more p n q e f =
    rw add-one (e ∙ sym (filter-append p (numbers_below n) (n ∷ []) ∙ (ap (λ b. filter p (numbers_below n) ++ cond b (n ∷ []) []) f ∙ append-nil (filter p (numbers_below n)))))

-- what a flag says that was read
pub flag_read : (flags : List Bool) (cell : ℕ) (b t : Bool) → b ≡ get_or flags cell b → cell < length flags → get_or flags cell false ≡ t → b ≡ t
flag_read flags cell b t e h f = e ∙ (other_default flags cell b h ∙ f)
  where
    other_default : (flags : List Bool) (cell : ℕ) (b : Bool) → cell < length flags → get_or flags cell b ≡ get_or flags cell false
    other_default [] cell b h = absurd (omega arith)
    other_default (x ∷ flags) zero b h = refl
    other_default (x ∷ flags) (suc cell) b h = other_default flags cell b (omega arith)
