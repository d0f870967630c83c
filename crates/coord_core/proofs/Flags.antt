-- The flags of a queue: which nodes wait.
use Rattle.std.proofs.Common.{◌≡◌, ℕ, zero, suc, ◌<◌, ◌⊎◌, inl, inr, Bool, true, false, ◌||◌, List, [], ◌∷◌, ◌++◌, length, get_or, set, replicate, nat_eq, refl, sym, ap, ◌∙◌, subst, length-set, get_or-set_same, get_or-set_other, eq-eqb, ne_eqb, true≢false}
use Rattle.std.specs.List.{list_any, IsDistinct}
use Rattle.std.proofs.lemmas.Bool.{cases_eq, cases_Bool}
use Rattle.std.proofs.lemmas.List.{get_or-replicate}
use Rattle.coord_core.proofs.Lists.{has_last, each_has}

abbrev pub FlagsSay : List Bool → List ℕ → Type 0
FlagsSay flags waiting = (node : ℕ) → node < length flags → get_or flags node false ≡ list_any (nat_eq node) waiting

same_truth : (a b : Bool) → (a ≡ true → b ≡ true) → (b ≡ true → a ≡ true) → a ≡ b
same_truth true true f g = refl
same_truth true false f g = sym (f refl)
same_truth false true f g = g refl
same_truth false false f g = refl

pub flags_none : (n : ℕ) → FlagsSay (replicate n false) []
flags_none n node h = get_or-replicate n node false false (subst (λ m. node < m) (long n) h)
  where
    long : (n : ℕ) → length (replicate n false) ≡ n
    long zero = refl
    long (suc n) = ap suc (long n)

has_other : (m n : ℕ) (q : List ℕ) → (m ≡ n → ⊥) → list_any (nat_eq m) (q ++ n ∷ []) ≡ list_any (nat_eq m) q
has_other m n [] ne = rw (ne_eqb m n ne) refl
has_other m n (x ∷ q) ne = ap (λ b. nat_eq m x || b) (has_other m n q ne)

pub flags_more : (flags : List Bool) (q : List ℕ) (n : ℕ) → FlagsSay flags q → n < length flags → FlagsSay (set flags n true) (q ++ n ∷ [])
flags_more flags q n f h m k =
    elim (cases_eq m n) [
      | inl e ↦ subst (λ m. get_or (set flags n true) m false ≡ list_any (nat_eq m) (q ++ n ∷ [])) (sym e) (get_or-set_same flags n true false h ∙ sym (has_last n q))
      | inr ne ↦ get_or-set_other flags n m true false ne ∙ (f m (subst (λ j. m < j) (length-set flags n true) k) ∙ sym (has_other m n q ne))
    ]

pub flags_less : (flags : List Bool) (q : List ℕ) (n : ℕ) → IsDistinct nat_eq (n ∷ q) → FlagsSay flags (n ∷ q) → n < length flags → FlagsSay (set flags n false) q
unfolding IsDistinct
flags_less flags q n d f h m k =
    elim (cases_eq m n) [
      | inl e ↦ subst (λ m. get_or (set flags n false) m false ≡ list_any (nat_eq m) q) (sym e) (get_or-set_same flags n false false h ∙ not_there (cases_Bool (list_any (nat_eq n) q)))
      | inr ne ↦ get_or-set_other flags n m false false ne ∙ (f m (subst (λ j. m < j) (length-set flags n false) k) ∙ ap (λ b. b || list_any (nat_eq m) q) (ne_eqb m n ne))
    ]
  where
    not_there : (list_any (nat_eq n) q ≡ true) ⊎ (list_any (nat_eq n) q ≡ false) → false ≡ list_any (nat_eq n) q
    not_there (inl t) = absurd (true≢false (sym (eq-eqb n n refl) ∙ each_has (λ y. nat_eq n y ≡ false) n q d.0 t))
    not_there (inr e) = sym e

-- a flag that is read as false
pub not_waiting : (flags : List Bool) (q : List ℕ) (n : ℕ) (b : Bool) → FlagsSay flags q → n < length flags → b ≡ get_or flags n b → b ≡ false → list_any (nat_eq n) q ≡ false
not_waiting flags q n b f h e z = sym (f n h) ∙ sym (subst (λ b. b ≡ get_or flags n b) z e)
