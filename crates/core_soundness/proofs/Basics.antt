-- Small facts of options, numbers, lists and texts.
use Rattle.std.proofs.Common.{◌≡◌, ℕ, List, [], ◌∷◌, ◌++◌, Option, Some, None, refl, sym, ap, ◌∙◌, subst, inl, inr}
use Rattle.std.specs.Prelude.{Bool, true, false, ◌&&◌, ◌⊎◌, unwrap_or, bytes_eq, nat_eq}
use Rattle.std.specs.List.{flat_map}
use Rattle.std.proofs.lemmas.Slice.Eq.{bytes_eq-Decides}
use Rattle.std.proofs.lemmas.Bool.Decides.{Decides-eqb}
use Rattle.std.proofs.lemmas.Grind.{flat_map-append}

pub some_same : {A : Type 0} (x y : A) → Some x ≡ Some y → x ≡ y
some_same x y p = ap (λ o. unwrap_or o x) p

abbrev IsThere : {A : Type 0} → Option A → Type 0
IsThere None = ⊥
IsThere (Some a) = Unit {0}

pub not_some : {A : Type 0} {x : A} → None ≡ Some x → ⊥
not_some {x = x} p = subst IsThere (sym p) tt

abbrev IsTrue : Bool → Type 0
IsTrue true = Unit {0}
IsTrue false = ⊥

pub not_true : false ≡ true → ⊥
not_true p = subst IsTrue (sym p) tt

pub none_or_some : {A : Type 0} (o : Option A) → (o ≡ None) ⊎ ((a : A) × (o ≡ Some a))
none_or_some None = inl refl
none_or_some (Some a) = inr (a, refl)

pub both_parts : (a b : Bool) → (a && b) ≡ true → (a ≡ true) × (b ≡ true)
both_parts true b p = (refl, p)
both_parts false b p = absurd (not_true p)

pub same_bytes : (xs ys : List ℕ) → bytes_eq xs ys ≡ true → xs ≡ ys
same_bytes xs ys is = (bytes_eq-Decides xs ys).0 is

pub bytes_same : (xs : List ℕ) → bytes_eq xs xs ≡ true
bytes_same xs = (bytes_eq-Decides xs xs).1 refl

pub same_numbers : (m n : ℕ) → nat_eq m n ≡ true → m ≡ n
same_numbers m n is = (Decides-eqb m n).0 is

pub numbers_same : (m n : ℕ) → m ≡ n → nat_eq m n ≡ true
numbers_same m n is = (Decides-eqb m n).1 is

abbrev IsEmpty : {A : Type 0} → List A → Type 0
IsEmpty [] = Unit {0}
IsEmpty (x ∷ xs) = ⊥

pub not_empty : {A : Type 0} (x : A) (xs : List A) → (x ∷ xs) ≡ [] → ⊥
not_empty x xs p = subst IsEmpty (sym p) tt

pub empty_left : {A : Type 0} (xs ys : List A) → xs ++ ys ≡ [] → xs ≡ []
empty_left [] ys p = refl
empty_left (x ∷ xs) ys p = absurd (not_empty x (xs ++ ys) p)

pub empty_right : {A : Type 0} (xs ys : List A) → xs ++ ys ≡ [] → ys ≡ []
empty_right [] ys p = p
empty_right (x ∷ xs) ys p = absurd (not_empty x (xs ++ ys) p)

module _ {A B : Type 0} (f : A → List B) where
  pub flat_left : (xs ys : List A) → flat_map f (xs ++ ys) ≡ [] → flat_map f xs ≡ []
  flat_left xs ys p = empty_left (flat_map f xs) (flat_map f ys) (sym (flat_map-append f xs ys) ∙ p)

  pub flat_right : (xs ys : List A) → flat_map f (xs ++ ys) ≡ [] → flat_map f ys ≡ []
  flat_right xs ys p = empty_right (flat_map f xs) (flat_map f ys) (sym (flat_map-append f xs ys) ∙ p)
