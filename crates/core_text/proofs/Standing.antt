-- What is read of a text stands there: so many bytes at its beginning spell the value.
use Rattle.std.proofs.Common.{◌≡◌, ℕ, Bool, true, false, cond, nat_eq, List, Option, Some, refl, subst, arith}
use Rattle.std.proofs.lemmas.Bool.Decides.{nat_tests}
use Rattle.core_text.specs.Prefixes.{BeginsWith}

pub is_equal : (a b : ℕ) → nat_eq a b ≡ true → b ≡ a
is_equal a b h = grind (arith, nat_tests)

-- what holds of each of two, where the test picks it, holds of the one that is picked
pub split : {A : Type 0} (P : A → Type 0) (b : Bool) (x y : A) → (b ≡ true → P x) → (b ≡ false → P y) → P (cond b x y)
split P true x y f g = f refl
split P false x y f g = g refl

-- what is read, if anything is, has a value and a length: so many bytes spell the value by R
abbrev pub Stands : {X : Type 0} (value size : X → ℕ) (R : ℕ → List ℕ → List ℕ → Type 0) → List ℕ → Option X → Type 0
Stands {X} value size R s r = (x : X) → r ≡ Some x → BeginsWith (R (value x)) s (size x)

same_some : {X : Type 0} (x y : X) → ◌≡◌ {A = Option X} (Some x) (Some y) → x ≡ y
same_some x y e = cc

pub stands : {X : Type 0} (value size : X → ℕ) (R : ℕ → List ℕ → List ℕ → Type 0) (s : List ℕ) (x : X) → BeginsWith (R (value x)) s (size x) → Stands value size R s (Some x)
stands value size R s x b y is = subst (λ y. BeginsWith (R (value y)) s (size y)) (same_some x y is) b
