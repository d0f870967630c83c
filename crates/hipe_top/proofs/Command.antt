-- Arguments that are compared with the two of the command.
use Rattle.std.proofs.Common.{◌≡◌, ℕ, ◌<◌, ◌≤◌, List, [], ◌∷◌, length, get_or, sym, ap, ◌∙◌, arith}
use Rattle.std.specs.Prelude.{◌↔◌, Bool, true, false, map}
use Rattle.std.specs.Str.{bytes_eq}
use Rattle.std.proofs.lemmas.Slice.Eq.{bytes_eq-Decides}
use Rattle.hipe_top.specs.declared.arguments.Mode.TheVariants.{Check, Run}
use Rattle.hipe_top.specs.Command.{IsCommand, arguments_of}

-- a list of two elements
pub two : {A : Type 0} (xs : List A) (x y : A) → 2 ≤ length xs → length xs < 3 → x ≡ get_or xs 0 x → y ≡ get_or xs 1 y → xs ≡ x ∷ y ∷ []
two [] x y ge lt p q = absurd (omega arith)
two (a ∷ []) x y ge lt p q = absurd (omega arith)
two (a ∷ b ∷ []) x y ge lt p q = ap (λ z. z ∷ b ∷ []) (sym p) ∙ ap (λ z. x ∷ z ∷ []) (sym q)
two (a ∷ b ∷ d ∷ xs) x y ge lt p q = absurd (omega arith)

-- the second argument decides, where the first is right
pub second_decides : {A : Type 0} (bytes_of : A → List ℕ) (arguments : List A) (x y : A) (mode call p q : List ℕ) (first second : Bool)
    → arguments ≡ x ∷ y ∷ [] → p ≡ bytes_of x → q ≡ bytes_of y → first ≡ bytes_eq p mode → second ≡ bytes_eq q call → first ≡ true
    → (second ≡ true) ↔ (map bytes_of arguments ≡ mode ∷ call ∷ [])
second_decides bytes_of arguments x y mode call p q first second is px qy f s right =
    let mode_is : p ≡ mode = (bytes_eq-Decides p mode).0 (sym f ∙ right) in
    let both : map bytes_of arguments ≡ p ∷ q ∷ [] = ap (map bytes_of) is ∙ ap (λ a. a ∷ bytes_of y ∷ []) (sym px) ∙ ap (λ b. p ∷ b ∷ []) (sym qy) in (
      λ good. both ∙ ap (λ a. a ∷ q ∷ []) mode_is ∙ ap (λ b. mode ∷ b ∷ []) ((bytes_eq-Decides q call).0 (sym s ∙ good)),
      λ e. s ∙ (bytes_eq-Decides q call).1 (second_of (sym both ∙ e)),
    )
  where
    second_of : {a b d e : List ℕ} → a ∷ b ∷ [] ≡ d ∷ e ∷ [] → b ≡ e
    second_of h = ap (λ (l : List (List ℕ)). get_or l 1 []) h

-- an argument alone decides
pub first_decides : {A : Type 0} (bytes_of : A → List ℕ) (arguments : List A) (x : A) (mode p : List ℕ) (same : Bool)
    → 1 ≤ length arguments → length arguments < 2 → x ≡ get_or arguments 0 x → p ≡ bytes_of x → same ≡ bytes_eq p mode
    → (same ≡ true) ↔ (map bytes_of arguments ≡ mode ∷ [])
first_decides bytes_of [] x mode p same ge lt is px s = absurd (omega (arith, ge))
first_decides bytes_of (a ∷ []) x mode p same ge lt is px s =
    let argument : bytes_of a ≡ p = ap bytes_of (sym is) ∙ sym px in (
      λ good. ap (λ b. b ∷ []) (argument ∙ (bytes_eq-Decides p mode).0 (sym s ∙ good)),
      λ e. s ∙ (bytes_eq-Decides p mode).1 (sym argument ∙ first_of e),
    )
  where
    first_of : {b d : List ℕ} → b ∷ [] ≡ d ∷ [] → b ≡ d
    first_of h = ap (λ (l : List (List ℕ)). get_or l 0 []) h
first_decides bytes_of (a ∷ b ∷ arguments) x mode p same ge lt is px s = absurd (omega (arith, lt))

-- arguments of no mode
pub no_mode : (arguments : List (List ℕ)) → (arguments ≡ arguments_of Check → ⊥) → (arguments ≡ arguments_of Run → ⊥) → IsCommand arguments → ⊥
no_mode arguments check run (Check, is) = check is
no_mode arguments check run (Run, is) = run is

-- a test that fails
pub denied : {P : Type 0} (b : Bool) → ((b ≡ true) ↔ P) → b ≡ false → P → ⊥
denied b test f p = let t = test.1 p in absurd (cc)
