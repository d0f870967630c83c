-- Prefixes: bytes with which a text begins, and what stands behind them.
use Rattle.std.specs.Prelude.{◌≡◌, ℕ, ◌<◌, Bool, true, false, List, length, ◌++◌}
use Rattle.std.specs.List.{AllByRecursion}
use Rattle.core_text.specs.Bytes.{is_digit, begins}

-- each byte passes a test
abbrev pub AreAll : (ℕ → Bool) → List ℕ → Type 0
AreAll test cs = AllByRecursion (λ c. test c ≡ true) cs

-- a text begins with n bytes that are so, where the rest stands behind them
pub record BeginsWith (R : List ℕ → List ℕ → Type 0) (s : List ℕ) (n : ℕ) : Type 0 where
  pub prefix : List ℕ
  pub rest : List ℕ
  pub is : s ≡ prefix ++ rest
  pub size : length prefix ≡ n
  pub holds : R prefix rest

-- a text begins with no bytes that are so
abbrev pub BeginsWithNone : (List ℕ → List ℕ → Type 0) → List ℕ → Type 0
BeginsWithNone R s = (prefix rest : List ℕ) → s ≡ prefix ++ rest → R prefix rest → ⊥

-- bytes that pass a test, and none that passes behind them
abbrev pub ArePassing : (ℕ → Bool) → List ℕ → List ℕ → Type 0
ArePassing test cs us = AreAll test cs × (begins test us ≡ false)

-- digits, and no digit behind them
abbrev pub AreDigits : List ℕ → List ℕ → Type 0
AreDigits ds us = (0 < length ds) × ArePassing is_digit ds us
