-- Integers and floats: what they are spelled like, and which number an integer means.
use Rattle.std.specs.Prelude.{◌≡◌, ℕ, ℤ, pos, neg_ℤ, Bool, true, false, ◌||◌, ◌==◌, List, [], ◌∷◌, ◌++◌}
use Rattle.core_text.specs.Bytes.{number_from}
use Rattle.core_text.specs.Prefixes.{AreDigits, BeginsWithNone}

-- a sign or none, and whether it is `-`
pub data IsSign : List ℕ → Bool → Type 0 where
  none : IsSign [] false
  -- `+`
  plus : IsSign (43 ∷ []) false
  -- `-`
  minus : IsSign (45 ∷ []) true

-- the number behind a sign
abbrev pub signed : Bool → ℕ → ℤ
signed true n = neg_ℤ (pos n)
signed false n = pos n

-- `e` or `E`, a sign or none, and digits
pub data IsExponent : List ℕ → List ℕ → Type 0 where
  exponent : {e : ℕ} {ss : List ℕ} {b : Bool} (ds us : List ℕ) → (e == 101 || e == 69) ≡ true → IsSign ss b → AreDigits ds us → IsExponent (e ∷ ss ++ ds) us

-- a point, digits, and an exponent where one is there; 46 is the point
pub data IsFraction : List ℕ → List ℕ → Type 0 where
  plain : {ds us : List ℕ} → AreDigits ds us → BeginsWithNone IsExponent us → IsFraction (46 ∷ ds) us
  with_exponent : (ds es us : List ℕ) → AreDigits ds (es ++ us) → IsExponent es us → IsFraction (46 ∷ ds ++ es) us

-- an integer, whatever its size: decimal digits, a sign directly before them or none, and no fraction behind them
pub data IsInteger : ℤ → List ℕ → List ℕ → Type 0 where
  integer : {ss : List ℕ} {b : Bool} (ds us : List ℕ) → IsSign ss b → AreDigits ds us → BeginsWithNone IsFraction us → IsInteger (signed b (number_from 10 0 ds)) (ss ++ ds) us

-- a float: decimal digits, a sign directly before them or none, and a fraction
pub data IsFloat : List ℕ → List ℕ → Type 0 where
  float : {ss : List ℕ} {b : Bool} (ds fs us : List ℕ) → IsSign ss b → AreDigits ds (fs ++ us) → IsFraction fs us → IsFloat (ss ++ ds ++ fs) us
