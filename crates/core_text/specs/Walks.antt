-- A text is gone through from its beginning: a step says how many bytes it takes and what is known then, or it ends the way. The number counts the
-- bytes of the last step that are still ahead.
use Rattle.std.specs.Prelude.{ℕ, zero, suc, ◌-◌, List, [], ◌∷◌, Result, Ok, Err}

abbrev pub go_on : {S R : Type 0} → Result (ℕ × S) R → (ℕ × S → R) → R
go_on (Err r) next = r
go_on (Ok p) next = next p

abbrev pub walk : {S R : Type 0} → (List ℕ → S → Result (ℕ × S) R) → (S → R) → List ℕ → ℕ → S → R
walk step end [] k s = end s
walk step end (c ∷ t) (suc k) s = walk step end t k s
walk step end (c ∷ t) zero s = go_on (step (c ∷ t) s) (λ p. walk step end t (p.0 - 1) p.1)
