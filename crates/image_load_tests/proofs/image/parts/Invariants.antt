use Rattle.std.proofs.Common.{◌≡◌, [], ◌∷◌, length}
use Rattle.std.specs.Prelude.{All}
use Rattle.image_load_tests.proofs.image.parts.Given as goal

abbrev pub invariant-loop-number : goal.invariant-loop-number
invariant-loop-number l = (length l.parts.items ≡ l.number) × All (λ c. c ≡ record { bytes = 195 ∷ []; calls = []; closure_entry = 0 }) l.parts.items
