-- Places that a displacement tells.
use Rattle.std.proofs.Common.{◌≡◌, ℕ, ℤ, ap, ◌∙◌, to_z, of_z}
use Rattle.std.specs.Prelude.{FitsSigned}
use Rattle.std.specs.Int.{w32}
use Rattle.std.proofs.lemmas.Int.{to_z-of_z}
use Rattle.amd64_machine.specs.Machine.{displaced}

-- the place behind a word that is the same, at a displacement that was passed
pub place : (at from word : ℕ) (offset : ℤ) → at ≡ displaced from (to_z w32 (of_z w32 offset)) → from ≡ word → FitsSigned w32 offset → at ≡ displaced word offset
place at from word offset e same fits = e ∙ ap (λ z. displaced from z) (to_z-of_z w32 offset fits) ∙ ap (λ x. displaced x offset) same
