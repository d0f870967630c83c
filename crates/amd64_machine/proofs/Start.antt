-- The machine at its start.
use Rattle.std.proofs.Common.{◌≡◌, ℕ, zero, suc, refl, get_or, replicate}
use Rattle.std.proofs.Math.Path.{fun_ext}
use Rattle.amd64_machine.specs.Seen.{registers_seen}

get_zeros : (n q : ℕ) → let none : ℕ = 0 in get_or (replicate n none) q 0 ≡ none
get_zeros zero q = refl
get_zeros (suc n) zero = refl
get_zeros (suc n) (suc q) = get_zeros n q

pub zero_registers : registers_seen (replicate 16 0) ≡ (λ q. 0)
zero_registers = fun_ext (λ q. get_zeros 16 q)
