-- Single bytes of lists in which others were replaced.
use Rattle.std.proofs.Common.{◌≡◌, refl, ◌∙◌, ◌+◌, ◌-◌, ◌<◌, ◌≤◌, ◌⊎◌, inl, inr, ◌++◌, ℕ, List, ap, arith, length, length-append, get_or, take, drop}
use Rattle.std.proofs.lemmas.List.{get_or_append_left, get_or-append_right, get_or-take, get_or-drop, length-take-le}
use Rattle.image_link.specs.Linking.{replaced}

abbrev pub byte : List ℕ → ℕ → ℕ
byte bytes i = get_or bytes i 0

-- behind a prefix
pub behind : (prefix bytes : List ℕ) (i j : ℕ) → j ≡ length prefix + i → byte (prefix ++ bytes) j ≡ byte bytes i
behind prefix bytes i j is =
    get_or-append_right prefix bytes (length prefix) j 0 refl (omega (arith, is))
    ∙ ap (λ n. byte bytes n) (omega (arith, is))

-- a byte of the new ones
pub in_new : (bytes : List ℕ) (at : ℕ) (new : List ℕ) (j i : ℕ) → at + length new ≤ length bytes → j < length new → i ≡ at + j
    → byte (replaced bytes at new) i ≡ byte new j
in_new bytes at new j i fits below is =
    let prefix : length (take at bytes) ≡ at = length-take-le at bytes (omega (arith, fits)) in
    let within : i < length (take at bytes ++ new) = omega (arith, is, below, prefix, length-append (take at bytes) new) in
    get_or_append_left (take at bytes ++ new) (drop (at + length new) bytes) 0 i within
    ∙ behind (take at bytes) new j i (omega (arith, is, prefix))

-- a byte before or behind them
pub in_old : (bytes : List ℕ) (at : ℕ) (new : List ℕ) (i : ℕ) → at + length new ≤ length bytes → (i < at) ⊎ (at + length new ≤ i)
    → byte (replaced bytes at new) i ≡ byte bytes i
in_old bytes at new i fits (inl before) =
    let prefix : length (take at bytes) ≡ at = length-take-le at bytes (omega (arith, fits)) in
    let within : i < length (take at bytes ++ new) = omega (arith, before, prefix, length-append (take at bytes) new) in
    get_or_append_left (take at bytes ++ new) (drop (at + length new) bytes) 0 i within
    ∙ get_or_append_left (take at bytes) new 0 i (omega (arith, before, prefix))
    ∙ get_or-take at bytes i 0 before
in_old bytes at new i fits (inr past) =
    let prefix : length (take at bytes) ≡ at = length-take-le at bytes (omega (arith, fits)) in
    let both : length (take at bytes ++ new) ≡ at + length new = omega (arith, prefix, length-append (take at bytes) new) in
    behind (take at bytes ++ new) (drop (at + length new) bytes) (i - (at + length new)) i (omega (arith, both, past))
    ∙ get_or-drop (at + length new) bytes (i - (at + length new)) 0
    ∙ ap (λ n. byte bytes n) (omega (arith, past))
