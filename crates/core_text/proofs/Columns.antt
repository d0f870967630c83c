-- Places go by code points.
use Rattle.std.proofs.Common.{◌≡◌, ◌⊎◌, inl, inr, ℕ, ◌+◌, ◌/◌, ◌≤◌, ◌<◌, false, cond, nat_eq, List, [], ◌∷◌, ap, sym, ◌∙◌, subst, arith}
use Rattle.std.specs.Char.{encode_utf8}
use Rattle.std.proofs.lemmas.Bool.Decides.{nat_tests}
use Rattle.hipe_terms.specs.declared.place.Place.{Place}
use Rattle.core_text.specs.Bytes.{is_continuation}
use Rattle.core_text.specs.Places.{moved, place_after}
use Rattle.core_text.specs.Characters.{IsCharacter}
use Rattle.core_text.specs.Laws.{behind_point}
use Rattle.core_text.proofs.Encodings.{sizes, encode_one, encode_two, encode_three, encode_four, next, next_continues}
use Rattle.core_text.proofs.IllFormed.{stays}

abbrev pub Moves : Place → ℕ → List ℕ → Type 0
Moves p v cs = place_after p cs ≡ behind_point p v

low_moves : (p : Place) (v : ℕ) → v < 128 → moved p v ≡ behind_point p v
low_moves p v h = let n : is_continuation v ≡ false = grind (arith, nat_tests) in ap (λ b. cond (nat_eq v 10) (record { line = p.line + 1; col = 1 }) (cond b p (record { line = p.line; col = p.col + 1 }))) n

abbrev column_more : Place → Place
column_more p = record { line = p.line; col = p.col + 1 }

high_moves : (p : Place) (v c : ℕ) → 192 ≤ c → 128 ≤ v → moved p c ≡ behind_point p v
high_moves p v c h low =
    let n : is_continuation c ≡ false = grind (arith, nat_tests) in
    let m : nat_eq c 10 ≡ false = grind (arith, nat_tests) in
    let k : nat_eq v 10 ≡ false = grind (arith, nat_tests) in
    let ends : Place = record { line = p.line + 1; col = 1 } in
    ap (λ b. cond b ends (cond (is_continuation c) p (column_more p))) m ∙ ap (λ b. cond b p (column_more p)) n ∙ sym (ap (λ b. cond b ends (column_more p)) k)

by_size : (p : Place) (v : ℕ) → (v < 128) ⊎ ((128 ≤ v) × (v < 2048)) ⊎ ((2048 ≤ v) × (v < 65536)) ⊎ (65536 ≤ v) → Moves p v (encode_utf8 v)
by_size p v (inl h) = subst (Moves p v) (sym (encode_one v h)) (low_moves p v h)
by_size p v (inr (inl (low, high))) =
    subst (Moves p v) (sym (encode_two v low high)) (stays (next v ∷ []) (moved p (192 + v / 64)) (next_continues v, tt) ∙ high_moves p v (192 + v / 64) (omega arith) low)
by_size p v (inr (inr (inl (low, high)))) =
    subst (Moves p v) (sym (encode_three v low high))
    (stays (next (v / 64) ∷ next v ∷ []) (moved p (224 + v / 4096)) (next_continues (v / 64), (next_continues v, tt)) ∙ high_moves p v (224 + v / 4096) (omega arith) (omega (arith, low)))
by_size p v (inr (inr (inr low))) =
    subst (Moves p v) (sym (encode_four v low))
    (stays (next (v / 4096) ∷ next (v / 64) ∷ next v ∷ []) (moved p (240 + v / 262144)) (next_continues (v / 4096), (next_continues (v / 64), (next_continues v, tt))) ∙ high_moves p v (240 + v / 262144) (omega arith) (omega (arith, low)))

pub by_points : (p : Place) (v : ℕ) (cs : List ℕ) → IsCharacter v cs → place_after p cs ≡ behind_point p v
by_points p v cs is = subst (Moves p v) is.1 (by_size p v (sizes v))
