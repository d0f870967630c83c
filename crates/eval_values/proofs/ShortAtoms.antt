-- Short texts of ASCII spell themselves.
use Rattle.std.proofs.Common.{◌≡◌, ℕ, zero, suc, ◌<◌, true, List, [], ◌∷◌, length, ap, ◌∙◌, arith, lit<}
use Rattle.std.specs.Prelude.{chars, nat_lt, slice_index}
use Rattle.std.proofs.lemmas.Bool.Decides.{nat_tests}
use Rattle.std.proofs.lemmas.Str.{chars-IsAscii}
use Rattle.hipe_terms.proofs.Parts.{and_first, and_second}
use Rattle.eval_values.specs.ShortTexts.{is_ascii, is_short}

below : (m n : ℕ) → nat_lt m n ≡ true → m < n
below m n e = grind (arith, nat_tests)

index_ascii : (bs : List ℕ) (i : ℕ) → is_ascii bs ≡ true → slice_index bs i < 128
index_ascii [] i e = lit< tt
index_ascii (b ∷ bs) zero e = below b 128 (and_first (nat_lt b 128) (is_ascii bs) e)
index_ascii (b ∷ bs) (suc i) e = index_ascii bs i (and_second (nat_lt b 128) (is_ascii bs) e)

pub short_chars : (bs : List ℕ) → is_short bs ≡ true → chars bs ≡ bs
short_chars bs e = chars-IsAscii bs (λ i. index_ascii bs i (and_first (is_ascii bs) (nat_lt (length bs) 100) e))

pub not_long : (bs cs : List ℕ) → is_short bs ≡ true → cs ≡ bs → 255 < length (chars cs) → ⊥
not_long bs cs e is h =
    let k : length bs < 100 = below (length bs) 100 (and_second (is_ascii bs) (nat_lt (length bs) 100) e) in
    let g : length (chars cs) ≡ length bs = ap (λ l. length (chars l)) is ∙ ap length (short_chars bs e) in
    omega (arith, k, g, h)
