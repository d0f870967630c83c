-- Code points are read as they are spelled.
use Rattle.std.proofs.Common.{◌≡◌, ℕ, ◌+◌, ◌<◌, Bool, false, cond, nat_eq, List, [], ◌∷◌, ◌++◌, length, Option, Some, None, refl, ap, ◌∙◌, subst, arith}
use Rattle.core_text.specs.declared.escape.Escape.{Escape}
use Rattle.core_text.specs.declared.code_point.CodePoint.{CodePoint}
use Rattle.core_text.specs.Bytes.{begins}
use Rattle.core_text.specs.Escapes.{escape_at}
use Rattle.core_text.specs.Utf8.{character_length}
use Rattle.core_text.specs.CodePoints.{point, decoded, escaped as escaped_point, code_point_at}
use Rattle.core_text.specs.Prefixes.{BeginsWith}
use Rattle.core_text.specs.Characters.{IsCharacter, IsEscape, IsCodePoint, itself, escaped}
use Rattle.core_text.proofs.Standing.{is_equal, split, Stands, stands}
use Rattle.core_text.proofs.Encodings.{decoded_there, Decodes, decodes}
use Rattle.core_text.proofs.Escaping.{escape_there, escape_read, escape_cut}

abbrev pub There : List ℕ → Option CodePoint → Type 0
There s r = Stands {X = CodePoint} (λ p. p.value) (λ p. p.length) IsCodePoint s r

there : (s : List ℕ) (v n : ℕ) → BeginsWith (IsCodePoint v) s n → There s (point v n)
there s v n b = stands {X = CodePoint} (λ p. p.value) (λ p. p.length) IsCodePoint s (record { value = v; length = n }) b

not_there : (s : List ℕ) → There s None
not_there s p is = absurd (cc)

escaped_there : (s : List ℕ) (e : Option Escape) → escape_at s ≡ e → There (92 ∷ s) (escaped_point e)
escaped_there s None is = not_there _
escaped_there s (Some e) is =
    let b = escape_there s e is in
    there _ e.value (e.length + 1) (record { prefix = 92 ∷ b.prefix; rest = b.rest; is = ap (λ t. 92 ∷ t) b.is; size = omega (arith, b.size); holds = escaped b.holds })

-- the first byte of a prefix is that of the text
pub first_of : (test : ℕ → Bool) (cs us : List ℕ) (c : ℕ) (t : List ℕ) → c ∷ t ≡ cs ++ us → test c ≡ false → begins test cs ≡ false
first_of test [] us c t is out = refl
first_of test (d ∷ cs) us c t is out = let e : c ≡ d = cc in subst (λ d. test d ≡ false) e out

decoded_by : (c : ℕ) (t : List ℕ) (n : Option ℕ) → nat_eq c 92 ≡ false → character_length (c ∷ t) ≡ n → There (c ∷ t) (decoded n c t)
decoded_by c t None other is = not_there _
decoded_by c t (Some n) other is =
    let b = decoded_there c t n is in
    there _ _ n (record { prefix = b.prefix; rest = b.rest; is = b.is; size = b.size; holds = itself b.holds (first_of (λ c. nat_eq c 92) b.prefix b.rest c t b.is other) })

pub point_there : (s : List ℕ) → There s (code_point_at s)
unfolding code_point_at
point_there [] = not_there []
point_there (c ∷ s) =
    split (There _) (nat_eq c 92) _ _ (λ is. subst (λ c. There (c ∷ s) (escaped_point (escape_at s))) (is_equal c 92 is) (escaped_there s (escape_at s) refl))
    (λ other. decoded_by c s (character_length (c ∷ s)) other refl)

-- and a code point that is there is read
itself_read : (v : ℕ) (cs us : List ℕ) → Decodes v us cs → begins (λ c. nat_eq c 92) cs ≡ false → code_point_at (cs ++ us) ≡ point v (length cs)
unfolding code_point_at
itself_read v [] us is other = absurd (cc)
itself_read v (c ∷ cs) us is other = ap (λ b. cond b (escaped_point (escape_at (cs ++ us))) (decoded (character_length (c ∷ cs ++ us)) c (cs ++ us))) other ∙ is

point_size : (v m n : ℕ) → m ≡ n → point v m ≡ point v n
point_size v m n e = ap (λ n. point v n) e

escaped_read : (v : ℕ) (cs us : List ℕ) → IsEscape v cs us → code_point_at (92 ∷ cs ++ us) ≡ point v (length (92 ∷ cs))
unfolding code_point_at
escaped_read v cs us is = ap escaped_point (escape_read v cs us is) ∙ point_size v (length cs + 1) (length (92 ∷ cs)) (omega arith)

pub point_read : (v : ℕ) (cs us : List ℕ) → IsCodePoint v cs us → code_point_at (cs ++ us) ≡ point v (length cs)
point_read v cs us (itself is other) = itself_read v cs us (decodes v cs us is) other
point_read v cs us (escaped {cs = ds} is) = escaped_read v ds us is

pub point_cut : (v : ℕ) (cs xs us ws : List ℕ) → IsCodePoint v cs xs → xs ≡ us ++ ws → IsCodePoint v cs us
point_cut v cs xs us ws (itself is other) e = itself is other
point_cut v cs xs us ws (escaped {cs = ds} is) e = escaped (escape_cut v ds xs us ws is e)

-- it has a byte at least
empty_not : (v n : ℕ) → None ≡ point v n → ⊥
empty_not v n h = cc

some_by : (v : ℕ) (cs us : List ℕ) → IsCharacter v cs → 0 < length cs
some_by v [] us is = absurd (empty_not v 0 (decodes v [] us is))
some_by v (c ∷ cs) us is = omega arith

pub point_some : (v : ℕ) (cs us : List ℕ) → IsCodePoint v cs us → 0 < length cs
point_some v cs us (itself is other) = some_by v cs us is
point_some v cs us (escaped is) = omega arith
