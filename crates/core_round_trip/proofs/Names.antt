-- Printed atoms are spelled as atoms are.
use Rattle.std.proofs.Common.{◌≡◌, ◌⊎◌, inl, inr, ℕ, ◌+◌, ◌/◌, ◌<◌, ◌≤◌, ◌^◌, ◌==◌, Bool, true, false, cond, List, [], ◌∷◌, ◌++◌, codes, flat_map, encode_utf8, Some, refl, ap, sym, ◌∙◌, subst, append_assoc, arith}
use Rattle.std.specs.Fmt.{digits}
use Rattle.std.specs.Char.{IsScalar}
use lib.Utf8.{scalar, scalar_cases}
use Rattle.std.specs.Str.{IsUtf8, all_scalars}
use Rattle.std.proofs.lemmas.Bool.Decides.{nat_tests}
use Rattle.std.proofs.lemmas.Str.{IsUtf8-nil, IsUtf8-append, IsUtf8-encode}
use Rattle.hipe_terms.specs.Shown.{in_hex, is_control, escaped, quoted}
use Rattle.hipe_terms.proofs.Parts.{and_first, and_second}
use Rattle.core_text.specs.Bytes.{is_hex, begins}
use Rattle.core_text.specs.Escapes.{simple_escape}
use Rattle.core_text.specs.Prefixes.{AreAll}
use Rattle.core_text.specs.Characters.{IsEscape, simple, braced, IsCodePoint, itself, escaped as by_escape, IsQuoted, closing, code_point}
use Rattle.core_text.proofs.Encodings.{sizes, encode_one, encode_two, encode_three, encode_four}
use Rattle.core_token.specs.declared.token.Sort.{Sort}
use Rattle.core_token.specs.Spelling.{quoted as quoted_atom, Spells, atom}
use Rattle.core_token.specs.Values.{code_points_of}
use Rattle.core_token.proofs.Valued.{atom_there}
use Rattle.core_grammar.specs.declared.terminal.Kind.{Kind}
use Rattle.core_round_trip.specs.Fits.{IsAtomName}
use Rattle.core_round_trip.proofs.Tokens.{AreAscii, ascii_utf8}
use Rattle.core_round_trip.proofs.Numerals.{hex_digits}

-- what a code point of an atom is printed as
record Shows (v : ℕ) (cs : List ℕ) : Type 0 where
  point : (us : List ℕ) → IsCodePoint v cs us
  inside : begins (λ c. c == 39) cs ≡ false
  utf8 : IsUtf8 cs

choose : (v : ℕ) (b : Bool) (x y : List ℕ) → (b ≡ true → Shows v x) → (b ≡ false → Shows v y) → Shows v (cond b x y)
choose v true x y f g = f refl
choose v false x y f g = g refl

by_letter : (v c : ℕ) → simple_escape c ≡ Some v → c < 128 → Shows v (92 ∷ c ∷ [])
by_letter v c is small = record { point = λ us. by_escape (simple is); inside = refl; utf8 = ascii_utf8 (92 ∷ c ∷ []) (omega arith, (small, tt)) }

equal : (a b : ℕ) → (a == b) ≡ true → b ≡ a
equal a b h = grind (arith, nat_tests)

letter : (v w c : ℕ) → (v == w) ≡ true → simple_escape c ≡ Some w → c < 128 → Shows v (92 ∷ c ∷ [])
letter v w c e is small = by_letter v c (subst (λ x. simple_escape c ≡ Some x) (equal v w e) is) small

hex_small : (d : ℕ) → is_hex d ≡ true → d < 128
hex_small d h = grind (arith, nat_tests)

hex_ascii : (ds : List ℕ) → AreAll is_hex ds → AreAscii ds
hex_ascii [] h = tt
hex_ascii (d ∷ ds) h = (hex_small d h.0, hex_ascii ds h.1)

scalar_small : (v : ℕ) → IsScalar v → v < 16 ^ 64
scalar_small v h = omega (arith, scalar_cases v h)

in_braces : (v : ℕ) → IsScalar v → Shows v (in_hex v)
in_braces v h =
    let ds = digits 16 false v in
    let r = hex_digits v (scalar_small v h) in
    record {
      point = λ us. by_escape (subst (λ w. IsEscape w (120 ∷ 123 ∷ ds ++ 125 ∷ []) us) r.number (braced ds r.all r.some (subst IsScalar (sym r.number) h)));
      inside = refl;
      utf8 = IsUtf8-append (92 ∷ 120 ∷ 123 ∷ []) (ds ++ 125 ∷ []) (ascii_utf8 (92 ∷ 120 ∷ 123 ∷ []) (omega arith, (omega arith, (omega arith, tt)))) (IsUtf8-append ds (125 ∷ []) (ascii_utf8 ds (hex_ascii ds r.all)) (ascii_utf8 (125 ∷ []) (omega arith, tt)));
    }

high : (n k : ℕ) → 128 ≤ n → k < 128 → (n == k) ≡ false
high n k h l = grind (arith, nat_tests)

-- the first byte of a character is the character or no byte of ASCII
first_byte : (v k : ℕ) → k < 128 → (v == k) ≡ false → (v < 128) ⊎ ((128 ≤ v) × (v < 2048)) ⊎ ((2048 ≤ v) × (v < 65536)) ⊎ (65536 ≤ v) → begins (λ c. c == k) (encode_utf8 v) ≡ false
first_byte v k small other (inl h) = ap (begins (λ c. c == k)) (encode_one v h) ∙ other
first_byte v k small other (inr (inl h)) = ap (begins (λ c. c == k)) (encode_two v h.0 h.1) ∙ high (192 + v / 64) k (omega arith) small
first_byte v k small other (inr (inr (inl h))) = ap (begins (λ c. c == k)) (encode_three v h.0 h.1) ∙ high (224 + v / 4096) k (omega arith) small
first_byte v k small other (inr (inr (inr h))) = ap (begins (λ c. c == k)) (encode_four v h) ∙ high (240 + v / 262144) k (omega arith) small

as_itself : (v : ℕ) → IsScalar v → (v == 39) ≡ false → (v == 92) ≡ false → Shows v (encode_utf8 v)
as_itself v h quote slash = record {
  point = λ us. itself (h, refl) (first_byte v 92 (omega arith) slash (sizes v));
  inside = first_byte v 39 (omega arith) quote (sizes v);
  utf8 = IsUtf8-encode v h;
}

shows : (v : ℕ) → IsScalar v → Shows v (escaped v)
shows v s =
    choose v (v == 39) _ _ (λ e. letter v 39 39 e refl (omega arith)) (λ quote.
    choose v (v == 92) _ _ (λ e. letter v 92 92 e refl (omega arith)) (λ slash.
    choose v (v == 8) _ _ (λ e. letter v 8 98 e refl (omega arith)) (λ h.
    choose v (v == 9) _ _ (λ e. letter v 9 116 e refl (omega arith)) (λ h.
    choose v (v == 10) _ _ (λ e. letter v 10 110 e refl (omega arith)) (λ h.
    choose v (v == 11) _ _ (λ e. letter v 11 118 e refl (omega arith)) (λ h.
    choose v (v == 12) _ _ (λ e. letter v 12 102 e refl (omega arith)) (λ h.
    choose v (v == 13) _ _ (λ e. letter v 13 114 e refl (omega arith)) (λ h.
    choose v (v == 27) _ _ (λ e. letter v 27 101 e refl (omega arith)) (λ h.
    choose v (v == 127) _ _ (λ e. letter v 127 100 e refl (omega arith)) (λ h.
    choose v (is_control v) _ _ (λ e. in_braces v s) (λ h. as_itself v s quote slash)))))))))))

quote_end : (vs us : List ℕ) → all_scalars vs ≡ true → IsQuoted 39 vs (flat_map escaped vs ++ 39 ∷ []) us
quote_end [] us h = closing
quote_end (v ∷ vs) us h =
    let s = shows v (and_first (scalar v) (all_scalars vs) h) in
    let rest = flat_map escaped vs ++ 39 ∷ [] in
    subst (λ cs. IsQuoted 39 (v ∷ vs) cs us) (sym (append_assoc (escaped v) (flat_map escaped vs) (39 ∷ []))) (code_point {ds = rest} (s.point (rest ++ us)) s.inside (quote_end vs us (and_second (scalar v) (all_scalars vs) h)))

all_utf8 : (vs : List ℕ) → all_scalars vs ≡ true → IsUtf8 (flat_map escaped vs)
all_utf8 [] h = IsUtf8-nil
all_utf8 (v ∷ vs) h = IsUtf8-append (escaped v) (flat_map escaped vs) (shows v (and_first (scalar v) (all_scalars vs) h)).utf8 (all_utf8 vs (and_second (scalar v) (all_scalars vs) h))

pub atom_spelled : (a us : List ℕ) → IsAtomName a → Spells Sort.Atom (quoted a) us
atom_spelled a us h = atom (quoted_atom (quote_end a us h.1)) h.0

pub atom_kind_is : (a : List ℕ) → IsAtomName a → Kind.Atom (code_points_of (quoted a)) ≡ Kind.Atom a
atom_kind_is a h = ap Kind.Atom (atom_there a (quoted a) [] (quoted_atom (quote_end a [] h.1)))

pub atom_utf8 : (a : List ℕ) → IsAtomName a → IsUtf8 (quoted a)
atom_utf8 a h = IsUtf8-append (codes "'" ++ flat_map escaped a) (codes "'") (IsUtf8-append (codes "'") (flat_map escaped a) (ascii_utf8 (codes "'") (omega arith, tt)) (all_utf8 a h.1)) (ascii_utf8 (codes "'") (omega arith, tt))
