-- A token is the longest that begins where it stands.
use Rattle.std.proofs.Common.{◌≡◌, ◌⊎◌, inl, inr, ℕ, ◌≤◌, ◌<◌, List, [], ◌++◌, length, take, drop, Ok, Err, refl, ap, sym, ◌∙◌, arith}
use Rattle.std.proofs.lemmas.List.{append-nil, take-append-drop, take_at, drop_at, take-append-le, drop-append-le}
use Rattle.core_text.specs.Bytes.{is_name_byte, begins}
use Rattle.core_text.proofs.Prefixes.{begins_less}
use Rattle.core_text.proofs.Points.{point_cut}
use Rattle.core_text.proofs.Fewer.{integer_cut, float_cut, quoted_cut}
use Rattle.core_token.specs.declared.token.Sort.{Sort}
use Rattle.core_token.specs.Lexemes.{Found, lexeme, lexeme_at}
use Rattle.core_token.specs.Spelling.{IsAtom, quoted, Spells, atom, text, character, variable, integer, float, keyword, sign, dash_sign}
use Rattle.core_token.proofs.Lexing.{lexeme_read}

atom_cut : (vs cs xs us ws : List ℕ) → IsAtom vs cs xs → xs ≡ us ++ ws → IsAtom vs cs us
atom_cut vs cs xs us ws (quoted {cs = ds} is) e = quoted (quoted_cut 39 vs ds xs us ws is e)

-- what stands behind a token may be cut off
spells_cut : (sort : Sort) (cs xs us ws : List ℕ) → Spells sort cs xs → xs ≡ us ++ ws → Spells sort cs us
spells_cut sort cs xs us ws (atom {vs = vs} is few) e = atom (atom_cut vs cs xs us ws is e) few
spells_cut sort cs xs us ws (text {vs = vs} {cs = ds} is) e = text (quoted_cut 34 vs ds xs us ws is e)
spells_cut sort cs xs us ws (character {v = v} {cs = ds} is) e = character (point_cut v ds xs us ws is e)
spells_cut sort cs xs us ws (variable first h) e = variable first (h.0, begins_less is_name_byte us ws (ap (begins is_name_byte) (sym e) ∙ h.1))
spells_cut sort cs xs us ws (integer {n = n} is few) e = integer (integer_cut n cs xs us ws is e) few
spells_cut sort cs xs us ws (float is) e = float (float_cut cs xs us ws is e)
spells_cut sort cs xs us ws (keyword is ends) e = keyword is (begins_less is_name_byte us ws (ap (begins is_name_byte) (sym e) ∙ ends))
spells_cut sort cs xs us ws (sign is) e = sign is
spells_cut sort cs xs us ws (dash_sign is) e = dash_sign is

size_of : Found → ℕ
size_of (Ok l) = l.length
size_of (Err kind) = 0

same_size : (sort other : Sort) (m n : ℕ) (f : Found) → f ≡ lexeme sort m → f ≡ lexeme other n → m ≡ n
unfolding size_of
same_size sort other m n f g h = ap size_of (sym g ∙ h)

longer : (sort other : Sort) (cs us ds ws : List ℕ) → Spells sort cs us → cs ++ us ≡ ds ++ ws → Spells other ds [] → length cs < length ds → length ds ≤ length cs
longer sort other cs us ds ws is e alone lt =
    let n = length cs in
    let le : n ≤ length ds = omega (arith, lt) in
    let rest = drop n ds in
    let prefix : take n ds ≡ cs = sym (take-append-le n ds ws le) ∙ ap (take n) (sym e) ∙ take_at cs us n refl in
    let behind : us ≡ rest ++ ws = sym (drop_at cs us n refl) ∙ ap (drop n) e ∙ drop-append-le n ds ws le in
    let whole : cs ++ rest ≡ ds ++ [] = ap (λ t. t ++ rest) (sym prefix) ∙ take-append-drop n ds ∙ sym (append-nil ds) in
    let m = same_size sort other n (length ds) (lexeme_at (cs ++ rest)) (lexeme_read sort cs rest (spells_cut sort cs us rest ws is behind)) (ap lexeme_at whole ∙ lexeme_read other ds [] alone) in
    omega (arith, m)

by_size : (sort other : Sort) (cs us ds ws : List ℕ) → Spells sort cs us → cs ++ us ≡ ds ++ ws → Spells other ds [] → (length ds ≤ length cs) ⊎ (length cs < length ds) → length ds ≤ length cs
by_size sort other cs us ds ws is e alone (inl le) = le
by_size sort other cs us ds ws is e alone (inr lt) = longer sort other cs us ds ws is e alone lt

either : (m n : ℕ) → (m ≤ n) ⊎ (n < m)
either m n = grind arith

-- no longer bytes are a token by themselves
pub longest : (sort other : Sort) (cs us ds ws : List ℕ) → Spells sort cs us → cs ++ us ≡ ds ++ ws → Spells other ds [] → length ds ≤ length cs
longest sort other cs us ds ws is e alone = by_size sort other cs us ds ws is e alone (either (length ds) (length cs))
