-- Each terminal means what its token spells, so no value stands in for one that isn't there.
use Rattle.std.proofs.Common.{◌≡◌, ℕ, ℤ, pos, Bool, true, false, ◌&&◌, ◌||◌, ◌==◌, List, [], ◌∷◌, ◌++◌, map, codes, drop, get_or, Some, refl, sym, subst}
use Rattle.std.specs.Prelude.{nat_abs, nat_eq, if◌then◌else◌}
use Rattle.std.specs.Cmp.Lexicographic.{pointwise}
use Rattle.hipe_terms.specs.Range.{is_in_range}
use Rattle.core_text.specs.Bytes.{is_digit, begins}
use Rattle.core_text.specs.Numbers.{IsInteger}
use Rattle.core_token.specs.declared.token.Sort.{Sort}
use Rattle.core_token.specs.declared.token.Token.{Token}
use Rattle.core_token.specs.Lexemes.{is_among, is_byte_among, is_keyword, is_short_sign}
use Rattle.core_token.specs.Spelling.{Spells}
use Rattle.core_token.specs.Spelling as S
use Rattle.core_token.specs.Text.{StandsIn, bytes_of}
use Rattle.core_token.specs.Values.{integer_of}
use Rattle.core_token.proofs.Valued.{integer_there, character_there, atom_there, text_there, stand}
use Rattle.core_grammar.specs.declared.terminal.Kind.{Kind}
use Rattle.core_grammar.specs.declared.terminal.Mark.{Mark}
use Rattle.core_reader.specs.Terminals.{Row, keywords, signs, mark_in, keyword_of, sign_of, marked, number_of, or_zero, or_nul, kind_of}
use Rattle.core_reader.specs.Meanings.{Means, atom, text, character, variable, natural, signed, float, keyword, sign, TerminalMeans}
use Rattle.core_reader.specs.Laws.{TerminalsMean}
use Rattle.core_reader.proofs.Ranges.{unsigned}
use Rattle.core_reader.proofs.Tables.{spellings}

-- ---- marks

-- bytes that a row has have a mark
mark_there : (rows : List Row) (cs : List ℕ) → is_among cs (spellings rows) ≡ true → (m : Mark) × (mark_in rows cs ≡ Some m)
mark_there [] cs h = absurd (cc)
mark_there (row ∷ rows) cs h = tested (pointwise nat_eq cs row.0) (mark_there rows cs) h
  where
    tested : (b : Bool) → (is_among cs (spellings rows) ≡ true → (m : Mark) × (mark_in rows cs ≡ Some m)) → (b || is_among cs (spellings rows)) ≡ true → (m : Mark) × ((if b then Some row.1 else mark_in rows cs) ≡ Some m)
    tested true later h = (row.1, refl)
    tested false later h = later h

keyword_there : (cs : List ℕ) → is_keyword cs ≡ true → (m : Mark) × (keyword_of cs ≡ Some m)
unfolding is_keyword keyword_of
keyword_there cs h = mark_there keywords cs h

-- a byte among some is a spelling among those of one byte
byte_spelled : (c : ℕ) (ds : List ℕ) (ws : List (List ℕ)) → is_byte_among c ds ≡ true → is_among (c ∷ []) (map (λ (d : ℕ). d ∷ []) ds ++ ws) ≡ true
byte_spelled c [] ws h = absurd (cc)
byte_spelled c (d ∷ ds) ws h = tested (nat_eq c d) (byte_spelled c ds ws) h
  where
    tested : (b : Bool) → (is_byte_among c ds ≡ true → is_among (c ∷ []) (map (λ (d : ℕ). d ∷ []) ds ++ ws) ≡ true) → (b || is_byte_among c ds) ≡ true → ((b && true) || is_among (c ∷ []) (map (λ (d : ℕ). d ∷ []) ds ++ ws)) ≡ true
    tested true later h = refl
    tested false later h = later h

sign_there : (c : ℕ) → is_short_sign c ≡ true → (m : Mark) × (sign_of (c ∷ []) ≡ Some m)
unfolding sign_of
sign_there c h = mark_there signs (c ∷ []) (byte_spelled c (codes "(){}[]<>,=/:|#~") (codes "->" ∷ codes "-|" ∷ []) h)

dash_spelled : (b c : Bool) → (b || c) ≡ true → ((b && true) || ((c && true) || false)) ≡ true
dash_spelled true c h = refl
dash_spelled false true h = refl
dash_spelled false false h = absurd (cc)

dash_there : (d : ℕ) → (d == 62 || d == 124) ≡ true → (m : Mark) × (sign_of (45 ∷ d ∷ []) ≡ Some m)
unfolding sign_of
dash_there d h = mark_there signs (45 ∷ d ∷ []) (dash_spelled (d == 62) (d == 124) h)

-- ---- tokens

number_means : (n : ℤ) (cs us : List ℕ) → IsInteger n cs us → integer_of cs ≡ Some n → Means Sort.Integer cs us (number_of cs n)
number_means n cs us is there = by_sign (begins is_digit cs) refl
  where
    by_sign : (b : Bool) → begins is_digit cs ≡ b → Means Sort.Integer cs us (if b then Kind.Natural (nat_abs n) else Kind.Integer n)
    by_sign true h = natural (subst (λ k. IsInteger k cs us) (unsigned cs n h there) is) h
    by_sign false h = signed is h

means : (sort : Sort) (cs us : List ℕ) → Spells sort cs us → Means sort cs us (kind_of sort cs)
means _ cs us (S.atom {vs = vs} is few) = subst (λ xs. Means Sort.Atom cs us (Kind.Atom xs)) (sym (atom_there vs cs us is)) (atom is)
means _ _ us (S.text {vs = vs} {cs = ds} is) = subst (λ xs. Means Sort.Text (34 ∷ ds) us (Kind.Text xs)) (sym (text_there vs ds us is)) (text is)
means _ _ us (S.character {v = v} {cs = ds} is) = subst (λ o. Means Sort.Character (36 ∷ ds) us (Kind.Integer (pos (or_nul o)))) (sym (character_there v ds us is)) (character is)
means _ cs us (S.variable first h) = variable
means _ cs us (S.integer {n = n} is few) =
    let there = integer_there n cs us is few in
    subst (λ o. Means Sort.Integer cs us (number_of cs (or_zero o))) (sym there) (number_means n cs us is there)
means _ cs us (S.float is) = float is
means _ cs us (S.keyword is ends) = let m = keyword_there cs is in subst (λ o. Means Sort.Word cs us (marked o)) (sym m.1) (keyword m.1)
means _ _ us (S.sign {c = c} is) = let m = sign_there c is in subst (λ o. Means Sort.Sign (c ∷ []) us (marked o)) (sym m.1) (sign m.1)
means _ _ us (S.dash_sign {d = d} is) = let m = dash_there d is in subst (λ o. Means Sort.Sign (45 ∷ d ∷ []) us (marked o)) (sym m.1) (sign m.1)

token_means : (s : List ℕ) (t : Token) → StandsIn s t → TerminalMeans s t
token_means s t h = (means t.sort (bytes_of s t) (drop t.end s) h.spelled, refl)

pub terminals_mean : TerminalsMean
terminals_mean s ts h k d lt = token_means s (get_or ts k d) (stand s ts h k d lt)
