-- The token at the beginning of a text is spelled as its sort is, and a wide integer and a long atom are there where they are refused.
use Rattle.std.proofs.Common.{◌≡◌, ℕ, zero, suc, ◌+◌, ◌<◌, ◌≤◌, Bool, true, false, cond, ◌||◌, ◌&&◌, nat_eq, nat_lt, nat_le, List, [], ◌∷◌, ◌++◌, length, take, drop, Option, Some, None, Ok, Err, refl, ap, sym, ◌∙◌, subst, append_assoc, length-append, arith}
use Rattle.std.specs.List.{prefix_len}
use Rattle.std.proofs.lemmas.Bool.Decides.{nat_tests}
use Rattle.std.proofs.lemmas.Int.{ints}
use Rattle.std.proofs.lemmas.List.{take_at, drop_at}
use Rattle.hipe_base.specs.declared.limits.TheConstants.{ATOM_LIMIT}
use Rattle.hipe_terms.specs.Range.{is_in_range}
use Rattle.core_text.specs.declared.quoted.Quoted.{Quoted}
use Rattle.core_text.specs.declared.code_point.CodePoint.{CodePoint}
use Rattle.core_text.specs.Bytes.{is_digit, is_upper, is_lower, is_name_byte, begins, number_from}
use Rattle.core_text.specs.CodePoints.{code_point_at}
use Rattle.core_text.specs.Quotes.{quoted_at}
use Rattle.core_text.specs.Fractions.{is_sign_byte, fraction_length}
use Rattle.core_text.specs.Prefixes.{BeginsWith, ArePassing, AreDigits}
use Rattle.core_text.specs.Characters.{IsCodePoint, IsQuoted}
use Rattle.core_text.specs.Numbers.{IsSign, none, plus, minus, signed, IsInteger, integer as spelled_integer, float as spelled_float}
use Rattle.core_text.proofs.Prefixes.{passing, behind_byte}
use Rattle.core_text.proofs.Points.{point_there}
use Rattle.core_text.proofs.Quoting.{quoted_has}
use Rattle.core_text.proofs.Fractions.{fraction_there, no_fraction}
use Rattle.core_token.specs.declared.token.Sort.TheVariants.{Atom, Variable, Integer, Float, Character, Text, Sign}
use Rattle.core_token.specs.declared.token.TokenKind.TheVariants.{Token, WideInteger, LongAtom}
use Rattle.core_token.specs.Lexemes.{Found, lexeme, atom_of, text_of, character_by, number_at, greatest_integer, farthest_below, is_keyword, is_short_sign, keyword_at, sign_at, unquoted_at, lexeme_at}
use Rattle.core_token.specs.Spelling.{quoted, Spells, atom, text, character, variable, integer, float, keyword, sign, dash_sign, IsFault, wide_integer, long_atom}
use Rattle.core_text.proofs.Standing.{split}

abbrev pub Told : List ℕ → Found → Type 0
Told s (Ok l) = BeginsWith (Spells l.sort) s l.length
Told s (Err WideInteger) = IsFault s WideInteger
Told s (Err LongAtom) = IsFault s LongAtom
Told s (Err Token) = Unit {0}

equal : (a b : ℕ) → nat_eq a b ≡ true → b ≡ a
equal a b h = grind (arith, nat_tests)

more_than : (a b : ℕ) → nat_lt a b ≡ true → a < b
more_than a b h = grind (arith, nat_tests)

no_more : (a b : ℕ) → nat_lt a b ≡ false → b ≤ a
no_more a b h = grind (arith, nat_tests)

positive : (f : ℕ) → nat_eq f 0 ≡ false → 0 < f
positive f h = grind (arith, nat_tests)

-- quotes
atom_told : (s : List ℕ) (b : Option Quoted) → quoted_at 39 s ≡ b → Told (39 ∷ s) (atom_of b)
atom_told s None is = tt
atom_told s (Some b) is =
    let h = quoted_has 39 s b is in
    split (Told _) (nat_lt ATOM_LIMIT b.code_points) _ _
    (λ many. subst (λ t. IsFault (39 ∷ t) LongAtom) (sym h.there.is) (long_atom (quoted h.there.holds) (omega (arith, more_than ATOM_LIMIT b.code_points many, h.count))))
    (λ few. let le : length h.values ≤ ATOM_LIMIT = omega (arith, no_more ATOM_LIMIT b.code_points few, h.count) in
    behind_byte (IsQuoted 39 h.values) (Spells Atom) 39 b.length s (λ cs us q. atom (quoted q) le) h.there)

text_told : (s : List ℕ) (b : Option Quoted) → quoted_at 34 s ≡ b → Told (34 ∷ s) (text_of b)
text_told s None is = tt
text_told s (Some b) is = let h = quoted_has 34 s b is in behind_byte (IsQuoted 34 h.values) (Spells Text) 34 b.length s (λ cs us q. text q) h.there

-- characters
character_told : (s : List ℕ) (p : Option CodePoint) → code_point_at s ≡ p → Told (36 ∷ s) (character_by p)
character_told s None is = tt
character_told s (Some p) is = behind_byte (IsCodePoint p.value) (Spells Character) 36 p.length s (λ cs us h. character h) (point_there s p is)

-- keywords, variables and signs
keyword_told : (c : ℕ) (s : List ℕ) → Told (c ∷ s) (keyword_at (c ∷ s))
keyword_told c s =
    let n = prefix_len is_name_byte s in
    let f = passing is_name_byte s in
    let e : suc n ≡ n + 1 = omega arith in
    let prefix : take (n + 1) (c ∷ s) ≡ c ∷ f.prefix = ap (λ k. take k (c ∷ s)) (sym e) ∙ ap (λ t. c ∷ t) (ap (take n) f.is ∙ take_at f.prefix f.rest n f.size) in
    split (Told _) (is_keyword (take (n + 1) (c ∷ s))) _ _
    (λ is. record { prefix = c ∷ f.prefix; rest = f.rest; is = ap (λ t. c ∷ t) f.is; size = omega (arith, f.size); holds = keyword (ap is_keyword (sym prefix) ∙ is) f.holds.1 }) (λ _. tt)

variable_told : (c : ℕ) (s : List ℕ) → (is_upper c || nat_eq c 95) ≡ true → Told (c ∷ s) (lexeme Variable (prefix_len is_name_byte s + 1))
variable_told c s is = behind_byte (ArePassing is_name_byte) (Spells Variable) c (prefix_len is_name_byte s) s (λ cs us h. variable is h) (passing is_name_byte s)

dash_told : (s : List ℕ) → Told (45 ∷ s) (cond (begins (λ d. nat_eq d 62 || nat_eq d 124) s) (lexeme Sign 2) (Err Token))
dash_told [] = tt
dash_told (d ∷ s) = split (Told _) (nat_eq d 62 || nat_eq d 124) _ _ (λ is. record { prefix = 45 ∷ d ∷ []; rest = s; is = refl; size = refl; holds = dash_sign is }) (λ _. tt)

sign_told : (c : ℕ) (s : List ℕ) → Told (c ∷ s) (sign_at c s)
sign_told c s =
    split (Told _) (is_short_sign c) _ _ (λ is. record { prefix = c ∷ []; rest = s; is = refl; size = refl; holds = sign is })
    (λ _. split (Told _) (nat_eq c 45) _ _ (λ is. subst (λ d. Told (d ∷ s) (cond (begins (λ d. nat_eq d 62 || nat_eq d 124) s) (lexeme Sign 2) (Err Token))) (equal c 45 is) (dash_told s)) (λ _. tt))

-- numbers
abbrev pub most : Bool → ℕ
most true = farthest_below
most false = greatest_integer

below_zero : (n : ℕ) → is_in_range (signed true (suc n)) ≡ nat_le (suc n) (most true)
below_zero n = grind (arith, ints, nat_tests)

pub in_range : (b : Bool) (n : ℕ) → is_in_range (signed b n) ≡ nat_le n (most b)
in_range true zero = refl
in_range true (suc n) = below_zero n
in_range false n = refl

plus_is : (c : ℕ) → nat_eq c 45 ≡ false → is_sign_byte c ≡ true → 43 ≡ c
plus_is c other is = grind (arith, nat_tests)

no_end : (b : Bool) → (b && false) ≡ true → ⊥
no_end true h = absurd (cc)
no_end false h = absurd (cc)

first_of_both : (a b : Bool) → (a && b) ≡ true → a ≡ true
first_of_both true b h = refl
first_of_both false b h = h

second_of_both : (a b : Bool) → (a && b) ≡ true → b ≡ true
second_of_both true b h = h
second_of_both false b h = absurd (cc)

-- digits at the beginning, a fraction of f bytes or none behind them, and a sign before them
number_cut : (ss : List ℕ) (b : Bool) (s : List ℕ) (n : ℕ) → IsSign ss b → (d : BeginsWith AreDigits s n)
    → Told (ss ++ s)
    (cond (nat_eq (fraction_length d.rest) 0) (cond (nat_le (number_from 10 0 d.prefix) (most b)) (lexeme Integer (length ss + n)) (Err WideInteger))
    (lexeme Float (length ss + n + fraction_length d.rest)))
number_cut ss b s n is d =
    let m = number_from 10 0 d.prefix in
    let cut : ss ++ s ≡ ss ++ d.prefix ++ d.rest = ap (λ t. ss ++ t) d.is ∙ sym (append_assoc ss d.prefix d.rest) in
    split (Told _) (nat_eq (fraction_length d.rest) 0) _ _
    (λ whole.
    let i : IsInteger (signed b m) (ss ++ d.prefix) d.rest = spelled_integer d.prefix d.rest is d.holds (no_fraction d.rest (sym (equal _ 0 whole))) in
    split (Told _) (nat_le m (most b)) _ _
    (λ few. record { prefix = ss ++ d.prefix; rest = d.rest; is = cut; size = omega (arith, length-append ss d.prefix, d.size); holds = integer i (in_range b m ∙ few) })
    (λ wide. subst (λ t. IsFault t WideInteger) (sym cut) (wide_integer i (in_range b m ∙ wide))))
    (λ part.
    let f = fraction_there d.rest (positive _ part) in
    record {
      prefix = ss ++ d.prefix ++ f.prefix;
      rest = f.rest;
      is = cut ∙ ap (λ t. ss ++ d.prefix ++ t) f.is ∙ sym (append_assoc (ss ++ d.prefix) f.prefix f.rest);
      size = omega (arith, length-append (ss ++ d.prefix) f.prefix, length-append ss d.prefix, d.size, f.size);
      holds = float (spelled_float d.prefix f.prefix f.rest is (subst (AreDigits d.prefix) f.is d.holds) f.holds);
    })

-- a number whose first digit is there
number_told : (ss : List ℕ) (b : Bool) (c : ℕ) (t : List ℕ) → IsSign ss b → is_digit c ≡ true → Told (ss ++ c ∷ t) (number_at (length ss) (most b) (c ∷ t))
unfolding number_at
number_told ss b c t is first =
    let k = prefix_len is_digit t in
    let s = c ∷ t in
    let f = passing is_digit t in
    let d : BeginsWith AreDigits s (k + 1) = record {
      prefix = c ∷ f.prefix;
      rest = f.rest;
      is = ap (λ t. c ∷ t) f.is;
      size = omega (arith, f.size);
      holds = (omega arith, ((first, f.holds.0), f.holds.1));
    } in
    let prefix : d.prefix ≡ take (k + 1) s = sym (ap (take (k + 1)) d.is ∙ take_at d.prefix d.rest (k + 1) d.size) in
    let rest : d.rest ≡ drop (k + 1) s = sym (ap (drop (k + 1)) d.is ∙ drop_at d.prefix d.rest (k + 1) d.size) in
    let found : List ℕ → List ℕ → Found = λ ds us.
    cond (nat_eq (fraction_length us) 0) (cond (nat_le (number_from 10 0 ds) (most b)) (lexeme Integer (length ss + (k + 1))) (Err WideInteger))
    (lexeme Float (length ss + (k + 1) + fraction_length us)) in
    subst (Told (ss ++ s)) (ap (λ ds. found ds d.rest) prefix ∙ ap (λ us. found (take (k + 1) s) us) rest) (number_cut ss b s (k + 1) is d)

signed_by : (c d : ℕ) (t : List ℕ) (b : Bool) → nat_eq c 45 ≡ b → is_sign_byte c ≡ true → is_digit d ≡ true
    → Told (c ∷ d ∷ t) (number_at 1 (cond b farthest_below greatest_integer) (d ∷ t))
signed_by c d t true minus_is is first = subst (λ c. Told (c ∷ d ∷ t) (number_at 1 farthest_below (d ∷ t))) (equal c 45 minus_is) (number_told (45 ∷ []) true d t minus first)
signed_by c d t false other is first = subst (λ c. Told (c ∷ d ∷ t) (number_at 1 greatest_integer (d ∷ t))) (plus_is c other is) (number_told (43 ∷ []) false d t plus first)

signed_told : (c : ℕ) (s : List ℕ) → (is_sign_byte c && begins is_digit s) ≡ true → Told (c ∷ s) (number_at 1 (cond (nat_eq c 45) farthest_below greatest_integer) s)
signed_told c [] both = absurd (no_end (is_sign_byte c) both)
signed_told c (d ∷ t) both = signed_by c d t (nat_eq c 45) refl (first_of_both _ _ both) (second_of_both _ _ both)

unquoted_told : (c : ℕ) (s : List ℕ) → Told (c ∷ s) (unquoted_at (c ∷ s))
unfolding unquoted_at
unquoted_told c s =
    split (Told _) (is_digit c) _ _ (λ is. number_told [] false c s none is)
    (λ _. split (Told _) (is_sign_byte c && begins is_digit s) _ _ (λ both. signed_told c s both)
    (λ _. split (Told _) (is_upper c || nat_eq c 95) _ _ (λ is. variable_told c s is)
    (λ _. split (Told _) (is_lower c) _ _ (λ is. keyword_told c s) (λ _. sign_told c s))))

pub told : (s : List ℕ) → Told s (lexeme_at s)
unfolding lexeme_at
told [] = tt
told (c ∷ s) =
    split (Told _) (nat_eq c 39) _ _ (λ is. subst (λ d. Told (d ∷ s) (atom_of (quoted_at 39 s))) (equal c 39 is) (atom_told s (quoted_at 39 s) refl))
    (λ _. split (Told _) (nat_eq c 34) _ _ (λ is. subst (λ d. Told (d ∷ s) (text_of (quoted_at 34 s))) (equal c 34 is) (text_told s (quoted_at 34 s) refl))
    (λ _. split (Told _) (nat_eq c 36) _ _ (λ is. subst (λ d. Told (d ∷ s) (character_by (code_point_at s))) (equal c 36 is) (character_told s (code_point_at s) refl)) (λ _. unquoted_told c s)))
