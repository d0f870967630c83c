-- A token that is spelled at the beginning of a text is taken, and so are a wide integer and a long atom for what they are.
use Rattle.std.proofs.Common.{◌≡◌, ◌⊎◌, inl, inr, ℕ, ◌+◌, ◌<◌, ◌≤◌, Bool, true, false, cond, ◌||◌, ◌&&◌, nat_eq, nat_lt, nat_le, ℤ, List, [], ◌∷◌, ◌++◌, length, take, drop, Err, refl, ap, sym, ◌∙◌, subst, append_assoc, length-append, arith}
use Rattle.std.specs.Prelude.{codes}
use Rattle.std.specs.List.{prefix_len, AllByRecursion}
use Rattle.std.specs.Cmp.Lexicographic.{pointwise, same_text}
use Rattle.std.proofs.lemmas.Bool.Decides.{nat_tests}
use Rattle.std.proofs.lemmas.List.{take_at, drop_at}
use Rattle.std.proofs.lemmas.List.Folds.{prefix_len-append}
use Rattle.hipe_base.specs.declared.limits.TheConstants.{ATOM_LIMIT}
use Rattle.hipe_terms.specs.Range.{is_in_range}
use Rattle.core_text.specs.Bytes.{is_digit, is_upper, is_lower, is_name_byte, begins, number_from}
use Rattle.core_text.specs.Fractions.{is_sign_byte, fraction_length}
use Rattle.core_text.specs.Prefixes.{ArePassing, AreDigits}
use Rattle.core_text.specs.Characters.{IsCodePoint, IsQuoted}
use Rattle.core_text.specs.Numbers.{IsSign, none, plus, minus, signed, IsInteger, integer as spelled_integer, IsFloat, float as spelled_float}
use Rattle.core_text.proofs.Prefixes.{count, stops}
use Rattle.core_text.proofs.Points.{point_read}
use Rattle.core_text.proofs.Quoting.{quoted_read}
use Rattle.core_text.proofs.Fractions.{fraction_read, fraction_some, fraction_none}
use Rattle.core_token.specs.declared.token.Sort.{Sort}
use Rattle.core_token.specs.declared.token.Sort.TheVariants.{Atom, Variable, Integer, Float, Character, Text, Word, Sign}
use Rattle.core_token.specs.declared.token.TokenKind.TheVariants.{Token, WideInteger, LongAtom}
use Rattle.core_token.specs.Lexemes.{Found, lexeme, atom_of, text_of, character_by, number_at, is_among, keywords, is_keyword, is_byte_among, is_short_sign, unquoted_at, lexeme_at}
use Rattle.core_token.specs.Spelling.{IsAtom, quoted, Spells, atom, text, character, variable, integer, float, keyword, sign, dash_sign}
use Rattle.core_token.proofs.Spelled.{most, in_range}

skip : (b : Bool) (x y : Found) → b ≡ false → cond b x y ≡ y
skip b x y h = ap (λ b. cond b x y) h

pick : (b : Bool) (x y : Found) → b ≡ true → cond b x y ≡ x
pick b x y h = ap (λ b. cond b x y) h

size : (sort : Sort) (m n : ℕ) → m ≡ n → lexeme sort m ≡ lexeme sort n
size sort m n e = ap (lexeme sort) e

-- atoms, texts and characters
pub atom_read : (vs cs us : List ℕ) → IsAtom vs cs us → lexeme_at (cs ++ us) ≡ cond (nat_lt ATOM_LIMIT (length vs)) (Err LongAtom) (lexeme Atom (length cs))
unfolding lexeme_at
atom_read vs cs us (quoted {cs = ds} is) =
    ap atom_of (quoted_read 39 vs ds us is) ∙ ap (λ l. cond (nat_lt ATOM_LIMIT (length vs)) (Err LongAtom) l) (size Atom (length ds + 1) (length (39 ∷ ds)) (omega arith))

text_read : (vs cs us : List ℕ) → IsQuoted 34 vs cs us → lexeme_at (34 ∷ cs ++ us) ≡ lexeme Text (length (34 ∷ cs))
unfolding lexeme_at
text_read vs cs us is = ap text_of (quoted_read 34 vs cs us is) ∙ size Text (length cs + 1) (length (34 ∷ cs)) (omega arith)

character_read : (v : ℕ) (cs us : List ℕ) → IsCodePoint v cs us → lexeme_at (36 ∷ cs ++ us) ≡ lexeme Character (length (36 ∷ cs))
unfolding lexeme_at
character_read v cs us is = ap character_by (point_read v cs us is) ∙ size Character (length cs + 1) (length (36 ∷ cs)) (omega arith)

-- variables
name_39 : (c : ℕ) → (is_upper c || nat_eq c 95) ≡ true → nat_eq c 39 ≡ false
name_39 c is = grind (arith, nat_tests)

name_34 : (c : ℕ) → (is_upper c || nat_eq c 95) ≡ true → nat_eq c 34 ≡ false
name_34 c is = grind (arith, nat_tests)

name_36 : (c : ℕ) → (is_upper c || nat_eq c 95) ≡ true → nat_eq c 36 ≡ false
name_36 c is = grind (arith, nat_tests)

name_digit : (c : ℕ) → (is_upper c || nat_eq c 95) ≡ true → is_digit c ≡ false
name_digit c is = grind (arith, nat_tests)

name_sign : (c : ℕ) → (is_upper c || nat_eq c 95) ≡ true → is_sign_byte c ≡ false
name_sign c is = grind (arith, nat_tests)

and_false : (a b : Bool) → a ≡ false → (a && b) ≡ false
and_false a b h = ap (λ a. a && b) h

variable_read : (c : ℕ) (cs us : List ℕ) → (is_upper c || nat_eq c 95) ≡ true → ArePassing is_name_byte cs us → lexeme_at (c ∷ cs ++ us) ≡ lexeme Variable (length (c ∷ cs))
unfolding lexeme_at unquoted_at
variable_read c cs us is h =
    let n : prefix_len is_name_byte (cs ++ us) ≡ length cs = count is_name_byte cs us h.0 h.1 in
    skip _ _ _ (name_39 c is) ∙ skip _ _ _ (name_34 c is) ∙ skip _ _ _ (name_36 c is) ∙ skip _ _ _ (name_digit c is)
    ∙ skip _ _ _ (and_false _ _ (name_sign c is)) ∙ pick _ _ _ is ∙ size Variable _ _ (omega (arith, n))

-- numbers
digit_39 : (c : ℕ) → is_digit c ≡ true → nat_eq c 39 ≡ false
digit_39 c is = grind (arith, nat_tests)

digit_34 : (c : ℕ) → is_digit c ≡ true → nat_eq c 34 ≡ false
digit_34 c is = grind (arith, nat_tests)

digit_36 : (c : ℕ) → is_digit c ≡ true → nat_eq c 36 ≡ false
digit_36 c is = grind (arith, nat_tests)

begin_digits : (ds us : List ℕ) → AreDigits ds us → begins is_digit (ds ++ us) ≡ true
begin_digits [] us h = absurd (omega (arith, h.0))
begin_digits (d ∷ ds) us h = h.1.0.0

-- a number is taken at its digits
number_first : (ss ds us : List ℕ) (b : Bool) → IsSign ss b → AreDigits ds us → lexeme_at (ss ++ (ds ++ us)) ≡ number_at (length ss) (most b) (ds ++ us)
unfolding lexeme_at unquoted_at
number_first ss [] us b none h = absurd (omega (arith, h.0))
number_first ss (d ∷ ds) us b none h =
    skip _ _ _ (digit_39 d h.1.0.0) ∙ skip _ _ _ (digit_34 d h.1.0.0) ∙ skip _ _ _ (digit_36 d h.1.0.0) ∙ pick _ _ _ h.1.0.0
number_first ss ds us b plus h = pick _ _ _ (begin_digits ds us h)
number_first ss ds us b minus h = pick _ _ _ (begin_digits ds us h)

-- digits, a fraction of f bytes behind them or none, and k bytes of a sign before them
abbrev pub number_by : ℕ → ℕ → List ℕ → List ℕ → ℕ → Found
number_by k m ds us n =
    cond (nat_eq (fraction_length us) 0) (cond (nat_le (number_from 10 0 ds) m) (lexeme Integer (k + n)) (Err WideInteger)) (lexeme Float (k + n + fraction_length us))

number_read : (k m : ℕ) (ds us : List ℕ) → AreDigits ds us → number_at k m (ds ++ us) ≡ number_by k m ds us (length ds)
unfolding number_at
number_read k m [] us h = absurd (omega (arith, h.0))
number_read k m (d ∷ ds) us h =
    let s = d ∷ ds ++ us in
    let e : prefix_len is_digit (ds ++ us) + 1 ≡ length (d ∷ ds) = let c : prefix_len is_digit (ds ++ us) ≡ length ds = count is_digit ds us h.1.0.1 h.1.1 in omega (arith, c) in
    let n = length (d ∷ ds) in
    ap (λ n. number_by k m (take n s) (drop n s) n) e ∙ ap (λ t. number_by k m t (drop n s) n) (take_at (d ∷ ds) us n refl)
    ∙ ap (λ t. number_by k m (d ∷ ds) t n) (drop_at (d ∷ ds) us n refl)

whole : (n : ℕ) → n ≡ 0 → nat_eq n 0 ≡ true
whole n h = grind (arith, nat_tests)

parts : (n : ℕ) → 0 < n → nat_eq n 0 ≡ false
parts n h = grind (arith, nat_tests)

pub integer_read : (n : ℤ) (cs us : List ℕ) → IsInteger n cs us → lexeme_at (cs ++ us) ≡ cond (is_in_range n) (lexeme Integer (length cs)) (Err WideInteger)
integer_read n cs us (spelled_integer {ss = ss} {b = b} ds vs is digits ends) =
    let m = number_from 10 0 ds in
    ap lexeme_at (append_assoc ss ds us) ∙ number_first ss ds us b is digits ∙ number_read (length ss) (most b) ds us digits
    ∙ pick _ _ _ (whole (fraction_length us) (fraction_none us ends)) ∙ ap (λ x. cond x (lexeme Integer (length ss + length ds)) (Err WideInteger)) (sym (in_range b m))
    ∙ ap (λ l. cond (is_in_range (signed b m)) l (Err WideInteger)) (size Integer (length ss + length ds) (length (ss ++ ds)) (sym (length-append ss ds)))

float_read : (cs us : List ℕ) → IsFloat cs us → lexeme_at (cs ++ us) ≡ lexeme Float (length cs)
float_read cs us (spelled_float {ss = ss} {b = b} ds fs vs is digits h) =
    let e : ss ++ ds ++ fs ++ us ≡ ss ++ (ds ++ (fs ++ us)) = append_assoc (ss ++ ds) fs us ∙ append_assoc ss ds (fs ++ us) in
    let n : fraction_length (fs ++ us) ≡ length fs = fraction_read fs us h in
    ap lexeme_at e ∙ number_first ss ds (fs ++ us) b is digits ∙ number_read (length ss) (most b) ds (fs ++ us) digits
    ∙ skip _ _ _ (parts (fraction_length (fs ++ us)) (omega (arith, n, fraction_some fs us h)))
    ∙ size Float (length ss + length ds + fraction_length (fs ++ us)) (length (ss ++ ds ++ fs)) (omega (arith, n, length-append (ss ++ ds) fs, length-append ss ds))

-- keywords
abbrev pub is_name : List ℕ → Bool
is_name [] = false
is_name (c ∷ t) = is_lower c && nat_eq (prefix_len is_name_byte t) (length t)

among_by : (P : List ℕ → Type 0) (cs w : List ℕ) (b r : Bool) → pointwise nat_eq cs w ≡ b → P w → (r ≡ true → P cs) → (b || r) ≡ true → P cs
among_by P cs w true r is h rest some = subst P (sym (same_text cs w (sym is))) h
among_by P cs w false r is h rest some = rest some

pub among : (P : List ℕ → Type 0) (cs : List ℕ) (ws : List (List ℕ)) → AllByRecursion P ws → is_among cs ws ≡ true → P cs
among P cs [] all some = absurd (cc)
among P cs (w ∷ ws) all some = among_by P cs w (pointwise nat_eq cs w) (is_among cs ws) refl all.0 (among P cs ws all.1) some

abbrev pub IsName : List ℕ → Type 0
IsName w = is_name w ≡ true

all_names : AllByRecursion IsName keywords
all_names =
    (refl, (refl, (refl, (refl, (refl, (refl, (refl, (refl, (refl, (refl, (refl, (refl, (refl, (refl, (refl, (refl, (refl, (refl, (refl, tt)))))))))))))))))))

pub name_of : (cs : List ℕ) → is_keyword cs ≡ true → is_name cs ≡ true
unfolding is_keyword
name_of cs is = among IsName cs keywords all_names is

pub both : (a b : Bool) → (a && b) ≡ true → (a ≡ true) × (b ≡ true)
both true b h = (refl, h)
both false b h = absurd (cc)

pub equal : (m n : ℕ) → nat_eq m n ≡ true → m ≡ n
equal m n h = grind (arith, nat_tests)

name_count : (t us : List ℕ) → prefix_len is_name_byte t ≡ length t → begins is_name_byte us ≡ false → prefix_len is_name_byte (t ++ us) ≡ length t
name_count t us all ends =
    let n : nat_eq (prefix_len is_name_byte t) (length t) ≡ true = grind (arith, nat_tests) in
    prefix_len-append is_name_byte t us ∙ ap (λ b. cond b (length t + prefix_len is_name_byte us) (prefix_len is_name_byte t)) n ∙ omega (arith, stops is_name_byte us ends)

lower_39 : (c : ℕ) → is_lower c ≡ true → nat_eq c 39 ≡ false
lower_39 c is = grind (arith, nat_tests)

lower_34 : (c : ℕ) → is_lower c ≡ true → nat_eq c 34 ≡ false
lower_34 c is = grind (arith, nat_tests)

lower_36 : (c : ℕ) → is_lower c ≡ true → nat_eq c 36 ≡ false
lower_36 c is = grind (arith, nat_tests)

lower_digit : (c : ℕ) → is_lower c ≡ true → is_digit c ≡ false
lower_digit c is = grind (arith, nat_tests)

lower_sign : (c : ℕ) → is_lower c ≡ true → is_sign_byte c ≡ false
lower_sign c is = grind (arith, nat_tests)

lower_name : (c : ℕ) → is_lower c ≡ true → (is_upper c || nat_eq c 95) ≡ false
lower_name c is = grind (arith, nat_tests)

keyword_read : (cs us : List ℕ) → is_keyword cs ≡ true → is_name cs ≡ true → begins is_name_byte us ≡ false → lexeme_at (cs ++ us) ≡ lexeme Word (length cs)
unfolding lexeme_at unquoted_at
keyword_read [] us is name ends = absurd (cc)
keyword_read (c ∷ t) us is name ends =
    let h = both _ _ name in
    let s = c ∷ t ++ us in
    let e : prefix_len is_name_byte (t ++ us) + 1 ≡ length (c ∷ t) = let k = name_count t us (equal _ _ h.1) ends in omega (arith, k) in
    skip _ _ _ (lower_39 c h.0) ∙ skip _ _ _ (lower_34 c h.0) ∙ skip _ _ _ (lower_36 c h.0) ∙ skip _ _ _ (lower_digit c h.0) ∙ skip _ _ _ (and_false _ _ (lower_sign c h.0))
    ∙ skip _ _ _ (lower_name c h.0) ∙ pick _ _ _ h.0 ∙ ap (λ n. cond (is_keyword (take n s)) (lexeme Word n) (Err Token)) e
    ∙ pick _ _ _ (ap is_keyword (take_at (c ∷ t) us (length (c ∷ t)) refl) ∙ is)

-- signs
abbrev pub is_no_sign : ℕ → Bool
is_no_sign c = nat_eq c 39 || nat_eq c 34 || nat_eq c 36 || is_digit c || is_sign_byte c || (is_upper c || nat_eq c 95) || is_lower c

abbrev pub IsOnlySign : ℕ → Type 0
IsOnlySign c = is_no_sign c ≡ false

byte_by : (P : ℕ → Type 0) (c d : ℕ) (b r : Bool) → nat_eq c d ≡ b → P d → (r ≡ true → P c) → (b || r) ≡ true → P c
byte_by P c d true r is h rest some = subst P (sym (equal c d is)) h
byte_by P c d false r is h rest some = rest some

pub byte_among : (P : ℕ → Type 0) (c : ℕ) (ds : List ℕ) → AllByRecursion P ds → is_byte_among c ds ≡ true → P c
byte_among P c [] all some = absurd (cc)
byte_among P c (d ∷ ds) all some = byte_by P c d (nat_eq c d) (is_byte_among c ds) refl all.0 (byte_among P c ds all.1) some

all_signs : AllByRecursion IsOnlySign (codes "(){}[]<>,=/:|#~")
all_signs = (refl, (refl, (refl, (refl, (refl, (refl, (refl, (refl, (refl, (refl, (refl, (refl, (refl, (refl, (refl, tt)))))))))))))))

neither : (a b : Bool) → (a || b) ≡ false → (a ≡ false) × (b ≡ false)
neither true b h = absurd (cc)
neither false b h = (refl, h)

sign_read : (c : ℕ) (us : List ℕ) → is_short_sign c ≡ true → lexeme_at (c ∷ us) ≡ lexeme Sign 1
unfolding lexeme_at unquoted_at
sign_read c us is =
    let h : is_no_sign c ≡ false = byte_among IsOnlySign c (codes "(){}[]<>,=/:|#~") all_signs is in
    let a = neither _ (is_lower c) h in
    let b = neither _ (is_upper c || nat_eq c 95) a.0 in
    let d = neither _ (is_sign_byte c) b.0 in
    let e = neither _ (is_digit c) d.0 in
    let f = neither _ (nat_eq c 36) e.0 in
    let g = neither (nat_eq c 39) (nat_eq c 34) f.0 in
    skip _ _ _ g.0 ∙ skip _ _ _ g.1 ∙ skip _ _ _ f.1 ∙ skip _ _ _ e.1 ∙ skip _ _ _ (and_false _ _ d.1) ∙ skip _ _ _ b.1 ∙ skip _ _ _ a.1 ∙ pick _ _ _ is

dash_cases : (d : ℕ) → (nat_eq d 62 || nat_eq d 124) ≡ true → (d ≡ 62) ⊎ (d ≡ 124)
dash_cases d is = grind (arith, nat_tests)

abbrev pub IsDashed : List ℕ → ℕ → Type 0
IsDashed us d = lexeme_at (45 ∷ d ∷ us) ≡ lexeme Sign 2

dash_by : (d : ℕ) (us : List ℕ) → (d ≡ 62) ⊎ (d ≡ 124) → IsDashed us d
unfolding lexeme_at unquoted_at
dash_by d us (inl e) = subst (IsDashed us) (sym e) refl
dash_by d us (inr e) = subst (IsDashed us) (sym e) refl

at_least : (a b : ℕ) → a ≤ b → nat_lt b a ≡ false
at_least a b h = grind (arith, nat_tests)

pub lexeme_read : (sort : Sort) (cs us : List ℕ) → Spells sort cs us → lexeme_at (cs ++ us) ≡ lexeme sort (length cs)
lexeme_read sort cs us (atom {vs = vs} is few) = atom_read vs cs us is ∙ skip _ _ _ (at_least (length vs) ATOM_LIMIT few)
lexeme_read sort cs us (text {vs = vs} {cs = ds} is) = text_read vs ds us is
lexeme_read sort cs us (character {v = v} {cs = ds} is) = character_read v ds us is
lexeme_read sort cs us (variable {c = c} {cs = ds} first h) = variable_read c ds us first h
lexeme_read sort cs us (integer {n = n} is few) = integer_read n cs us is ∙ pick _ _ _ few
lexeme_read sort cs us (float is) = float_read cs us is
lexeme_read sort cs us (keyword is ends) = keyword_read cs us is (name_of cs is) ends
lexeme_read sort cs us (sign {c = c} is) = sign_read c us is
lexeme_read sort cs us (dash_sign {d = d} is) = dash_by d us (dash_cases d is)
