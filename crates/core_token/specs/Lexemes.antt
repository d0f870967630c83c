-- The token at the beginning of a text: what it is and how many bytes it has, or why there is none.
use Rattle.std.specs.Prelude.{ℕ, ◌+◌, Bool, false, ◌||◌, ◌&&◌, ◌==◌, nat_eq, nat_le, nat_lt, nat_abs, if◌then◌else◌, List, [], ◌∷◌, take, drop, codes, Option, Some, None, Result, Ok, Err}
use Rattle.std.specs.List.{prefix_len}
use Rattle.std.specs.Cmp.Lexicographic.{pointwise}
use Rattle.hipe_base.specs.declared.limits.TheConstants.{ATOM_LIMIT, GREATEST_INTEGER, LEAST_INTEGER}
use Rattle.core_text.specs.declared.quoted.Quoted.{Quoted}
use Rattle.core_text.specs.declared.code_point.CodePoint.{CodePoint}
use Rattle.core_text.specs.Bytes.{is_digit, is_lower, is_upper, is_name_byte, begins, number_from}
use Rattle.core_text.specs.CodePoints.{code_point_at}
use Rattle.core_text.specs.Quotes.{quoted_at}
use Rattle.core_text.specs.Fractions.{is_sign_byte, fraction_length}
use Rattle.core_token.specs.declared.token.Sort.{Sort}
use Rattle.core_token.specs.declared.token.Sort.TheVariants.{Atom, Variable, Integer, Float, Character, Text, Word, Sign}
use Rattle.core_token.specs.declared.token.TokenKind.{TokenKind}
use Rattle.core_token.specs.declared.token.TokenKind.TheVariants.{Token, WideInteger, LongAtom}
use Rattle.core_token.specs.declared.lexeme.Lexeme.{Lexeme}

-- a token, or what is wrong
abbrev pub Found : Type 0
Found = Result Lexeme TokenKind

abbrev pub lexeme : Sort → ℕ → Found
lexeme sort n = Ok (record { sort = sort; length = n })

abbrev pub atom_of : Option Quoted → Found
atom_of None = Err Token
atom_of (Some b) = if nat_lt ATOM_LIMIT b.code_points then Err LongAtom else lexeme Atom (b.length + 1)

abbrev pub text_of : Option Quoted → Found
text_of None = Err Token
text_of (Some b) = lexeme Text (b.length + 1)

-- characters ---------------------------------------------------------------------------------------------------------------------------------

-- what stands behind `$`: an escape, or one code point
abbrev pub character_by : Option CodePoint → Found
character_by None = Err Token
character_by (Some p) = lexeme Character (p.length + 1)

-- numbers ------------------------------------------------------------------------------------------------------------------------------------

-- the digits of an integer, where the greatest one is `most`, or of a float, behind k bytes of a sign
unfoldable pub number_at : ℕ → ℕ → List ℕ → Found
number_at k most s =
    let n = prefix_len is_digit (drop 1 s) + 1 in
    let f = fraction_length (drop n s) in
    if f == 0 then (if nat_le (number_from 10 0 (take n s)) most then lexeme Integer (k + n) else Err WideInteger) else lexeme Float (k + n + f)

-- how far integers go above and below 0
abbrev pub greatest_integer : ℕ
greatest_integer = nat_abs GREATEST_INTEGER

abbrev pub farthest_below : ℕ
farthest_below = nat_abs LEAST_INTEGER

-- keywords and signs ----------------------------------------------------------------------------------------------------------------------------

abbrev pub is_among : List ℕ → List (List ℕ) → Bool
is_among cs [] = false
is_among cs (w ∷ ws) = pointwise nat_eq cs w || is_among cs ws

-- the keywords of the language
abbrev pub keywords : List (List ℕ)
keywords =
    codes "after"
    ∷ codes "apply"
    ∷ codes "attributes"
    ∷ codes "call"
    ∷ codes "case"
    ∷ codes "catch"
    ∷ codes "do"
    ∷ codes "end"
    ∷ codes "fun"
    ∷ codes "in"
    ∷ codes "let"
    ∷ codes "letrec"
    ∷ codes "module"
    ∷ codes "of"
    ∷ codes "primop"
    ∷ codes "receive"
    ∷ codes "timeout"
    ∷ codes "try"
    ∷ codes "when"
    ∷ []

unfoldable pub is_keyword : List ℕ → Bool
is_keyword cs = is_among cs keywords

abbrev pub is_byte_among : ℕ → List ℕ → Bool
is_byte_among c [] = false
is_byte_among c (d ∷ ds) = c == d || is_byte_among c ds

-- the signs of one byte
abbrev pub is_short_sign : ℕ → Bool
is_short_sign c = is_byte_among c (codes "(){}[]<>,=/:|#~")

-- lower-case letters and what goes on with them
abbrev pub keyword_at : List ℕ → Found
keyword_at s = let n = prefix_len is_name_byte (drop 1 s) + 1 in if is_keyword (take n s) then lexeme Word n else Err Token

-- how many bytes the sign has that begins with the byte c before s; 0 where none does
abbrev pub sign_length : ℕ → List ℕ → ℕ
sign_length c s = if is_short_sign c then 1 else (if c == 45 then (if begins (λ d. d == 62 || d == 124) s then 2 else 0) else 0)

-- what begins with `-` but is no number: `->` and `-|`
abbrev pub sign_at : ℕ → List ℕ → Found
sign_at c s =
    if is_short_sign c then lexeme Sign 1
    else (if c == 45 then (if begins (λ d. d == 62 || d == 124) s then lexeme Sign 2 else Err Token) else Err Token)

-- the token at the beginning ----------------------------------------------------------------------------------------------------------------------

-- a number, a variable, a keyword or a sign
unfoldable pub unquoted_at : List ℕ → Found
unquoted_at [] = Err Token
unquoted_at (c ∷ s) =
    if is_digit c then number_at 0 greatest_integer (c ∷ s)
    else (if is_sign_byte c && begins is_digit s then number_at 1 (if c == 45 then farthest_below else greatest_integer) s
    else (if is_upper c || c == 95 then lexeme Variable (prefix_len is_name_byte s + 1)
    else (if is_lower c then keyword_at (c ∷ s) else sign_at c s)))

unfoldable pub lexeme_at : List ℕ → Found
lexeme_at [] = Err Token
lexeme_at (c ∷ s) =
    if c == 39 then atom_of (quoted_at 39 s)
    else (if c == 34 then text_of (quoted_at 34 s)
    else (if c == 36 then character_by (code_point_at s) else unquoted_at (c ∷ s)))
