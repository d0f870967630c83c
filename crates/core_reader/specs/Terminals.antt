-- Terminals: the tokens of a text with their values.
use Rattle.std.specs.Prelude.{ℕ, ℤ, pos, nat_abs, if◌then◌else◌, List, [], ◌∷◌, codes, map, nat_eq, Option, Some, None}
use Rattle.std.specs.Cmp.Lexicographic.{pointwise}
use Rattle.std.specs.Str.{IsUtf8}
use Rattle.core_text.specs.Bytes.{is_digit, begins}
use Rattle.core_token.specs.declared.token.Sort.{Sort}
use Rattle.core_token.specs.declared.token.Token.{Token}
use Rattle.core_token.specs.Text.{bytes_of}
use Rattle.core_token.specs.Values.{integer_of, character_of, code_points_of}
use Rattle.core_grammar.specs.declared.terminal.Kind.{Kind}
use Rattle.core_grammar.specs.declared.terminal.Mark.{Mark}
use Rattle.core_grammar.specs.declared.terminal.Terminal.{Terminal}

-- a mark, and its one spelling
abbrev pub Row : Type 0
Row = List ℕ × Mark

-- the keywords
abbrev pub keywords : List Row
keywords =
    (codes "after", Mark.After)
    ∷ (codes "apply", Mark.Apply)
    ∷ (codes "attributes", Mark.Attributes)
    ∷ (codes "call", Mark.Call)
    ∷ (codes "case", Mark.Case)
    ∷ (codes "catch", Mark.Catch)
    ∷ (codes "do", Mark.Do)
    ∷ (codes "end", Mark.End)
    ∷ (codes "fun", Mark.Fun)
    ∷ (codes "in", Mark.In)
    ∷ (codes "let", Mark.Let)
    ∷ (codes "letrec", Mark.Letrec)
    ∷ (codes "module", Mark.Module)
    ∷ (codes "of", Mark.Of)
    ∷ (codes "primop", Mark.Primop)
    ∷ (codes "receive", Mark.Receive)
    ∷ (codes "timeout", Mark.Timeout)
    ∷ (codes "try", Mark.Try)
    ∷ (codes "when", Mark.When)
    ∷ []

-- the signs
abbrev pub signs : List Row
signs =
    (codes "(", Mark.OpenRound)
    ∷ (codes ")", Mark.CloseRound)
    ∷ (codes "{", Mark.OpenBrace)
    ∷ (codes "}", Mark.CloseBrace)
    ∷ (codes "[", Mark.OpenSquare)
    ∷ (codes "]", Mark.CloseSquare)
    ∷ (codes "<", Mark.Less)
    ∷ (codes ">", Mark.Greater)
    ∷ (codes ",", Mark.Comma)
    ∷ (codes "=", Mark.Equals)
    ∷ (codes "/", Mark.Slash)
    ∷ (codes ":", Mark.Colon)
    ∷ (codes "|", Mark.Bar)
    ∷ (codes "#", Mark.Hash)
    ∷ (codes "~", Mark.Tilde)
    ∷ (codes "->", Mark.Arrow)
    ∷ (codes "-|", Mark.Dash)
    ∷ []

-- the mark that some bytes spell, if one does
abbrev pub mark_in : List Row → List ℕ → Option Mark
mark_in [] cs = None
mark_in (row ∷ rows) cs = if pointwise nat_eq cs row.0 then Some row.1 else mark_in rows cs

-- the mark of a keyword
unfoldable pub keyword_of : List ℕ → Option Mark
keyword_of cs = mark_in keywords cs

-- the mark of a sign
unfoldable pub sign_of : List ℕ → Option Mark
sign_of cs = mark_in signs cs

-- what a keyword or a sign is. Each one of a text is in its table; what isn't is no part of the profile, as a float
abbrev pub marked : Option Mark → Kind
marked None = Kind.Float
marked (Some m) = Kind.Mark m

-- an integer without a sign before it is a natural number
abbrev pub number_of : List ℕ → ℤ → Kind
number_of cs n = if begins is_digit cs then Kind.Natural (nat_abs n) else Kind.Integer n

-- an integer and a character of a text have values; where there is none, it is 0
abbrev pub or_zero : Option ℤ → ℤ
or_zero None = pos 0
or_zero (Some n) = n

abbrev pub or_nul : Option ℕ → ℕ
or_nul None = 0
or_nul (Some c) = c

-- what a token of this sort with these bytes is
abbrev pub kind_of : Sort → List ℕ → Kind
kind_of Sort.Atom cs = Kind.Atom (code_points_of cs)
kind_of Sort.Variable cs = Kind.Variable cs
kind_of Sort.Integer cs = number_of cs (or_zero (integer_of cs))
kind_of Sort.Float cs = Kind.Float
kind_of Sort.Character cs = Kind.Integer (pos (or_nul (character_of cs)))
kind_of Sort.Text cs = Kind.Text (code_points_of cs)
kind_of Sort.Word cs = marked (keyword_of cs)
kind_of Sort.Sign cs = marked (sign_of cs)

-- the name of a variable is UTF-8
abbrev pub HasName : Sort → List ℕ → Type 0
HasName Sort.Variable cs = IsUtf8 cs
HasName Sort.Atom cs = Unit {0}
HasName Sort.Integer cs = Unit {0}
HasName Sort.Float cs = Unit {0}
HasName Sort.Character cs = Unit {0}
HasName Sort.Text cs = Unit {0}
HasName Sort.Word cs = Unit {0}
HasName Sort.Sign cs = Unit {0}

abbrev pub terminal_of : List ℕ → Token → Terminal
terminal_of s t = record { kind = kind_of t.sort (bytes_of s t); at = t.at }

-- the terminals of a text with these tokens
abbrev pub terminals_of : List ℕ → List Token → List Terminal
terminals_of s ts = map (terminal_of s) ts
