-- What terminals mean: the number, the code points or the mark that the bytes of a token spell.
use Rattle.std.specs.Prelude.{◌≡◌, ℕ, ℤ, pos, true, false, List, ◌∷◌, drop, Some}
use Rattle.core_text.specs.Bytes.{is_digit, begins}
use Rattle.core_text.specs.Characters.{IsCodePoint, IsQuoted}
use Rattle.core_text.specs.Numbers.{IsInteger, IsFloat}
use Rattle.core_token.specs.declared.token.Sort.{Sort}
use Rattle.core_token.specs.declared.token.Token.{Token}
use Rattle.core_token.specs.Spelling.{IsAtom}
use Rattle.core_token.specs.Text.{bytes_of}
use Rattle.core_grammar.specs.declared.terminal.Kind.{Kind}
use Rattle.core_grammar.specs.declared.terminal.Mark.{Mark}
use Rattle.core_reader.specs.Terminals.{keyword_of, sign_of, terminal_of}

-- what the bytes of a token of this sort mean, where these stand behind them
pub data Means : Sort → List ℕ → List ℕ → Kind → Type 0 where
  -- the code points between the quotes
  atom : {vs cs us : List ℕ} → IsAtom vs cs us → Means Sort.Atom cs us (Kind.Atom vs)
  text : {vs cs us : List ℕ} → IsQuoted 34 vs cs us → Means Sort.Text (34 ∷ cs) us (Kind.Text vs)
  -- the code point behind `$`, as an integer
  character : {v : ℕ} {cs us : List ℕ} → IsCodePoint v cs us → Means Sort.Character (36 ∷ cs) us (Kind.Integer (pos v))
  -- the bytes are the name
  variable : {cs us : List ℕ} → Means Sort.Variable cs us (Kind.Variable cs)
  -- the number, without a sign or with one
  natural : {n : ℕ} {cs us : List ℕ} → IsInteger (pos n) cs us → begins is_digit cs ≡ true → Means Sort.Integer cs us (Kind.Natural n)
  signed : {n : ℤ} {cs us : List ℕ} → IsInteger n cs us → begins is_digit cs ≡ false → Means Sort.Integer cs us (Kind.Integer n)
  -- the number of a float is of no matter
  float : {cs us : List ℕ} → IsFloat cs us → Means Sort.Float cs us Kind.Float
  -- the mark of the table
  keyword : {m : Mark} {cs us : List ℕ} → keyword_of cs ≡ Some m → Means Sort.Word cs us (Kind.Mark m)
  sign : {m : Mark} {cs us : List ℕ} → sign_of cs ≡ Some m → Means Sort.Sign cs us (Kind.Mark m)

-- the terminal of a token of a text means what the token's bytes spell there, and stands where the token stands
abbrev pub TerminalMeans : List ℕ → Token → Type 0
TerminalMeans s t = Means t.sort (bytes_of s t) (drop t.end s) (terminal_of s t).kind × ((terminal_of s t).at ≡ t.at)
