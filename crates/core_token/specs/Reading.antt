-- The tokens of a text, or its first fault.
use Rattle.std.specs.Prelude.{◌≡◌, ◌⊎◌, ℕ, ◌+◌, ◌==◌, if◌then◌else◌, List, [], ◌∷◌, ◌++◌, take, Option, Some, None, Result, Ok, Err}
use Rattle.std.specs.List.{prefix_len}
use Rattle.hipe_terms.specs.declared.place.Place.{Place}
use Rattle.core_token.specs.declared.token.Token.{Token}
use Rattle.core_token.specs.declared.token.TokenKind.{TokenKind}
use Rattle.core_token.specs.declared.token.TokenFault.{TokenFault}
use Rattle.core_token.specs.declared.token.TokenFault.TheVariants.{Refused, Memory}
use Rattle.core_token.specs.declared.lexeme.Lexeme.{Lexeme}
use Rattle.core_token.specs.declared.scan.Scan.{Scan}
use Rattle.core_text.specs.Bytes.{is_space, is_before_line_end}
use Rattle.core_text.specs.Places.{start, place_after}
use Rattle.core_text.specs.Walks.{walk}
use Rattle.core_text.specs.Utf8.{ill_formed_from, ill_formed, ArePassed}
use Rattle.core_token.specs.Lexemes.{lexeme_at}

-- a text's tokens, or its first fault and the place of it
abbrev pub Reading : Type 0
Reading = Result (List Token) (TokenKind × Place)

-- how many bytes of white space or of a comment stand at the beginning: one, or those of the comment up to the end of the line
abbrev pub blank_length : List ℕ → ℕ
blank_length [] = 0
blank_length (c ∷ s) = if is_space c then 1 else (if c == 37 then prefix_len is_before_line_end s + 1 else 0)

-- behind n bytes
abbrev pub passed : List ℕ → ℕ → Scan → Scan
passed s n b = record { tokens = b.tokens; at = place_after b.at (take n s); offset = b.offset + n }

abbrev pub with_token : Lexeme → Scan → Scan
with_token l b = record {
  tokens = b.tokens ++ record { sort = l.sort; at = b.at; start = b.offset; end = b.offset + l.length } ∷ [];
  at = b.at;
  offset = b.offset;
}

abbrev pub token_step : List ℕ → Scan → Result Lexeme TokenKind → Result (ℕ × Scan) Reading
token_step s b (Ok l) = Ok (l.length, passed s l.length (with_token l b))
token_step s b (Err kind) = Err (Err (kind, b.at))

-- white space, a comment, or a token
unfoldable pub scan_step : List ℕ → Scan → Result (ℕ × Scan) Reading
scan_step s b = if blank_length s == 0 then token_step s b (lexeme_at s) else Ok (blank_length s, passed s (blank_length s) b)

abbrev pub scan_end : Scan → Reading
scan_end b = Ok b.tokens

abbrev pub scan_start : Scan
scan_start = record { tokens = []; at = start; offset = 0 }

-- the tokens of a text that is UTF-8
unfoldable pub scanned : List ℕ → Reading
scanned text = walk scan_step scan_end text 0 scan_start

abbrev pub unless_ill_formed : Option Place → Reading → Reading
unless_ill_formed (Some p) r = Err (TokenKind.Token, p)
unless_ill_formed None r = r

-- the tokens of a text
unfoldable pub read : List ℕ → Reading
read text = unless_ill_formed (ill_formed text) (scanned text)

-- what a call answers, where memory may run out
abbrev pub Answers : Reading → Result (List Token) TokenFault → Type 0
Answers r (Ok ts) = r ≡ Ok ts
Answers r (Err (Refused kind p)) = r ≡ Err (kind, p)
Answers r (Err Memory) = Unit {0}

-- the fault of a text that goes on with no token, by the place of its first byte that isn't UTF-8
abbrev pub refusal : Option Place → TokenKind → Place → TokenFault
refusal (Some first) kind p = Refused TokenKind.Token first
refusal None kind p = Refused kind p

-- a step meets a byte that isn't UTF-8, or no token, and then none follows
abbrev pub IsStopped : List ℕ → Scan → TokenKind → Place → Type 0
IsStopped s b kind p = (kind ≡ TokenKind.Token) × (ill_formed_from b.at s ≡ Some p) ⊎ (ill_formed_from b.at s ≡ None) × (scan_step s b ≡ Err (Err (kind, p)))

-- what a step answers
abbrev pub AnswersStep : List ℕ → Scan → Scan → Result ℕ TokenFault → Type 0
AnswersStep s b u (Ok n) = (scan_step s b ≡ Ok (n, u)) × ArePassed s b.at n u.at
AnswersStep s b u (Err (Refused kind p)) = IsStopped s b kind p
AnswersStep s b u (Err Memory) = Unit {0}
