-- A text is white space, comments and tokens in turn: which list of tokens it has, and what its first fault is.
use Rattle.std.specs.Prelude.{◌≡◌, ◌⊎◌, ℕ, ◌+◌, ◌-◌, ◌<◌, ◌≤◌, List, [], ◌∷◌, ◌++◌, length, take, drop, Result, Ok, Err}
use Rattle.std.specs.Str.{IsUtf8}
use Rattle.hipe_terms.specs.declared.place.Place.{Place}
use Rattle.core_text.specs.Places.{start, place_after}
use Rattle.core_text.specs.Characters.{IsIllFormed}
use Rattle.core_token.specs.declared.token.Sort.{Sort}
use Rattle.core_token.specs.declared.token.Token.{Token}
use Rattle.core_token.specs.declared.token.TokenKind.{TokenKind}
use Rattle.core_token.specs.declared.token.TokenFault.{TokenFault}
use Rattle.core_token.specs.declared.token.TokenFault.TheVariants.{Refused, Memory}
use Rattle.core_token.specs.Spelling.{IsBlank, Spells, IsFault}
use Rattle.core_token.specs.Values.{HasValue}

-- the tokens of a text that goes on from its byte i, at the place p
pub data HasTokens : List ℕ → ℕ → Place → List Token → Type 0 where
  nothing : {i : ℕ} {p : Place} → HasTokens [] i p []
  blank : {cs us : List ℕ} {i : ℕ} {p : Place} {ts : List Token} → IsBlank cs us → HasTokens us (i + length cs) (place_after p cs) ts → HasTokens (cs ++ us) i p ts
  token : {sort : Sort} {cs us : List ℕ} {i : ℕ} {p : Place} {ts : List Token} → Spells sort cs us → HasTokens us (i + length cs) (place_after p cs) ts
      → HasTokens (cs ++ us) i p (record { sort = sort; at = p; start = i; end = i + length cs } ∷ ts)

-- the first fault of a text that goes on at the place p, and the place of it
pub data HasFault : List ℕ → Place → TokenKind → Place → Type 0 where
  here : {s : List ℕ} {p : Place} {kind : TokenKind} → IsFault s kind → HasFault s p kind p
  behind_blank : {cs us : List ℕ} {p : Place} {kind : TokenKind} {at : Place} → IsBlank cs us → HasFault us (place_after p cs) kind at → HasFault (cs ++ us) p kind at
  behind_token : {sort : Sort} {cs us : List ℕ} {p : Place} {kind : TokenKind} {at : Place} → Spells sort cs us → HasFault us (place_after p cs) kind at → HasFault (cs ++ us) p kind at

-- the list of tokens of a text
abbrev pub AreTokensOf : List ℕ → List Token → Type 0
AreTokensOf s ts = IsUtf8 s × HasTokens s 0 start ts

-- what a text is refused for: a byte that isn't UTF-8, and else the first fault of its tokens
abbrev pub IsRefused : List ℕ → TokenKind → Place → Type 0
IsRefused s kind at = (kind ≡ TokenKind.Token) × IsIllFormed s at ⊎ IsUtf8 s × HasFault s start kind at

abbrev pub AnswersFault : List ℕ → Result (List Token) TokenFault → Type 0
AnswersFault s (Ok ts) = Unit {0}
AnswersFault s (Err (Refused kind at)) = IsRefused s kind at
AnswersFault s (Err Memory) = Unit {0}

-- the bytes of a token
abbrev pub bytes_of : List ℕ → Token → List ℕ
bytes_of s t = take (t.end - t.start) (drop t.start s)

-- a token's bytes stand in the text, are spelled as its sort is, and have its value
pub record StandsIn (s : List ℕ) (t : Token) : Type 0 where
  pub some : t.start < t.end
  pub within : t.end ≤ length s
  pub spelled : Spells t.sort (bytes_of s t) (drop t.end s)
  pub value : HasValue t.sort (bytes_of s t)

-- tokens one behind another, from the byte i on
abbrev pub AreInOrder : ℕ → List Token → Type 0
AreInOrder i [] = Unit {0}
AreInOrder i (t ∷ ts) = (i ≤ t.start) × (t.start < t.end) × AreInOrder t.end ts
