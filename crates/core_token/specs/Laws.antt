-- What holds of the tokens of every text.
use Rattle.std.specs.Prelude.{◌≡◌, ◌⊎◌, ℕ, ◌≤◌, ℤ, true, List, [], ◌∷◌, ◌++◌, length, All, Some, Ok, Err}
use Rattle.hipe_terms.specs.declared.place.Place.{Place}
use Rattle.hipe_terms.specs.Range.{is_in_range}
use Rattle.core_text.specs.Characters.{IsCodePoint, IsQuoted}
use Rattle.core_text.specs.Numbers.{IsInteger}
use Rattle.core_token.specs.declared.token.Sort.{Sort}
use Rattle.core_token.specs.declared.token.Token.{Token}
use Rattle.core_token.specs.declared.token.TokenKind.{TokenKind}
use Rattle.core_token.specs.Spelling.{IsAtom, Spells}
use Rattle.core_token.specs.Values.{integer_of, character_of, code_points_of}
use Rattle.core_token.specs.Reading.{read}
use Rattle.core_token.specs.Text.{AreTokensOf, IsRefused, StandsIn, AreInOrder}

-- a text has one list of tokens or one first fault, and not both
pub record TokensAreUnique : Type 0 where
  pub one_list : (s : List ℕ) (ts us : List Token) → AreTokensOf s ts → AreTokensOf s us → ts ≡ us
  pub one_fault : (s : List ℕ) (k l : TokenKind) (p q : Place) → IsRefused s k p → IsRefused s l q → (k ≡ l) × (p ≡ q)
  pub not_both : (s : List ℕ) (ts : List Token) (k : TokenKind) (p : Place) → AreTokensOf s ts → IsRefused s k p → ⊥
  pub one_of_them : (s : List ℕ) → ((ts : List Token) × AreTokensOf s ts) ⊎ ((k : TokenKind) × (p : Place) × IsRefused s k p)

-- what is read is what the text has
pub record TokensAreRead : Type 0 where
  pub tokens_read : (s : List ℕ) (ts : List Token) → read s ≡ Ok ts → AreTokensOf s ts
  pub tokens_there : (s : List ℕ) (ts : List Token) → AreTokensOf s ts → read s ≡ Ok ts
  pub fault_read : (s : List ℕ) (k : TokenKind) (p : Place) → read s ≡ Err (k, p) → IsRefused s k p
  pub fault_there : (s : List ℕ) (k : TokenKind) (p : Place) → IsRefused s k p → read s ≡ Err (k, p)

-- each token of a text stands in it, in the order of the text, and has its value
pub record TokensStand : Type 0 where
  pub stand : (s : List ℕ) (ts : List Token) → AreTokensOf s ts → All (StandsIn s) ts
  pub in_order : (s : List ℕ) (ts : List Token) → AreTokensOf s ts → AreInOrder 0 ts

-- a token is the longest that begins where it stands: no longer bytes there are a token by themselves
abbrev pub TokensAreLongest : Type 0
TokensAreLongest = (sort other : Sort) (cs us ds ws : List ℕ) → Spells sort cs us → cs ++ us ≡ ds ++ ws → Spells other ds [] → length ds ≤ length cs

-- the values that are read of a token's bytes are those that are spelled there
pub record ValuesAreRead : Type 0 where
  pub integers : (n : ℤ) (cs us : List ℕ) → IsInteger n cs us → is_in_range n ≡ true → integer_of cs ≡ Some n
  pub characters : (v : ℕ) (cs us : List ℕ) → IsCodePoint v cs us → character_of (36 ∷ cs) ≡ Some v
  pub atoms : (vs cs us : List ℕ) → IsAtom vs cs us → code_points_of cs ≡ vs
  pub texts : (vs cs us : List ℕ) → IsQuoted 34 vs cs us → code_points_of (34 ∷ cs) ≡ vs
