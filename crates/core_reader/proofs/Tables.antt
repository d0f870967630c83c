-- The keywords and signs with marks are those that the tokens of a text have.
use Rattle.std.proofs.Common.{◌≡◌, ℕ, List, [], ◌∷◌, ◌++◌, map, codes, refl}
use Rattle.core_token.specs.Lexemes as L
use Rattle.core_reader.specs.Terminals.{Row, keywords, signs}

abbrev pub spellings : List Row → List (List ℕ)
spellings rows = map (λ (row : Row). row.0) rows

all_keywords : spellings keywords ≡ L.keywords
all_keywords = refl

-- the signs of one byte, and the two that begin with a dash
all_signs : spellings signs ≡ map (λ (c : ℕ). c ∷ []) (codes "(){}[]<>,=/:|#~") ++ codes "->" ∷ codes "-|" ∷ []
all_signs = refl
