-- The terms of words, and for what words stand.
use Rattle.std.specs.Prelude.{◌≡◌, ℕ, ◌^◌, ◌<◌, List, All}
use Rattle.hipe_terms.specs.Terms.{Term}
use Rattle.heap_terms.specs.Shapes.{Symbols}
use Rattle.heap_terms.specs.Standing.{StandsFor, WordsStand}

-- all of them have at most 64 bits
abbrev pub AreWords : List ℕ → Type 0
AreWords ws = All (λ w. w < 2 ^ 64) ws

-- in a heap of words, a reference has a term exactly where its word stands for it
abbrev pub WordsHaveTerms : Type 0
WordsHaveTerms = (symbols : Symbols) (heap : List ℕ) → AreWords heap → WordsStand symbols heap

-- a word stands for at most one term
abbrev pub OneTerm : Type 0
OneTerm = (symbols : Symbols) (heap : List ℕ) (below : ℕ) (t u : Term) (w : ℕ) → StandsFor symbols heap below t w → StandsFor symbols heap below u w → t ≡ u
