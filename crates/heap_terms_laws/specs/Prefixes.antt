-- What a prefix of a heap stands for. Code that runs only writes behind the words that are used.
use Rattle.std.specs.Prelude.{◌≡◌, ℕ, suc, ◌<◌, ◌≤◌, List, [], ◌∷◌, ◌++◌, length, take, slice_set, Some}
use Rattle.hipe_terms.specs.Terms.{Term}
use Rattle.heap_terms.specs.Shapes.{Symbols, heap_begin}
use Rattle.heap_terms.specs.Terms.{term_at}
use Rattle.heap_terms.specs.Standing.{StandsIn}

-- a word stands for a term in the heap's words before the n-th
abbrev pub StandsBefore : Symbols → List ℕ → ℕ → Term → ℕ → Type 0
StandsBefore symbols heap n t w = StandsIn symbols (heap_begin heap) (take n heap) n t w

-- two heaps of one size have the same words before the n-th
pub record SameBelow (n : ℕ) (heap other : List ℕ) : Type 0 where
  pub size : length heap ≡ length other
  pub words : take n heap ≡ take n other

-- a word stands for its term also where more words are known and objects may begin higher
abbrev pub StandsGrow : Type 0
StandsGrow = (symbols : Symbols) (begin : ℕ) (words more : List ℕ) (below limit : ℕ) (t : Term) (w : ℕ) → below ≤ limit
    → StandsIn symbols begin words below t w → StandsIn symbols begin (words ++ more) limit t w

-- what stands for a term in a prefix of a heap stands for it in every heap with that prefix, and in every longer prefix of it
abbrev pub PrefixesStand : Type 0
PrefixesStand = (symbols : Symbols) (heap other : List ℕ) (n m : ℕ) (t : Term) (w : ℕ) → SameBelow n heap other → n ≤ m
    → StandsBefore symbols heap n t w → StandsBefore symbols other m t w

-- what stands for a term in a prefix of a heap has that term
abbrev pub PrefixesHaveTerms : Type 0
PrefixesHaveTerms = (symbols : Symbols) (heap : List ℕ) (n : ℕ) (t : Term) (w : ℕ) → n ≤ length heap → StandsBefore symbols heap n t w → term_at symbols heap w ≡ Some t

-- a word that is written at the n-th place or behind it leaves the words before as they are
abbrev pub WritesKeepPrefixes : Type 0
WritesKeepPrefixes = (heap : List ℕ) (n i w : ℕ) → n ≤ i → SameBelow n heap (slice_set heap i w)

-- a word that is written at the n-th place makes the prefix one word longer
abbrev pub WritesExtendPrefixes : Type 0
WritesExtendPrefixes = (heap : List ℕ) (n w : ℕ) → n < length heap → take (suc n) (slice_set heap n w) ≡ take n heap ++ w ∷ []
