-- What of a term is still to be followed, the next of it last: whether it stands for terms, and how much it is.
use Rattle.std.specs.Prelude.{◌≡◌, ℕ, ◌+◌, ◌<◌, ◌≤◌, Bool, true, false, ◌&&◌, List, [], ◌∷◌, map, Option, Some, None}
use Rattle.hipe_terms.specs.Terms.{Terms}
use Rattle.heap_terms.specs.declared.follow.Pending.{Pending}
use Rattle.heap_terms.specs.declared.follow.Pending.TheVariants as pendings
use Rattle.heap_terms.specs.Shapes.{Symbols, parts}
use Rattle.heap_terms.specs.Parts.{size_below, size_of_all}
use Rattle.heap_terms.specs.Terms.{term_below, is_some, all_terms}
use Rattle.heap_terms.specs.Seen.{reference_of}

abbrev pub are_some : Option Terms → Bool
are_some None = false
are_some (Some ts) = true

-- the terms of these words, which refer below this
abbrev pub terms_below : Symbols → List ℕ → ℕ → List ℕ → Option Terms
terms_below symbols heap below words = all_terms (map (term_below symbols heap) (parts below words))

-- whether each of these words, which refer below this, stands for a term
abbrev pub words_stand : Symbols → List ℕ → ℕ → List ℕ → Bool
words_stand symbols heap below words = are_some (terms_below symbols heap below words)

abbrev pub words_size : Symbols → List ℕ → ℕ → List ℕ → ℕ
words_size symbols heap below words = size_of_all (map (size_below symbols heap) (parts below words))

abbrev pub pending_stands : Symbols → List ℕ → Pending → Bool
pending_stands symbols heap (pendings.One at) = is_some (term_below symbols heap (reference_of at))
pending_stands symbols heap (pendings.Each below words) = words_stand symbols heap below words.now

abbrev pub stand_last : Symbols → List ℕ → List Pending → Bool
stand_last symbols heap [] = true
stand_last symbols heap (p ∷ ps) = stand_last symbols heap ps && pending_stands symbols heap p

abbrev pub pending_size : Symbols → List ℕ → Pending → ℕ
pending_size symbols heap (pendings.One at) = size_below symbols heap (reference_of at)
pending_size symbols heap (pendings.Each below words) = words_size symbols heap below words.now

abbrev pub size_last : Symbols → List ℕ → List Pending → ℕ
size_last symbols heap [] = 0
size_last symbols heap (p ∷ ps) = size_last symbols heap ps + pending_size symbols heap p

-- a word has a shape, and what is left stands for terms, exactly where what comes first and what was left before do
abbrev pub StandsOn : Symbols → List ℕ → Bool → List Pending → Bool → List Pending → Type 0
StandsOn symbols heap shaped after first before = (shaped && stand_last symbols heap after) ≡ (first && stand_last symbols heap before)

-- what is left is less than this much and what was left before
abbrev pub IsLess : Symbols → List ℕ → List Pending → ℕ → List Pending → Type 0
IsLess symbols heap after first before = size_last symbols heap after < first + size_last symbols heap before

-- what is left is at most this much and what was left before
abbrev pub IsAtMost : Symbols → List ℕ → List Pending → ℕ → List Pending → Type 0
IsAtMost symbols heap after first before = size_last symbols heap after ≤ first + size_last symbols heap before
