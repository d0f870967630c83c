-- A word stands for a term, by what the term is. Of the heap it is enough to know a prefix, as the words that were built so far: `begin`
-- is the address of the first word, and `words` are those from there on. The limit `below` is the number of the word below which objects
-- must begin.
use Rattle.std.specs.Prelude.{◌≡◌, ℕ, suc, ◌+◌, ◌*◌, ◌^◌, ◌<◌, List, Some, slice_get}
use Rattle.hipe_terms.specs.Terms.{Term, integer, atom, nil, cons, tuple, fun, Terms, none, more, count}
use Rattle.heap_terms.specs.declared.tags.TheConstants.{INTEGER_TAG, INTEGER_SCALE, ATOM_TAG, ATOM_SCALE, NIL_WORD, CONS_TAG, OBJECT_TAG, FUN_HEADER, HEADER_SCALE}
use Rattle.heap_terms.specs.Integers.{IsInteger, word_of}
use Rattle.heap_terms.specs.Shapes.{Symbols, Reference, heap_begin}
use Rattle.heap_terms.specs.Terms.{term_below}

abbrev mutual
  -- with all its objects in these words
  pub StandsIn : Symbols → ℕ → List ℕ → ℕ → Term → ℕ → Type 0
  StandsIn symbols begin words below (integer n) w = IsInteger n × (w ≡ word_of n)
  StandsIn symbols begin words below (atom a) w = (k : ℕ) × (slice_get symbols.atoms k ≡ Some a) × (w ≡ ATOM_SCALE * k + ATOM_TAG)
  StandsIn symbols begin words below nil w = w ≡ NIL_WORD
  StandsIn symbols begin words below (cons t u) w = (i : ℕ) × (i < below) × (w ≡ begin + 8 * i + CONS_TAG)
      × (head : ℕ) × (tail : ℕ) × (slice_get words i ≡ Some head) × (slice_get words (suc i) ≡ Some tail)
      × StandsIn symbols begin words i t head × StandsIn symbols begin words i u tail
  StandsIn symbols begin words below (tuple ts) w = (i : ℕ) × (i < below) × (w ≡ begin + 8 * i + OBJECT_TAG)
      × (slice_get words i ≡ Some (HEADER_SCALE * count ts)) × AllStandIn symbols begin words i ts (suc i)
  StandsIn symbols begin words below (fun f ts) w = (i : ℕ) × (i < below) × (w ≡ begin + 8 * i + OBJECT_TAG)
      × (slice_get words i ≡ Some (HEADER_SCALE * count ts + FUN_HEADER)) × (f < symbols.functions) × (slice_get words (suc i) ≡ Some (INTEGER_SCALE * f + INTEGER_TAG))
      × AllStandIn symbols begin words i ts (suc (suc i))

  -- the words from this one on stand for the terms
  pub AllStandIn : Symbols → ℕ → List ℕ → ℕ → Terms → ℕ → Type 0
  AllStandIn symbols begin words below none i = Unit {0}
  AllStandIn symbols begin words below (more t ts) i = (w : ℕ) × (slice_get words i ≡ Some w) × StandsIn symbols begin words below t w
      × AllStandIn symbols begin words below ts (suc i)

-- in the whole heap
abbrev pub StandsFor : Symbols → List ℕ → ℕ → Term → ℕ → Type 0
StandsFor symbols heap below t w = StandsIn symbols (heap_begin heap) heap below t w

-- a reference whose word has 64 bits has a term exactly where the word stands for it
pub record WordsStand (symbols : Symbols) (heap : List ℕ) : Type 0 where
  pub stands : (at : Reference) (t : Term) → at.word < 2 ^ 64 → term_below symbols heap at ≡ Some t → StandsFor symbols heap at.below t at.word
  pub has : (at : Reference) (t : Term) → StandsFor symbols heap at.below t at.word → term_below symbols heap at ≡ Some t
