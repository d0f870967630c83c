-- A list followed to its end. Its elements aren't looked at.
use Rattle.std.specs.Prelude.{ℕ, ◌+◌, ◌*◌, List, [], ◌∷◌, ◌++◌, length, Option, Some, None}
use Rattle.heap_terms.specs.declared.tags.TheConstants.{CONS_TAG}
use Rattle.heap_terms.specs.Shapes.{Symbols, Reference, Shape, Nil, Cons, made_of, from_outside}

-- a proper list has the words of its elements; what isn't one ends otherwise than in nil; a word on the way may be no term
pub data Spine : Type 0 where
  NoTerm : Spine
  Improper : Spine
  Proper : (elements : List ℕ) → Spine

-- a word with its spine
pub record Followed : Type 0 where
  pub word : ℕ
  pub spine : Spine

abbrev pub before : ℕ → Spine → Spine
before w NoTerm = NoTerm
before w Improper = Improper
before w (Proper ws) = Proper (w ∷ ws)

abbrev pub spine_of : Option (Shape Followed) → Spine
spine_of None = NoTerm
spine_of (Some Nil) = Proper []
spine_of (Some (Cons head tail)) = before head.word tail.spine
spine_of (Some _) = Improper

abbrev pub spine_step : Reference → Option (Shape Followed) → Followed
spine_step at shape = record { word = at.word; spine = spine_of shape }

unfoldable pub spine_below : Symbols → List ℕ → Reference → Spine
spine_below symbols heap at = (made_of Followed spine_step symbols heap at).spine

abbrev pub spine_at : Symbols → List ℕ → ℕ → Spine
spine_at symbols heap w = spine_below symbols heap (from_outside heap w)

-- The cells of a list with these elements before a tail, from an address on, the last cell first: the list's word, and the words of the
-- cells.
abbrev pub cell : ℕ → ℕ → ℕ × List ℕ → ℕ × List ℕ
cell free w rest = (free + 8 * length rest.1 + CONS_TAG, rest.1 ++ w ∷ rest.0 ∷ [])

abbrev pub cells_from : ℕ → List ℕ → ℕ → ℕ × List ℕ
cells_from free [] tail = (tail, [])
cells_from free (w ∷ ws) tail = cell free w (cells_from free ws tail)
