-- The parts of a shape, and how much there is to follow from a reference on.
use Rattle.std.specs.Prelude.{ℕ, ◌+◌, List, [], ◌∷◌, Option, Some, None}
use Rattle.heap_terms.specs.Shapes.{Symbols, Reference, Shape, Integer, Atom, Nil, Cons, Tuple, Fun, made_of}

-- from the first on
abbrev pub parts_in : (X : Type 0) → Option (Shape X) → List X
parts_in X None = []
parts_in X (Some (Integer value)) = []
parts_in X (Some (Atom name)) = []
parts_in X (Some Nil) = []
parts_in X (Some (Cons head tail)) = head ∷ tail ∷ []
parts_in X (Some (Tuple elements)) = elements
parts_in X (Some (Fun number captured)) = captured

-- one more than their sum, with one more for each
abbrev pub size_of_all : List ℕ → ℕ
size_of_all [] = 1
size_of_all (n ∷ ns) = n + size_of_all ns + 1

abbrev pub size_step : Reference → Option (Shape ℕ) → ℕ
size_step at s = size_of_all (parts_in ℕ s) + 3

-- How much there is to follow from a reference on. It falls from a reference to all of its parts, and leaves room for what is
-- written besides them.
unfoldable pub size_below : Symbols → List ℕ → Reference → ℕ
size_below symbols heap at = made_of ℕ size_step symbols heap at
