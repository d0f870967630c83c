-- Two nodes that are both started: both need cell 0, which starts with 1. Node 0 needs cell 2 and gives 1, and node 1
-- needs cell 1 and gives 2, so that each may be out while the other's end makes one of its needs rise.
use Rattle.std.specs.Prelude.{ℕ, zero, suc, ◌+◌, ◌==◌, List, [], ◌∷◌, min, slice_index, if◌then◌else◌}
use Rattle.lattice_laws.specs.Systems.{SystemMeaning}

abbrev pub ring_needs : ℕ → List ℕ
ring_needs zero = 0 ∷ 2 ∷ []
ring_needs (suc node) = 0 ∷ 1 ∷ []

abbrev pub ring_gives : ℕ → List ℕ
ring_gives zero = 1 ∷ []
ring_gives (suc node) = 2 ∷ []

abbrev pub ring_readers : ℕ → List ℕ
ring_readers zero = 0 ∷ 1 ∷ []
ring_readers (suc zero) = 1 ∷ []
ring_readers (suc (suc cell)) = 0 ∷ []

-- one more than the second need, at most 3, and bottom where the first is bottom
abbrev pub ring_local : ℕ → List ℕ → List ℕ
ring_local node values = if slice_index values 0 == 0 then 0 ∷ [] else min (slice_index values 1 + 1) 3 ∷ []

abbrev pub ring : SystemMeaning ℕ
ring = record { nodes = 2; cells = 3; needs = ring_needs; gives = ring_gives; readers = ring_readers; starts = (0, 1) ∷ []; local = ring_local }
