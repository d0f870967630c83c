-- Two nodes of which each feeds the other: node 0 needs cells 0 and 3 and gives 1 and 2, and node 1 needs 2 and 1 and
-- gives 3. Cell 0 starts with 1.
use Rattle.std.specs.Prelude.{ℕ, zero, suc, ◌+◌, ◌==◌, List, [], ◌∷◌, max, min, slice_index, if◌then◌else◌}
use Rattle.lattice_laws.specs.Systems.{SystemMeaning}

abbrev pub pair_needs : ℕ → List ℕ
pair_needs zero = 0 ∷ 3 ∷ []
pair_needs (suc node) = 2 ∷ 1 ∷ []

abbrev pub pair_gives : ℕ → List ℕ
pair_gives zero = 1 ∷ 2 ∷ []
pair_gives (suc node) = 3 ∷ []

abbrev pub pair_readers : ℕ → List ℕ
pair_readers zero = 0 ∷ []
pair_readers (suc zero) = 1 ∷ []
pair_readers (suc (suc zero)) = 1 ∷ []
pair_readers (suc (suc (suc cell))) = 0 ∷ []

-- bottoms where the first need is bottom
abbrev pub pair_local : ℕ → List ℕ → List ℕ
pair_local zero values = if slice_index values 0 == 0 then 0 ∷ 0 ∷ [] else max (slice_index values 1) 1 ∷ 1 ∷ []
pair_local (suc node) values = if slice_index values 0 == 0 then 0 ∷ [] else min (slice_index values 1 + 1) 3 ∷ []

abbrev pub pair : SystemMeaning ℕ
pair = record { nodes = 2; cells = 4; needs = pair_needs; gives = pair_gives; readers = pair_readers; starts = (0, 1) ∷ []; local = pair_local }
