-- Tables of cells: reading them, joining outputs into them, and the least table that solves a system.
use Rattle.std.specs.Prelude.{◌≡◌, ℕ, zero, suc, ◌+◌, ◌*◌, List, [], ◌∷◌, ◌++◌, map, length, replicate, slice_index_or, slice_set, IsTrue}
use Rattle.std.specs.List.{flat_map, zip}
use Rattle.lattice_laws.specs.Lattices.{LatticeMeaning}
use Rattle.lattice_laws.specs.Systems.{SystemMeaning}

-- the numbers below n, ascending
abbrev pub numbers_below : ℕ → List ℕ
numbers_below zero = []
numbers_below (suc n) = numbers_below n ++ n ∷ []

-- what a cell has
abbrev pub value_of : {V : Type 0} → LatticeMeaning V → List V → ℕ → V
value_of l table cell = slice_index_or table cell l.bottom

-- what some cells have, in their order
abbrev pub values_of : {V : Type 0} → LatticeMeaning V → List V → List ℕ → List V
values_of l table cells = map (value_of l table) cells

-- each cell of the one table is at most that of the other
abbrev pub IsAtMost : {V : Type 0} → LatticeMeaning V → List V → List V → Type 0
IsAtMost l table upper = (cell : ℕ) → IsTrue (l.at_most (value_of l table cell) (value_of l upper cell))

-- the table with a value joined into its cell
abbrev pub joined : {V : Type 0} → LatticeMeaning V → List V → ℕ × V → List V
joined l table output = slice_set table output.0 (l.join (value_of l table output.0) output.1)

-- the table with values joined into their cells, one after another
abbrev pub joined_all : {V : Type 0} → LatticeMeaning V → List V → List (ℕ × V) → List V
joined_all l table [] = table
joined_all l table (output ∷ outputs) = joined_all l (joined l table output) outputs

-- what a node makes of the values of its needs, each value with its cell
abbrev pub local_of : {V : Type 0} → SystemMeaning V → ℕ → List V → List (ℕ × V)
local_of s node values = zip (s.gives node) (s.local node values)

-- what a node makes of a table
abbrev pub outputs_on : {V : Type 0} → LatticeMeaning V → SystemMeaning V → List V → ℕ → List (ℕ × V)
outputs_on l s table node = local_of s node (values_of l table (s.needs node))

-- bottom in each cell
abbrev pub bottoms : {V : Type 0} → LatticeMeaning V → SystemMeaning V → List V
bottoms l s = replicate s.cells l.bottom

-- the starts, joined with the outputs of all nodes on the old table
abbrev pub sweep : {V : Type 0} → LatticeMeaning V → SystemMeaning V → List V → List V
sweep l s table = joined_all l (bottoms l s) (s.starts ++ flat_map (outputs_on l s table) (numbers_below s.nodes))

-- the table after n sweeps from bottom
abbrev pub sweeps : {V : Type 0} → LatticeMeaning V → SystemMeaning V → ℕ → List V
sweeps l s zero = bottoms l s
sweeps l s (suc n) = sweep l s (sweeps l s n)

-- the table after so many sweeps that no further one changes it
abbrev pub least : {V : Type 0} → LatticeMeaning V → SystemMeaning V → List V
least l s = sweeps l s ((l.height + 1) * s.cells)

-- a table of values, one for each cell, of which a sweep makes no more than it has
pub record IsSolution {V : Type 0} (is_value : V → Type 0) (l : LatticeMeaning V) (s : SystemMeaning V) (table : List V) : Type 0 where
  pub cells : length table ≡ s.cells
  pub values : (cell : ℕ) → is_value (value_of l table cell)
  pub swept : IsAtMost l (sweep l s table) table
