-- What a system of nodes and cells means, and the laws that it keeps.
use Rattle.std.specs.Prelude.{◌≡◌, ℕ, ◌<◌, List, map, length, slice_index, slice_index_or, IsTrue, ◌↔◌, nat_eq}
use Rattle.std.specs.List.{All, AllZip, Contains, IsDistinct}
use Rattle.std.specs.List.Sorted.{IsStrictlyIncreasing}
use Rattle.lattice_laws.specs.Lattices.{LatticeMeaning, IsLattice}

-- a system: how many nodes and cells it has, the cells that a node needs and gives, the nodes that need a cell,
-- the cells that start with a value, and what a node makes of the values of its needs
pub record SystemMeaning (V : Type 0) : Type 0 where
  pub nodes : ℕ
  pub cells : ℕ
  pub needs : ℕ → List ℕ
  pub gives : ℕ → List ℕ
  pub readers : ℕ → List ℕ
  pub starts : List (ℕ × V)
  pub local : ℕ → List V → List V

-- a node's first need, which is bottom where the node isn't reached
abbrev pub reached_cell : {V : Type 0} → SystemMeaning V → ℕ → ℕ
reached_cell s node = slice_index (s.needs node) 0

-- one value for each cell
abbrev pub IsOneForEach : {V : Type 0} → (V → Type 0) → List ℕ → List V → Type 0
IsOneForEach is_value cells values = (length values ≡ length cells) × All is_value values

-- the laws of a system
pub record IsSystem {V : Type 0} (is_value : V → Type 0) (l : LatticeMeaning V) (s : SystemMeaning V) : Type 0 where
  -- what the cells hold are values of a lattice
  pub lattice : IsLattice is_value l
  -- numbers are in range, and each node has a first need
  pub needs_in_range : (node : ℕ) → node < s.nodes → All (λ cell. cell < s.cells) (s.needs node)
  pub gives_in_range : (node : ℕ) → node < s.nodes → All (λ cell. cell < s.cells) (s.gives node)
  pub starts_in_range : All (λ start. start.0 < s.cells) s.starts
  pub has_reached_cell : (node : ℕ) → node < s.nodes → 0 < length (s.needs node)
  -- no cell is given twice by a node, nor started twice
  pub gives_distinct : (node : ℕ) → node < s.nodes → IsDistinct nat_eq (s.gives node)
  pub starts_distinct : IsDistinct nat_eq (map (λ start. start.0) s.starts)
  -- the readers of a cell are exactly the nodes that need it, ascending
  pub readers_ascend : (cell : ℕ) → cell < s.cells → IsStrictlyIncreasing (s.readers cell)
  pub readers_are : (cell node : ℕ) → cell < s.cells → (Contains (s.readers cell) node) ↔ ((node < s.nodes) × Contains (s.needs node) cell)
  -- the starts are values, and a node makes values of values, one for each cell that it gives
  pub starts_are_values : All (λ start. is_value start.1) s.starts
  pub local_gives : (node : ℕ) (values : List V) → node < s.nodes → IsOneForEach is_value (s.needs node) values → IsOneForEach is_value (s.gives node) (s.local node values)
  -- of greater values a node makes greater ones, and of an unreached node bottoms
  pub local_monotone : (node : ℕ) (lower upper : List V) → node < s.nodes → IsOneForEach is_value (s.needs node) lower → IsOneForEach is_value (s.needs node) upper → AllZip (λ x y. IsTrue (l.at_most x y)) lower upper → AllZip (λ x y. IsTrue (l.at_most x y)) (s.local node lower) (s.local node upper)
  pub local_unreached : (node : ℕ) (values : List V) → node < s.nodes → IsOneForEach is_value (s.needs node) values → slice_index_or values 0 l.bottom ≡ l.bottom → All (λ value. value ≡ l.bottom) (s.local node values)
