-- What is true of a coordinator's state after any events.
use Rattle.std.specs.Prelude.{◌≡◌, ◌≢◌, ℕ, ◌+◌, ◌<◌, ◌≤◌, ◌⊎◌, List, [], map, IsTrue, nat_eq}
use Rattle.std.specs.List.{All, AllZip, Contains, list_any}
use Rattle.std.specs.List.Sorted.{IsStrictlyIncreasing}
use Rattle.lattice_laws.specs.Lattices.{LatticeMeaning}
use Rattle.lattice_laws.specs.Systems.{SystemMeaning, reached_cell}
use Rattle.coord_core.specs.declared.event.Event.{Event}
use Rattle.coord_core.specs.Tickets.{TicketView}
use Rattle.coord_core.specs.Tables.{value_of, values_of, outputs_on}
use Rattle.coord_core.specs.States.{State}
use Rattle.coord_core.specs.Bounds.{takes_in, give_backs_in, take_bound}

-- each of these outputs is at most what its cell has
abbrev pub AreWithin : {V : Type 0} → LatticeMeaning V → List V → List (ℕ × V) → Type 0
AreWithin l table outputs = All (λ output. IsTrue (l.at_most output.1 (value_of l table output.0))) outputs

-- each snapshot that is out is at most the table's values of its node's needs
abbrev pub SnapshotsAreAtMost : {V : Type 0} → LatticeMeaning V → SystemMeaning V → State V → Type 0
SnapshotsAreAtMost l s st = All (λ t. AllZip (λ x y. IsTrue (l.at_most x y)) t.snapshot (values_of l st.table (s.needs t.node))) st.out

-- a ticket of the node is out, with the table's values of its needs
abbrev pub IsOutWithCurrent : {V : Type 0} → LatticeMeaning V → SystemMeaning V → State V → ℕ → Type 0
IsOutWithCurrent {V} l s st node = (t : TicketView V) × Contains st.out t × (t.node ≡ node) × (t.snapshot ≡ values_of l st.table (s.needs node))

-- the node waits, or is out with the table's values, or has nothing to add to the table
abbrev pub IsPendingOrStable : {V : Type 0} → LatticeMeaning V → SystemMeaning V → State V → ℕ → Type 0
IsPendingOrStable l s st node =
    IsTrue (list_any (nat_eq node) st.queue) ⊎ (IsOutWithCurrent l s st node ⊎ AreWithin l st.table (outputs_on l s st.table node))

-- each node whose reached cell isn't bottom
abbrev pub ReachedNodesArePendingOrStable : {V : Type 0} → LatticeMeaning V → SystemMeaning V → State V → Type 0
ReachedNodesArePendingOrStable l s st = (node : ℕ) → node < s.nodes → value_of l st.table (reached_cell s node) ≢ l.bottom → IsPendingOrStable l s st node

-- no more takes than the system's bound and the give-backs
abbrev pub TakesAreBounded : {V : Type 0} → LatticeMeaning V → SystemMeaning V → List Event → Type 0
TakesAreBounded l s events = takes_in events ≤ take_bound l s + give_backs_in events

-- the numbers of the tickets that are out, in their order
abbrev pub numbers_out : {V : Type 0} → State V → List ℕ
numbers_out st = map (λ t. t.number) st.out

-- each of them lies from 1 to how many tickets were given, and is below the next
abbrev pub NumbersRise : {V : Type 0} → State V → Type 0
NumbersRise st = All (λ number. (1 ≤ number) × (number ≤ st.takes)) (numbers_out st) × IsStrictlyIncreasing (numbers_out st)

-- one ticket more was given, and nothing is out
pub record IsAdvance {V : Type 0} (l : LatticeMeaning V) (s : SystemMeaning V) (old new : State V) : Type 0 where
  pub none_out : new.out ≡ []
  pub one_more : new.takes ≡ old.takes + 1
  pub same_give_backs : give_backs_in new.journal ≡ give_backs_in old.journal
  pub bounded : new.takes ≤ take_bound l s + give_backs_in new.journal
