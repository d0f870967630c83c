-- The coordinator as a machine: its states, and what each event makes of them.
use Rattle.std.specs.Prelude.{◌≡◌, ℕ, ◌+◌, List, [], ◌∷◌, ◌++◌, Bool, false, not, length, drop, slice_set, ◌==◌, ◌&&◌, nat_eq, if◌then◌else◌, Option, Some, None}
use Rattle.std.specs.List.{filter, find, list_any}
use Rattle.lattice_laws.specs.Lattices.{LatticeMeaning}
use Rattle.lattice_laws.specs.Systems.{SystemMeaning, reached_cell}
use Rattle.coord_core.specs.declared.event.Event.{Event}
use Rattle.coord_core.specs.declared.event.Event.TheVariants.{Take, Finish, GiveBack}
use Rattle.coord_core.specs.Tickets.{TicketView}
use Rattle.coord_core.specs.Tables.{value_of, values_of, joined, joined_all, local_of, bottoms, numbers_below}

-- the cells' values, the nodes that wait for a worker, the tickets that are out in the order of their numbers,
-- how many tickets were given, and the legal events in order
pub record State (V : Type 0) : Type 0 where
  pub table : List V
  pub queue : List ℕ
  pub out : List (TicketView V)
  pub takes : ℕ
  pub journal : List Event

-- the table with the starts in it
abbrev pub started : {V : Type 0} → List V → List (ℕ × V) → List V
started table [] = table
started table (start ∷ starts) = started (slice_set table start.0 start.1) starts

-- whether a node's reached cell starts with a value
abbrev pub is_started : {V : Type 0} → SystemMeaning V → ℕ → Bool
is_started s node = list_any (λ start. start.0 == reached_cell s node) s.starts

-- before the first event: the starts and bottom elsewhere, and the nodes whose reached cell is started wait
unfoldable pub opened : {V : Type 0} → LatticeMeaning V → SystemMeaning V → State V
opened l s =
    record {
      table = started (bottoms l s) s.starts;
      queue = filter (is_started s) (numbers_below s.nodes);
      out = [];
      takes = 0;
      journal = [];
    }

-- the queue with a node at its back, where it isn't queued
abbrev pub with_node : List ℕ → ℕ → List ℕ
with_node queue node = if list_any (nat_eq node) queue then queue else queue ++ node ∷ []

-- the queue with those of the nodes at its back that aren't queued, in their order
abbrev pub with_nodes : List ℕ → List ℕ → List ℕ
with_nodes queue [] = queue
with_nodes queue (node ∷ nodes) = with_nodes (with_node queue node) nodes

-- whether a cell rises where the value is joined into it
abbrev pub rises : {V : Type 0} → LatticeMeaning V → List V → ℕ × V → Bool
rises l table output = not (l.at_most output.1 (value_of l table output.0))

-- the queue after one output: the readers of a cell that rises are queued
abbrev pub queued_after : {V : Type 0} → LatticeMeaning V → SystemMeaning V → List V → List ℕ → ℕ × V → List ℕ
queued_after l s table queue output = if rises l table output then with_nodes queue (s.readers output.0) else queue

-- the queue after some outputs, cell by cell
abbrev pub queue_after : {V : Type 0} → LatticeMeaning V → SystemMeaning V → List V → List ℕ → List (ℕ × V) → List ℕ
queue_after l s table queue [] = queue
queue_after l s table queue (output ∷ outputs) =
    queue_after l s (joined l table output) (queued_after l s table queue output) outputs

-- how many cells rise
abbrev pub risen : {V : Type 0} → LatticeMeaning V → List V → List (ℕ × V) → ℕ
risen l table [] = 0
risen l table (output ∷ outputs) = (if rises l table output then 1 else 0) + risen l (joined l table output) outputs

-- whether a ticket has a number, and whether it was given to a worker under it
abbrev pub has_number : {V : Type 0} → ℕ → TicketView V → Bool
has_number number t = t.number == number

abbrev pub is_given : {V : Type 0} → ℕ → ℕ → TicketView V → Bool
is_given worker number t = (t.number == number) && (t.worker == worker)

-- the tickets without the one of a number
abbrev pub without : {V : Type 0} → ℕ → List (TicketView V) → List (TicketView V)
without number out = filter (λ t. not (has_number number t)) out

-- a worker takes the node: it leaves the queue, and a ticket with the next number and the values of its needs is out
abbrev pub taken : {V : Type 0} → LatticeMeaning V → SystemMeaning V → State V → ℕ → ℕ → State V
taken l s st worker node =
    record {
      table = st.table;
      queue = drop 1 st.queue;
      out = st.out ++ record { number = st.takes + 1; node = node; worker = worker; snapshot = values_of l st.table (s.needs node) } ∷ [];
      takes = st.takes + 1;
      journal = st.journal ++ Take worker node ∷ [];
    }

-- a ticket ends: what the node makes of its snapshot is joined into the cells, and the readers of risen cells wait
abbrev pub finished : {V : Type 0} → LatticeMeaning V → SystemMeaning V → State V → TicketView V → State V
finished l s st t =
    record {
      table = joined_all l st.table (local_of s t.node t.snapshot);
      queue = queue_after l s st.table st.queue (local_of s t.node t.snapshot);
      out = without t.number st.out;
      takes = st.takes;
      journal = st.journal ++ Finish t.worker t.number ∷ [];
    }

-- a ticket is given back: its node waits again
abbrev pub given_back : {V : Type 0} → State V → TicketView V → State V
given_back st t =
    record {
      table = st.table;
      queue = with_node st.queue t.node;
      out = without t.number st.out;
      takes = st.takes;
      journal = st.journal ++ GiveBack t.worker t.number ∷ [];
    }

-- whether a node is the first of the queue
abbrev pub is_next : List ℕ → ℕ → Bool
is_next [] node = false
is_next (next ∷ queue) node = next == node

abbrev pub finished_if : {V : Type 0} → LatticeMeaning V → SystemMeaning V → State V → Option (TicketView V) → State V
finished_if l s st None = st
finished_if l s st (Some t) = finished l s st t

abbrev pub given_back_if : {V : Type 0} → State V → Option (TicketView V) → State V
given_back_if st None = st
given_back_if st (Some t) = given_back st t

-- one event. An event that isn't legal changes nothing: a take of a node that isn't the queue's first, and an end of
-- a ticket that isn't out under this number with this worker
unfoldable pub step : {V : Type 0} → LatticeMeaning V → SystemMeaning V → State V → Event → State V
step l s st (Take worker node) = if is_next st.queue node then taken l s st worker node else st
step l s st (Finish worker number) = finished_if l s st (find (is_given worker number) st.out)
step l s st (GiveBack worker number) = given_back_if st (find (is_given worker number) st.out)

-- events in order, from a state
abbrev pub steps : {V : Type 0} → LatticeMeaning V → SystemMeaning V → State V → List Event → State V
steps l s st [] = st
steps l s st (event ∷ events) = steps l s (step l s st event) events

-- events in order, from the opened state
abbrev pub replay : {V : Type 0} → LatticeMeaning V → SystemMeaning V → List Event → State V
replay l s events = steps l s (opened l s) events

-- the state is where its journal leads
abbrev pub IsReplayed : {V : Type 0} → LatticeMeaning V → SystemMeaning V → State V → Type 0
IsReplayed l s st = st ≡ replay l s st.journal

-- nothing waits and nothing is out
abbrev pub is_finished : {V : Type 0} → State V → Bool
is_finished st = (length st.queue == 0) && (length st.out == 0)
