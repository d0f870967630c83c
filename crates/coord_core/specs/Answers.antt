-- What the coordinator's calls answer, and what they leave.
use Rattle.std.specs.Prelude.{◌≡◌, ℕ, ◌+◌, ◌<◌, [], length, IsTrue}
use Rattle.std.specs.List.{Contains}
use Rattle.lattice_laws.specs.Lattices.{LatticeMeaning}
use Rattle.lattice_laws.specs.Systems.{SystemMeaning}
use Rattle.coord_core.specs.declared.event.Event.TheVariants.{Take, Finish, GiveBack}
use Rattle.coord_core.specs.declared.ticket.Ticket.{Ticket}
use Rattle.coord_core.specs.declared.answers.Taken.{Taken}
use Rattle.coord_core.specs.declared.answers.Taken.TheVariants.{Got, Idle, Done}
use Rattle.coord_core.specs.declared.answers.Returned.{Returned}
use Rattle.coord_core.specs.declared.answers.Returned.TheVariants.{Back, Stranger}
use Rattle.coord_core.specs.declared.answers.Ended.{Ended}
use Rattle.coord_core.specs.declared.answers.Ended.TheVariants.{Joined, Stranger as NotOut}
use Rattle.coord_core.specs.Tickets.{FinishedView, ticket_view}
use Rattle.coord_core.specs.Tables.{values_of, local_of}
use Rattle.coord_core.specs.States.{State, is_next, step, risen}

-- the worker took the queue's first node: the step is its take, and the ticket has the next number and the table's
-- values of the node's needs. So the ticket meets what its analysis asks
pub record IsGot {V : Type 0} (l : LatticeMeaning V) (s : SystemMeaning V) (old : State V) (taker : ℕ) (t : Ticket V) (new : State V) : Type 0 where
  pub next : IsTrue (is_next old.queue t.node)
  pub stepped : new ≡ step l s old (Take taker t.node)
  pub number : t.number ≡ old.takes + 1
  pub worker : t.worker ≡ taker
  pub snapshot : t.snapshot.items ≡ values_of l old.table (s.needs t.node)
  pub node_in_range : t.node < s.nodes
  pub one_for_each : length t.snapshot.items ≡ length (s.needs t.node)

-- what a take by the worker answers: a ticket if and only if a node waits, idle if and only if none waits and some
-- tickets are out, and done if and only if there is neither
abbrev pub IsTake : {V : Type 0} → LatticeMeaning V → SystemMeaning V → State V → ℕ → Taken V → State V → Type 0
IsTake l s old worker (Got t) new = IsGot l s old worker t new
IsTake l s old worker (Idle out) new = (old.queue ≡ []) × (out ≡ length old.out) × (0 < out) × (new ≡ old)
IsTake l s old worker Done new = (old.queue ≡ []) × (old.out ≡ []) × (new ≡ old)

-- what a finish answers: the step is its finish, if and only if a ticket that is out has the same number, node, worker
-- and snapshot
abbrev pub IsEnd : {A V : Type 0} → LatticeMeaning V → SystemMeaning V → State V → FinishedView V → Ended A V → State V → Type 0
IsEnd l s old f (Joined rises) new =
    Contains old.out f.ticket
    × (new ≡ step l s old (Finish f.ticket.worker f.ticket.number))
    × (rises ≡ risen l old.table (local_of s f.ticket.node f.ticket.snapshot))
IsEnd l s old f (NotOut number back) new = (Contains old.out f.ticket → ⊥) × (number ≡ f.ticket.number) × (back ≡ f) × (new ≡ old)

-- what a give-back answers, likewise
abbrev pub IsReturn : {V : Type 0} → LatticeMeaning V → SystemMeaning V → State V → Ticket V → Returned V → State V → Type 0
IsReturn l s old t Back new = Contains old.out (ticket_view t) × (new ≡ step l s old (GiveBack t.worker t.number))
IsReturn l s old t (Stranger number back) new = (Contains old.out (ticket_view t) → ⊥) × (number ≡ t.number) × (back ≡ t) × (new ≡ old)
