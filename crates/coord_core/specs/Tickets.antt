-- A ticket as contracts see it.
use Rattle.std.specs.Prelude.{ℕ, List}
use Rattle.coord_core.specs.declared.ticket.Ticket.{Ticket}

-- its number, its node, the worker that it was given to, and the values of the node's needs when it was given
pub record TicketView (V : Type 0) : Type 0 where
  pub number : ℕ
  pub node : ℕ
  pub worker : ℕ
  pub snapshot : List V

abbrev pub ticket_view : {V : Type 0} → Ticket V → TicketView V
ticket_view t = record { number = t.number; node = t.node; worker = t.worker; snapshot = t.snapshot.items }

-- a ticket with what its node makes of its snapshot
pub record FinishedView (V : Type 0) : Type 0 where
  pub ticket : TicketView V
  pub outputs : List V
