use Rattle.std.proofs.Common.{map, take}
use Rattle.std.specs.List.{Contains}
use Rattle.coord_core.specs.Tickets.{ticket_view}
use Rattle.coord_core.proofs.ticket.is_out.Given as goal

-- not among the tickets so far
abbrev pub invariant-loop-other : goal.invariant-loop-other
invariant-loop-other g l = Contains (map ticket_view (take l.other-index l.out)) (ticket_view l.ticket) → ⊥
