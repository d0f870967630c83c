use Rattle.std.proofs.Common.{◌≡◌, take}
use Rattle.coord_core.proofs.ticket.has_same_values.Given as goal

abbrev pub invariant-loop-i : goal.invariant-loop-i
invariant-loop-i g l = take l.i l.xs ≡ take l.i l.ys
