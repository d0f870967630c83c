use Rattle.std.proofs.Common.{◌≡◌, ◌+◌, ◌-◌, [], length}
use Rattle.coord_core.specs.Bounds.{give_backs_in, take_bound}
use Rattle.coord_core.proofs.coord.Coord.finish_alone.Given as goal

abbrev pub invariant-loop : goal.invariant-loop
invariant-loop g l = Unit {0}

abbrev pub decreases-loop : goal.decreases-loop
decreases-loop g l = length l.self.out

abbrev pub invariant-loop-self : goal.invariant-loop-self
invariant-loop-self g l = l.self.out ≡ []

-- the takes that are left
abbrev pub decreases-loop-self : goal.decreases-loop-self
decreases-loop-self g l = (take_bound g.S.Value.Lattice.meaning g.S.System.meaning + give_backs_in l.self.journal) - l.self.takes
