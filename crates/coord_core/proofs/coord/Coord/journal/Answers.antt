use Rattle.coord_core.proofs.Histories.{sound_state, takes_bounded}
use Rattle.coord_core.proofs.coord.Coord.journal.Goals as goal

pub returns-clause-bounded : goal.returns-clause-bounded
returns-clause-bounded g c =
    let lawful = g.met.S.System.lawful in
    let sound = sound_state g.S.Value.Lattice.is_value g.S.Value.Lattice.meaning g.S.System.meaning lawful.lattice lawful _ c.self.invariant.0 in
    rw c.deref.ensures.value (takes_bounded g.S.Value.Lattice.is_value g.S.Value.Lattice.meaning g.S.System.meaning lawful.lattice lawful _ sound)
