use Rattle.coord_core.proofs.Sweeps.{least_solves, least_below}
use Rattle.coord_core.proofs.laws.least_is_least.Goals as goal

pub returns : goal.returns
returns g c =
    let v = g.S.Value.Lattice.is_value in
    let l = g.S.Value.Lattice.meaning in
    let s = g.S.System.meaning in
    let lawful = g.met.S.System.lawful in
    record {
      solution = least_solves v l s lawful.lattice lawful;
      at_most_each = least_below v l s lawful.lattice lawful;
    }
