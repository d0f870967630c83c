use Rattle.std.proofs.Common.{◌<◌}
use Rattle.coord_core.proofs.Lists.{all_from_each}
use Rattle.coord_core.proofs.Queues as queues
use Rattle.coord_core.proofs.join.join_output.Goals as goal

pub add_all-requires : goal.add_all-requires
add_all-requires g c =
    let lawful = g.met.S.System.lawful in
    rw (c.readers.ensures, c.requires.nodes) (all_from_each (λ n. n < g.S.System.meaning.nodes) (g.S.System.meaning.readers c.args.cell) (queues.readers_in_range g.S.Value.Lattice.is_value g.S.Value.Lattice.meaning g.S.System.meaning lawful.lattice lawful c.args.cell c.requires.cell))
