use Rattle.coord_core.proofs.Sound.{replay_sound}
use Rattle.coord_core.proofs.Histories.{at_rest, takes_bounded}
use Rattle.coord_core.proofs.Theorems as theorems
use Rattle.coord_core.proofs.laws.every_history.Goals as goal

pub returns : goal.returns
returns g c =
    let v = g.S.Value.Lattice.is_value in
    let l = g.S.Value.Lattice.meaning in
    let s = g.S.System.meaning in
    let lawful = g.met.S.System.lawful in
    record {
      at_most_least = λ events. theorems.at_most_least v l s lawful.lattice lawful _ (replay_sound v l s lawful.lattice lawful events);
      at_least_starts = λ events. theorems.at_least_starts v l s lawful.lattice lawful _ (replay_sound v l s lawful.lattice lawful events);
      snapshots = λ events. theorems.snapshots v l s lawful.lattice lawful _ (replay_sound v l s lawful.lattice lawful events);
      pending_or_stable = λ events. theorems.pending_or_stable v l s lawful.lattice lawful _ (replay_sound v l s lawful.lattice lawful events);
      queue = λ events. (replay_sound v l s lawful.lattice lawful events).queue_distinct;
      at_rest = λ events. at_rest v l s lawful.lattice lawful _ (replay_sound v l s lawful.lattice lawful events);
      bounded = λ events. takes_bounded v l s lawful.lattice lawful _ (replay_sound v l s lawful.lattice lawful events);
      counted = λ events. (replay_sound v l s lawful.lattice lawful events).counted;
      numbers = λ events. theorems.numbers v l s lawful.lattice lawful _ (replay_sound v l s lawful.lattice lawful events);
      distinct = λ events. theorems.distinct v l s lawful.lattice lawful _ (replay_sound v l s lawful.lattice lawful events);
    }
