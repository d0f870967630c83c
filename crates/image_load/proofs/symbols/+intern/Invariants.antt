use Rattle.std.proofs.Common.{◌≡◌, drop, map}
use Rattle.image_load.specs.Loading.{all_interned, with_atoms_of}
use Rattle.image_load.proofs.symbols.+intern.Given as goal

abbrev pub invariant-intern_each-loop-part : goal.invariant-intern_each-loop-part
invariant-intern_each-loop-part l =
    all_interned (map with_atoms_of (drop l.part-index l.parts)) l.atoms ≡ all_interned (map with_atoms_of l.parts) l.initial.atoms
