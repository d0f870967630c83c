use Rattle.std.proofs.Common.{◌≡◌, bytes_eq, drop}
use Rattle.std.specs.List.{IsDistinct}
use Rattle.image_link.specs.Atoms.{all_interned, atoms_of}
use Rattle.image_link.proofs.atoms.insert_all.Given as goal

abbrev pub invariant-loop-text : goal.invariant-loop-text
invariant-loop-text l = record {
  left : all_interned (drop l.text-index l.list) (atoms_of l.texts.keys) ≡ all_interned l.list (atoms_of l.initial.texts.keys);
  distinct : IsDistinct bytes_eq (atoms_of l.texts.keys);
}
