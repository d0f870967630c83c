use Rattle.std.proofs.Common.{◌≡◌, take}
use Rattle.image_load.proofs.symbols.atoms_of.Given as goal

abbrev pub invariant-loop-number : goal.invariant-loop-number
invariant-loop-number l = l.atoms.items ≡ take l.number l.table
