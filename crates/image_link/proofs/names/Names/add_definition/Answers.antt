use Rattle.std.proofs.Common.{refl, arith}
use Rattle.std.proofs.Math.Facts.{Fits-lt-pow}
use Rattle.image_link.proofs.names.Names.add_definition.Goals as goal

pub add-requires-clause-entry : goal.add-requires-clause-entry
add-requires-clause-entry c = record {
  name = (c.requires.name, refl);
  arity = omega (arith, Fits-lt-pow c.ranges.arity);
  captured = omega arith;
}
