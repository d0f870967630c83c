use Rattle.std.proofs.Common.{arith}
use Rattle.std.proofs.Math.Facts.{Fits-lt-pow}
use Rattle.image_link.proofs.names.Names.add_fun.Goals as goal

pub add-requires-clause-entry : goal.add-requires-clause-entry
add-requires-clause-entry c = record {
  name = tt;
  arity = omega (arith, Fits-lt-pow c.ranges.arity);
  captured = omega (arith, Fits-lt-pow c.ranges.captured);
}
