use Rattle.core_print.proofs.Printing.{attributes_is}
use Rattle.core_print.proofs.print.attributes.Goals as goal

pub returns : goal.returns
returns c = rw (attributes_is, ← c.deeper.ensures, ← c.in_ok-line.ensures, ← c.in_ok-keyword.ensures, ← c.in_ok-space.ensures, ← c.in_ok-listed.ensures) c.sign.ensures
