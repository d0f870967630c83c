use Rattle.std.proofs.Common.{map, refl, arith}
use Rattle.core_print.specs.Printed.{attribute_pieces}
use Rattle.core_print.proofs.Printing.{commas_step, commas_done}
use Rattle.core_print.proofs.print.listed.Goals as goal

pub loop-i-preserved : goal.loop-i-preserved
loop-i-preserved c = commas_step attribute_pieces (map attribute_pieces) (λ x xs. refl) c.args.list.now c.loop-i.i c.index-list-i.result _ c.loop-i-test.true c.index-list-i.is c.in_ok-comma.ensures c.in_ok-one_attribute.ensures c.loop-i.invariant

pub returns : goal.returns
returns c = commas_done (map attribute_pieces) refl c.args.list.now c.loop-i.i _ _ (omega arith) c.in_ok-sign.ensures c.loop-i.invariant
