use Rattle.std.proofs.Common.{map, refl, arith}
use Rattle.core_print.specs.Printed.{variable_pieces}
use Rattle.core_print.proofs.Printing.{commas_step, commas_done}
use Rattle.core_print.proofs.pattern.variables.Goals as goal

pub loop-i-preserved : goal.loop-i-preserved
loop-i-preserved c = commas_step variable_pieces (map variable_pieces) (λ x xs. refl) c.args.list.now c.loop-i.i c.index-list-i.result _ c.loop-i-test.true c.index-list-i.is c.in_ok-comma.ensures c.in_ok-variable.ensures c.loop-i.invariant

pub returns : goal.returns
returns c = commas_done (map variable_pieces) refl c.args.list.now c.loop-i.i c.args.opening.now _ (omega arith) c.in_ok-sign.ensures c.loop-i.invariant
