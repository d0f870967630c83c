use Rattle.std.proofs.Common.{map, refl, arith}
use Rattle.core_print.specs.Printed.{export_pieces}
use Rattle.core_print.proofs.Printing.{commas_step, commas_done}
use Rattle.core_print.proofs.print.exported.Goals as goal

pub loop-i-preserved : goal.loop-i-preserved
loop-i-preserved c = commas_step export_pieces (map export_pieces) (λ x xs. refl) c.args.exports.now c.loop-i.i c.index-exports-i.result _ c.loop-i-test.true c.index-exports-i.is c.in_ok-comma.ensures c.in_ok-function_name.ensures c.loop-i.invariant

pub returns : goal.returns
returns c = commas_done (map export_pieces) refl c.args.exports.now c.loop-i.i _ _ (omega arith) c.in_ok-sign.ensures c.loop-i.invariant
