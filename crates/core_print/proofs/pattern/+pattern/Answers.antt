use Rattle.std.proofs.Common.{map, refl, arith}
use Rattle.core_ast.specs.Trees.{pattern_of, patterns}
use Rattle.core_print.specs.Printed.{pattern_pieces, each_pattern}
use Rattle.core_print.proofs.Printing.{commas_step, commas_done}
use Rattle.core_print.proofs.pattern.+pattern.Goals as goal

pub patterns-loop-i-preserved : goal.patterns-loop-i-preserved
patterns-loop-i-preserved t c =
    commas_step (λ p. pattern_pieces (pattern_of p)) (λ ps. each_pattern (patterns (map pattern_of ps))) (λ p ps. refl) c.args.list.now c.loop-i.i c.index-list-i.result _ c.loop-i-test.true c.index-list-i.is c.in_ok-comma.ensures c.in_ok-pattern.ensures c.loop-i.invariant

pub patterns-returns : goal.patterns-returns
patterns-returns t c = commas_done (λ ps. each_pattern (patterns (map pattern_of ps))) refl c.args.list.now c.loop-i.i c.args.opening.now _ (omega arith) c.in_ok-sign.ensures c.loop-i.invariant
