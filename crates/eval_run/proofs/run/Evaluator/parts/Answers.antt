use Rattle.std.proofs.Common.{ap, map}
use Rattle.core_ast.specs.Trees.{expressions, expression_of}
use Rattle.eval_run.proofs.Waits.{parts_empty, first_of}
use Rattle.eval_run.proofs.run.Evaluator.parts.Goals as goal

pub returns-in-empty : goal.returns-in-empty
returns-in-empty c = rw (parts_empty _ _ _ _ _ _ c.args.parts.now c.in-empty.len_below) c.reach.ensures

pub returns-in-len1-up : goal.returns-in-len1-up
returns-in-len1-up c = rw (ap (λ l. expressions (map expression_of l)) (first_of c.args.parts.now c.e-item.result c.in-len1-up.len_at_least c.e-item.is)) c.first_part.ensures
