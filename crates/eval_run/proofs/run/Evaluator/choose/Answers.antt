use Rattle.std.proofs.Common.{ap, map}
use Rattle.core_ast.specs.Trees.{clauses, clause_of}
use Rattle.eval_run.proofs.Waits.{none_of, first_of, choose_none}
use Rattle.eval_run.proofs.run.Evaluator.choose.Goals as goal

pub returns-in-empty : goal.returns-in-empty
returns-in-empty c = rw (ap (λ l. clauses (map clause_of l)) (none_of c.args.list.now c.in-empty.len_below)) (rw choose_none c.no_clause.ensures)

pub returns-in-len1-up : goal.returns-in-len1-up
returns-in-len1-up c = rw (ap (λ l. clauses (map clause_of l)) (first_of c.args.list.now c.first-item.result c.in-len1-up.len_at_least c.first-item.is)) c.try_clause.ensures
