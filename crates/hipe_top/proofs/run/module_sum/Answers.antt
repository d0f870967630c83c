use Rattle.std.proofs.lemmas.Result.{err_from_is_err_and}
use Rattle.core_ast.specs.Trees.{module_of}
use Rattle.hipe_top.specs.Doing.{not_exported, not_built, memory_ran_out}
use Rattle.hipe_top.proofs.Running.{unexported, unbuilt}
use Rattle.hipe_top.proofs.run.module_sum.Goals as goal

pub returns-in_err-at-in-Err-NotExported-clause-stop : goal.returns-in_err-at-in-Err-NotExported-clause-stop
returns-in_err-at-in-Err-NotExported-clause-stop c =
    let p = err_from_is_err_and c.from_residual.result c.from_residual.ensures.1 in
    rw (p.1, p.2) memory_ran_out

pub returns-in_ok-at-in-Err-NotExported-clause-stop : goal.returns-in_ok-at-in-Err-NotExported-clause-stop
returns-in_ok-at-in-Err-NotExported-clause-stop c =
    not_exported c.in_ok-at-in-Err-NotExported.at (unexported (module_of c.args.good.now.tree) c.in-Err-NotExported.field-0 c.sum_of.result c.in-Err-NotExported.is c.in-Err-NotExported.field-0-is c.sum_of.ensures.refused)
    c.in_ok-at-in-Err-NotExported.ensures

pub returns-in-Err-NotYet-clause-stop : goal.returns-in-Err-NotYet-clause-stop
returns-in-Err-NotYet-clause-stop c =
    let h = unbuilt (module_of c.args.good.now.tree) c.in-Err-NotYet.field-0 c.in-Err-NotYet.at c.sum_of.result c.in-Err-NotYet.is c.in-Err-NotYet.field-0-is c.sum_of.ensures.refused in
    not_built c.in-Err-NotYet.at h.0 h.1

pub returns-in-Err-Memory-clause-stop : goal.returns-in-Err-Memory-clause-stop
returns-in-Err-Memory-clause-stop c = memory_ran_out
