use Rattle.std.proofs.Common.{Err, ap}
use Rattle.std.proofs.lemmas.Result.{err_from_is_err_and}
use Rattle.hipe_top.specs.Doing.{returned}
use Rattle.hipe_top.proofs.Running.{run_stopped, sum_did, sum_not_written}
use Rattle.hipe_top.proofs.run.run_module.Goals as goal

pub returns-in_err-sum : goal.returns-in_err-sum
returns-in_err-sum g c =
    let p = err_from_is_err_and c.from_residual.result c.from_residual.ensures.1 in
    rw (p.1, p.2)
    (run_stopped c.args.text.now c.args.good.now.tree (g.O.Sink.written c.args.out.now) (g.O.Sink.faults c.args.out.now) c.in_err-sum.field-0.0
    (record { short = c.requires.short; reads = c.requires.reads; good = c.args.good.now.good }) c.in_err-sum.ensures.stop)

pub returns-in-Ok : goal.returns-in-Ok
returns-in-Ok g c =
    sum_did c.args.text.now c.args.good.now.tree c.in_ok-sum.sum _ (record { short = c.requires.short; reads = c.requires.reads; good = c.args.good.now.good }) c.in_ok-sum.ensures.sum
    (returned c.in-Ok.ensures.meaning c.in-Ok.ensures.ok)

pub returns : goal.returns
returns g c =
    let e = c.in_ok-sum.sum in
    let after = c.run_sum.new.out in
    rw c.stop_of_result.ensures
    (sum_did c.args.text.now c.args.good.now.tree e _ (record { short = c.requires.short; reads = c.requires.reads; good = c.args.good.now.good }) c.in_ok-sum.ensures.sum
    (sum_not_written c.args.good.now.tree.name e c.in-Err.fault (g.O.Sink.written c.args.out.now) (g.O.Sink.written after) (g.O.Sink.faults c.args.out.now) (g.O.Sink.faults after)
    c.in-Err.ensures.err (λ is. c.in-Err.ensures.write_fault (ap Err is)) (λ is. c.in-Err.ensures.memory (ap Err is))))
