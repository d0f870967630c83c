use Rattle.std.proofs.lemmas.Result.{err_from_is_err_and}
use Rattle.hipe_stop.proofs.Reading.{stop_of_reader, stop_of_linter}
use Rattle.hipe_stop.proofs.good.good_module.Goals as goal

pub returns-in_err-module-clause-stop : goal.returns-in_err-module-clause-stop
returns-in_err-module-clause-stop c =
    let p = err_from_is_err_and c.from_residual.result c.from_residual.ensures.1 in
    rw (p.1, p.2) (stop_of_reader c.args.text.now c.in_err-module.field-0.0 c.in_err-module.ensures.answer c.in_err-module.ensures.only)

pub returns-in_err-good-clause-stop : goal.returns-in_err-good-clause-stop
returns-in_err-good-clause-stop c =
    let p = err_from_is_err_and c.from_residual-in_err-good.result c.from_residual-in_err-good.ensures.1 in
    rw (p.1, p.2) (stop_of_linter c.args.text.now c.in_ok-module.module c.in_err-good.field-0.0 c.in_ok-module.ensures.answer c.in_err-good.ensures.refused)
