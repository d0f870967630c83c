use Rattle.std.proofs.lemmas.Result.{err_from_is_err_and}
use Rattle.hipe_top.specs.Doing.{wrote, wrote_prefix}
use Rattle.hipe_top.proofs.run.write_ok.Goals as goal

pub returns-in_err-write_line : goal.returns-in_err-write_line
returns-in_err-write_line g c =
    let p = err_from_is_err_and c.from_residual.result c.from_residual.ensures.1 in
    rw (p.1, p.2) (wrote_prefix c.in_err-write_line.ensures.write_fault c.in_err-write_line.ensures.err)

pub returns : goal.returns
returns g c = wrote c.in_ok-write_line.ensures.ok
