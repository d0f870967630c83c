use Rattle.std.proofs.Common.{arith}
use Rattle.std.proofs.lemmas.Result.{err_from_is_err_and}
use Rattle.hipe_edge.proofs.Known.{AppendsUpTo-more, AppendsUpTo-prefix}
use Rattle.hipe_edge.proofs.writing.write_pieces.Goals as goal

pub loop-piece-preserved : goal.loop-piece-preserved
loop-piece-preserved g c = record {
  written = AppendsUpTo-more _ _ _ _ _ _ _ c.loop-piece.invariant.written c.in-Some.ensures.steps.1.0 c.in_ok-write_piece.ensures.ok;
  faults = omega arith;
}

pub returns-in_err-write_piece-clause-err : goal.returns-in_err-write_piece-clause-err
returns-in_err-write_piece-clause-err g c =
    let p = err_from_is_err_and c.from_residual.result c.from_residual.ensures.1 in
    rw p.1 (AppendsUpTo-prefix _ _ _ _ _ _ _ c.loop-piece.invariant.written c.in-Some.ensures.steps.1.0 c.in_err-write_piece.ensures.err)

pub returns-in_err-write_piece-clause-write_fault : goal.returns-in_err-write_piece-clause-write_fault
returns-in_err-write_piece-clause-write_fault g c =
    let p = err_from_is_err_and c.from_residual.result c.from_residual.ensures.1 in
    rw p.1 (omega (arith, c.in_err-write_piece.ensures.write_fault))
