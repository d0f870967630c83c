use Rattle.std.proofs.Common.{arith}
use Rattle.hipe_edge.proofs.Known.{AppendsUpTo-more, AppendsUpTo-kept, take-append-from}
use Rattle.hipe_edge.proofs.writing.write_piece.Goals as goal

pub loop-rest-preserved : goal.loop-rest-preserved
loop-rest-preserved g c = record {
  written = AppendsUpTo-more _ _ _ _ _ _ _ c.loop-rest.invariant.written (take-append-from c.in-Ok.n c.loop-rest.rest.now) c.in-Ok.ensures.appended;
  faults = omega arith;
}

pub returns-in-Err-clause-err : goal.returns-in-Err-clause-err
returns-in-Err-clause-err g c = AppendsUpTo-kept _ _ _ _ _ c.loop-rest.invariant.written c.in-Err.ensures.kept
