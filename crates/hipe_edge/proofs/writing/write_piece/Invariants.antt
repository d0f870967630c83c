-- A prefix of the bytes was written, and `rest` is what is left of them.
use Rattle.std.proofs.Common.{◌≤◌, length}
use Rattle.hipe_edge.proofs.Known.{AppendsUpTo}
use Rattle.hipe_edge.proofs.writing.write_piece.Given as goal

abbrev pub invariant-loop-rest : goal.invariant-loop-rest
invariant-loop-rest g l = record {
  written : AppendsUpTo (g.K.Sink.written l.initial.sink) (g.K.Sink.written l.sink) l.bytes l.rest;
  faults : g.K.Sink.faults l.initial.sink ≤ g.K.Sink.faults l.sink;
}

abbrev pub decreases-loop-rest : goal.decreases-loop-rest
decreases-loop-rest g l = length l.rest
