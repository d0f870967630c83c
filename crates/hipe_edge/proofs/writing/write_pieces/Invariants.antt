-- A prefix of the bytes was written, and the iterator has the rest.
use Rattle.std.proofs.Common.{◌≤◌}
use Rattle.hipe_edge.proofs.Known.{AppendsUpTo}
use Rattle.hipe_edge.proofs.writing.write_pieces.Given as goal

abbrev pub invariant-loop-piece : goal.invariant-loop-piece
invariant-loop-piece g l = record {
  written : AppendsUpTo (g.K.Sink.written l.initial.sink) (g.K.Sink.written l.sink) l.bytes l.piece-iterator.rest.now;
  faults : g.K.Sink.faults l.initial.sink ≤ g.K.Sink.faults l.sink;
}
