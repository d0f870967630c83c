-- The bytes so far are those that the source lost, and there is room for one more below the limit and one.
use Rattle.std.proofs.Common.{◌≡◌, ◌+◌, ◌-◌, ◌≤◌, min, vec_len}
use Rattle.std.specs.Io.KnownBytes.{Consumes}
use Rattle.hipe_edge.proofs.reading.read_all.Given as goal

abbrev pub invariant-loop-bytes : goal.invariant-loop-bytes
invariant-loop-bytes g l = record {
  most : l.most ≡ l.limit + 1;
  within : vec_len l.bytes ≤ l.limit;
  buffer : vec_len l.buffer ≡ min l.most 65536;
  taken : Consumes (g.S.Source.left l.initial.source) (g.S.Source.left l.source) l.bytes.items;
  faults : g.S.Source.faults l.initial.source ≤ g.S.Source.faults l.source;
}

abbrev pub decreases-loop-bytes : goal.decreases-loop-bytes
decreases-loop-bytes g l = l.most - vec_len l.bytes
