use Rattle.heap_terms.specs.Seen.{symbols_of}
use Rattle.hipe_edge.specs.Streams.{stream}
use Rattle.amd64_machine.specs.Seen.{IsCache}
use Rattle.amd64_machine.proofs.Going.{Going}
use Rattle.amd64_machine.proofs.running.run_on.Given as goal

abbrev pub invariant-loop : goal.invariant-loop
invariant-loop g l =
    IsCache l.core.region.code l.cache.items
    × Going l.counter (symbols_of l.symbols) l.initial.core l.core
    (stream (g.K.Sink.written l.initial.out) (g.K.Sink.written l.out) (g.K.Sink.faults l.initial.out) (g.K.Sink.faults l.out))
