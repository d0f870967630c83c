use Rattle.std.proofs.Common.{ap, refl}
use Rattle.heap_terms.specs.Seen.{symbols_of}
use Rattle.amd64_machine.specs.Fetch.{Nothing}
use Rattle.amd64_machine.specs.Seen.{fetched_seen}
use Rattle.amd64_machine.proofs.Advancing.{fetched_here, nothing_here, stops_at}
use Rattle.amd64_machine.proofs.running.advance.Goals as goal

pub returns-in-None-clause-step : goal.returns-in-None-clause-step
returns-in-None-clause-step g c =
    let core = c.args.core.now in
    let none = fetched_here core c.code.result.now c.fetched.result Nothing c.fetched.ensures.found c.code.ensures (ap fetched_seen c.in-None.is) in
    stops_at (symbols_of c.args.symbols.now) core core (g.K.Sink.written c.args.out.now) (g.K.Sink.faults c.args.out.now) refl (nothing_here core none)
