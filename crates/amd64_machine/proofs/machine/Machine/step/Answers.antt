use Rattle.std.proofs.Common.{Some, sym, subst}
use Rattle.heap_terms.specs.Seen.{symbols_of}
use Rattle.hipe_edge.specs.Streams.{stream}
use Rattle.amd64_machine.specs.Outcome.{Seen, Stepped}
use Rattle.amd64_machine.specs.Seen.{Held, machine_of, machine_seen, ends_seen}
use Rattle.amd64_machine.proofs.Ends.{nothing, held_stays, held_steps}
use Rattle.amd64_machine.proofs.machine.Machine.step.Goals as goal

pub returns-in-Some-clause-step : goal.returns-in-Some-clause-step
returns-in-Some-clause-step g c =
    let inside : Held = record { core = c.self.inside.core; symbols = c.self.inside.symbols; ended = c.self.inside.ended } in
    let bytes = g.K.Sink.written c.args.out.now in
    let faults = g.K.Sink.faults c.args.out.now in
    subst (λ v. Stepped (machine_of v) (machine_of v) (nothing bytes faults) (Some c.end.result)) c.self.view_is
    (held_stays inside c.in-Some.ended c.end.result bytes faults c.in-Some.is c.self.invariant.1 c.end.ensures)

pub returns-in-None-clause-step : goal.returns-in-None-clause-step
returns-in-None-clause-step g c =
    let inside : Held = record { core = c.self.inside.core; symbols = c.self.inside.symbols; ended = c.self.inside.ended } in
    let new : Seen = machine_seen (symbols_of c.self.inside.symbols) c.advance-self-inside.new.core c.advance-self-inside.result in
    let out = stream (g.K.Sink.written c.args.out.now) (g.K.Sink.written c.advance-self-inside.new.out) (g.K.Sink.faults c.args.out.now) (g.K.Sink.faults c.advance-self-inside.new.out) in
    subst (λ v. Stepped (machine_of v) new out c.end_of.result) c.self.view_is
    (held_steps inside new out (ends_seen c.advance-self-inside.result) c.end_of.result c.in-None.is c.advance-self-inside.ensures.step (sym c.end_of.ensures))
