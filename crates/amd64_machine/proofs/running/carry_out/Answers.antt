use Rattle.std.proofs.Common.{None, subst, sym}
use Rattle.heap_terms.specs.Seen.{symbols_of}
use Rattle.amd64_machine.specs.declared.state.Did.TheVariants.{Goes, Stops}
use Rattle.hipe_edge.specs.Streams.{stream}
use Rattle.amd64_machine.specs.Outcome.{Stepped}
use Rattle.amd64_machine.specs.Seen.{IsKept, machine_seen, ends_seen}
use Rattle.amd64_machine.proofs.Advancing.{performed, goes_here, goes_code, stops_at}
use Rattle.amd64_machine.proofs.running.carry_out.Goals as goal

pub returns-in-Goes-clause-step : goal.returns-in-Goes-clause-step
returns-in-Goes-clause-step g c =
    let done = performed c.args.core.now c.perform.new.core c.perform.result Goes c.args.inst c.args.next c.requires c.perform.ensures.step c.in-Goes.is in
    goes_here (symbols_of c.args.symbols.now) c.args.core.now c.perform.new.core (g.K.Sink.written c.args.out.now) (g.K.Sink.faults c.args.out.now) done

pub returns-in-Goes-clause-code : goal.returns-in-Goes-clause-code
returns-in-Goes-clause-code g c =
    let done = performed c.args.core.now c.perform.new.core c.perform.result Goes c.args.inst c.args.next c.requires c.perform.ensures.step c.in-Goes.is in
    goes_code c.args.core.now c.perform.new.core done

pub returns-in-Stops-clause-step : goal.returns-in-Stops-clause-step
returns-in-Stops-clause-step g c =
    let done = performed c.args.core.now c.perform.new.core c.perform.result Stops c.args.inst c.args.next c.requires c.perform.ensures.step c.in-Stops.is in
    let kept = subst (IsKept c.args.core.now c.perform.new.core) c.in-Stops.is c.perform.ensures.kept in
    stops_at (symbols_of c.args.symbols.now) c.args.core.now c.perform.new.core (g.K.Sink.written c.args.out.now) (g.K.Sink.faults c.args.out.now) kept (sym done)

pub returns-in-Calls-clause-step : goal.returns-in-Calls-clause-step
returns-in-Calls-clause-step g c =
    let symbols = symbols_of c.args.symbols.now in
    let kept = subst (IsKept c.args.core.now c.perform.new.core) c.in-Calls.is c.perform.ensures.kept in
    let out = stream (g.K.Sink.written c.args.out.now) (g.K.Sink.written c.serve_call.new.out) (g.K.Sink.faults c.args.out.now) (g.K.Sink.faults c.serve_call.new.out) in
    subst (λ core. Stepped (machine_seen symbols core None) (machine_seen symbols c.serve_call.new.core c.serve_call.result) out (ends_seen c.serve_call.result))
    kept c.serve_call.ensures.step
