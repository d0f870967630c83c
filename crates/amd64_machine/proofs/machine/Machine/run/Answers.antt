use Rattle.std.proofs.Common.{ap, sym, ◌∙◌, subst}
use Rattle.std.specs.Prelude.{unwrap_or}
use Rattle.amd64_machine.specs.declared.machine.End.TheVariants.{StepsSpent}
use Rattle.heap_terms.specs.Seen.{symbols_of}
use Rattle.hipe_edge.specs.Streams.{stream}
use Rattle.amd64_machine.specs.Outcome.{Seen, Ran}
use Rattle.amd64_machine.specs.Seen.{Held, machine_of, machine_seen, ends_seen}
use Rattle.amd64_machine.proofs.Ends.{nothing, held_stays_run, held_runs}
use Rattle.amd64_machine.proofs.machine.Machine.run.Goals as goal

pub returns-in-Some-clause-run : goal.returns-in-Some-clause-run
returns-in-Some-clause-run g c =
    let inside : Held = record { core = c.self.inside.core; symbols = c.self.inside.symbols; ended = c.self.inside.ended } in
    let bytes = g.K.Sink.written c.args.out.now in
    let faults = g.K.Sink.faults c.args.out.now in
    subst (λ v. Ran c.args.n (machine_of v) (machine_of v) (nothing bytes faults) c.end.result) c.self.view_is
    (held_stays_run c.args.n inside c.in-Some.ended c.end.result bytes faults c.in-Some.is c.self.invariant.1 c.end.ensures)

pub returns-in-None-clause-run : goal.returns-in-None-clause-run
returns-in-None-clause-run g c =
    let inside : Held = record { core = c.self.inside.core; symbols = c.self.inside.symbols; ended = c.self.inside.ended } in
    let new : Seen = machine_seen (symbols_of c.self.inside.symbols) c.run_on-self-inside.new.core c.run_on-self-inside.result in
    let out = stream (g.K.Sink.written c.args.out.now) (g.K.Sink.written c.run_on-self-inside.new.out) (g.K.Sink.faults c.args.out.now) (g.K.Sink.faults c.run_on-self-inside.new.out) in
    subst (λ v. Ran c.args.n (machine_of v) new out c.unwrap_or.result) c.self.view_is
    (held_runs c.args.n inside new out (unwrap_or (ends_seen c.run_on-self-inside.result) StepsSpent) c.unwrap_or.result c.in-None.is c.run_on-self-inside.ensures.run
    (sym (c.unwrap_or.ensures ∙ ap (λ o. unwrap_or o StepsSpent) c.end_of.ensures)))
