use Rattle.std.proofs.Common.{◌≡◌, ◌+◌, ◌∙◌, suc, sym, subst, arith}
use Rattle.heap_terms.specs.Seen.{symbols_of}
use Rattle.hipe_edge.specs.Streams.{stream}
use Rattle.amd64_machine.proofs.Going.{Going, joined, goes_on_so, run_ends_so, run_spent}
use Rattle.amd64_machine.proofs.running.run_on.Goals as goal

pub returns-then-is_some-clause-run : goal.returns-then-is_some-clause-run
returns-then-is_some-clause-run g c =
    let out = stream (g.K.Sink.written c.args.out.now) (g.K.Sink.written c.loop.out) (g.K.Sink.faults c.args.out.now) (g.K.Sink.faults c.loop.out) in
    run_ends_so c.args.n c.loop.counter (symbols_of c.args.symbols.now) c.args.core.now c.loop.core c.advance-ended.new.core c.advance-ended.result out
    (g.K.Sink.written c.advance-ended.new.out) (g.K.Sink.faults c.advance-ended.new.out) c.loop-test.true c.loop.invariant.1 c.advance-ended.ensures.step
    (sym c.is_some.ensures ∙ c.if-is_some.true)

pub loop-preserved : goal.loop-preserved
loop-preserved g c =
    let out = stream (g.K.Sink.written c.args.out.now) (g.K.Sink.written c.loop.out) (g.K.Sink.faults c.args.out.now) (g.K.Sink.faults c.loop.out) in
    let bytes = g.K.Sink.written c.advance-ended.new.out in
    let faults = g.K.Sink.faults c.advance-ended.new.out in
    let more : c.loop.counter + 1 ≡ suc c.loop.counter = omega arith in (
      c.advance-ended.ensures.cache,
      subst (λ k. Going k (symbols_of c.args.symbols.now) c.args.core.now c.advance-ended.new.core (joined out bytes faults)) (sym more)
          (goes_on_so c.loop.counter (symbols_of c.args.symbols.now) c.args.core.now c.loop.core c.advance-ended.new.core c.advance-ended.result out bytes faults
          c.loop.invariant.1 c.advance-ended.ensures.faults_never_fall c.advance-ended.ensures.step (sym c.is_some.ensures ∙ c.if-is_some.false)),
    )

pub returns-clause-run : goal.returns-clause-run
returns-clause-run g c =
    let out = stream (g.K.Sink.written c.args.out.now) (g.K.Sink.written c.loop.out) (g.K.Sink.faults c.args.out.now) (g.K.Sink.faults c.loop.out) in
    run_spent c.args.n c.loop.counter (symbols_of c.args.symbols.now) c.args.core.now c.loop.core out (omega arith) c.loop.invariant.1
