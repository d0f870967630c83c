use Rattle.std.proofs.Common.{subst, sym}
use Rattle.std.proofs.lemmas.Result.{err_from_is_err_and}
use Rattle.hipe_edge.specs.Streams.{stream}
use Rattle.hipe_top.specs.Outcome.{DidText}
use Rattle.hipe_top.proofs.Running.{stopped, check_did}
use Rattle.hipe_top.proofs.run.answer_text.Goals as goal

pub returns-in_err-good : goal.returns-in_err-good
returns-in_err-good g c =
    let p = err_from_is_err_and c.from_residual.result c.from_residual.ensures.1 in
    rw (p.1, p.2) (stopped c.args.mode c.args.text.now (g.O.Sink.written c.args.out.now) (g.O.Sink.faults c.args.out.now) c.in_err-good.field-0.0 c.requires c.in_err-good.ensures.stop)

pub returns-in-Check : goal.returns-in-Check
returns-in-Check g c =
    let out = stream (g.O.Sink.written c.args.out.now) (g.O.Sink.written c.write_ok.new.out) (g.O.Sink.faults c.args.out.now) (g.O.Sink.faults c.write_ok.new.out) in
    subst (λ mode. DidText mode c.args.text.now out c.write_ok.result) (sym c.in-Check.is)
    (check_did c.args.text.now c.in_ok-good.good.tree out (record { short = c.requires; reads = c.in_ok-good.ensures.reads; good = c.in_ok-good.good.good }) c.write_ok.ensures)
