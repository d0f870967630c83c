use Rattle.std.proofs.Common.{subst, arith}
use Rattle.std.proofs.lemmas.Result.{err_from_is_err_and}
use Rattle.hipe_edge.specs.Streams.{stream}
use Rattle.hipe_top.specs.Outcome.{DidText}
use Rattle.hipe_top.proofs.Running.{text_not_read, text_did}
use Rattle.hipe_top.proofs.run.answer_source.Goals as goal

pub returns-in_err-text : goal.returns-in_err-text
returns-in_err-text g c =
    let p = err_from_is_err_and c.from_residual.result c.from_residual.ensures.1 in
    rw (p.1, p.2)
    (text_not_read _ c.args.mode c.in_err-text.field-0.0 (g.S.Source.left c.args.source.now) (g.S.Source.left c.read_all.new.source) (g.O.Sink.written c.args.out.now)
    (g.S.Source.faults c.args.source.now) (g.S.Source.faults c.read_all.new.source) (g.O.Sink.faults c.args.out.now)
    c.in_err-text.ensures.taken c.in_err-text.ensures.read_fault)

pub returns : goal.returns
returns g c =
    let size = c.in_ok-text.text.ok.0 in
    let within = c.in_ok-text.ensures.within in
    let out = stream (g.O.Sink.written c.args.out.now) (g.O.Sink.written c.answer_text.new.out) (g.O.Sink.faults c.args.out.now) (g.O.Sink.faults c.answer_text.new.out) in
    text_did c.args.mode out c.in_ok-text.text.items (g.S.Source.left c.args.source.now) (g.S.Source.left c.read_all.new.source)
    (g.S.Source.faults c.args.source.now) (g.S.Source.faults c.read_all.new.source)
    c.in_ok-text.ensures.all.0 c.in_ok-text.ensures.all.1 (omega arith)
    (subst (λ bytes. DidText c.args.mode bytes out c.answer_text.result) c.deref.ensures.value c.answer_text.ensures)
