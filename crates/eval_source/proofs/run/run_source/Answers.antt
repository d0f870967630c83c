use Rattle.std.proofs.Common.{string_bytes, subst, arith}
use Rattle.std.proofs.lemmas.Result.{err_from_is_err_and}
use Rattle.std.specs.Io.KnownBytes.{Appends}
use Rattle.hipe_edge.specs.Bytes.{AppendsPrefix}
use Rattle.core_reader.specs.Language.{Reads}
use Rattle.eval_source.specs.Commands.{command_in}
use Rattle.eval_source.specs.Outcome.{no_memory}
use Rattle.hipe_stop.specs.Refusing.{IsStop}
use Rattle.hipe_stop.proofs.Inputs.{keeps_same}
use Rattle.eval_source.proofs.Coming.{asked, asked_nothing, arguments_refused, call_refused, not_read, text_refused, run_written, run_unwritten}
use Rattle.eval_source.proofs.run.run_source.Goals as goal

pub returns-in_default : goal.returns-in_default
returns-in_default g c = arguments_refused _ _ _ _ _ (asked_nothing c.command_of.result _ c.command_of.ensures c.in_default.not-Some)

pub returns-in_err-call : goal.returns-in_err-call
returns-in_err-call g c =
    let p = err_from_is_err_and c.from_residual.result c.from_residual.ensures.1 in
    rw (p.1, p.2)
    (call_refused _ (command_in c.in-Some.command) c.in_err-call.field-0.0 _ _ _ _ (asked c.command_of.result c.in-Some.command _ c.command_of.ensures c.in-Some.is)
    c.in_err-call.ensures.answer c.in_err-call.ensures.only)

pub returns-in_err-text : goal.returns-in_err-text
returns-in_err-text g c =
    let p = err_from_is_err_and c.from_residual-in_err-text.result c.from_residual-in_err-text.ensures.1 in
    rw (p.1, p.2)
    (not_read _ _ (command_in c.in-Some.command) c.in_ok-call.call c.in_err-text.field-0.0 _ _ _ _ _ _ (asked c.command_of.result c.in-Some.command _ c.command_of.ensures c.in-Some.is)
    c.in_ok-call.ensures.answer c.in_err-text.ensures.taken c.in_err-text.ensures.read_fault)

pub returns-in_err-good : goal.returns-in_err-good
returns-in_err-good g c =
    let p = err_from_is_err_and c.from_residual-in_err-good.result c.from_residual-in_err-good.ensures.1 in
    let size = c.in_ok-text.text.ok.0 in
    let within = c.in_ok-text.ensures.within in
    rw (p.1, p.2)
    (text_refused _ (command_in c.in-Some.command) c.in_ok-call.call c.in_ok-text.text.items c.in_err-good.field-0.0 _ _ _ _ _ _
    (asked c.command_of.result c.in-Some.command _ c.command_of.ensures c.in-Some.is) c.in_ok-call.ensures.answer c.in_ok-text.ensures.all.0 c.in_ok-text.ensures.all.1 (omega arith)
    (subst (λ bytes. IsStop bytes c.in_err-good.field-0.0) c.deref.ensures.value c.in_err-good.ensures.stop))

pub returns-in_err-lines : goal.returns-in_err-lines
returns-in_err-lines g c =
    let p = err_from_is_err_and c.from_residual-in_err-lines.result c.from_residual-in_err-lines.ensures.1 in
    rw (p.1, p.2) (no_memory (keeps_same (g.O.Sink.written c.args.out.now)))

pub returns-in_err-write_line : goal.returns-in_err-write_line
returns-in_err-write_line g c =
    let p = err_from_is_err_and c.from_residual-in_err-write_line.result c.from_residual-in_err-write_line.ensures.1 in
    let size = c.in_ok-text.text.ok.0 in
    let within = c.in_ok-text.ensures.within in
    rw (p.1, p.2)
    (run_unwritten _ (command_in c.in-Some.command) c.in_ok-call.call c.in_ok-good.good.tree c.in_ok-text.text.items (string_bytes c.in_ok-lines.lines.text) c.in_ok-lines.lines.status _ _ _ _ _ _ _ _
    (asked c.command_of.result c.in-Some.command _ c.command_of.ensures c.in-Some.is) c.in_ok-call.ensures.answer c.in_ok-text.ensures.all.0 c.in_ok-text.ensures.all.1 (omega arith)
    (subst (λ bytes. Reads bytes c.in_ok-good.good.tree) c.deref.ensures.value c.in_ok-good.ensures.reads) c.in_ok-good.good.good c.in_ok-lines.ensures
    c.in_err-write_line.ensures.write_fault
    (subst (λ text. AppendsPrefix (g.O.Sink.written c.args.out.now) (g.O.Sink.written c.write_line.new.sink) text) c.as_bytes.ensures.value c.in_err-write_line.ensures.err))

pub returns : goal.returns
returns g c =
    let size = c.in_ok-text.text.ok.0 in
    let within = c.in_ok-text.ensures.within in
    run_written _ (command_in c.in-Some.command) c.in_ok-call.call c.in_ok-good.good.tree c.in_ok-text.text.items (string_bytes c.in_ok-lines.lines.text) c.in_ok-lines.lines.status _ _ _ _ _ _ _ _
    (asked c.command_of.result c.in-Some.command _ c.command_of.ensures c.in-Some.is) c.in_ok-call.ensures.answer c.in_ok-text.ensures.all.0 c.in_ok-text.ensures.all.1 (omega arith)
    (subst (λ bytes. Reads bytes c.in_ok-good.good.tree) c.deref.ensures.value c.in_ok-good.ensures.reads) c.in_ok-good.good.good c.in_ok-lines.ensures
    (subst (λ text. Appends (g.O.Sink.written c.args.out.now) (g.O.Sink.written c.write_line.new.sink) text) c.as_bytes.ensures.value c.in_ok-write_line.ensures.ok)
