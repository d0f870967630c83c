use Rattle.std.proofs.Common.{subst}
use Rattle.std.specs.Io.KnownBytes.{Appends}
use Rattle.hipe_edge.specs.Bytes.{AppendsPrefix}
use Rattle.amd64_machine.proofs.Lines.{undefined_text}
use Rattle.amd64_machine.proofs.result.write_undefined.Goals as goal

pub returns-in-Ok-clause-ok : goal.returns-in-Ok-clause-ok
returns-in-Ok-clause-ok g c names =
    subst (Appends (g.K.Sink.written c.args.out.now) (g.K.Sink.written c.write_line.new.sink)) (undefined_text names) c.in-Ok.ensures.ok

pub returns-in-Err-clause-err : goal.returns-in-Err-clause-err
returns-in-Err-clause-err g c names =
    subst (AppendsPrefix (g.K.Sink.written c.args.out.now) (g.K.Sink.written c.write_line.new.sink)) (undefined_text names) c.in-Err.ensures.err
