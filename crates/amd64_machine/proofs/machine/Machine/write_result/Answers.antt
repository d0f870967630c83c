use Rattle.std.specs.Prelude.{[], OnErr}
use Rattle.std.proofs.Common.{subst}
use Rattle.hipe_edge.specs.Bytes.{AppendsPrefix}
use Rattle.amd64_machine.specs.Result.{result_line}
use Rattle.amd64_machine.specs.Seen.{machine_of}
use Rattle.amd64_machine.proofs.machine.Machine.write_result.Goals as goal

pub returns-clause-err : goal.returns-clause-err
returns-clause-err g c =
    subst (λ v. OnErr c.write_ended.result (AppendsPrefix (g.K.Sink.written c.args.out.now) (g.K.Sink.written c.write_ended.new.out)
    (result_line (machine_of v).symbols.definitions ((machine_of v).state [])))) c.self.view_is c.write_ended.ensures.err
