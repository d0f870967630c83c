use Rattle.std.proofs.Common.{subst, sym}
use Rattle.std.specs.Io.KnownBytes.{Appends, Keeps}
use Rattle.std.proofs.lemmas.Result.{on_ok_weaker, on_err_weaker}
use Rattle.hipe_edge.specs.Bytes.{AppendsPrefix}
use Rattle.amd64_machine.specs.declared.machine.End.TheVariants as ends
use Rattle.hipe_edge.specs.Streams.{stream}
use Rattle.amd64_machine.specs.Result.{HasResult, result_line}
use Rattle.amd64_machine.specs.Seen.{machine_of}
use Rattle.core_sum.specs.Sums.{value}
use Rattle.sum_code.specs.Code.{image_for}
use Rattle.sum_run.specs.Run.{value_line}
use Rattle.sum_run.proofs.Running.{came, Came, CanCome, can_come, gave_state, gave_nothing, fault_rises, fault_prefix, wanted_nothing, behind_nothing, prefix_behind_nothing, kept_behind_nothing, prefix_of_nothing}
use Rattle.sum_run.proofs.run.run_sum.Goals as goal

pub write_result-requires : goal.write_result-requires
write_result-requires g c =
    let v = value c.args.e.now in
    let new = machine_of c.run.new.self in
    let out = stream (g.O.Sink.written c.args.out.now) (g.O.Sink.written c.run.new.out) (g.O.Sink.faults c.args.out.now) (g.O.Sink.faults c.run.new.out) in
    let run : Came v new out c.run.result =
    came (image_for c.args.name.now c.args.e.now) v c.args.steps (machine_of c.in_ok-machine.machine) c.run.new.self out c.in_ok-machine.ensures.meaning c.requires.steps c.in_ok-machine.ensures.ready c.run.ensures.run in
    subst HasResult (sym (gave_state (subst (Came v new out) c.in-Returned.is run))) tt

pub returns-in-Returned-clause-ok : goal.returns-in-Returned-clause-ok
returns-in-Returned-clause-ok g c =
    let v = value c.args.e.now in
    let new = machine_of c.run.new.self in
    let out = stream (g.O.Sink.written c.args.out.now) (g.O.Sink.written c.run.new.out) (g.O.Sink.faults c.args.out.now) (g.O.Sink.faults c.run.new.out) in
    let run : Came v new out ends.Returned = subst (Came v new out) c.in-Returned.is
    (came (image_for c.args.name.now c.args.e.now) v c.args.steps (machine_of c.in_ok-machine.machine) c.run.new.self out c.in_ok-machine.ensures.meaning c.requires.steps c.in_ok-machine.ensures.ready c.run.ensures.run) in
    on_ok_weaker c.write_result.result
    (λ h. behind_nothing out.before out.after (g.O.Sink.written c.write_result.new.out) (value_line v) (gave_nothing run)
    (subst (λ s. Appends out.after (g.O.Sink.written c.write_result.new.out) (result_line new.symbols.definitions s)) (gave_state run) h))
    c.write_result.ensures.ok

pub returns-in-Returned-clause-err : goal.returns-in-Returned-clause-err
returns-in-Returned-clause-err g c =
    let v = value c.args.e.now in
    let new = machine_of c.run.new.self in
    let out = stream (g.O.Sink.written c.args.out.now) (g.O.Sink.written c.run.new.out) (g.O.Sink.faults c.args.out.now) (g.O.Sink.faults c.run.new.out) in
    let run : Came v new out ends.Returned = subst (Came v new out) c.in-Returned.is
    (came (image_for c.args.name.now c.args.e.now) v c.args.steps (machine_of c.in_ok-machine.machine) c.run.new.self out c.in_ok-machine.ensures.meaning c.requires.steps c.in_ok-machine.ensures.ready c.run.ensures.run) in
    on_err_weaker c.write_result.result
    (λ h. prefix_behind_nothing out.before out.after (g.O.Sink.written c.write_result.new.out) (value_line v) (gave_nothing run)
    (subst (λ s. AppendsPrefix out.after (g.O.Sink.written c.write_result.new.out) (result_line new.symbols.definitions s)) (gave_state run) h))
    c.write_result.ensures.err

pub returns-in-Returned-clause-memory : goal.returns-in-Returned-clause-memory
returns-in-Returned-clause-memory g c =
    let v = value c.args.e.now in
    let new = machine_of c.run.new.self in
    let out = stream (g.O.Sink.written c.args.out.now) (g.O.Sink.written c.run.new.out) (g.O.Sink.faults c.args.out.now) (g.O.Sink.faults c.run.new.out) in
    let run : Came v new out ends.Returned = subst (Came v new out) c.in-Returned.is
    (came (image_for c.args.name.now c.args.e.now) v c.args.steps (machine_of c.in_ok-machine.machine) c.run.new.self out c.in_ok-machine.ensures.meaning c.requires.steps c.in_ok-machine.ensures.ready c.run.ensures.run) in
    λ is. subst (λ o. Keeps out.before (g.O.Sink.written o)) (sym (c.write_result.ensures.memory is)) (kept_behind_nothing out.before out.after (gave_nothing run))

pub returns-in-WriteFault-clause-err : goal.returns-in-WriteFault-clause-err
returns-in-WriteFault-clause-err g c =
    let v = value c.args.e.now in
    let new = machine_of c.run.new.self in
    let out = stream (g.O.Sink.written c.args.out.now) (g.O.Sink.written c.run.new.out) (g.O.Sink.faults c.args.out.now) (g.O.Sink.faults c.run.new.out) in
    let run : Came v new out ends.WriteFault = subst (Came v new out) c.in-WriteFault.is
    (came (image_for c.args.name.now c.args.e.now) v c.args.steps (machine_of c.in_ok-machine.machine) c.run.new.self out c.in_ok-machine.ensures.meaning c.requires.steps c.in_ok-machine.ensures.ready c.run.ensures.run) in
    prefix_of_nothing out.before out.after (value_line v) (fault_prefix run)

pub returns-in-WriteFault-clause-write_fault : goal.returns-in-WriteFault-clause-write_fault
returns-in-WriteFault-clause-write_fault g c =
    let v = value c.args.e.now in
    let new = machine_of c.run.new.self in
    let out = stream (g.O.Sink.written c.args.out.now) (g.O.Sink.written c.run.new.out) (g.O.Sink.faults c.args.out.now) (g.O.Sink.faults c.run.new.out) in
    let run : Came v new out ends.WriteFault = subst (Came v new out) c.in-WriteFault.is
    (came (image_for c.args.name.now c.args.e.now) v c.args.steps (machine_of c.in_ok-machine.machine) c.run.new.self out c.in_ok-machine.ensures.meaning c.requires.steps c.in_ok-machine.ensures.ready c.run.ensures.run) in
    λ is. (fault_rises run, c.in_ok-machine.ensures.meaning)

pub returns-in-Memory-clause-err : goal.returns-in-Memory-clause-err
returns-in-Memory-clause-err g c =
    let v = value c.args.e.now in
    let new = machine_of c.run.new.self in
    let out = stream (g.O.Sink.written c.args.out.now) (g.O.Sink.written c.run.new.out) (g.O.Sink.faults c.args.out.now) (g.O.Sink.faults c.run.new.out) in
    let run : Came v new out ends.Memory = subst (Came v new out) c.in-Memory.is
    (came (image_for c.args.name.now c.args.e.now) v c.args.steps (machine_of c.in_ok-machine.machine) c.run.new.self out c.in_ok-machine.ensures.meaning c.requires.steps c.in_ok-machine.ensures.ready c.run.ensures.run) in
    (0, wanted_nothing run)

pub returns-in-Memory-clause-memory : goal.returns-in-Memory-clause-memory
returns-in-Memory-clause-memory g c =
    let v = value c.args.e.now in
    let new = machine_of c.run.new.self in
    let out = stream (g.O.Sink.written c.args.out.now) (g.O.Sink.written c.run.new.out) (g.O.Sink.faults c.args.out.now) (g.O.Sink.faults c.run.new.out) in
    let run : Came v new out ends.Memory = subst (Came v new out) c.in-Memory.is
    (came (image_for c.args.name.now c.args.e.now) v c.args.steps (machine_of c.in_ok-machine.machine) c.run.new.self out c.in_ok-machine.ensures.meaning c.requires.steps c.in_ok-machine.ensures.ready c.run.ensures.run) in
    λ is. kept_behind_nothing out.before out.after (wanted_nothing run)

pub unreachable-requires : goal.unreachable-requires
unreachable-requires g c =
    let v = value c.args.e.now in
    let new = machine_of c.run.new.self in
    let out = stream (g.O.Sink.written c.args.out.now) (g.O.Sink.written c.run.new.out) (g.O.Sink.faults c.args.out.now) (g.O.Sink.faults c.run.new.out) in
    subst CanCome c.in-Raised.is
    (can_come (came (image_for c.args.name.now c.args.e.now) v c.args.steps (machine_of c.in_ok-machine.machine) c.run.new.self out c.in_ok-machine.ensures.meaning c.requires.steps c.in_ok-machine.ensures.ready c.run.ensures.run))

pub unreachable-requires-in-HeapFull : goal.unreachable-requires-in-HeapFull
unreachable-requires-in-HeapFull g c =
    let v = value c.args.e.now in
    let new = machine_of c.run.new.self in
    let out = stream (g.O.Sink.written c.args.out.now) (g.O.Sink.written c.run.new.out) (g.O.Sink.faults c.args.out.now) (g.O.Sink.faults c.run.new.out) in
    subst CanCome c.in-HeapFull.is
    (can_come (came (image_for c.args.name.now c.args.e.now) v c.args.steps (machine_of c.in_ok-machine.machine) c.run.new.self out c.in_ok-machine.ensures.meaning c.requires.steps c.in_ok-machine.ensures.ready c.run.ensures.run))

pub unreachable-requires-in-StackFull : goal.unreachable-requires-in-StackFull
unreachable-requires-in-StackFull g c =
    let v = value c.args.e.now in
    let new = machine_of c.run.new.self in
    let out = stream (g.O.Sink.written c.args.out.now) (g.O.Sink.written c.run.new.out) (g.O.Sink.faults c.args.out.now) (g.O.Sink.faults c.run.new.out) in
    subst CanCome c.in-StackFull.is
    (can_come (came (image_for c.args.name.now c.args.e.now) v c.args.steps (machine_of c.in_ok-machine.machine) c.run.new.self out c.in_ok-machine.ensures.meaning c.requires.steps c.in_ok-machine.ensures.ready c.run.ensures.run))

pub unreachable-requires-in-StepsSpent : goal.unreachable-requires-in-StepsSpent
unreachable-requires-in-StepsSpent g c =
    let v = value c.args.e.now in
    let new = machine_of c.run.new.self in
    let out = stream (g.O.Sink.written c.args.out.now) (g.O.Sink.written c.run.new.out) (g.O.Sink.faults c.args.out.now) (g.O.Sink.faults c.run.new.out) in
    subst CanCome c.in-StepsSpent.is
    (can_come (came (image_for c.args.name.now c.args.e.now) v c.args.steps (machine_of c.in_ok-machine.machine) c.run.new.self out c.in_ok-machine.ensures.meaning c.requires.steps c.in_ok-machine.ensures.ready c.run.ensures.run))

pub unreachable-requires-in-MachineFault : goal.unreachable-requires-in-MachineFault
unreachable-requires-in-MachineFault g c =
    let v = value c.args.e.now in
    let new = machine_of c.run.new.self in
    let out = stream (g.O.Sink.written c.args.out.now) (g.O.Sink.written c.run.new.out) (g.O.Sink.faults c.args.out.now) (g.O.Sink.faults c.run.new.out) in
    subst CanCome c.in-MachineFault.is
    (can_come (came (image_for c.args.name.now c.args.e.now) v c.args.steps (machine_of c.in_ok-machine.machine) c.run.new.self out c.in_ok-machine.ensures.meaning c.requires.steps c.in_ok-machine.ensures.ready c.run.ensures.run))
