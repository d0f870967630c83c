use Rattle.std.proofs.Common.{[], sym, subst}
use Rattle.std.specs.Prelude.{OnOk, OnErr}
use Rattle.std.specs.Io.KnownBytes.{Appends}
use Rattle.hipe_edge.specs.Bytes.{AppendsPrefix}
use Rattle.heap_terms.specs.Seen.{symbols_of}
use Rattle.amd64_machine.specs.Result.{result_line}
use Rattle.amd64_machine.specs.Seen.{state_ended}
use Rattle.amd64_machine.proofs.result.write_over.Goals as goal

pub returns-in-Undefined-clause-ok : goal.returns-in-Undefined-clause-ok
returns-in-Undefined-clause-ok g c =
    let symbols = symbols_of c.args.symbols.now in
    let core = c.args.core.now in
    let before = g.K.Sink.written c.args.out.now in
    let after = g.K.Sink.written c.write_undefined.new.out in
    subst (λ e. OnOk c.write_undefined.result (Appends before after (result_line symbols.definitions (state_ended symbols core e [])))) (sym c.in-Undefined.is)
    (c.write_undefined.ensures.ok symbols.definitions)

pub returns-in-Undefined-clause-err : goal.returns-in-Undefined-clause-err
returns-in-Undefined-clause-err g c =
    let symbols = symbols_of c.args.symbols.now in
    let core = c.args.core.now in
    let before = g.K.Sink.written c.args.out.now in
    let after = g.K.Sink.written c.write_undefined.new.out in
    subst (λ e. OnErr c.write_undefined.result (AppendsPrefix before after (result_line symbols.definitions (state_ended symbols core e [])))) (sym c.in-Undefined.is)
    (c.write_undefined.ensures.err symbols.definitions)
