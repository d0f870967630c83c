use Rattle.std.proofs.Common.{subst}
use Rattle.heap_terms.specs.Seen.{symbols_of}
use Rattle.amd64_machine.specs.Steps.{WasServed}
use Rattle.amd64_machine.proofs.Called.{stops_here, returns_here, raises_here, heap_is_full, stack_is_full, answers_here, displays_here, not_displayed_here, builds_here, no_memory_here}
use Rattle.amd64_machine.proofs.serving.serve_call.Goals as goal

pub returns-in-Err-clause-step : goal.returns-in-Err-clause-step
returns-in-Err-clause-step g c =
    no_memory_here (symbols_of c.args.symbols.now) c.args.core.now c.call_service.new.core c.args.next (g.K.Sink.written c.args.out.now) (g.K.Sink.faults c.args.out.now) c.requires c.in-Err.ensures.memory

pub returns-in-Ok-NoNext-clause-step : goal.returns-in-Ok-NoNext-clause-step
returns-in-Ok-NoNext-clause-step g c =
    let symbols = symbols_of c.args.symbols.now in
    let core = c.args.core.now in
    let mid = c.call_service.new.core in
    let s = subst (λ s. WasServed symbols core s mid) c.in-Ok-NoNext.field-0-is c.in-Ok-NoNext.ensures.served in
    (stops_here symbols core mid c.args.next (g.K.Sink.written c.args.out.now) (g.K.Sink.faults c.args.out.now) c.requires c.call_service.ensures.others s).0

pub returns-in-Ok-Returned-clause-step : goal.returns-in-Ok-Returned-clause-step
returns-in-Ok-Returned-clause-step g c =
    let symbols = symbols_of c.args.symbols.now in
    let core = c.args.core.now in
    let mid = c.call_service.new.core in
    let s = subst (λ s. WasServed symbols core s mid) c.in-Ok-Returned.field-0-is c.in-Ok-Returned.ensures.served in
    (returns_here symbols core mid c.args.next c.get-first.result (g.K.Sink.written c.args.out.now) (g.K.Sink.faults c.args.out.now) c.requires c.call_service.ensures.others s c.get-first.ensures).0

pub returns-in-Ok-Returned-clause-term : goal.returns-in-Ok-Returned-clause-term
returns-in-Ok-Returned-clause-term g c =
    let symbols = symbols_of c.args.symbols.now in
    let core = c.args.core.now in
    let mid = c.call_service.new.core in
    let s = subst (λ s. WasServed symbols core s mid) c.in-Ok-Returned.field-0-is c.in-Ok-Returned.ensures.served in
    (returns_here symbols core mid c.args.next c.get-first.result (g.K.Sink.written c.args.out.now) (g.K.Sink.faults c.args.out.now) c.requires c.call_service.ensures.others s c.get-first.ensures).1

pub returns-in-Ok-Raised-clause-step : goal.returns-in-Ok-Raised-clause-step
returns-in-Ok-Raised-clause-step g c =
    let symbols = symbols_of c.args.symbols.now in
    let core = c.args.core.now in
    let mid = c.call_service.new.core in
    let s = subst (λ s. WasServed symbols core s mid) c.in-Ok-Raised.field-0-is c.in-Ok-Raised.ensures.served in
    (raises_here symbols core mid c.args.next c.get-first.result c.in-Ok-Raised.class (g.K.Sink.written c.args.out.now) (g.K.Sink.faults c.args.out.now) c.requires c.call_service.ensures.others s c.get-first.ensures).0

pub returns-in-Ok-Raised-clause-term : goal.returns-in-Ok-Raised-clause-term
returns-in-Ok-Raised-clause-term g c =
    let symbols = symbols_of c.args.symbols.now in
    let core = c.args.core.now in
    let mid = c.call_service.new.core in
    let s = subst (λ s. WasServed symbols core s mid) c.in-Ok-Raised.field-0-is c.in-Ok-Raised.ensures.served in
    (raises_here symbols core mid c.args.next c.get-first.result c.in-Ok-Raised.class (g.K.Sink.written c.args.out.now) (g.K.Sink.faults c.args.out.now) c.requires c.call_service.ensures.others s c.get-first.ensures).1

pub returns-in-Ok-HeapFull-clause-step : goal.returns-in-Ok-HeapFull-clause-step
returns-in-Ok-HeapFull-clause-step g c =
    let symbols = symbols_of c.args.symbols.now in
    let core = c.args.core.now in
    let mid = c.call_service.new.core in
    let s = subst (λ s. WasServed symbols core s mid) c.in-Ok-HeapFull.field-0-is c.in-Ok-HeapFull.ensures.served in
    (heap_is_full symbols core mid c.args.next (g.K.Sink.written c.args.out.now) (g.K.Sink.faults c.args.out.now) c.requires c.call_service.ensures.others s).0

pub returns-in-Ok-StackFull-clause-step : goal.returns-in-Ok-StackFull-clause-step
returns-in-Ok-StackFull-clause-step g c =
    let symbols = symbols_of c.args.symbols.now in
    let core = c.args.core.now in
    let mid = c.call_service.new.core in
    let s = subst (λ s. WasServed symbols core s mid) c.in-Ok-StackFull.field-0-is c.in-Ok-StackFull.ensures.served in
    (stack_is_full symbols core mid c.args.next (g.K.Sink.written c.args.out.now) (g.K.Sink.faults c.args.out.now) c.requires c.call_service.ensures.others s).0

pub returns-in-Ok-Answered-clause-step : goal.returns-in-Ok-Answered-clause-step
returns-in-Ok-Answered-clause-step g c =
    let symbols = symbols_of c.args.symbols.now in
    let core = c.args.core.now in
    let mid = c.call_service.new.core in
    let s = subst (λ s. WasServed symbols core s mid) c.in-Ok-Answered.field-0-is c.in-Ok-Answered.ensures.served in
    answers_here symbols core mid c.go_on.new.core c.args.next c.in-Ok-Answered.word (g.K.Sink.written c.args.out.now) (g.K.Sink.faults c.args.out.now) c.requires c.call_service.ensures.others s c.go_on.ensures.state

pub returns-in-Ok-clause-step : goal.returns-in-Ok-clause-step
returns-in-Ok-clause-step g c =
    let symbols = symbols_of c.args.symbols.now in
    let core = c.args.core.now in
    let mid = c.call_service.new.core in
    let s = subst (λ s. WasServed symbols core s mid) c.in-Ok-Displayed.field-0-is c.in-Ok-Displayed.ensures.served in
    displays_here symbols core mid c.go_on-in-Ok.new.core c.args.next c.in-Ok-Displayed.line c.as_bytes.result.now
    (g.K.Sink.written c.args.out.now) (g.K.Sink.written c.write_line.new.sink) (g.K.Sink.faults c.args.out.now) (g.K.Sink.faults c.write_line.new.sink)
    c.requires c.call_service.ensures.others s c.as_bytes.ensures.value c.go_on-in-Ok.ensures.state c.in-Ok.ensures.ok

pub returns-in-Ok-Displayed-clause-step : goal.returns-in-Ok-Displayed-clause-step
returns-in-Ok-Displayed-clause-step g c =
    let symbols = symbols_of c.args.symbols.now in
    let core = c.args.core.now in
    let mid = c.call_service.new.core in
    let s = subst (λ s. WasServed symbols core s mid) c.in-Ok-Displayed.field-0-is c.in-Ok-Displayed.ensures.served in
    not_displayed_here symbols core mid c.args.next c.in-Ok-Displayed.line c.as_bytes.result.now
    (g.K.Sink.written c.args.out.now) (g.K.Sink.written c.write_line.new.sink) (g.K.Sink.faults c.args.out.now) (g.K.Sink.faults c.write_line.new.sink)
    c.requires c.call_service.ensures.others s c.as_bytes.ensures.value c.in-Err-write_line.ensures.err c.in-Err-write_line.ensures.write_fault

pub returns-clause-step : goal.returns-clause-step
returns-clause-step g c =
    let symbols = symbols_of c.args.symbols.now in
    let core = c.args.core.now in
    let mid = c.call_service.new.core in
    let s = subst (λ s. WasServed symbols core s mid) c.in-Ok-Built.field-0-is c.in-Ok-Built.ensures.served in
    builds_here symbols core mid c.go_on_behind.new.core c.args.next c.in-Ok-Built.result c.in-Ok-Built.words (g.K.Sink.written c.args.out.now) (g.K.Sink.faults c.args.out.now) c.requires c.call_service.ensures.others s c.go_on_behind.ensures.state
