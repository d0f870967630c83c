use Rattle.std.proofs.Common.{◌≡◌, [], length, ◌+◌, ◌*◌, ◌-◌, ap, sym, ◌∙◌, arith}
use Rattle.region_memory.specs.declared.layout.TheConstants.{STACK_BEGIN}
use Rattle.image_load.specs.Seen.{beginning_seen}
use Rattle.amd64_machine.specs.Arithmetic.{no_flags}
use Rattle.amd64_machine.specs.Loading.{begun, first_registers}
use Rattle.amd64_machine.specs.Machine.{On}
use Rattle.amd64_machine.proofs.state.begun.Goals as goal

pub returns-in-Ready-clause-state : goal.returns-in-Ready-clause-state
returns-in-Ready-clause-state c symbols =
    let top : c.stack_end-top.result - 8 ≡ STACK_BEGIN + 8 * (length c.args.region.stack - 1) =
    omega (arith, c.stack_end-top.ensures, c.limits.ensures.stack_least) in
    ap (λ registers. On c.in-Ready.at registers no_flags c.args.region [])
    (c.first_registers-registers.ensures ∙ ap (first_registers c.in-Ready.arguments c.in-Ready.free) top)
    ∙ ap (λ start. begun c.args.region (beginning_seen start)) (sym c.in-Ready.is)
