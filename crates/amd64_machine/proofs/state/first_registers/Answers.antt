use Rattle.std.proofs.Common.{ℕ, ◌∙◌, ap, get_or}
use Rattle.amd64_form.specs.declared.reg.Reg.TheVariants.{Rsp, Rdi, Rsi, R8, R9, R15}
use Rattle.amd64_machine.specs.Machine.{put}
use Rattle.amd64_machine.proofs.Start.{zero_registers}
use Rattle.amd64_machine.proofs.state.first_registers.Goals as goal

pub returns : goal.returns
returns c =
    let word = λ (i : ℕ). get_or c.args.arguments i 0 in
    c.put-6.ensures ∙ ap (put Rdi (word 0)) (c.put-5.ensures ∙ ap (put Rsi (word 1)) (c.put-4.ensures ∙ ap (put R8 (word 2))
    (c.put-3.ensures ∙ ap (put R9 (word 3)) (c.put-2.ensures ∙ ap (put R15 c.args.free) (c.put.ensures ∙ ap (put Rsp c.args.top) zero_registers)))))
