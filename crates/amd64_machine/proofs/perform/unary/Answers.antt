use Rattle.std.proofs.Common.{◌∙◌, ap, sym}
use Rattle.amd64_form.specs.declared.reg.Reg.TheVariants.{Rax, Rdx}
use Rattle.amd64_machine.specs.Arithmetic.{signed, double, divided}
use Rattle.amd64_machine.specs.Machine.{unary, quotient_put, word_in}
use Rattle.amd64_machine.specs.Seen.{registers_seen}
use Rattle.amd64_machine.proofs.perform.unary.Goals as goal

pub returns-in-Idiv-clause-step : goal.returns-in-Idiv-clause-step
returns-in-Idiv-clause-step c =
    let core = c.args.core.now in
    let registers = registers_seen core.registers in
    c.divide.ensures.step ∙ ap (λ w. quotient_put c.args.next registers core.region (divided (double (word_in registers Rdx) (word_in registers Rax)) (signed w))) c.get-word.ensures
    ∙ ap (λ o. unary c.args.next o c.args.of registers core.flags core.region) (sym c.in-Idiv.is)
