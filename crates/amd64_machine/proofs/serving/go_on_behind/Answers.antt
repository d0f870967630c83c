use Rattle.std.proofs.Common.{◌≡◌, ◌+◌, ◌*◌, ◌∙◌, ap, arith}
use Rattle.amd64_form.specs.declared.reg.Reg.TheVariants.{R15}
use Rattle.amd64_machine.specs.Arithmetic.{no_flags, wrap}
use Rattle.amd64_machine.specs.Machine.{On, put, answered, word_in}
use Rattle.amd64_machine.specs.Seen.{registers_seen}
use Rattle.amd64_machine.proofs.serving.go_on_behind.Goals as goal

pub returns-clause-state : goal.returns-clause-state
returns-clause-state c ts =
    let registers = registers_seen c.args.core.now.registers in
    let free = wrap (word_in registers R15 + 8 * c.args.words) in
    let sum : wrap (c.get.result + wrap (c.args.words * 8)) ≡ free = omega (arith, c.get.ensures) in
    c.go_on.ensures.state ts
    ∙ ap (λ r. On c.args.next (answered c.args.result_word r) no_flags c.args.core.now.region ts) (c.put.ensures ∙ ap (λ w. put R15 w registers) sum)
