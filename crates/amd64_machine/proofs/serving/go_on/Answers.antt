use Rattle.std.proofs.Common.{◌∙◌, ap}
use Rattle.amd64_form.specs.declared.reg.Reg.TheVariants.{Rax, Rcx}
use Rattle.amd64_machine.specs.Arithmetic.{no_flags}
use Rattle.amd64_machine.specs.Machine.{On, put}
use Rattle.amd64_machine.proofs.serving.go_on.Goals as goal

pub returns-clause-state : goal.returns-clause-state
returns-clause-state c ts =
    ap (λ registers. On c.args.next registers no_flags c.args.core.now.region ts)
    (c.put-3.ensures ∙ ap (put Rax c.args.result_word) (c.put-2.ensures ∙ ap (put Rcx 0) c.put.ensures))
