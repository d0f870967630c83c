use Rattle.std.proofs.Common.{◌∙◌, sym, arith}
use Rattle.amd64_form.proofs.Fit.{breaks_off}
use Rattle.amd64_form.proofs.form.Form.fit.Goals as goal

pub returns-then-i-bytes : goal.returns-then-i-bytes
returns-then-i-bytes c =
    sym (breaks_off c.parts-part-items.result.now c.args.bytes.now c.loop-i.i (omega arith) (omega arith)) ∙ c.loop-i.invariant.rest
