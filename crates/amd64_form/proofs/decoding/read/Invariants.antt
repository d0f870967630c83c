use Rattle.std.proofs.Common.{◌≡◌, drop}
use Rattle.amd64_form.specs.Form.{reading}
use Rattle.amd64_form.proofs.decoding.read.Given as goal

-- what is left of the forms gives what all of them give
abbrev pub invariant-loop-form : goal.invariant-loop-form
invariant-loop-form l = reading (drop l.form-index l.forms) l.bytes ≡ reading l.forms l.bytes
