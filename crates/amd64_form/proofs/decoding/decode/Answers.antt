use Rattle.std.proofs.Common.{ap, ◌∙◌}
use Rattle.amd64_form.specs.declared.form.TheConstants.{FORMS}
use Rattle.amd64_form.specs.Form.{reading}
use Rattle.amd64_form.proofs.Laws.{is_found, is_short, is_unknown, standing_is_read, if_ok}
use Rattle.amd64_form.proofs.decoding.decode.Goals as goal

pub returns-clause-found : goal.returns-clause-found
returns-clause-found c = if_ok c.read.result (is_found c.args.bytes.now c.read.result c.read.ensures) (λ x s. s.bytes)

pub returns-clause-length : goal.returns-clause-length
returns-clause-length c = if_ok c.read.result (is_found c.args.bytes.now c.read.result c.read.ensures) (λ x s. s.all)

pub returns-clause-ranges : goal.returns-clause-ranges
returns-clause-ranges c = if_ok c.read.result (is_found c.args.bytes.now c.read.result c.read.ensures) (λ x s. s.ranges)

pub returns-clause-only : goal.returns-clause-only
returns-clause-only c = λ i rest h e. c.read.ensures ∙ ap (reading FORMS) e ∙ standing_is_read i rest h

pub returns-clause-short : goal.returns-clause-short
returns-clause-short c = is_short c.args.bytes.now c.read.result c.read.ensures

pub returns-clause-unknown : goal.returns-clause-unknown
returns-clause-unknown c = is_unknown c.args.bytes.now c.read.result c.read.ensures
