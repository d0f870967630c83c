use Rattle.amd64_form.proofs.Laws.{one_prefix}
use Rattle.amd64_form.proofs.decoding.one_spelling.Goals as goal

pub returns : goal.returns
returns c = one_prefix
