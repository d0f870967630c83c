use Rattle.core_text.proofs.Quoting.{quoted_has, quoted_read, values_read}
use Rattle.core_text.proofs.laws.quotes_are_read.Goals as goal

pub returns : goal.returns
returns c = record { read = quoted_has; spelled = quoted_read; values = values_read }
