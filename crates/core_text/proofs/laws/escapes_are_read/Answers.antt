use Rattle.core_text.proofs.Escaping.{escape_there, escape_read}
use Rattle.core_text.proofs.laws.escapes_are_read.Goals as goal

pub returns : goal.returns
returns c = record { read = escape_there; spelled = escape_read }
