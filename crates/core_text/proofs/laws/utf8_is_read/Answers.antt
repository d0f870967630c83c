use Rattle.core_text.proofs.IllFormed.{well_formed, ill_formed_at, utf8_read, ill_formed_read}
use Rattle.core_text.proofs.laws.utf8_is_read.Goals as goal

pub returns : goal.returns
returns c = record { read = well_formed; spelled = utf8_read; first_read = ill_formed_at; first_spelled = ill_formed_read }
