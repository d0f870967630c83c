use Rattle.core_text.proofs.Fractions.{fraction_there, fraction_read, no_fraction, fraction_none}
use Rattle.core_text.proofs.laws.fractions_are_read.Goals as goal

pub returns : goal.returns
returns c = record { read = fraction_there; spelled = fraction_read; nothing_read = no_fraction; nothing_spelled = fraction_none }
