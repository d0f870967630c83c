use Rattle.core_token.proofs.Valued.{integer_there, character_there, atom_there, text_there}
use Rattle.core_token.proofs.laws.values_are_read.Goals as goal

pub returns : goal.returns
returns c = record { integers = integer_there; characters = character_there; atoms = atom_there; texts = text_there }
