use Rattle.image_link.proofs.Format.{short_texts}
use Rattle.image_link.proofs.atoms.AtomTable.texts.Goals as goal

pub returns-clause-short : goal.returns-clause-short
returns-clause-short c = rw c.as_slice.ensures.keys (short_texts c.self.inside.texts.keys c.self.invariant.lengths)
