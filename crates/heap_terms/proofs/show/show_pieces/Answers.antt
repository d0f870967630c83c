use Rattle.heap_terms.proofs.Pieces.{whole_text, not_a_term, pieces}
use Rattle.std.proofs.Common.{arith}
use Rattle.heap_terms.proofs.show.show_pieces.Goals as goal

pub returns-then-not-branch : goal.returns-then-not-branch
returns-then-not-branch c = not_a_term _ _ _ _ (grind (arith, pieces))

pub returns : goal.returns
returns c = whole_text _ _ _ _ (grind (arith, pieces))
