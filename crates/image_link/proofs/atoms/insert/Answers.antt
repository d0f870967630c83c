use Rattle.std.proofs.Common.{◌∙◌, ap, chars}
use Rattle.image_link.specs.Atoms.{atoms_of, interned}
use Rattle.image_link.proofs.Texts.{inserted_is, distinct_atoms}
use Rattle.image_link.proofs.atoms.insert.Goals as goal

pub returns-clause-ok : goal.returns-clause-ok
returns-clause-ok c =
    ap atoms_of c.in_ok-insert.ensures.keys
    ∙ inserted_is c.in_ok-text.text c.args.texts.now.keys
    ∙ ap (λ text. interned (chars text) (atoms_of c.args.texts.now.keys)) c.in_ok-text.ensures.ok

pub returns-clause-distinct : goal.returns-clause-distinct
returns-clause-distinct c = distinct_atoms c.insert.new.self.keys c.in_ok-insert.ensures.unique
