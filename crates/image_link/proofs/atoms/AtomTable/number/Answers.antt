use Rattle.std.proofs.Common.{◌∙◌, ap, sym}
use Rattle.image_link.specs.Atoms.{number_of}
use Rattle.image_link.proofs.Texts.{number_is}
use Rattle.image_link.proofs.atoms.AtomTable.number.Goals as goal

pub returns : goal.returns
returns c =
    sym c.in_ok-at.was ∙ c.get_index_of.ensures.index
    ∙ number_is c.args.atom.now c.as_str.result.now c.as_str.utf8 c.as_str.ensures c.self.inside.texts.keys
    ∙ ap (number_of c.args.atom.now) c.self.view_is

pub returns-in_err-at : goal.returns-in_err-at
returns-in_err-at c =
    c.from_residual.ensures ∙ sym c.in_err-at.was ∙ c.get_index_of.ensures.index
    ∙ number_is c.args.atom.now c.as_str.result.now c.as_str.utf8 c.as_str.ensures c.self.inside.texts.keys
    ∙ ap (number_of c.args.atom.now) c.self.view_is
