use Rattle.std.proofs.Common.{◌∙◌, ap, slice_get, option_map}
use Rattle.std.specs.Prelude.{encode_utf8_all, Some}
use Rattle.image_link.proofs.Texts.{text_at}
use Rattle.image_link.proofs.atoms.AtomTable.text.Goals as goal

pub returns : goal.returns
returns c =
    ap (λ text. Some text) c.as_str.ensures.value
    ∙ text_at c.in_ok-text.text.now c.self.inside.texts.keys c.args.number c.in_ok-text.ensures.key
    ∙ ap (λ atoms. option_map encode_utf8_all (slice_get atoms c.args.number)) c.self.view_is
