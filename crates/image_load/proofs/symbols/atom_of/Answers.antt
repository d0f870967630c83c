use Rattle.std.proofs.Common.{◌∙◌, ap, length, arith}
use Rattle.std.specs.Prelude.{chars, encode_utf8_all}
use Rattle.std.proofs.lemmas.Str.{chars_from_encodes, encodes-chars}
use Rattle.image_load.proofs.symbols.atom_of.Goals as goal

pub unreachable-requires : goal.unreachable-requires
unreachable-requires c =
    omega (arith, (c.in-Err.ensures).1, c.requires.2, ap length (chars_from_encodes c.requires.0 c.args.text.now c.utf8.text c.requires.1), ap (λ t. length (chars t)) (c.in_ok-from_str.ensures).ok)

pub returns : goal.returns
returns c =
    ap encode_utf8_all (c.in-Ok.ensures ∙ ap chars (c.in_ok-from_str.ensures).ok) ∙ encodes-chars c.args.text.now c.utf8.text
