use Rattle.std.proofs.Common.{◌∙◌, ◌++◌, ap, sym}
use Rattle.std.specs.Prelude.{flat_map}
use Rattle.image_link.specs.Format.{atom_bytes}
use Rattle.image_link.proofs.Format.{all_put, atoms_are, text_bytes}
use Rattle.image_link.proofs.bytes.put_atoms.Goals as goal

pub returns : goal.returns
returns c =
    all_put text_bytes c.loop-text.bytes.items c.args.bytes.now.items c.texts-text-items.result.now c.loop-text.text-index
    c.loop-text.invariant c.loop-text-test.false
    ∙ ap (λ table. c.args.bytes.now.items ++ table)
    (sym (atoms_are c.texts-text-items.result.now) ∙ ap (flat_map atom_bytes) c.texts-text-items.ensures.atoms)
