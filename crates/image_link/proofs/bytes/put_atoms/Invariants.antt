use Rattle.std.proofs.Common.{◌≡◌, ◌++◌, drop}
use Rattle.std.specs.Prelude.{flat_map}
use Rattle.image_link.proofs.Format.{text_bytes}
use Rattle.image_link.proofs.bytes.put_atoms.Given as goal

abbrev pub invariant-loop-text : goal.invariant-loop-text
invariant-loop-text l =
    l.bytes.items ++ flat_map text_bytes (drop l.text-index l.text-items) ≡ l.initial.bytes.items ++ flat_map text_bytes l.text-items
