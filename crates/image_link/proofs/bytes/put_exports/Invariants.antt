use Rattle.std.proofs.Common.{◌≡◌, ◌++◌, drop}
use Rattle.std.specs.Prelude.{flat_map}
use Rattle.image_link.specs.Format.{four}
use Rattle.image_link.proofs.bytes.put_exports.Given as goal

abbrev pub invariant-loop-export : goal.invariant-loop-export
invariant-loop-export l =
    l.bytes.items ++ flat_map (four) (drop l.export-index l.exports) ≡ l.initial.bytes.items ++ flat_map (four) l.exports
