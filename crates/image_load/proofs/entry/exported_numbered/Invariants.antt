use Rattle.std.proofs.Common.{◌≡◌, drop}
use Rattle.image_load.specs.Entry.{exported_numbered}
use Rattle.image_load.proofs.entry.exported_numbered.Given as goal

abbrev pub invariant-loop-export : goal.invariant-loop-export
invariant-loop-export l =
    exported_numbered l.functions l.number l.arity (drop l.export-index l.exports) ≡ exported_numbered l.functions l.number l.arity l.exports
