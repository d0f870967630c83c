use Rattle.std.proofs.Common.{◌≡◌, drop}
use Rattle.core_lint.specs.Walks.{visited_exports}
use Rattle.core_lint.proofs.scoping.exports.Given as goal

abbrev pub invariant-loop-export : goal.invariant-loop-export
invariant-loop-export l = visited_exports (drop l.export-index l.list) l.walk ≡ visited_exports l.list l.initial.walk
