use Rattle.std.proofs.Common.{◌≡◌, drop}
use Rattle.core_lint.specs.Tallies.{tallied_exports}
use Rattle.core_lint.proofs.counting.exports.Given as goal

abbrev pub invariant-loop-export : goal.invariant-loop-export
invariant-loop-export l = tallied_exports (drop l.export-index l.list) l.tally ≡ tallied_exports l.list l.initial.tally
