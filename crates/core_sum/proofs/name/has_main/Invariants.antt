use Rattle.std.proofs.Common.{◌≡◌, drop}
use Rattle.core_sum.specs.Made.{has_main}
use Rattle.core_sum.proofs.name.has_main.Given as goal

abbrev pub invariant-loop-name : goal.invariant-loop-name
invariant-loop-name l = has_main (drop l.name-index l.names) ≡ has_main l.names
