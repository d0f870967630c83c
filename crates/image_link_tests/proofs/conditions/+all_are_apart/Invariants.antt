use Rattle.std.proofs.Common.{length}
use Rattle.image_link_tests.proofs.conditions.+all_are_apart.Given as goal

abbrev pub decreases-all_are_apart : goal.decreases-all_are_apart
decreases-all_are_apart l = length l.calls.now
