use Rattle.std.proofs.Common.{◌≡◌, length}
use Rattle.std.specs.Prelude.{All}
use Rattle.amd64_machine.specs.Seen.{IsCached}
use Rattle.amd64_machine.proofs.cache.new_cache.Given as goal

abbrev pub invariant-loop : goal.invariant-loop
invariant-loop l = (length l.cache.items ≡ l.counter) × All (IsCached l.code) l.cache.items
