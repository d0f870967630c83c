-- The room for nodes.
use Rattle.std.proofs.Common.{◌≡◌, ℕ, ◌+◌, ◌-◌, not, nat_eq, nat_lt, arith}
use Rattle.std.proofs.lemmas.Bool.Decides.{nat_tests}
use Rattle.hipe_base.specs.declared.limits.TheConstants.{NODE_LIMIT}
use Rattle.core_ast.proofs.Levels.{levels}

-- nothing is left if and only if there are more nodes than the limit
pub room_left : (n : ℕ) → not (nat_eq (NODE_LIMIT + 1 - n) 0) ≡ not (nat_lt NODE_LIMIT n)
room_left n = grind (arith, nat_tests)

pub ruleset room = (levels, room_left)
