use Rattle.std.proofs.Common.{sym, ◌∙◌, rules}
use Rattle.core_lint.proofs.Wanted.{wanted_here}
use Rattle.core_lint.proofs.walk.is_some_wanted.Goals as goal

pub returns-then-is_wanted : goal.returns-then-is_wanted
returns-then-is_wanted c =
    sym (wanted_here c.args.rule c.args.list.now c.args.first c.loop-bound.bound-index _ (search rules) c.is_wanted.ensures (sym c.if-is_wanted.true)) ∙ c.loop-bound.invariant
