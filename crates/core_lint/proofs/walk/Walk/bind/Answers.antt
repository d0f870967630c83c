use Rattle.std.proofs.Common.{[], ap, sym, rules}
use Rattle.core_lint.proofs.Wanted.{single, none_wanted}
use Rattle.core_lint.proofs.walk.Walk.bind.Goals as goal
use Rattle.core_lint.proofs.walk.Walk.bind.Goals.{then-list-lt2-via-then-list-lt2, then-list-lt2-via-else-list-lt2+then-not-is_some_wanted}

pub returns-then-list-lt2 : goal.returns-then-list-lt2
returns-then-list-lt2 c = elim c.then-list-lt2.branch [
  | then-list-lt2-via-then-list-lt2 w ↦ sym (ap (λ f. record c.args.self.now { first = f }) (single c.args.rule c.args.list.now c.args.self.now.first (search rules)))
  | then-list-lt2-via-else-list-lt2+then-not-is_some_wanted w ↦ sym (ap (λ f. record c.args.self.now { first = f }) (none_wanted c.args.rule [] c.args.list.now c.args.self.now.first (search rules)))
]
