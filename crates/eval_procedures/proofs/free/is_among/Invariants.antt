use Rattle.std.proofs.Common.{◌≡◌, drop}
use Rattle.std.specs.Prelude.{bytes_eq}
use Rattle.std.specs.List.{list_any}
use Rattle.eval_procedures.specs.Shown.{names_in}
use Rattle.eval_procedures.proofs.free.is_among.Given as goal

abbrev pub invariant-loop-x : goal.invariant-loop-x
invariant-loop-x l = list_any (λ x. bytes_eq x l.name) (names_in (drop l.x-index l.xs)) ≡ list_any (λ x. bytes_eq x l.name) (names_in l.xs)
