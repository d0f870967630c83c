use Rattle.std.proofs.Common.{◌≡◌, ◌++◌, map, drop}
use Rattle.std.specs.Prelude.{not, bytes_eq}
use Rattle.std.specs.List.{filter, list_any}
use Rattle.eval_procedures.specs.Shown.{names_in, slot_in}
use Rattle.eval_procedures.proofs.free.without.Given as goal

abbrev pub invariant-loop-v : goal.invariant-loop-v
invariant-loop-v l =
    map slot_in l.kept.items ++ filter (λ v. not (list_any (λ x. bytes_eq x v.0) (names_in l.xs))) (map slot_in (drop l.v-index l.variables))
    ≡ filter (λ v. not (list_any (λ x. bytes_eq x v.0) (names_in l.xs))) (map slot_in l.variables)
