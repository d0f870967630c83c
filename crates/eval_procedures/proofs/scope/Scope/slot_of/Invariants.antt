use Rattle.std.proofs.Common.{◌≡◌, map, drop}
use Rattle.std.specs.Prelude.{bytes_eq}
use Rattle.std.specs.Map.{lookup}
use Rattle.eval_procedures.specs.Shown.{slot_in}
use Rattle.eval_procedures.proofs.scope.Scope.slot_of.Given as goal

abbrev pub invariant-loop-v : goal.invariant-loop-v
invariant-loop-v l = lookup (λ y. bytes_eq l.x y) (map slot_in (drop l.v-index l.self.variables.now)) ≡ lookup (λ y. bytes_eq l.x y) (map slot_in l.self.variables.now)
