use Rattle.std.proofs.Common.{◌≡◌, map, drop}
use Rattle.std.specs.Map.{lookup}
use Rattle.core_ast.specs.Names.{is_named}
use Rattle.eval_procedures.specs.Shown.{function_in}
use Rattle.eval_procedures.proofs.scope.Scope.known_of.Given as goal

abbrev pub invariant-loop-g : goal.invariant-loop-g
invariant-loop-g l = lookup (λ g. is_named l.f g) (map function_in (drop l.g-index l.self.functions.now)) ≡ lookup (λ g. is_named l.f g) (map function_in l.self.functions.now)
