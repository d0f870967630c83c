use Rattle.std.proofs.Common.{◌≡◌, ◌++◌, map, drop, length}
use Rattle.eval_contexts.proofs.table.parameters_of.Given as goal

abbrev pub invariant-loop-f : goal.invariant-loop-f
invariant-loop-f l = l.found.items ++ map (λ f. length f.parameters.now) (drop l.f-index l.procedures) ≡ map (λ f. length f.parameters.now) l.procedures
