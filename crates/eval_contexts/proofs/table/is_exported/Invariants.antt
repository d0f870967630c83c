use Rattle.std.proofs.Common.{◌≡◌, map, drop}
use Rattle.std.specs.List.{list_any}
use Rattle.core_ast.specs.Names.{is_named}
use Rattle.eval_contexts.proofs.table.is_exported.Given as goal

abbrev pub invariant-loop-e : goal.invariant-loop-e
invariant-loop-e l = list_any (λ g. is_named (record { name = l.name; arity = l.arity }) g) (map (λ e. e.0) (drop l.e-index l.exports)) ≡ list_any (λ g. is_named (record { name = l.name; arity = l.arity }) g) (map (λ e. e.0) l.exports)
