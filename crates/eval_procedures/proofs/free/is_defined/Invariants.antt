use Rattle.std.proofs.Common.{◌≡◌, map, drop}
use Rattle.std.specs.List.{list_any}
use Rattle.core_ast.specs.Trees.{definition_of, definitions}
use Rattle.core_ast.specs.Names.{is_named}
use Rattle.core_meaning.specs.Scopes.{function_names}
use Rattle.eval_procedures.proofs.free.is_defined.Given as goal

abbrev pub invariant-loop-def : goal.invariant-loop-def
invariant-loop-def l = list_any (λ f. is_named f l.name) (function_names (definitions (map definition_of (drop l.def-index l.defs)))) ≡ list_any (λ f. is_named f l.name) (function_names (definitions (map definition_of l.defs)))
