use Rattle.std.proofs.Common.{◌≡◌, ◌++◌, map, drop}
use Rattle.std.specs.Prelude.{not}
use Rattle.std.specs.List.{filter, list_any}
use Rattle.core_ast.specs.Trees.{definition_of, definitions}
use Rattle.core_ast.specs.Names.{is_named}
use Rattle.core_meaning.specs.Scopes.{function_names}
use Rattle.eval_procedures.specs.Shown.{function_in}
use Rattle.eval_procedures.proofs.free.without_functions.Given as goal

abbrev pub invariant-loop-f : goal.invariant-loop-f
invariant-loop-f l =
    map function_in l.kept.items ++ filter (λ g. not (list_any (λ f. is_named f g.0) (function_names (definitions (map definition_of l.defs))))) (map function_in (drop l.f-index l.functions))
    ≡ filter (λ g. not (list_any (λ f. is_named f g.0) (function_names (definitions (map definition_of l.defs))))) (map function_in l.functions)
