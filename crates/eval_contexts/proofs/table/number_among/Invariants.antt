use Rattle.std.proofs.Common.{◌≡◌, map, drop}
use Rattle.core_ast.specs.Trees.{definition_of, definitions}
use Rattle.core_meaning.specs.Meaning.{number_among}
use Rattle.core_meaning.specs.Scopes.{function_names}
use Rattle.eval_contexts.proofs.table.number_among.Given as goal

abbrev pub invariant-loop-i : goal.invariant-loop-i
invariant-loop-i l =
    number_among l.i (record { name = l.name; arity = l.arity }) (function_names (definitions (map definition_of (drop l.i l.defs))))
    ≡ number_among 0 (record { name = l.name; arity = l.arity }) (function_names (definitions (map definition_of l.defs)))
