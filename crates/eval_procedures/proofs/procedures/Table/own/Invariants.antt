use Rattle.std.proofs.Common.{◌≡◌, ◌++◌, map, drop}
use Rattle.core_ast.specs.Trees.{definition_of, definitions}
use Rattle.core_meaning.specs.Procedures.{own_procedures}
use Rattle.eval_procedures.specs.Shown.{scope_in, procedures_in}
use Rattle.eval_procedures.proofs.procedures.Table.own.Given as goal

abbrev pub invariant-loop-def : goal.invariant-loop-def
invariant-loop-def l =
    procedures_in l.self.found.items ++ own_procedures (scope_in l.scope) l.first (definitions (map definition_of (drop l.def-index l.defs)))
    ≡ procedures_in l.fn.self.found.items ++ own_procedures (scope_in l.scope) l.n (definitions (map definition_of l.defs))
