-- The programs that those of the code stand for.
use Rattle.std.specs.Prelude.{map}
use Rattle.core_ast.specs.Trees.{definition_of, definitions}
use Rattle.core_meaning.specs.Scopes.{function_names}
use Rattle.core_meaning.specs.Procedures as Meant
use Rattle.eval_procedures.specs.Shown.{procedures_in}
use Rattle.eval_contexts.specs.declared.program.Program.{Program}

-- what is known of a module
abbrev pub program_in : Program → Meant.Program
program_in p = record { name = p.name.now; exports = map (λ e. e.0) p.exports.now; own = function_names (definitions (map definition_of p.defs.now)); procedures = procedures_in p.procedures.now }
