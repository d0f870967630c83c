-- From what the reader and the linter answer to why a text has no good module.
use Rattle.std.proofs.Common.{ℕ, List, Err}
use Rattle.core_ast.specs.declared.tree.Module.{Module}
use Rattle.core_ast.specs.Trees.{module_of}
use Rattle.core_lint.specs.declared.refusal.LintRefusal.{LintRefusal}
use Rattle.core_lint.specs.Refusals.{IsRefusal}
use Rattle.core_reader.specs.declared.refusal.ReadRefusal.{ReadRefusal}
use Rattle.core_reader.specs.Language.{Reads, Answers, Only}
use Rattle.hipe_stop.specs.Refusing.{IsStop, not_read, not_good, out_of_memory}
use Rattle.hipe_stop.specs.Stops.{stop_of_reading, stop_of_lint}

pub stop_of_reader : (bytes : List ℕ) (why : ReadRefusal) → Answers bytes (Err why) → Only bytes (Err why) → IsStop bytes (stop_of_reading why)
stop_of_reader bytes (ReadRefusal.Token p) is none = not_read (ReadRefusal.Token p) none is
stop_of_reader bytes (ReadRefusal.WideInteger p) is none = not_read (ReadRefusal.WideInteger p) none is
stop_of_reader bytes (ReadRefusal.LongAtom p) is none = not_read (ReadRefusal.LongAtom p) none is
stop_of_reader bytes (ReadRefusal.Syntax p) is none = not_read (ReadRefusal.Syntax p) none is
stop_of_reader bytes (ReadRefusal.TooDeep p) is none = not_read (ReadRefusal.TooDeep p) none is
stop_of_reader bytes (ReadRefusal.NotInProfile p) is none = not_read (ReadRefusal.NotInProfile p) none is
stop_of_reader bytes ReadRefusal.Memory is none = out_of_memory

pub stop_of_linter : (bytes : List ℕ) (m : Module) (why : LintRefusal) → Reads bytes m → IsRefusal (module_of m) why → IsStop bytes (stop_of_lint why)
stop_of_linter bytes m (LintRefusal.Broken rule p) reads first = not_good m rule p reads first
stop_of_linter bytes m LintRefusal.Memory reads first = out_of_memory
