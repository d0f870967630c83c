-- Why a text has no good module.
use Rattle.std.specs.Prelude.{ℕ, List}
use Rattle.hipe_terms.specs.declared.place.Place.{Place}
use Rattle.core_ast.specs.declared.tree.Module.{Module}
use Rattle.core_ast.specs.declared.rule.Rule.{Rule}
use Rattle.core_ast.specs.Trees.{module_of}
use Rattle.core_ast.specs.Good.{IsFirstBroken}
use Rattle.core_reader.specs.declared.refusal.ReadRefusal.{ReadRefusal}
use Rattle.core_reader.specs.Language.{Reads, ReadsNone, IsRefusedAs}
use Rattle.hipe_stop.specs.declared.stop.Reason.{Reason}
use Rattle.hipe_stop.specs.declared.stop.Stop.{Stop}
use Rattle.hipe_stop.specs.Stops.{stop_of_reading}

-- why a text has no good module
pub data IsStop (bytes : List ℕ) : Stop → Type 0 where
  not_read : (why : ReadRefusal) → ReadsNone bytes → IsRefusedAs bytes why → IsStop bytes (stop_of_reading why)
  not_good : (m : Module) (rule : Rule) (p : Place) → Reads bytes m → IsFirstBroken (module_of m) rule p → IsStop bytes (Stop.Refused (Reason.Broken rule) p)
  out_of_memory : IsStop bytes Stop.Memory
