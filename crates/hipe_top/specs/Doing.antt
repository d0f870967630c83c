-- What the parts of the program promise to one another.
use Rattle.std.specs.Prelude.{ℕ, List, codes, Result, Ok, Err}
use Rattle.hipe_terms.specs.declared.place.Place.{Place}
use Rattle.core_ast.specs.declared.tree.Module.{Module}
use Rattle.amd64_machine.specs.declared.result.ResultFault.{ResultFault}
use Rattle.amd64_machine.specs.declared.result.ResultFault.TheVariants as results
use Rattle.core_ast.specs.Trees.{module_of}
use Rattle.core_sum.specs.declared.sum.Sum.{Sum}
use Rattle.core_sum.specs.Sums.{value}
use Rattle.core_sum.specs.Form.{main, Exports, IsFirstUnbuilt}
use Rattle.hipe_stop.specs.declared.stop.Reason.{Reason}
use Rattle.hipe_stop.specs.declared.stop.Stop.{Stop}
use Rattle.sum_code.specs.Code.{image_for, EndsWith}
use Rattle.sum_run.specs.Run.{value_line}
use Rattle.hipe_edge.specs.Streams.{Stream, Faulted, Untouched, Gained, GainedPrefix}
use Rattle.hipe_top.specs.Texts.{BeginsAt}

-- the stop of a run that wrote no whole line
abbrev pub stop_of_result : ResultFault → Stop
stop_of_result results.WriteFault = Stop.WriteFault
stop_of_result results.Memory = Stop.Memory

-- what running a sum came to
pub data RanSum (name : List ℕ) (e : Sum) (out : Stream) : Result (Unit {0}) Stop → Type 0 where
  returned : EndsWith (image_for name e) (value e) → Gained out (value_line (value e)) → RanSum name e out (Ok tt)
  not_written : EndsWith (image_for name e) (value e) → Faulted out → GainedPrefix out (value_line (value e)) → RanSum name e out (Err Stop.WriteFault)
  no_memory : Untouched out → RanSum name e out (Err Stop.Memory)

-- what writing `ok` came to
pub data WroteOk (out : Stream) : Result (Unit {0}) Stop → Type 0 where
  wrote : Gained out (codes "ok\n") → WroteOk out (Ok tt)
  wrote_prefix : Faulted out → GainedPrefix out (codes "ok\n") → WroteOk out (Err Stop.WriteFault)

-- why a good module has no sum
pub data IsRunStop (bytes : List ℕ) (m : Module) : Stop → Type 0 where
  not_exported : (p : Place) → ¬ Exports (module_of m) main → BeginsAt bytes p → IsRunStop bytes m (Stop.Refused Reason.NotYet p)
  not_built : (p : Place) → Exports (module_of m) main → IsFirstUnbuilt (module_of m) p → IsRunStop bytes m (Stop.Refused Reason.NotYet p)
  memory_ran_out : IsRunStop bytes m Stop.Memory
