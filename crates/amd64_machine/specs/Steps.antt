-- What steps of the code come to, and the lines that it writes.
use Rattle.std.specs.Prelude.{◌≡◌, ℕ, List, [], Option, None, unwrap_or}
use Rattle.hipe_terms.specs.declared.constant.Call.{Call}
use Rattle.hipe_edge.specs.Streams.{Stream}
use Rattle.region_memory.specs.Regions.{Regions}
use Rattle.heap_terms.specs.Shapes.{Symbols}
use Rattle.heap_terms.specs.Terms.{term_at}
use Rattle.machine_services.specs.Services.{Effect}
use Rattle.machine_services.specs.Served.{IsServed}
use Rattle.machine_services.specs.declared.services.Served.{Served}
use Rattle.amd64_form.specs.declared.reg.Reg.TheVariants.{R15}
use Rattle.image_link.specs.Image.{ProgramImage}
use Rattle.image_load.specs.Loading.{loaded}
use Rattle.amd64_machine.specs.declared.machine.End.TheVariants.{StepsSpent}
use Rattle.amd64_machine.specs.declared.state.Core.{Core}
use Rattle.amd64_machine.specs.declared.state.Ended.{Ended}
use Rattle.amd64_machine.specs.Loading.{start}
use Rattle.amd64_machine.specs.Machine.{called, word_in}
use Rattle.amd64_machine.specs.Outcome.{Seen, Stepped, Ran}
use Rattle.amd64_machine.specs.Result.{result_line}
use Rattle.amd64_machine.specs.Seen.{registers_seen, machine_seen, ends_seen, state_ended, state_seen, term_line}

-- the service that the registers call
abbrev pub service_of : Symbols → Core → Effect
service_of symbols core = called symbols (registers_seen core.registers) core.region

-- it was served so
abbrev pub WasServed : Symbols → Core → Served → Core → Type 0
WasServed symbols core s mid =
    IsServed symbols.definitions core.region.heap (word_in (registers_seen core.registers) R15) (service_of symbols core) s mid.region.heap

-- a step of a run that goes on, by which it ended so or not
abbrev pub StepsTo : Symbols → Core → Core → Option Ended → Stream → Type 0
StepsTo symbols old new ended out = Stepped (machine_seen symbols old None) (machine_seen symbols new ended) out (ends_seen ended)

-- at most n such steps
abbrev pub RunsTo : ℕ → Symbols → Core → Core → Option Ended → Stream → Type 0
RunsTo n symbols old new ended out = Ran n (machine_seen symbols old None) (machine_seen symbols new ended) out (unwrap_or (ends_seen ended) StepsSpent)

-- the machine is loaded with a program and a call, and wasn't stopped
abbrev pub IsLoaded : ProgramImage → Call → Regions → Seen → Type 0
IsLoaded image call region machine =
    (machine.symbols ≡ (loaded image call region).symbols) × (machine.state [] ≡ start image call region) × (machine.stopped ≡ None)

-- the line of the term for which a word stands behind a name
abbrev pub word_line : List ℕ → Symbols → List ℕ → ℕ → List ℕ
word_line name symbols heap word = term_line name symbols.definitions (term_at symbols heap word)

-- the line of the result with which a run is over
abbrev pub ended_line : Symbols → Core → Ended → List ℕ
ended_line symbols core ended = result_line symbols.definitions (state_ended symbols core ended [])

-- the same of a run that may go on
abbrev pub seen_line : Symbols → Core → Option Ended → List ℕ
seen_line symbols core ended = result_line symbols.definitions (state_seen symbols core ended [])
