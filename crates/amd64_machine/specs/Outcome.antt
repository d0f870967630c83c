-- What steps of a machine come to: the state behind them, what was written, and the answer.
use Rattle.std.specs.Prelude.{◌≡◌, ◌⊎◌, ℕ, ◌<◌, List, [], ◌++◌, take, Option, Some, None, IsSome}
use Rattle.hipe_terms.specs.Terms.{Term}
use Rattle.hipe_edge.specs.Streams.{Stream, Faulted, Untouched, Gained, GainedPrefix}
use Rattle.heap_terms.specs.Shapes.{Symbols}
use Rattle.amd64_machine.specs.declared.machine.End.{End}
use Rattle.amd64_machine.specs.declared.machine.End.TheVariants as ends
use Rattle.amd64_machine.specs.Machine.{State, CallsService, machine_step, machine_run}
use Rattle.amd64_machine.specs.Result.{end_of, answer_of, displayed_by, lines}

-- A machine as contracts see it: its symbols, its state for what was displayed before, and whether it was stopped by a write that failed
-- or out of memory.
pub record Seen : Type 0 where
  pub symbols : Symbols
  pub state : List Term → State
  pub stopped : Option End

-- the machine wasn't stopped, and its next instruction calls a service
pub record CallsNext (machine : Seen) : Type 0 where
  pub stopped : machine.stopped ≡ None
  pub service : CallsService (machine.state [])

-- the machine was stopped, or its run is over
abbrev pub HasEnded : Seen → Type 0
HasEnded machine = IsSome machine.stopped ⊎ IsSome (end_of (machine.state []))

-- what one step comes to; only a service writes or takes memory, and where that fails, the state is the one before the step
pub data Stepped (old new : Seen) (out : Stream) : Option End → Type 0 where
  was_stopped : (end : End) → old.stopped ≡ Some end → new ≡ old → Untouched out → Stepped old new out (Some end)
  done : (ts : List Term) → old.stopped ≡ None → new.stopped ≡ None → machine_step old.symbols (old.state []) ≡ new.state ts
      → Gained out (lines old.symbols.definitions ts) → Stepped old new out (end_of (new.state ts))
  not_written : CallsNext old → new.stopped ≡ Some ends.WriteFault → ((ts : List Term) → new.state ts ≡ old.state ts) → Faulted out
      → GainedPrefix out (lines old.symbols.definitions (displayed_by (machine_step old.symbols (old.state []))))
      → Stepped old new out (Some ends.WriteFault)
  no_memory : CallsNext old → new.stopped ≡ Some ends.Memory → ((ts : List Term) → new.state ts ≡ old.state ts) → Untouched out
      → Stepped old new out (Some ends.Memory)

-- the machine wasn't stopped, and after m steps, which are fewer than n, its next instruction calls a service
pub record CallsAfter (m n : ℕ) (machine : Seen) : Type 0 where
  pub fewer : m < n
  pub stopped : machine.stopped ≡ None
  pub service : CallsService (machine_run machine.symbols m (machine.state []))

-- all of this was written, and behind it a prefix of that
abbrev pub GainedThenPrefix : Stream → List ℕ → List ℕ → Type 0
GainedThenPrefix out whole begun = (k : ℕ) × Gained out (whole ++ take k begun)

-- what at most n steps come to; where a service couldn't write or take memory, the state is the one after m steps, whose lines were written
pub data Ran (n : ℕ) (old new : Seen) (out : Stream) : End → Type 0 where
  was_stopped : (end : End) → old.stopped ≡ Some end → new ≡ old → Untouched out → Ran n old new out end
  done : (ts : List Term) → old.stopped ≡ None → new.stopped ≡ None → machine_run old.symbols n (old.state []) ≡ new.state ts
      → Gained out (lines old.symbols.definitions ts) → Ran n old new out (answer_of (new.state ts))
  not_written : (m : ℕ) (ts : List Term) → CallsAfter m n old → new.stopped ≡ Some ends.WriteFault
      → machine_run old.symbols m (old.state []) ≡ new.state ts → Faulted out
      → GainedThenPrefix out (lines old.symbols.definitions ts) (lines old.symbols.definitions (displayed_by (machine_step old.symbols (new.state []))))
      → Ran n old new out ends.WriteFault
  no_memory : (m : ℕ) (ts : List Term) → CallsAfter m n old → new.stopped ≡ Some ends.Memory
      → machine_run old.symbols m (old.state []) ≡ new.state ts → Gained out (lines old.symbols.definitions ts)
      → Ran n old new out ends.Memory
