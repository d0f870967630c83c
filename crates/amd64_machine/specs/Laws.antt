-- What holds of runs, and of calls that follow one another.
use Rattle.std.specs.Prelude.{◌≡◌, ℕ, ◌+◌, List, [], ◌++◌}
use Rattle.hipe_terms.specs.Terms.{Term}
use Rattle.heap_terms.specs.Shapes.{Symbols}
use Rattle.amd64_machine.specs.Machine.{State, Over, Ending, machine_run}
use Rattle.amd64_machine.specs.Result.{after, displayed_by}
use Rattle.amd64_machine.specs.Outcome.{Seen}

pub record RunsGoOn (symbols : Symbols) : Type 0 where
  -- a run that is over stays over
  pub over : (n : ℕ) (ending : Ending) (ts : List Term) → machine_run symbols n (Over ending ts) ≡ Over ending ts
  -- the steps of a run are those of a first part and then those of the rest
  pub parts : (m n : ℕ) (s : State) → machine_run symbols (m + n) s ≡ machine_run symbols n (machine_run symbols m s)
  -- what was displayed stays, and what is displayed goes behind it
  pub displayed : (n : ℕ) (s : State) → (ts : List Term) × (displayed_by (machine_run symbols n s) ≡ displayed_by s ++ ts)
  -- a run goes as if nothing had been displayed before
  pub behind : (n : ℕ) (ts : List Term) (s : State) → machine_run symbols n (after ts s) ≡ after ts (machine_run symbols n s)

-- what a machine's next call begins with
pub record CallsGoOn (machine : Seen) : Type 0 where
  -- the state differs by nothing but what was displayed before
  pub state : (ts us : List Term) → machine.state (ts ++ us) ≡ after ts (machine.state us)
  -- nothing was displayed but that
  pub displayed : (ts : List Term) → displayed_by (machine.state ts) ≡ ts
  -- where a call came to this machine after m steps, n steps of the next call are those after the first m
  pub joined : (symbols : Symbols) (m n : ℕ) (s : State) (ts : List Term) → machine_run symbols m s ≡ machine.state ts
      → machine_run symbols (m + n) s ≡ after ts (machine_run symbols n (machine.state []))
