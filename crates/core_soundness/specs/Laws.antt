-- What holds of all runs of good modules.
use Rattle.std.specs.Prelude.{◌≡◌, ◌≢◌, ℕ, List, length}
use Rattle.hipe_terms.specs.declared.constant.Call.{Call}
use Rattle.hipe_terms.specs.Terms.{Term}
use Rattle.core_ast.specs.Trees.{Module}
use Rattle.core_ast.specs.Good.{IsGood}
use Rattle.core_meaning.specs.Procedures.{program_of}
use Rattle.core_meaning.specs.Meaning.{Ending, Run, Limits}
use Rattle.core_meaning.specs.Source.{run_within, source_run}

-- a run that isn't stuck, and that has one value where it ends with values
pub record NeverSticks (x : Run) : Type 0 where
  pub not_stuck : x.ending ≢ Ending.stuck
  pub one_value : (ts : List Term) → x.ending ≡ Ending.values ts → length ts ≡ 1

-- No call of a good module gets stuck, and where it ends with values it ends with one.
abbrev pub GoodModulesNeverStick : Type 0
GoodModulesNeverStick = (m : Module) → IsGood m → (c : Call) (fuel : ℕ) → NeverSticks (source_run m c fuel)

-- the same under any limits on the heap and the stack
abbrev pub GoodModulesNeverStickWithin : Type 0
GoodModulesNeverStickWithin = (m : Module) → IsGood m → (limits : Limits) (c : Call) (fuel : ℕ) → NeverSticks (run_within (program_of m) limits c fuel)
