-- What the run of a module of a sum is.
use Rattle.std.specs.Prelude.{◌≡◌, ℕ, ℤ, [], ◌∷◌}
use Rattle.hipe_terms.specs.declared.constant.Call.{Call}
use Rattle.hipe_terms.specs.Terms.{integer}
use Rattle.core_ast.specs.Trees.{Module}
use Rattle.core_ast.specs.Good.{IsGood}
use Rattle.core_sum.specs.declared.sum.Sum.{Sum}
use Rattle.core_sum.specs.Sums.{value}
use Rattle.core_sum.specs.Form.{main, IsSumModule}
use Rattle.core_meaning.specs.Meaning.{Ending, Run}
use Rattle.core_meaning.specs.Source.{called_name, source_run}

-- the run returns this integer alone, with all its fuel left, and prints and builds nothing
pub record Returns (run : Run) (n : ℤ) (fuel : ℕ) : Type 0 where
  pub ending : run.ending ≡ Ending.values (integer n ∷ [])
  pub printed : run.state.printed ≡ []
  pub words : run.state.words ≡ 0
  pub fuel_left : run.state.fuel ≡ fuel

-- the run of the call of 'main'/0 of a good module with a sum returns what the sum comes to
abbrev pub SumsAreReturned : Type 0
SumsAreReturned = (m : Module) → IsGood m → (e : Sum) → IsSumModule m e → (c : Call) → called_name c ≡ main → (fuel : ℕ) → Returns (source_run m c fuel) (value e) fuel
