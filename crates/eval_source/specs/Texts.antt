-- What a run writes.
use Rattle.std.specs.Prelude.{◌≡◌, ℕ, ◌-◌, List, ◌++◌, codes, decimal, Option, Some}
use Rattle.hipe_terms.specs.Shown.{Names}
use Rattle.core_meaning.specs.Meaning.{State, Ending, Run}
use Rattle.core_meaning.specs.Output.{new_line, printed_lines, result_line}

-- the line of how a run ended: none for a run that got stuck or ended with another number of values than one
abbrev pub ending_line : Names → Ending → Option (List ℕ)
ending_line names Ending.fuel_spent = Some (codes "fuel_spent\n")
ending_line names ending = result_line names ending

-- 1 where the run raised, 5 where its fuel was spent, and else 0
abbrev pub ending_status : Ending → ℕ
ending_status (Ending.raised class reason) = 1
ending_status Ending.fuel_spent = 5
ending_status _ = 0

-- the words that were built, the greatest claim on the stack, and the fuel that was spent
abbrev pub counts_lines : (words claim spent : ℕ) → List ℕ
counts_lines words claim spent = codes "words " ++ decimal words ++ codes "\nclaim " ++ decimal claim ++ codes "\nfuel " ++ decimal spent ++ new_line

-- what a run with so much fuel printed, how it ended, and what it counted
abbrev pub run_text : Names → (fuel : ℕ) → (line : List ℕ) → State → List ℕ
run_text names fuel line s = printed_lines names s.printed ++ line ++ counts_lines s.words s.claim (fuel - s.fuel)

-- a run with so much fuel writes this text, and ends with this status
pub record Writes (names : Names) (fuel : ℕ) (run : Run) (text : List ℕ) (status : ℕ) : Type 0 where
  pub line : List ℕ
  pub ended : ending_line names run.ending ≡ Some line
  pub text_is : text ≡ run_text names fuel line run.state
  pub status_is : status ≡ ending_status run.ending
