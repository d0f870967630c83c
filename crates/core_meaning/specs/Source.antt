-- What a call of a module's function means.
use Rattle.std.specs.Prelude.{ℕ, List, [], length, map, sum, codes, slice_get, Option, Some, None}
use Rattle.hipe_terms.specs.declared.constant.Call.{Call}
use Rattle.hipe_terms.specs.Terms.{Term, atom, term_of}
use Rattle.hipe_terms.specs.Words.{words_of}
use Rattle.hipe_terms.specs.declared.class.Class.TheVariants.{Error}
use Rattle.core_ast.specs.declared.tree.FunName.{FunName}
use Rattle.core_ast.specs.Trees.{Module}
use Rattle.core_meaning.specs.Procedures.{Procedure, Program, claim_of, program_of}
use Rattle.core_meaning.specs.Meaning.{State, Ending, Run, ends, Limits, builds, exported, enters, calls_within}

abbrev pub claim_if_any : Option Procedure → ℕ
claim_if_any None = 0
claim_if_any (Some f) = claim_of f

-- no limits: an activation takes what it claims
abbrev pub unlimited : Program → Limits
unlimited program = record { heap = None; stack = None; frame = λ n. claim_if_any (slice_get program.procedures n) }

-- the state in which a call with so many arguments begins
abbrev pub at_start : (fuel arguments : ℕ) → State
at_start fuel arguments = record { fuel = fuel; words = 0; claim = 0; printed = []; work = arguments }

abbrev pub called_name : Call → FunName
called_name c = record { name = c.name; arity = length c.args }

-- the function is entered with the call's constants, which are built first; entering it spends no fuel
abbrev pub starts : Program → Limits → Option ℕ → List Term → (words fuel : ℕ) → Run
starts program limits None ts words fuel = ends (Ending.raised Error (atom (codes "undef"))) (at_start fuel (length ts))
starts program limits (Some n) ts words fuel =
    builds limits words (at_start fuel (length ts))
    (λ s. enters program limits (calls_within program limits fuel) n (slice_get program.procedures n) [] ts 0 s (λ class reason s. ends (Ending.raised class reason) s) (λ us s. ends (Ending.values us) s))

-- the run of a call with so much fuel, under limits
abbrev pub run_within : Program → Limits → Call → ℕ → Run
run_within program limits c fuel = starts program limits (exported program (called_name c)) (map term_of c.args) (sum (map words_of c.args)) fuel

-- the run of a call of a module's function with so much fuel
unfoldable pub source_run : Module → Call → ℕ → Run
source_run m c fuel = run_within (program_of m) (unlimited (program_of m)) c fuel
