-- How a call starts.
use Rattle.std.specs.Prelude.{ℕ, List, [], length, map, sum, Option, Some, None, codes, slice_get}
use Rattle.hipe_terms.specs.declared.class.Class.TheVariants.{Error}
use Rattle.hipe_terms.specs.declared.constant.Call.{Call}
use Rattle.hipe_terms.specs.Terms.{Term, atom}
use Rattle.hipe_terms.specs.Words.{words_of}
use Rattle.core_meaning.specs.Meaning.{State, Ending, Run, ends, exported}
use Rattle.core_meaning.specs.Procedures.{Program}
use Rattle.eval_values.specs.declared.value.Value.{Value}
use Rattle.eval_values.specs.Values.{terms_in}
use Rattle.eval_run.specs.Counting.{more_words}
use Rattle.eval_run.specs.Waiting.{at_end, enters_with}

-- the function of this number is entered, where there is one, with arguments of so many words
abbrev pub started : Program → Option ℕ → List Term → ℕ → State → Run
started program None ts words s = ends (Ending.raised Error (atom (codes "undef"))) s
started program (Some n) ts words s = enters_with program n (slice_get program.procedures n) [] ts 0 (more_words words s) at_end

-- the exported function of a call is entered, where these values are the call's constants
abbrev pub started_call : Program → Call → List Value → State → Run
started_call program call values s = started program (exported program (record { name = call.name; arity = length values })) (terms_in values) (sum (map words_of call.args)) s
