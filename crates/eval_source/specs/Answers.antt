-- What the program answers where memory is found and no read or write fails.
use Rattle.std.specs.Prelude.{◌≡◌, ℕ, ◌<◌, ◌≤◌, List, [], length, Some, None}
use Rattle.hipe_terms.specs.declared.constant.Call.{Call}
use Rattle.hipe_terms.specs.declared.place.Place.{Place}
use Rattle.core_ast.specs.declared.tree.Module.{Module}
use Rattle.core_ast.specs.declared.rule.Rule.{Rule}
use Rattle.core_ast.specs.Trees.{module_of}
use Rattle.core_ast.specs.Trees as Trees
use Rattle.core_ast.specs.Good.{IsGood, IsFirstBroken}
use Rattle.core_meaning.specs.Output.{shown_names}
use Rattle.core_meaning.specs.Procedures.{program_of}
use Rattle.core_meaning.specs.Source.{source_run}
use Rattle.core_reader.specs.declared.refusal.ReadRefusal.{ReadRefusal}
use Rattle.core_reader.specs.Language.{Reads, ReadsNone, IsRefusedAs, ReadsCall, IsNoCall}
use Rattle.hipe_base.specs.declared.limits.TheConstants.{TEXT_LIMIT}
use Rattle.hipe_stop.specs.declared.stop.Reason.{Reason}
use Rattle.hipe_stop.specs.declared.stop.Stop.{Stop}
use Rattle.hipe_stop.specs.Stops.{status_of, line_of, stop_of_reading}
use Rattle.eval_source.specs.Texts.{Writes}
use Rattle.eval_source.specs.Arguments.{Command, command_of}

-- a status, and the texts on out and err
pub record Answer : Type 0 where
  pub status : ℕ
  pub out : List ℕ
  pub err : List ℕ

abbrev pub refused : Stop → Answer
refused stop = record { status = status_of stop; out = []; err = line_of stop }

abbrev pub ran : (status : ℕ) (text : List ℕ) → Answer
ran status text = record { status = status; out = text; err = [] }

-- the run of a module's call writes this text
abbrev pub RunWrites : Trees.Module → Call → (fuel : ℕ) → (text : List ℕ) (status : ℕ) → Type 0
RunWrites m call fuel text status = Writes (shown_names (program_of m)) fuel (source_run m call fuel) text status

-- the answer to a call with so much fuel, and an input of these bytes
pub data AnswerTo (call : Call) (fuel : ℕ) (bytes : List ℕ) : Answer → Type 0 where
  too_long : TEXT_LIMIT < length bytes → AnswerTo call fuel bytes (refused Stop.TooLong)
  not_read : (why : ReadRefusal) → length bytes ≤ TEXT_LIMIT → ReadsNone bytes → IsRefusedAs bytes why → AnswerTo call fuel bytes (refused (stop_of_reading why))
  not_good : (m : Module) (rule : Rule) (p : Place) → length bytes ≤ TEXT_LIMIT → Reads bytes m → IsFirstBroken (module_of m) rule p
      → AnswerTo call fuel bytes (refused (Stop.Refused (Reason.Broken rule) p))
  ended : (m : Module) (text : List ℕ) (status : ℕ) → length bytes ≤ TEXT_LIMIT → Reads bytes m → IsGood (module_of m) → RunWrites (module_of m) call fuel text status
      → AnswerTo call fuel bytes (ran status text)

-- the answer to these arguments and an input of these bytes
pub data Expected (arguments : List (List ℕ)) (bytes : List ℕ) : Answer → Type 0 where
  bad_arguments : command_of arguments ≡ None → Expected arguments bytes (refused Stop.Arguments)
  no_call : (c : Command) (p : Place) → command_of arguments ≡ Some c → ((call : Call) → ¬ ReadsCall c.call call) → IsNoCall c.call p
      → Expected arguments bytes (refused (Stop.Call p))
  of_call : {answer : Answer} (c : Command) (call : Call) → command_of arguments ≡ Some c → ReadsCall c.call call
      → AnswerTo call c.fuel bytes answer → Expected arguments bytes answer

-- arguments and bytes have an answer, and one alone
pub record HaveOneAnswer : Type 0 where
  pub some : (arguments : List (List ℕ)) (bytes : List ℕ) → (a : Answer) × Expected arguments bytes a
  pub one : (arguments : List (List ℕ)) (bytes : List ℕ) (a b : Answer) → Expected arguments bytes a → Expected arguments bytes b → a ≡ b
