-- What the program answers where memory is found and no read or write fails.
use Rattle.std.specs.Prelude.{◌≡◌, ℕ, ◌<◌, ◌≤◌, List, [], length, codes}
use Rattle.hipe_terms.specs.declared.place.Place.{Place}
use Rattle.core_ast.specs.declared.tree.Module.{Module}
use Rattle.core_ast.specs.declared.rule.Rule.{Rule}
use Rattle.core_ast.specs.Trees.{module_of}
use Rattle.core_ast.specs.Good.{IsFirstBroken}
use Rattle.core_reader.specs.declared.refusal.ReadRefusal.{ReadRefusal}
use Rattle.core_reader.specs.Language.{Reads, ReadsNone, IsRefusedAs}
use Rattle.core_sum.specs.declared.sum.Sum.{Sum}
use Rattle.core_sum.specs.Sums.{value}
use Rattle.core_sum.specs.Form.{main, Exports, IsSumModule, IsFirstUnbuilt}
use Rattle.hipe_base.specs.declared.limits.TheConstants.{TEXT_LIMIT}
use Rattle.hipe_stop.specs.declared.stop.Reason.{Reason}
use Rattle.hipe_stop.specs.declared.stop.Stop.{Stop}
use Rattle.hipe_top.specs.declared.arguments.Mode.{Mode}
use Rattle.hipe_top.specs.declared.arguments.Mode.TheVariants.{Check, Run}
use Rattle.sum_code.specs.Code.{image_for, EndsWith}
use Rattle.sum_run.specs.Run.{value_line}
use Rattle.hipe_stop.specs.Stops.{status_of, line_of, stop_of_reading}
use Rattle.hipe_top.specs.Command.{IsCommand, arguments_of}
use Rattle.hipe_top.specs.Texts.{IsGoodText, BeginsAt}

-- a status, and the texts on out and err
pub record Answer : Type 0 where
  pub status : ℕ
  pub out : List ℕ
  pub err : List ℕ

abbrev pub refused : Stop → Answer
refused stop = record { status = status_of stop; out = []; err = line_of stop }

abbrev pub answered : List ℕ → Answer
answered line = record { status = 0; out = line; err = [] }

abbrev pub not_yet : Place → Answer
not_yet p = refused (Stop.Refused Reason.NotYet p)

-- a mode's answer to an input of these bytes
pub data AnswerOf (bytes : List ℕ) : Mode → Answer → Type 0 where
  too_long : {mode : Mode} → TEXT_LIMIT < length bytes → AnswerOf bytes mode (refused Stop.TooLong)
  not_read : {mode : Mode} (why : ReadRefusal) → length bytes ≤ TEXT_LIMIT → ReadsNone bytes → IsRefusedAs bytes why → AnswerOf bytes mode (refused (stop_of_reading why))
  not_good : {mode : Mode} (m : Module) (rule : Rule) (p : Place) → length bytes ≤ TEXT_LIMIT → Reads bytes m → IsFirstBroken (module_of m) rule p
      → AnswerOf bytes mode (refused (Stop.Refused (Reason.Broken rule) p))
  good : (m : Module) → IsGoodText bytes m → AnswerOf bytes Check (answered (codes "ok\n"))
  not_exported : (m : Module) (p : Place) → IsGoodText bytes m → ¬ Exports (module_of m) main → BeginsAt bytes p → AnswerOf bytes Run (not_yet p)
  not_built : (m : Module) (p : Place) → IsGoodText bytes m → Exports (module_of m) main → IsFirstUnbuilt (module_of m) p → AnswerOf bytes Run (not_yet p)
  sum : (m : Module) (e : Sum) → IsGoodText bytes m → IsSumModule (module_of m) e → EndsWith (image_for m.name e) (value e) → AnswerOf bytes Run (answered (value_line (value e)))

-- the answer to these arguments and an input of these bytes
pub data Expected (arguments : List (List ℕ)) (bytes : List ℕ) : Answer → Type 0 where
  bad_arguments : ¬ IsCommand arguments → Expected arguments bytes (refused Stop.Arguments)
  of_mode : {answer : Answer} (mode : Mode) → arguments ≡ arguments_of mode → AnswerOf bytes mode answer → Expected arguments bytes answer

-- arguments and bytes have an answer, and one alone
pub record HaveOneAnswer : Type 0 where
  pub some : (arguments : List (List ℕ)) (bytes : List ℕ) → (a : Answer) × Expected arguments bytes a
  pub one : (arguments : List (List ℕ)) (bytes : List ℕ) (a b : Answer) → Expected arguments bytes a → Expected arguments bytes b → a ≡ b
