-- Arguments and bytes have an answer.
use Rattle.std.proofs.Common.{◌≡◌, ◌≢◌, ℕ, ◌<◌, ◌≤◌, ◌⊎◌, inl, inr, true, false, List, [], ◌∷◌, length, Option, Some, None, MatchOption, Result, Ok, Err, refl, arith}
use Rattle.std.specs.Prelude.{leb}
use Rattle.std.proofs.lemmas.Bool.Decides.{leb_tells}
use Rattle.hipe_terms.specs.declared.constant.Call.{Call}
use Rattle.hipe_terms.specs.declared.place.Place.{Place}
use Rattle.hipe_terms.specs.Shown.{Names}
use Rattle.hipe_terms.specs.Terms.{Term}
use Rattle.core_ast.specs.declared.rule.Broken.{Broken}
use Rattle.core_ast.specs.declared.tree.Module.{Module}
use Rattle.core_ast.specs.Trees.{module_of}
use Rattle.core_ast.specs.Trees as Trees
use Rattle.core_ast.specs.Good.{IsGood, IsFirstBroken}
use Rattle.core_ast.specs.First.{noted_all}
use Rattle.core_ast.proofs.Spots.{all_rules, spots_by, first_or_good}
use Rattle.core_meaning.specs.Meaning.{Ending, Run}
use Rattle.core_meaning.specs.Output.{shown_names}
use Rattle.core_meaning.specs.Procedures.{program_of}
use Rattle.core_meaning.specs.Source.{source_run, unlimited}
use Rattle.core_meaning.specs.Laws.{IsPlain, Within, same, heap_full, stack_full}
use Rattle.core_meaning.proofs.Limits.{limits_are_exact}
use Rattle.core_soundness.specs.Laws.{NeverSticks}
use Rattle.core_soundness.proofs.NeverStuck.{never_stick}
use Rattle.core_reader.specs.declared.refusal.ReadRefusal.{ReadRefusal}
use Rattle.core_reader.specs.Language.{Reads}
use Rattle.core_reader.specs.Laws.{IsAnswer, IsCallAnswer}
use Rattle.core_reader.proofs.Answering.{some_answer as some_reading, some_call_answer}
use Rattle.core_reader.proofs.Unique.{refused_reads_none, refused_reads_no_call}
use Rattle.hipe_base.specs.declared.limits.TheConstants.{TEXT_LIMIT}
use Rattle.hipe_stop.specs.declared.stop.Stop.{Stop}
use Rattle.eval_source.specs.Answers.{Answer, refused, AnswerTo, too_long, not_read, not_good, ended, Expected, bad_arguments, no_call, of_call}
use Rattle.eval_source.specs.Texts.{Writes, ending_line}
use Rattle.eval_source.specs.Arguments.{Command, command_of}

-- a run without limits meets none
plain : (m : Trees.Module) (call : Call) (fuel : ℕ) → IsPlain (source_run m call fuel).ending
plain m call fuel = go (limits_are_exact m call fuel whole.state.words whole.state.claim (unlimited (program_of m)).frame (λ n. omega arith)) where
  whole : Run
  whole = source_run m call fuel

  go : {x : Run} → Within whole.state.words whole.state.claim x whole → IsPlain whole.ending
  go (same _ is _ _ _ _) = is
  go (heap_full _ passed _) = absurd (omega (arith, passed))
  go (stack_full _ passed _) = absurd (omega (arith, passed))

-- a run that isn't stuck and met no limit, and has one value where it ends with values, has a line for its end
line_there : (names : Names) (e : Ending) → IsPlain e → e ≢ Ending.stuck → ((ts : List Term) → e ≡ Ending.values ts → length ts ≡ 1) → (line : List ℕ) × (ending_line names e ≡ Some line)
line_there names (Ending.values []) is not_stuck one = absurd (let h : 0 ≡ 1 = one [] refl in omega (arith, h))
line_there names (Ending.values (t ∷ [])) is not_stuck one = (_, refl)
line_there names (Ending.values (t ∷ u ∷ ts)) is not_stuck one = absurd (let h : length (t ∷ u ∷ ts) ≡ 1 = one (t ∷ u ∷ ts) refl in omega (arith, h))
line_there names (Ending.raised class reason) is not_stuck one = (_, refl)
line_there names Ending.fuel_spent is not_stuck one = (_, refl)
line_there names Ending.heap_full is not_stuck one = absurd is
line_there names Ending.stack_full is not_stuck one = absurd is
line_there names Ending.stuck is not_stuck one = absurd (not_stuck refl)

some_text : (names : Names) (fuel : ℕ) (run : Run) → IsPlain run.ending → NeverSticks run → (text : List ℕ) × (status : ℕ) × Writes names fuel run text status
some_text names fuel run is never =
    let line = line_there names run.ending is never.not_stuck never.one_value in
    (_, _, record { line = line.0; ended = line.1; text_is = refl; status_is = refl })

module _ (call : Call) (fuel : ℕ) (bytes : List ℕ) where
  of_module : (m : Module) → length bytes ≤ TEXT_LIMIT → Reads bytes m → (a : Answer) × AnswerTo call fuel bytes a
  of_module m short reads = go (noted_all (spots_by (module_of m) all_rules) None) (first_or_good (module_of m)) where
    go : (first : Option Broken) → MatchOption first (IsGood (module_of m)) (λ b. IsFirstBroken (module_of m) b.rule b.at) → (a : Answer) × AnswerTo call fuel bytes a
    go None good =
        let w = some_text (shown_names (program_of (module_of m))) fuel (source_run (module_of m) call fuel) (plain (module_of m) call fuel) (never_stick (module_of m) good call fuel) in
        (_, ended m w.0 w.1 short reads good w.2)
    go (Some b) first = (_, not_good m b.rule b.at short reads first)

  some_answer : (a : Answer) × AnswerTo call fuel bytes a
  some_answer = within (leb_tells (length bytes) TEXT_LIMIT) where
    read : length bytes ≤ TEXT_LIMIT → (r : Result Module ReadRefusal) → IsAnswer bytes r → (a : Answer) × AnswerTo call fuel bytes a
    read short (Ok m) reads = of_module m short reads
    read short (Err why) is = (_, not_read why short (refused_reads_none bytes why is) is)

    within : ((leb (length bytes) TEXT_LIMIT ≡ true) × (length bytes ≤ TEXT_LIMIT)) ⊎ ((leb (length bytes) TEXT_LIMIT ≡ false) × (TEXT_LIMIT < length bytes))
        → (a : Answer) × AnswerTo call fuel bytes a
    within (inl h) = let r = some_reading bytes in read h.1 r.0 r.1
    within (inr h) = (refused Stop.TooLong, too_long h.1)

pub some : (arguments : List (List ℕ)) (bytes : List ℕ) → (a : Answer) × Expected arguments bytes a
some arguments bytes = go (command_of arguments) refl where
  called : (c : Command) → command_of arguments ≡ Some c → (r : Result Call Place) → IsCallAnswer c.call r → (a : Answer) × Expected arguments bytes a
  called c is (Ok call) reads = let a = some_answer call c.fuel bytes in (a.0, of_call c call is reads a.1)
  called c is (Err p) at = (refused (Stop.Call p), no_call c p is (refused_reads_no_call c.call p at) at)

  go : (o : Option Command) → command_of arguments ≡ o → (a : Answer) × Expected arguments bytes a
  go None is = (refused Stop.Arguments, bad_arguments is)
  go (Some c) is = let r = some_call_answer c.call in called c is r.0 r.1
