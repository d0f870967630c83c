-- Arguments and bytes have one answer alone.
use Rattle.std.proofs.Common.{◌≡◌, ℕ, ◌<◌, ◌≤◌, List, length, Option, None, Some, refl, sym, ap, ◌∙◌, subst, arith}
use Rattle.hipe_terms.specs.declared.constant.Call.{Call}
use Rattle.hipe_terms.specs.declared.place.Place.{Place}
use Rattle.hipe_terms.specs.Shown.{Names}
use Rattle.core_ast.specs.declared.tree.Module.{Module}
use Rattle.core_ast.specs.declared.rule.Rule.{Rule}
use Rattle.core_ast.specs.Trees.{module_of}
use Rattle.core_ast.specs.Good.{IsGood, IsFirstBroken}
use Rattle.core_ast.proofs.Ordered.{broken_is_bad, one_first}
use Rattle.core_meaning.specs.Meaning.{Run}
use Rattle.core_reader.specs.declared.refusal.ReadRefusal.{ReadRefusal}
use Rattle.core_reader.specs.Language.{Reads, ReadsNone, IsRefusedAs, ReadsCall, IsNoCall}
use Rattle.core_reader.proofs.Unique.{one_reading, one_refusal, one_reading_of_call, one_place_of_no_call}
use Rattle.hipe_base.specs.declared.limits.TheConstants.{TEXT_LIMIT}
use Rattle.hipe_stop.specs.declared.stop.Reason.{Reason}
use Rattle.hipe_stop.specs.declared.stop.Stop.{Stop}
use Rattle.eval_source.specs.Answers.{Answer, refused, ran, AnswerTo, too_long, not_read, not_good, ended, Expected, bad_arguments, no_call, of_call, RunWrites}
use Rattle.hipe_stop.specs.Stops.{stop_of_reading}
use Rattle.eval_source.specs.Texts.{Writes, run_text}
use Rattle.eval_source.specs.Arguments.{Command, command_of}

-- what a run writes is one text with one status
module _ {names : Names} {fuel : ℕ} {run : Run} {t u : List ℕ} {m n : ℕ} where
  one_text : Writes names fuel run t m → Writes names fuel run u n → ran m t ≡ ran n u
  one_text a b =
      let lines : Some a.line ≡ Some b.line = sym a.ended ∙ b.ended in
      let line : a.line ≡ b.line = cc in
      let text : t ≡ u = a.text_is ∙ ap (λ l. run_text names fuel l run.state) line ∙ sym b.text_is in
      let status : m ≡ n = a.status_is ∙ sym b.status_is in
      ap (λ s. ran s t) status ∙ ap (ran n) text

module _ (call : Call) (fuel : ℕ) (bytes : List ℕ) where
  same : (m n : Module) → Reads bytes m → Reads bytes n → module_of n ≡ module_of m
  same m n a b = ap module_of (one_reading bytes n m b a)

  -- a module with a broken rule isn't good
  not_bad : (m n : Module) (rule : Rule) (p : Place) → Reads bytes m → IsGood (module_of m) → Reads bytes n → IsFirstBroken (module_of n) rule p → ⊥
  not_bad m n rule p reads good others first =
      broken_is_bad (module_of n) rule p first (subst IsGood (sym (same m n reads others)) good)

  long_one : (b : Answer) → TEXT_LIMIT < length bytes → AnswerTo call fuel bytes b → refused Stop.TooLong ≡ b
  long_one _ longer (too_long l) = refl
  long_one _ longer (not_read why short none is) = absurd (omega (arith, longer, short))
  long_one _ longer (not_good m rule p short reads first) = absurd (omega (arith, longer, short))
  long_one _ longer (ended m text status short reads good writes) = absurd (omega (arith, longer, short))

  unread_one : (why : ReadRefusal) (b : Answer) → length bytes ≤ TEXT_LIMIT → ReadsNone bytes → IsRefusedAs bytes why → AnswerTo call fuel bytes b
      → refused (stop_of_reading why) ≡ b
  unread_one why _ short none is (too_long longer) = absurd (omega (arith, longer, short))
  unread_one why _ short none is (not_read other _ _ is2) = ap (λ r. refused (stop_of_reading r)) (one_refusal bytes why other is is2)
  unread_one why _ short none is (not_good m rule p _ reads first) = absurd (none m reads)
  unread_one why _ short none is (ended m text status _ reads good writes) = absurd (none m reads)

  bad_one : (m : Module) (rule : Rule) (p : Place) (b : Answer) → length bytes ≤ TEXT_LIMIT → Reads bytes m → IsFirstBroken (module_of m) rule p → AnswerTo call fuel bytes b
      → refused (Stop.Refused (Reason.Broken rule) p) ≡ b
  bad_one m rule p _ short reads first (too_long longer) = absurd (omega (arith, longer, short))
  bad_one m rule p _ short reads first (not_read why _ none is) = absurd (none m reads)
  bad_one m rule p _ short reads first (not_good n other q _ reads2 first2) =
      let two = one_first (module_of m) rule other p q first (subst (λ k. IsFirstBroken k other q) (same m n reads reads2) first2) in
      ap (λ r. refused (Stop.Refused (Reason.Broken r) p)) two.0 ∙ ap (λ x. refused (Stop.Refused (Reason.Broken other) x)) two.1
  bad_one m rule p _ short reads first (ended n text status _ reads2 good writes) = absurd (not_bad n m rule p reads2 good reads first)

  good_one : (m : Module) (text : List ℕ) (status : ℕ) (b : Answer) → length bytes ≤ TEXT_LIMIT → Reads bytes m → IsGood (module_of m) → RunWrites (module_of m) call fuel text status
      → AnswerTo call fuel bytes b → ran status text ≡ b
  good_one m text status _ short reads good writes (too_long longer) = absurd (omega (arith, longer, short))
  good_one m text status _ short reads good writes (not_read why _ none is) = absurd (none m reads)
  good_one m text status _ short reads good writes (not_good n rule p _ reads2 first) = absurd (not_bad m n rule p reads good reads2 first)
  good_one m text status _ short reads good writes (ended n text2 status2 _ reads2 good2 writes2) =
      one_text writes (subst (λ k. RunWrites k call fuel text2 status2) (same m n reads reads2) writes2)

  answers_agree : (a b : Answer) → AnswerTo call fuel bytes a → AnswerTo call fuel bytes b → a ≡ b
  answers_agree _ b (too_long longer) x = long_one b longer x
  answers_agree _ b (not_read why short none is) x = unread_one why b short none is x
  answers_agree _ b (not_good m rule p short reads first) x = bad_one m rule p b short reads first x
  answers_agree _ b (ended m text status short reads good writes) x = good_one m text status b short reads good writes x

-- the arguments name one command at most
same_command : (arguments : List (List ℕ)) (c d : Command) → command_of arguments ≡ Some c → command_of arguments ≡ Some d → c ≡ d
same_command arguments c d h g = let both : Some c ≡ Some d = sym h ∙ g in cc

none_or_some : {A : Type 0} (arguments : List (List ℕ)) (c : Command) → command_of arguments ≡ None → command_of arguments ≡ Some c → A
none_or_some arguments c h g = absurd (let both : ◌≡◌ {A = Option Command} None (Some c) = sym h ∙ g in cc)

pub one : (arguments : List (List ℕ)) (bytes : List ℕ) (a b : Answer) → Expected arguments bytes a → Expected arguments bytes b → a ≡ b
one arguments bytes _ _ (bad_arguments bad) (bad_arguments bad2) = refl
one arguments bytes _ _ (bad_arguments bad) (no_call c p is none at) = none_or_some arguments c bad is
one arguments bytes _ b (bad_arguments bad) (of_call c call is reads x) = none_or_some arguments c bad is
one arguments bytes _ _ (no_call c p is none at) (bad_arguments bad) = none_or_some arguments c bad is
one arguments bytes _ _ (no_call c p is none at) (no_call d q is2 none2 at2) =
    ap (λ x. refused (Stop.Call x)) (one_place_of_no_call c.call p q at (subst (λ k. IsNoCall k.call q) (same_command arguments d c is2 is) at2))
one arguments bytes _ b (no_call c p is none at) (of_call d call is2 reads x) = absurd (none call (subst (λ k. ReadsCall k.call call) (same_command arguments d c is2 is) reads))
one arguments bytes a _ (of_call c call is reads x) (bad_arguments bad) = none_or_some arguments c bad is
one arguments bytes a _ (of_call c call is reads x) (no_call d q is2 none at) = absurd (none call (subst (λ k. ReadsCall k.call call) (same_command arguments c d is is2) reads))
one arguments bytes a b (of_call c call is reads x) (of_call d call2 is2 reads2 y) =
    let same_c : d ≡ c = same_command arguments d c is2 is in
    let same_call : call2 ≡ call = one_reading_of_call c.call call2 call (subst (λ k. ReadsCall k.call call2) same_c reads2) reads in
    answers_agree call c.fuel bytes a b x (subst (λ k. AnswerTo k c.fuel bytes b) same_call (subst (λ k. AnswerTo call2 k.fuel bytes b) same_c y))
