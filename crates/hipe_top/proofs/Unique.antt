-- Arguments and bytes have one answer alone.
use Rattle.std.proofs.Common.{◌≡◌, ℕ, ◌<◌, ◌≤◌, List, length, codes, refl, sym, ap, ◌∙◌, subst, arith}
use Rattle.hipe_terms.specs.declared.place.Place.{Place}
use Rattle.core_ast.specs.declared.tree.Module.{Module}
use Rattle.core_ast.specs.declared.rule.Rule.{Rule}
use Rattle.core_ast.specs.Trees.{module_of}
use Rattle.core_ast.specs.Good.{IsGood, IsFirstBroken}
use Rattle.core_ast.proofs.Ordered.{broken_is_bad, one_first as one_rule_is_first}
use Rattle.core_reader.specs.declared.refusal.ReadRefusal.{ReadRefusal}
use Rattle.core_reader.specs.Language.{Reads, ReadsNone, IsRefusedAs}
use Rattle.core_reader.proofs.Unique.{one_reading, one_refusal}
use Rattle.core_sum.specs.declared.sum.Sum.{Sum}
use Rattle.core_sum.specs.Sums.{value}
use Rattle.core_sum.specs.Form.{main, Exports, IsSumModule, IsFirstUnbuilt}
use Rattle.core_sum.proofs.Unique.{one_sum, one_place, not_both}
use Rattle.sum_run.specs.Run.{value_line}
use Rattle.hipe_base.specs.declared.limits.TheConstants.{TEXT_LIMIT}
use Rattle.hipe_stop.specs.declared.stop.Reason.{Reason}
use Rattle.hipe_stop.specs.declared.stop.Stop.{Stop}
use Rattle.hipe_top.specs.declared.arguments.Mode.{Mode}
use Rattle.hipe_top.specs.declared.arguments.Mode.TheVariants.{Check, Run}
use Rattle.hipe_top.specs.Answers.{Answer, refused, answered, not_yet, AnswerOf, too_long, not_read, not_good, good, not_exported, not_built, sum, Expected, bad_arguments, of_mode}
use Rattle.hipe_stop.specs.Stops.{stop_of_reading}
use Rattle.hipe_top.specs.Texts.{IsGoodText, BeginsAt}
use Rattle.hipe_top.proofs.Placing.{one_beginning}
use Rattle.hipe_top.proofs.Taking.{one_mode}

module _ (bytes : List ℕ) where
  same : (m n : Module) → Reads bytes m → Reads bytes n → module_of n ≡ module_of m
  same m n a b = ap module_of (one_reading bytes n m b a)

  -- a good text is none of the others
  not_long : (m : Module) → IsGoodText bytes m → TEXT_LIMIT < length bytes → ⊥
  not_long m g longer = let short = g.short in absurd (omega (arith, longer, short))

  not_bad : (m n : Module) (rule : Rule) (p : Place) → IsGoodText bytes m → Reads bytes n → IsFirstBroken (module_of n) rule p → ⊥
  not_bad m n rule p g reads first = broken_is_bad (module_of n) rule p first (subst IsGood (same n m reads g.reads) g.good)

  long_one : (mode : Mode) (b : Answer) → TEXT_LIMIT < length bytes → AnswerOf bytes mode b → refused Stop.TooLong ≡ b
  long_one mode _ longer (too_long l) = refl
  long_one mode _ longer (not_read why short none is) = absurd (omega (arith, longer, short))
  long_one mode _ longer (not_good m rule p short reads first) = absurd (omega (arith, longer, short))
  long_one _ _ longer (good m g) = absurd (not_long m g longer)
  long_one _ _ longer (not_exported m p g none at) = absurd (not_long m g longer)
  long_one _ _ longer (not_built m p g exported first) = absurd (not_long m g longer)
  long_one _ _ longer (sum m e g is ends) = absurd (not_long m g longer)

  unread_one : (mode : Mode) (why : ReadRefusal) (b : Answer) → length bytes ≤ TEXT_LIMIT → ReadsNone bytes → IsRefusedAs bytes why → AnswerOf bytes mode b → refused (stop_of_reading why) ≡ b
  unread_one mode why _ short none is (too_long longer) = absurd (omega (arith, longer, short))
  unread_one mode why _ short none is (not_read other _ _ is2) = ap (λ r. refused (stop_of_reading r)) (one_refusal bytes why other is is2)
  unread_one mode why _ short none is (not_good m rule p _ reads first) = absurd (none m reads)
  unread_one _ why _ short none is (good m g) = absurd (none m g.reads)
  unread_one _ why _ short none is (not_exported m p g _ at) = absurd (none m g.reads)
  unread_one _ why _ short none is (not_built m p g exported first) = absurd (none m g.reads)
  unread_one _ why _ short none is (sum m e g _ ends) = absurd (none m g.reads)

  bad_one : (mode : Mode) (m : Module) (rule : Rule) (p : Place) (b : Answer) → length bytes ≤ TEXT_LIMIT → Reads bytes m → IsFirstBroken (module_of m) rule p → AnswerOf bytes mode b → refused (Stop.Refused (Reason.Broken rule) p) ≡ b
  bad_one mode m rule p _ short reads first (too_long longer) = absurd (omega (arith, longer, short))
  bad_one mode m rule p _ short reads first (not_read why _ none is) = absurd (none m reads)
  bad_one mode m rule p _ short reads first (not_good n other q _ reads2 first2) =
      let two = one_rule_is_first (module_of m) rule other p q first (subst (λ k. IsFirstBroken k other q) (same m n reads reads2) first2) in
      ap (λ r. refused (Stop.Refused (Reason.Broken r) p)) two.0 ∙ ap (λ x. refused (Stop.Refused (Reason.Broken other) x)) two.1
  bad_one _ m rule p _ short reads first (good n g) = absurd (not_bad n m rule p g reads first)
  bad_one _ m rule p _ short reads first (not_exported n q g none at) = absurd (not_bad n m rule p g reads first)
  bad_one _ m rule p _ short reads first (not_built n q g exported unbuilt) = absurd (not_bad n m rule p g reads first)
  bad_one _ m rule p _ short reads first (sum n e g is ends) = absurd (not_bad n m rule p g reads first)

  good_one : (m : Module) (b : Answer) → IsGoodText bytes m → AnswerOf bytes Check b → answered (codes "ok\n") ≡ b
  good_one m _ g (too_long longer) = absurd (not_long m g longer)
  good_one m _ g (not_read why short none is) = absurd (none m g.reads)
  good_one m _ g (not_good n rule p short reads first) = absurd (not_bad m n rule p g reads first)
  good_one m _ g (good n h) = refl

  unexported_one : (m : Module) (p : Place) (b : Answer) → IsGoodText bytes m → (Exports (module_of m) main → ⊥) → BeginsAt bytes p → AnswerOf bytes Run b → not_yet p ≡ b
  unexported_one m p _ g none at (too_long longer) = absurd (not_long m g longer)
  unexported_one m p _ g none at (not_read why short unread is) = absurd (unread m g.reads)
  unexported_one m p _ g none at (not_good n rule q short reads first) = absurd (not_bad m n rule q g reads first)
  unexported_one m p _ g none at (not_exported n q h none2 at2) = ap not_yet (one_beginning bytes p q at at2)
  unexported_one m p _ g none at (not_built n q h exported first) = absurd (none (subst (λ k. Exports k main) (same m n g.reads h.reads) exported))
  unexported_one m p _ g none at (sum n e h is ends) = absurd (none (subst (λ k. Exports k main) (same m n g.reads h.reads) is.exported))

  unbuilt_one : (m : Module) (p : Place) (b : Answer) → IsGoodText bytes m → Exports (module_of m) main → IsFirstUnbuilt (module_of m) p → AnswerOf bytes Run b → not_yet p ≡ b
  unbuilt_one m p _ g exported first (too_long longer) = absurd (not_long m g longer)
  unbuilt_one m p _ g exported first (not_read why short unread is) = absurd (unread m g.reads)
  unbuilt_one m p _ g exported first (not_good n rule q short reads broken) = absurd (not_bad m n rule q g reads broken)
  unbuilt_one m p _ g exported first (not_exported n q h none at) = absurd (none (subst (λ k. Exports k main) (sym (same m n g.reads h.reads)) exported))
  unbuilt_one m p _ g exported first (not_built n q h exported2 first2) = ap not_yet (one_place (module_of m) p q first (subst (λ k. IsFirstUnbuilt k q) (same m n g.reads h.reads) first2))
  unbuilt_one m p _ g exported first (sum n e h is ends) = absurd (not_both (module_of m) e p (subst (λ k. IsSumModule k e) (same m n g.reads h.reads) is) first)

  sum_one : (m : Module) (e : Sum) (b : Answer) → IsGoodText bytes m → IsSumModule (module_of m) e → AnswerOf bytes Run b → answered (value_line (value e)) ≡ b
  sum_one m e _ g is (too_long longer) = absurd (not_long m g longer)
  sum_one m e _ g is (not_read why short unread r) = absurd (unread m g.reads)
  sum_one m e _ g is (not_good n rule q short reads broken) = absurd (not_bad m n rule q g reads broken)
  sum_one m e _ g is (not_exported n q h none at) = absurd (none (subst (λ k. Exports k main) (sym (same m n g.reads h.reads)) is.exported))
  sum_one m e _ g is (not_built n q h exported first) = absurd (not_both (module_of m) e q is (subst (λ k. IsFirstUnbuilt k q) (same m n g.reads h.reads) first))
  sum_one m e _ g is (sum n d h is2 ends) = ap (λ x. answered (value_line (value x))) (one_sum (module_of m) e d is (subst (λ k. IsSumModule k d) (same m n g.reads h.reads) is2))

  answers_agree : (mode : Mode) (a b : Answer) → AnswerOf bytes mode a → AnswerOf bytes mode b → a ≡ b
  answers_agree mode _ b (too_long longer) x = long_one mode b longer x
  answers_agree mode _ b (not_read why short none is) x = unread_one mode why b short none is x
  answers_agree mode _ b (not_good m rule p short reads first) x = bad_one mode m rule p b short reads first x
  answers_agree _ _ b (good m g) x = good_one m b g x
  answers_agree _ _ b (not_exported m p g none at) x = unexported_one m p b g none at x
  answers_agree _ _ b (not_built m p g exported first) x = unbuilt_one m p b g exported first x
  answers_agree _ _ b (sum m e g is ends) x = sum_one m e b g is x

pub one : (arguments : List (List ℕ)) (bytes : List ℕ) (a b : Answer) → Expected arguments bytes a → Expected arguments bytes b → a ≡ b
one arguments bytes _ _ (bad_arguments bad) (bad_arguments bad2) = refl
one arguments bytes _ b (bad_arguments bad) (of_mode mode is x) = absurd (bad (mode, is))
one arguments bytes a _ (of_mode mode is x) (bad_arguments bad) = absurd (bad (mode, is))
one arguments bytes a b (of_mode mode is x) (of_mode other is2 y) = answers_agree bytes mode a b x (subst (λ m. AnswerOf bytes m b) (one_mode other mode (sym is2 ∙ is)) y)
