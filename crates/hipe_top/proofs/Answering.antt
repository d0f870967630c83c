-- Arguments and bytes have an answer.
use Rattle.std.proofs.Common.{◌≡◌, ℕ, ◌<◌, ◌≤◌, ◌⊎◌, inl, inr, Bool, true, false, List, [], ◌∷◌, length, Option, Some, None, MatchOption, Result, Ok, Err, codes, bytes_eq, get_or, refl, sym, ap, ◌∙◌, arith}
use Rattle.std.specs.Prelude.{leb}
use Rattle.std.proofs.lemmas.Bool.Decides.{leb_tells}
use Rattle.std.proofs.lemmas.Slice.Eq.{bytes_eq-Decides}
use Rattle.hipe_terms.specs.declared.place.Place.{Place}
use Rattle.core_ast.specs.declared.rule.Broken.{Broken}
use Rattle.core_ast.specs.declared.tree.Module.{Module}
use Rattle.core_ast.specs.Trees.{module_of}
use Rattle.core_ast.specs.Good.{IsGood, IsFirstBroken}
use Rattle.core_ast.specs.First.{noted_all}
use Rattle.core_ast.proofs.Spots.{all_rules, spots_by, first_or_good}
use Rattle.core_reader.specs.declared.refusal.ReadRefusal.{ReadRefusal}
use Rattle.core_reader.specs.Language.{Reads}
use Rattle.core_reader.specs.Laws.{IsAnswer}
use Rattle.core_reader.proofs.Answering.{some_answer as some_reading}
use Rattle.core_reader.proofs.Unique.{refused_reads_none}
use Rattle.core_sum.specs.declared.sum.Sum.{Sum}
use Rattle.core_sum.specs.declared.sum.SumRefusal.{SumRefusal}
use Rattle.core_sum.specs.Made.{has_main, sum_of_definitions}
use Rattle.core_sum.proofs.Modules as modules
use Rattle.sum_code.proofs.Meaning.{means}
use Rattle.hipe_base.specs.declared.limits.TheConstants.{TEXT_LIMIT}
use Rattle.hipe_stop.specs.declared.stop.Stop.{Stop}
use Rattle.hipe_top.specs.declared.arguments.Mode.{Mode}
use Rattle.hipe_top.specs.declared.arguments.Mode.TheVariants.{Check, Run}
use Rattle.hipe_top.specs.Answers.{Answer, refused, answered, not_yet, AnswerOf, too_long, not_read, not_good, good, not_exported, not_built, sum, Expected, bad_arguments, of_mode}
use Rattle.hipe_top.specs.Command.{IsCommand, arguments_of}
use Rattle.hipe_top.specs.Finding.{first_keyword}
use Rattle.hipe_top.specs.Texts.{IsGoodText, BeginsAt}
use Rattle.hipe_top.proofs.Placing.{keyword_found, begins_at}

-- ---- arguments are those of a mode, or aren't

other_count : (arguments : List (List ℕ)) (n : ℕ) → length arguments ≡ n → (n ≡ 1 → ⊥) → (n ≡ 2 → ⊥) → IsCommand arguments → ⊥
other_count arguments n is one two (Check, e) = one (sym is ∙ ap length e)
other_count arguments n is one two (Run, e) = two (sym is ∙ ap length e)

argument_at : (arguments others : List (List ℕ)) (k : ℕ) → arguments ≡ others → get_or arguments k [] ≡ get_or others k []
argument_at arguments others k e = ap (λ ws. get_or ws k []) e

differ : (a b : List ℕ) → bytes_eq a b ≡ false → a ≡ b → ⊥
differ a b unequal same = let equal : bytes_eq a b ≡ true = (bytes_eq-Decides a b).1 same in absurd (cc)

command_or_not : (arguments : List (List ℕ)) → IsCommand arguments ⊎ (IsCommand arguments → ⊥)
command_or_not [] = inr (other_count [] 0 refl (λ e. absurd (omega (arith, e))) (λ e. absurd (omega (arith, e))))
command_or_not (w ∷ []) = go (bytes_eq w (codes "check")) refl where
  go : (b : Bool) → bytes_eq w (codes "check") ≡ b → IsCommand (w ∷ []) ⊎ (IsCommand (w ∷ []) → ⊥)
  go true e = inl (Check, ap (λ x. x ∷ []) ((bytes_eq-Decides w (codes "check")).0 e))
  go false e = inr not where
    not : IsCommand (w ∷ []) → ⊥
    not (Check, h) = differ w (codes "check") e (argument_at (w ∷ []) (arguments_of Check) 0 h)
    not (Run, h) = let sizes : 1 ≡ 2 = ap length h in absurd (omega (arith, sizes))
command_or_not (w ∷ v ∷ []) = go (bytes_eq w (codes "run")) refl (bytes_eq v (codes "'main'()")) refl where
  go : (b : Bool) → bytes_eq w (codes "run") ≡ b → (c : Bool) → bytes_eq v (codes "'main'()") ≡ c → IsCommand (w ∷ v ∷ []) ⊎ (IsCommand (w ∷ v ∷ []) → ⊥)
  go true e true f = inl (Run, ap (λ x. x ∷ v ∷ []) ((bytes_eq-Decides w (codes "run")).0 e) ∙ ap (λ x. codes "run" ∷ x ∷ []) ((bytes_eq-Decides v (codes "'main'()")).0 f))
  go true e false f = inr not where
    not : IsCommand (w ∷ v ∷ []) → ⊥
    not (Check, h) = let sizes : 2 ≡ 1 = ap length h in absurd (omega (arith, sizes))
    not (Run, h) = differ v (codes "'main'()") f (argument_at (w ∷ v ∷ []) (arguments_of Run) 1 h)
  go false e c f = inr not where
    not : IsCommand (w ∷ v ∷ []) → ⊥
    not (Check, h) = let sizes : 2 ≡ 1 = ap length h in absurd (omega (arith, sizes))
    not (Run, h) = differ w (codes "run") e (argument_at (w ∷ v ∷ []) (arguments_of Run) 0 h)
command_or_not (w ∷ v ∷ u ∷ ws) = inr (other_count (w ∷ v ∷ u ∷ ws) (length (w ∷ v ∷ u ∷ ws)) refl (λ e. absurd (omega (arith, e))) (λ e. absurd (omega (arith, e))))

-- ---- an input has an answer

module _ (bytes : List ℕ) where
  abbrev Answered : Mode → Type 0
  Answered mode = (a : Answer) × AnswerOf bytes mode a

  begins : (m : Module) → Reads bytes m → (p : Place) × BeginsAt bytes p
  begins m reads = go (first_keyword bytes reads.0) refl where
    go : (found : Option Place) → first_keyword bytes reads.0 ≡ found → (p : Place) × BeginsAt bytes p
    go None none = absurd (keyword_found bytes reads.0 reads.1 (m, reads) none)
    go (Some p) is = (p, begins_at bytes reads.0 p reads.1 is)

  built : (m : Module) → IsGoodText bytes m → has_main (module_of m).exports ≡ true → (r : Result Sum Place) → sum_of_definitions (module_of m).definitions ≡ r → Answered Run
  built m g exported (Ok e) is =
      let a = modules.answered (module_of m) g.good exported (Ok e) is in
      (_, sum m e g a.0 (means m.name e a.2 a.3))
  built m g exported (Err p) is =
      let a = modules.answered (module_of m) g.good exported (Err (SumRefusal.NotYet p)) is in
      (not_yet p, not_built m p g a.1.0 a.1.1)

  exported_or_not : (m : Module) → IsGoodText bytes m → (b : Bool) → has_main (module_of m).exports ≡ b → Answered Run
  exported_or_not m g true e = built m g e (sum_of_definitions (module_of m).definitions) refl
  exported_or_not m g false e = let p = begins m g.reads in (not_yet p.0, not_exported m p.0 g (modules.not_exported (module_of m) e) p.1)

  of_good : (mode : Mode) (m : Module) → IsGoodText bytes m → Answered mode
  of_good Check m g = (answered (codes "ok\n"), good m g)
  of_good Run m g = exported_or_not m g (has_main (module_of m).exports) refl

  of_module : (mode : Mode) (m : Module) → length bytes ≤ TEXT_LIMIT → Reads bytes m → Answered mode
  of_module mode m short reads = go (noted_all (spots_by (module_of m) all_rules) None) (first_or_good (module_of m)) where
    go : (first : Option Broken) → MatchOption first (IsGood (module_of m)) (λ b. IsFirstBroken (module_of m) b.rule b.at) → Answered mode
    go None is = of_good mode m (record { short = short; reads = reads; good = is })
    go (Some b) first = (_, not_good m b.rule b.at short reads first)

  some_of : (mode : Mode) → Answered mode
  some_of mode = within (leb_tells (length bytes) TEXT_LIMIT) where
    read : length bytes ≤ TEXT_LIMIT → (r : Result Module ReadRefusal) → IsAnswer bytes r → Answered mode
    read short (Ok m) reads = of_module mode m short reads
    read short (Err why) is = (_, not_read why short (refused_reads_none bytes why is) is)

    within : ((leb (length bytes) TEXT_LIMIT ≡ true) × (length bytes ≤ TEXT_LIMIT)) ⊎ ((leb (length bytes) TEXT_LIMIT ≡ false) × (TEXT_LIMIT < length bytes)) → Answered mode
    within (inl h) = let r = some_reading bytes in read h.1 r.0 r.1
    within (inr h) = (refused Stop.TooLong, too_long h.1)

pub some : (arguments : List (List ℕ)) (bytes : List ℕ) → (a : Answer) × Expected arguments bytes a
some arguments bytes = go (command_or_not arguments) where
  go : IsCommand arguments ⊎ (IsCommand arguments → ⊥) → (a : Answer) × Expected arguments bytes a
  go (inl (mode, is)) = let a = some_of bytes mode in (a.0, of_mode mode is a.1)
  go (inr bad) = (refused Stop.Arguments, bad_arguments bad)
