-- Which texts a mode takes and which it refuses, by its answers.
use Rattle.std.proofs.Common.{◌≡◌, ◌⊎◌, inl, inr, ℕ, ◌<◌, List, length, refl, sym, ap, ◌∙◌, subst, arith}
use Rattle.hipe_terms.specs.declared.place.Place.{Place}
use Rattle.core_token.specs.declared.token.TokenKind.{TokenKind}
use Rattle.core_ast.specs.declared.tree.Module.{Module}
use Rattle.core_ast.specs.Trees.{module_of}
use Rattle.core_ast.specs.Good.{IsGood}
use Rattle.core_ast.proofs.Ordered.{broken_is_bad}
use Rattle.core_grammar.specs.declared.fault.Fault.{Fault}
use Rattle.core_reader.specs.declared.refusal.ReadRefusal.{ReadRefusal}
use Rattle.core_reader.specs.Language.{Reads, token_refusal, fault_refusal, IsRefusedAs, no_tokens, no_module}
use Rattle.core_reader.proofs.Unique.{one_reading}
use Rattle.core_sum.specs.declared.sum.Sum.{Sum}
use Rattle.core_sum.specs.Form.{IsSumModule}
use Rattle.core_sum.proofs.Unique.{not_both}
use Rattle.hipe_base.specs.declared.limits.TheConstants.{TEXT_LIMIT}
use Rattle.hipe_stop.specs.declared.stop.Stop.{Stop}
use Rattle.hipe_top.specs.declared.arguments.Mode.{Mode}
use Rattle.hipe_top.specs.declared.arguments.Mode.TheVariants.{Check, Run}
use Rattle.hipe_top.specs.Answers.{Answer, refused, AnswerOf, too_long, not_read, not_good, good, not_exported, not_built, sum, Expected, bad_arguments, of_mode}
use Rattle.hipe_top.specs.Command.{arguments_of}
use Rattle.hipe_top.specs.Outcome.{Accepts}
use Rattle.hipe_stop.specs.Stops.{status_of, stop_of_reading}
use Rattle.hipe_top.specs.Texts.{IsGoodText, Takes, Refuses}

-- ---- statuses

token_status : (k : TokenKind) (p : Place) → status_of (stop_of_reading (token_refusal k p)) ≡ 3
token_status TokenKind.Token p = refl
token_status TokenKind.WideInteger p = refl
token_status TokenKind.LongAtom p = refl

fault_status : (f : Fault) (p : Place) → status_of (stop_of_reading (fault_refusal f p)) ≡ 3
fault_status Fault.Syntax p = refl
fault_status Fault.NotInProfile p = refl
fault_status Fault.TooDeep p = refl

pub reader_status : (s : List ℕ) (why : ReadRefusal) → IsRefusedAs s why → status_of (stop_of_reading why) ≡ 3
reader_status s _ (no_tokens k p h) = token_status k p
reader_status s _ (no_module ts f p t r) = fault_status f p

-- ---- what is taken and what is refused

same_module : (bytes : List ℕ) (m n : Module) → Reads bytes m → Reads bytes n → module_of n ≡ module_of m
same_module bytes m n a b = ap module_of (one_reading bytes n m b a)

abbrev Decides : (bytes : List ℕ) → Mode → ℕ → Type 0
Decides bytes mode status = ((status ≡ 0) × Takes mode bytes × (Refuses mode bytes → ⊥)) ⊎ ((status ≡ 3) × (Takes mode bytes → ⊥) × Refuses mode bytes)

-- where no good module is read
taken_good : (bytes : List ℕ) (mode : Mode) → Takes mode bytes → (m : Module) × IsGoodText bytes m
taken_good bytes Check t = t
taken_good bytes Run (m, g, s) = (m, g)

refused_long : (bytes : List ℕ) (mode : Mode) → TEXT_LIMIT < length bytes → Refuses mode bytes
refused_long bytes Check longer = inl longer
refused_long bytes Run longer = inl longer

refused_bad : (bytes : List ℕ) (mode : Mode) → ((m : Module) → Reads bytes m → IsGood (module_of m) → ⊥) → Refuses mode bytes
refused_bad bytes Check none = inr none
refused_bad bytes Run none = inr (λ m reads g e is. none m reads g)

refused_sum : (bytes : List ℕ) (m : Module) → IsGoodText bytes m → ((e : Sum) → IsSumModule (module_of m) e → ⊥) → Decides bytes Run 3
refused_sum bytes m g none =
    inr (
      refl,
      (λ t. none t.2.0 (subst (λ n. IsSumModule n t.2.0) (same_module bytes m t.0 g.reads t.1.reads) t.2.1)),
      inr (λ n reads _ e is. none e (subst (λ k. IsSumModule k e) (same_module bytes m n g.reads reads) is)),
    )

pub decides : (bytes : List ℕ) (mode : Mode) (a : Answer) → AnswerOf bytes mode a → Decides bytes mode a.status
decides bytes mode _ (too_long longer) =
    inr (refl, (λ t. let short = (taken_good bytes mode t).1.short in absurd (omega (arith, longer, short))), refused_long bytes mode longer)
decides bytes mode _ (not_read why short none is) =
    inr (reader_status bytes why is, (λ t. let g = taken_good bytes mode t in none g.0 g.1.reads), refused_bad bytes mode (λ m reads _. none m reads))
decides bytes mode _ (not_good m rule p short reads first) =
    let bad : (n : Module) → Reads bytes n → IsGood (module_of n) → ⊥ = λ n others g. broken_is_bad (module_of m) rule p first (subst IsGood (same_module bytes m n reads others) g) in
    inr (refl, (λ t. let g = taken_good bytes mode t in bad g.0 g.1.reads g.1.good), refused_bad bytes mode bad)
decides bytes _ _ (good m g) = inl (refl, (m, g), checked)
  where
    checked : Refuses Check bytes → ⊥
    checked (inl longer) = let short = g.short in absurd (omega (arith, longer, short))
    checked (inr none) = none m g.reads g.good
decides bytes _ _ (not_exported m p g none at) = refused_sum bytes m g (λ e is. none is.exported)
decides bytes _ _ (not_built m p g exported first) = refused_sum bytes m g (λ e is. not_both (module_of m) e p is first)
decides bytes _ _ (sum m e g is ends) = inl (refl, (m, g, (e, is)), run)
  where
    run : Refuses Run bytes → ⊥
    run (inl longer) = let short = g.short in absurd (omega (arith, longer, short))
    run (inr none) = none m g.reads g.good e is

never_zero : (stop : Stop) → status_of stop ≡ 0 → ⊥
never_zero Stop.Arguments h = absurd (omega (arith, h))
never_zero (Stop.Call p) h = absurd (omega (arith, h))
never_zero Stop.TooLong h = absurd (omega (arith, h))
never_zero (Stop.Refused r p) h = absurd (omega (arith, h))
never_zero Stop.ReadFault h = absurd (omega (arith, h))
never_zero Stop.WriteFault h = absurd (omega (arith, h))
never_zero Stop.Memory h = absurd (omega (arith, h))

pub refused_status : (bytes : List ℕ) (mode : Mode) (stop : Stop) → AnswerOf bytes mode (refused stop) → status_of stop ≡ 3
refused_status bytes mode stop a = of (decides bytes mode (refused stop) a)
  where
    of : Decides bytes mode (status_of stop) → status_of stop ≡ 3
    of (inl d) = absurd (never_zero stop d.0)
    of (inr d) = d.0

-- ---- arguments

-- arguments name one mode
pub one_mode : (a b : Mode) → arguments_of a ≡ arguments_of b → a ≡ b
one_mode Check Check h = refl
one_mode Run Run h = refl
one_mode Check Run h = absurd (let sizes : 1 ≡ 2 = ap length h in omega (arith, sizes))
one_mode Run Check h = absurd (let sizes : 2 ≡ 1 = ap length h in omega (arith, sizes))

-- ---- the answers to arguments and bytes

accepts_of : (arguments : List (List ℕ)) (mode : Mode) (bytes : List ℕ) (status : ℕ) → arguments ≡ arguments_of mode → Decides bytes mode status → Accepts arguments bytes status
accepts_of arguments mode bytes status named (inl (zero, taken, not_refused)) =
    record {
      returns = (λ _. (mode, named, taken), λ _. zero);
      refuses_arguments = (λ two. absurd (omega (arith, zero, two)), λ bad. absurd (bad (mode, named)));
      refuses = (λ three. absurd (omega (arith, zero, three)), λ r. absurd (not_refused (subst (λ n. Refuses n bytes) (one_mode r.0 mode (sym r.1 ∙ named)) r.2)));
    }
accepts_of arguments mode bytes status named (inr (three, not_taken, refuses)) =
    record {
      returns = (λ zero. absurd (omega (arith, zero, three)), λ t. absurd (not_taken (subst (λ n. Takes n bytes) (one_mode t.0 mode (sym t.1 ∙ named)) t.2)));
      refuses_arguments = (λ two. absurd (omega (arith, three, two)), λ bad. absurd (bad (mode, named)));
      refuses = (λ _. (mode, named, refuses), λ _. three);
    }

pub expected_accepts : {arguments : List (List ℕ)} {bytes : List ℕ} {answer : Answer} → Expected arguments bytes answer → Accepts arguments bytes answer.status
expected_accepts (bad_arguments bad) =
    record {
      returns = (λ e. absurd (omega (arith, e)), λ p. absurd (bad (p.0, p.1)));
      refuses_arguments = (λ _. bad, λ _. refl);
      refuses = (λ e. absurd (omega (arith, e)), λ p. absurd (bad (p.0, p.1)));
    }
expected_accepts {arguments} {bytes} {answer} (of_mode mode is a) = accepts_of arguments mode bytes answer.status is (decides bytes mode answer a)
