-- A run over the tokens of a text from one of them on.
use Rattle.std.proofs.Common.{◌≡◌, ℕ, ◌+◌, ◌<◌, List, ◌∷◌, All, Err, length, get_or, drop, ap, sym, ◌∙◌, subst}
use Rattle.std.proofs.lemmas.List.{at_drop_more}
use Rattle.std.proofs.lemmas.List.Elements.{All-tail}
use Rattle.hipe_terms.specs.declared.place.Place.{Place}
use Rattle.core_token.specs.declared.token.Token.{Token}
use Rattle.core_token.specs.Text.{StandsIn}
use Rattle.core_grammar.specs.declared.terminal.Terminal.{Terminal}
use Rattle.core_grammar.specs.Language.{limit}
use Rattle.core_parser.specs.Values.{Values}
use Rattle.core_parser.specs.Machine.{Symbols, Answer, run}
use Rattle.core_parser_steps.specs.declared.refusal.Refusal.{Refusal}
use Rattle.core_parser_steps.specs.Runs.{Stepped}
use Rattle.core_reader.specs.Terminals.{terminal_of, terminals_of}
use Rattle.core_reader.specs.Reading.{AnswersRun}

module _ (n : ℕ) (z : Place) (s : List ℕ) (ts : List Token) (i : ℕ) (d : Token) where
  -- the terminal comes next
  next : (ss : Symbols) (vs : Values) (a : Terminal) → i < length ts → a ≡ terminal_of s (get_or ts i d) → run (limit n) z ss vs (terminals_of s (drop i ts)) ≡ run (limit n) z ss vs (a ∷ terminals_of s (drop (i + 1) ts))
  next ss vs a lt e =
      at_drop_more (λ us. run (limit n) z ss vs (terminals_of s us)) ts i d lt
      ∙ ap (λ b. run (limit n) z ss vs (b ∷ terminals_of s (drop (i + 1) ts))) (sym e)

  pub advanced : (ss : Symbols) (vs : Values) (ss' : Symbols) (vs' : Values) (a : Terminal) → i < length ts → a ≡ terminal_of s (get_or ts i d) → ((y : Place) (us : List Terminal) → run (limit n) y ss vs (a ∷ us) ≡ run (limit n) y ss' vs' us) → run (limit n) z ss vs (terminals_of s (drop i ts)) ≡ run (limit n) z ss' vs' (terminals_of s (drop (i + 1) ts))
  advanced ss vs ss' vs' a lt e h = next ss vs a lt e ∙ h z (terminals_of s (drop (i + 1) ts))

  pub stopped : (ss : Symbols) (vs : Values) (ss' : Symbols) (vs' : Values) (a : Terminal) (r : Refusal) → i < length ts → a ≡ terminal_of s (get_or ts i d) → Stepped n a ss vs ss' vs' (Err r) → (x : Answer) → run (limit n) z ss vs (terminals_of s (drop i ts)) ≡ x → AnswersRun x (Err r)
  stopped ss vs ss' vs' a (Refusal.At f p) lt e h x is = sym is ∙ next ss vs a lt e ∙ h z (terminals_of s (drop (i + 1) ts))
  stopped ss vs ss' vs' a Refusal.Memory lt e h x is = tt

  pub behind : i < length ts → All (StandsIn s) (drop i ts) → All (StandsIn s) (drop (i + 1) ts)
  behind lt h = All-tail (StandsIn s) (get_or ts i d) (drop (i + 1) ts) (subst (All (StandsIn s)) (at_drop_more (λ us. us) ts i d lt) h)
