-- A terminal of a run.
use Rattle.std.specs.Prelude.{◌≡◌, ℕ, List, ◌∷◌, Result, Ok, Err}
use Rattle.hipe_terms.specs.declared.place.Place.{Place}
use Rattle.core_grammar.specs.declared.terminal.Terminal.{Terminal}
use Rattle.core_grammar.specs.Language.{limit}
use Rattle.core_parser.specs.Machine.{Symbols, run}
use Rattle.core_parser.specs.Values.{Values}
use Rattle.core_parser_steps.specs.declared.refusal.Refusal.{Refusal}

-- a run with this terminal goes on with these symbols and values, or ends so; what is said of a run holds of every text's end z and of every rest
abbrev pub Stepped : ℕ → Terminal → Symbols → Values → Symbols → Values → Result (Unit {0}) Refusal → Type 0
Stepped n t ss vs ss' vs' (Ok x) = (z : Place) (ts : List Terminal) → run (limit n) z ss vs (t ∷ ts) ≡ run (limit n) z ss' vs' ts
Stepped n t ss vs ss' vs' (Err (Refusal.At f p)) = (z : Place) (ts : List Terminal) → run (limit n) z ss vs (t ∷ ts) ≡ Err (f, p)
Stepped n t ss vs ss' vs' (Err Refusal.Memory) = Unit {0}
