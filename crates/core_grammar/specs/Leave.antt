-- What the productions ask leave for. A level counts how deep a part stands; the parts of a list have a level one greater
-- than the list, its tail has the list's own, and annotations add none.
use Rattle.std.specs.Prelude.{ℕ, ◌+◌, List, [], ◌∷◌, Bool}
use Rattle.hipe_terms.specs.declared.place.Place.{Place}
use Rattle.core_grammar.specs.declared.terminal.Kind.{Kind}
use Rattle.core_grammar.specs.declared.terminal.Mark.{Mark}
use Rattle.core_grammar.specs.declared.terminal.Terminal.{Terminal}

-- Where several parts begin with one terminal, the deepest asks, since the others have lesser levels.
pub data Need : Type 0 where
  -- to begin a part of this level
  part : ℕ → Need
  -- to be a variable as the module or the name of a `call`
  variable_operand : Need
  -- to begin the argument of this number in a call
  argument : ℕ → Need

-- whether the first of these terminals may do so
abbrev pub Leave : Type 0
Leave = Need → List Terminal → Bool

-- the level of the deepest part that begins with a text: its characters, or the text itself where it has none
abbrev pub text_level : ℕ → List ℕ → ℕ
text_level k [] = k
text_level k (c ∷ cs) = k + 1

abbrev pub token : Kind → Place → Terminal
token t p = record { kind = t; at = p }

abbrev pub mark : Mark → Place → Terminal
mark m p = token (Kind.Mark m) p

abbrev pub behind_open : Kind → List Terminal → List Terminal → List Terminal
behind_open (Kind.Mark Mark.OpenRound) ts rest = rest
behind_open _ ts rest = ts

-- the terminals without the `(` of annotations before them
abbrev pub inner : List Terminal → List Terminal
inner [] = []
inner (t ∷ ts) = behind_open t.kind (t ∷ ts) (inner ts)
