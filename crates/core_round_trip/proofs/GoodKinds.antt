-- What tokens can be.
use Rattle.std.specs.Prelude.{◌≡◌, pos, List, [], ◌∷◌, true}
use Rattle.core_grammar.specs.declared.terminal.Kind.{Kind}
use Rattle.core_grammar.specs.declared.terminal.Terminal.{Terminal}
use Rattle.core_grammar.specs.Ranges.{code_points_in_range}
use Rattle.core_round_trip.specs.Fits.{IsInRange, IsAtomName, IsVariableName}

-- what a token can be
abbrev pub IsGoodKind : Kind → Type 0
IsGoodKind (Kind.Atom a) = IsAtomName a
IsGoodKind (Kind.Variable x) = IsVariableName x
IsGoodKind (Kind.Natural n) = IsInRange (pos n)
IsGoodKind (Kind.Integer n) = IsInRange n
IsGoodKind Kind.Float = Unit {0}
IsGoodKind (Kind.Text s) = code_points_in_range s ≡ true
IsGoodKind (Kind.Mark m) = Unit {0}

abbrev pub AreGood : List Terminal → Type 0
AreGood [] = Unit {0}
AreGood (t ∷ ts) = IsGoodKind t.kind × AreGood ts
