-- The elements of a list.
use Rattle.std.specs.Prelude.{◌∷◌}
use Rattle.hipe_terms.specs.declared.place.Place.{Place}
use Rattle.core_grammar.specs.declared.terminal.Kind.{Kind}
use Rattle.core_parser.specs.declared.symbol.Element.{Element}
use Rattle.core_parser.specs.declared.symbol.Maker.{Maker}
use Rattle.core_parser.specs.declared.symbol.Symbol.{Symbol}
use Rattle.core_parser.specs.declared.symbol.Term.{Term}
use Rattle.core_parser.specs.Machine.{Symbols, Move, term, deeper}
use Rattle.core_parser.specs.Values.{Values}

-- an element begins with a terminal, and more of the list follow it
abbrev pub next_element : Term → Kind → Place → Symbols → Values → Move
next_element x t p ss vs = term (deeper x) t p (Symbol.Make (Maker.Push (Element.Term (deeper x))) ∷ Symbol.CellsRest x ∷ ss) vs
