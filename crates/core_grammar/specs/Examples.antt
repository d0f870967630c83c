-- A module by hand: module 'm' ['main'/0] attributes [] 'main'/0 = fun () -> 42 end
use Rattle.std.specs.Prelude.{ℕ, pos, List, [], ◌∷◌}
use Rattle.hipe_terms.specs.declared.place.Place.{Place}
use Rattle.core_ast.specs.declared.tree.Module.{Module}
use Rattle.core_ast.specs.declared.tree.Node.TheOpen.{Node-F}
use Rattle.core_grammar.specs.declared.terminal.Kind.{Kind}
use Rattle.core_grammar.specs.declared.terminal.Mark.{Mark}
use Rattle.core_grammar.specs.declared.terminal.Terminal.{Terminal}
use Rattle.core_grammar.specs.Leave.{token, mark}
use Rattle.core_grammar.specs.Trees.{name_of, expression_at, fun_at, definition_at}
use Rattle.core_grammar.specs.Grammar.{module_at}
use Rattle.core_grammar.specs.Language.{Derives, limit}

-- a column of the first line
abbrev pub at : ℕ → Place
at column = record { line = 1; col = column }

-- main
abbrev pub main_name : List ℕ
main_name = 109 ∷ 97 ∷ 105 ∷ 110 ∷ []

abbrev pub one_line : List Terminal
one_line =
    mark Mark.Module (at 1) ∷ token (Kind.Atom (109 ∷ [])) (at 8)
    ∷ mark Mark.OpenSquare (at 12) ∷ token (Kind.Atom main_name) (at 14) ∷ mark Mark.Slash (at 20) ∷ token (Kind.Natural 0) (at 21) ∷ mark Mark.CloseSquare (at 22)
    ∷ mark Mark.Attributes (at 24) ∷ mark Mark.OpenSquare (at 35) ∷ mark Mark.CloseSquare (at 36)
    ∷ token (Kind.Atom main_name) (at 38) ∷ mark Mark.Slash (at 44) ∷ token (Kind.Natural 0) (at 45) ∷ mark Mark.Equals (at 47)
    ∷ mark Mark.Fun (at 49) ∷ mark Mark.OpenRound (at 53) ∷ mark Mark.CloseRound (at 54) ∷ mark Mark.Arrow (at 56) ∷ token (Kind.Natural 42) (at 60)
    ∷ mark Mark.End (at 63) ∷ []

abbrev pub one_module : Module
one_module =
    let main = name_of main_name 0 in
    module_at (109 ∷ []) ((main, at 14) ∷ []) [] (definition_at (at 38) main (fun_at (at 49) [] (expression_at (at 60) (Node-F.Int (pos 42)))) ∷ [])

-- its list of terminals is derived as it, with no level above 2
abbrev pub OneLine : Type 0
OneLine = Derives (limit 2) one_line one_module
