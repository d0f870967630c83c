-- The numbers of terminals, as tokens give them: in the range of integers.
use Rattle.std.specs.Prelude.{ℕ, pos, List, [], ◌∷◌, Bool, true, ◌&&◌}
use Rattle.hipe_terms.specs.Range.{is_in_range}
use Rattle.core_grammar.specs.declared.terminal.Kind.{Kind}
use Rattle.core_grammar.specs.declared.terminal.Terminal.{Terminal}

abbrev pub code_points_in_range : List ℕ → Bool
code_points_in_range [] = true
code_points_in_range (c ∷ cs) = is_in_range (pos c) && code_points_in_range cs

abbrev pub kind_in_range : Kind → Bool
kind_in_range (Kind.Natural n) = is_in_range (pos n)
kind_in_range (Kind.Integer n) = is_in_range n
kind_in_range (Kind.Text s) = code_points_in_range s
kind_in_range _ = true

abbrev pub terminals_in_range : List Terminal → Bool
terminals_in_range [] = true
terminals_in_range (t ∷ ts) = kind_in_range t.kind && terminals_in_range ts
