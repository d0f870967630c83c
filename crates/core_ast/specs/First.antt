-- The first of some broken rules, one after another.
use Rattle.std.specs.Prelude.{◌==◌, nat_lt, Bool, ◌&&◌, ◌||◌, if◌then◌else◌, List, [], ◌∷◌, Option, Some, None}
use Rattle.hipe_terms.specs.declared.place.Place.{Place}
use Rattle.core_ast.specs.declared.rule.Rule.{Rule}
use Rattle.core_ast.specs.declared.rule.Broken.{Broken}
use Rattle.core_ast.specs.Rules.{rank}

abbrev pub broken_at : Rule → Place → Broken
broken_at r p = record { rule = r; at = p }

-- whether a is answered before b: by the place, and at one place by the order of the rules
abbrev pub is_sooner : (a b : Broken) → Bool
is_sooner a b = nat_lt a.at.line b.at.line || (a.at.line == b.at.line && (nat_lt a.at.col b.at.col || (a.at.col == b.at.col && nat_lt (rank a.rule) (rank b.rule))))

-- the first, once b is known too
abbrev pub noted : Broken → Option Broken → Option Broken
noted b None = Some b
noted b (Some a) = if is_sooner b a then Some b else Some a

-- the first, once these are known too
abbrev pub noted_all : List Broken → Option Broken → Option Broken
noted_all [] first = first
noted_all (b ∷ bs) first = noted_all bs (noted b first)
