-- The first broken rule so far.
use Rattle.std.specs.Prelude.{Bool, if◌then◌else◌, Option, Some, None}
use Rattle.hipe_terms.specs.declared.place.Place.{Place}
use Rattle.core_ast.specs.declared.rule.Rule.{Rule}
use Rattle.core_ast.specs.declared.rule.Broken.{Broken}
use Rattle.core_ast.specs.First.{broken_at, is_sooner, noted}

-- whether the rule, broken at this place, would be answered before the first that is known
abbrev pub is_wanted : Rule → Place → Option Broken → Bool
is_wanted r p None = Bool.true
is_wanted r p (Some known) = is_sooner (broken_at r p) known

-- the first, where the rule is broken unless the test holds
abbrev pub noted_unless : Bool → Rule → Place → Option Broken → Option Broken
noted_unless holds r p first = if holds then first else noted (broken_at r p) first
