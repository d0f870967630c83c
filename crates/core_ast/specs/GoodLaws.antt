-- What holds of good modules, of the first broken rule, and of the nodes of parts.
use Rattle.std.specs.Prelude.{◌≡◌, ◌≤◌, ◌↔◌, Contains}
use Rattle.hipe_terms.specs.declared.place.Place.{Place}
use Rattle.core_ast.specs.declared.rule.Rule.{Rule}
use Rattle.core_ast.specs.Trees.{Expression, Module}
use Rattle.core_ast.specs.Nodes.{expression_nodes}
use Rattle.core_ast.specs.Names.{Names}
use Rattle.core_ast.specs.Part.{Part}
use Rattle.core_ast.specs.Parts.{parts}
use Rattle.core_ast.specs.Good.{IsBroken, IsGood, IsFirstBroken}

-- a rule is broken somewhere if and only if the module isn't good
abbrev pub BrokenWhereNotGood : Type 0
BrokenWhereNotGood = (m : Module) → ((r : Rule) × (p : Place) × IsBroken m r p) ↔ ¬ IsGood m

-- where the module isn't good, there is a first broken rule
abbrev pub SomeRuleIsFirst : Type 0
SomeRuleIsFirst = (m : Module) → ¬ IsGood m → (r : Rule) × (p : Place) × IsFirstBroken m r p

-- there is at most one
abbrev pub OneRuleIsFirst : Type 0
OneRuleIsFirst = (m : Module) (r s : Rule) (p q : Place) → IsFirstBroken m r p → IsFirstBroken m s q → (r ≡ s) × (p ≡ q)

-- no part of an expression has more nodes than the whole
abbrev pub PartsHaveNoMoreNodes : Type 0
PartsHaveNoMoreNodes = (s t : Names) (e part : Expression) → Contains (parts s e) (Part.Expression part, t) → expression_nodes part ≤ expression_nodes e
