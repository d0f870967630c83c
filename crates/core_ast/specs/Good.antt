-- Good modules: no rule is broken anywhere.
use Rattle.std.specs.Prelude.{◌≡◌, ◌<◌, ◌⊎◌, List, [], Contains}
use Rattle.std.specs.List.{flat_map}
use Rattle.hipe_terms.specs.declared.place.Place.{Place}
use Rattle.core_ast.specs.declared.rule.Rule.{Rule}
use Rattle.core_ast.specs.Trees.{Module}
use Rattle.core_ast.specs.Parts.{parts_of_module}
use Rattle.core_ast.specs.Rules.{broken_by, rank}

-- where a rule is broken in a module
abbrev pub broken_in : Rule → Module → List Place
broken_in r m = flat_map (broken_by r) (parts_of_module m)

abbrev pub IsBroken : Module → Rule → Place → Type 0
IsBroken m r p = Contains (broken_in r m) p

abbrev pub IsGood : Module → Type 0
IsGood m = (r : Rule) → broken_in r m ≡ []

-- p stands before q in the text
abbrev pub IsBefore : (p q : Place) → Type 0
IsBefore p q = (p.line < q.line) ⊎ ((p.line ≡ q.line) × (p.col < q.col))

-- r is the first broken rule: it is broken at p, no rule is broken before p, and none of the earlier rules is broken at p
pub record IsFirstBroken (m : Module) (r : Rule) (p : Place) : Type 0 where
  pub broken : IsBroken m r p
  pub no_place_before : (s : Rule) (q : Place) → IsBroken m s q → ¬ IsBefore q p
  pub no_rule_before : (s : Rule) → IsBroken m s p → ¬ (rank s < rank r)
