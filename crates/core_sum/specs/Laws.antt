-- What holds of the sums of modules.
use Rattle.std.specs.Prelude.{◌≡◌}
use Rattle.hipe_terms.specs.declared.place.Place.{Place}
use Rattle.core_ast.specs.Trees.{Module}
use Rattle.core_sum.specs.declared.sum.Sum.{Sum}
use Rattle.core_sum.specs.Form.{IsSumModule, IsFirstUnbuilt}

-- a module has at most one sum, at most one first part that isn't of the form, and not both
pub record SumsAreUnique : Type 0 where
  pub one_sum : (m : Module) (d e : Sum) → IsSumModule m d → IsSumModule m e → d ≡ e
  pub one_place : (m : Module) (p q : Place) → IsFirstUnbuilt m p → IsFirstUnbuilt m q → p ≡ q
  pub not_both : (m : Module) (e : Sum) (p : Place) → IsSumModule m e → ¬ IsFirstUnbuilt m p
