-- A module has one sum or one first part that isn't of the form.
use Rattle.std.proofs.Common.{◌≡◌, List, map, Option, Some, None, refl, sym, ap, ◌∙◌}
use Rattle.hipe_terms.specs.declared.place.Place.{Place}
use Rattle.core_ast.specs.Trees.{Definitions, no_definition, and_definition, Module}
use Rattle.core_ast.specs.Part.{Part}
use Rattle.core_ast.specs.Parts.{parts_of_module}
use Rattle.core_sum.specs.declared.sum.Sum.{Sum}
use Rattle.core_sum.specs.Form.{IsSumModule, IsUnbuilt, function, expression, IsFirst, here, behind, IsFirstUnbuilt}
use Rattle.core_sum.specs.Made.{sum_in}
use Rattle.core_sum.proofs.Forms.{there}
use Rattle.core_sum.proofs.Modules.{none_unbuilt}

abbrev body_of : Definitions → Option Sum
body_of no_definition = None
body_of (and_definition p f q xs body ds) = sum_in body

some : {a b : Sum} → Some a ≡ Some b → a ≡ b
some h = cc

pub one_sum : (m : Module) (d e : Sum) → IsSumModule m d → IsSumModule m e → d ≡ e
one_sum m d e a b =
    some (sym (there a.body d a.made) ∙ ap body_of (sym a.only ∙ b.only) ∙ there b.body e b.made)

one_spot : (x : Part) (p q : Place) → IsUnbuilt x p → IsUnbuilt x q → p ≡ q
one_spot _ _ _ (function d h) (function _ k) = refl
one_spot _ _ _ (expression e h) (expression _ k) = refl

one_first : (xs : List Part) (p q : Place) → IsFirst xs p → IsFirst xs q → p ≡ q
one_first _ p q (here {x = x} u) (here v) = one_spot x p q u v
one_first _ p q (here u) (behind kept f) = absurd (kept p u)
one_first _ p q (behind kept f) (here v) = absurd (kept q v)
one_first _ p q (behind {xs = xs} kept f) (behind other g) = one_first xs p q f g

pub one_place : (m : Module) (p q : Place) → IsFirstUnbuilt m p → IsFirstUnbuilt m q → p ≡ q
one_place m p q f g = one_first (map (λ x. x.0) (parts_of_module m)) p q f g

pub not_both : (m : Module) (e : Sum) (p : Place) → IsSumModule m e → IsFirstUnbuilt m p → ⊥
not_both m e p is f = none_unbuilt m e is p f
