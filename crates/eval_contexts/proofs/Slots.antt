-- The values in slots, one after another.
use Rattle.std.proofs.Common.{◌≡◌, ℕ, List, [], ◌∷◌, ◌++◌, Option, Some, None, option_map, refl, sym, ap, ◌∙◌, append_assoc, append-nil}
use Rattle.std.specs.Prelude.{slice_get}
use Rattle.hipe_terms.specs.Terms.{Term}
use Rattle.core_meaning.specs.Meaning.{both, values_in}

-- those that were found, and behind them those in the slots that are left
unfoldable pub values_after : List Term → List Term → List ℕ → Option (List Term)
values_after found bound slots = option_map (λ ts. found ++ ts) (values_in bound slots)

both_after : (found : List Term) (t : Term) (o : Option (List Term)) → option_map (λ ts. found ++ ts) (both (Some t) o) ≡ option_map (λ ts. (found ++ t ∷ []) ++ ts) o
both_after found t None = refl
both_after found t (Some ts) = ap Some (sym (append_assoc found (t ∷ []) ts))

pub values_more : (found bound : List Term) (slot : ℕ) (slots : List ℕ) (t : Term) → slice_get bound slot ≡ Some t → values_after found bound (slot ∷ slots) ≡ values_after (found ++ t ∷ []) bound slots
unfolding values_after
values_more found bound slot slots t e = ap (λ o. option_map (λ ts. found ++ ts) (both o (values_in bound slots))) e ∙ both_after found t (values_in bound slots)

pub values_lost : (found bound : List Term) (slot : ℕ) (slots : List ℕ) → slice_get bound slot ≡ None → values_after found bound (slot ∷ slots) ≡ None
unfolding values_after
values_lost found bound slot slots e = ap (λ o. option_map (λ ts. found ++ ts) (both o (values_in bound slots))) e

pub values_done : (found bound : List Term) → values_after found bound [] ≡ Some found
unfolding values_after
values_done found bound = ap Some (append-nil found)

same_values : (o : Option (List Term)) → option_map (λ ts. [] ++ ts) o ≡ o
same_values None = refl
same_values (Some ts) = refl

pub values_first : (bound : List Term) (slots : List ℕ) → values_after [] bound slots ≡ values_in bound slots
unfolding values_after
values_first bound slots = same_values (values_in bound slots)

pub ruleset slots = (values_first, values_done)
