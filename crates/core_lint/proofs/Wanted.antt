-- What isn't looked for, since it is behind the first broken rule.
use Rattle.std.proofs.Common.{◌≡◌, ℕ, zero, suc, ◌<◌, Bool, true, false, not, cond, ◌||◌, List, [], ◌∷◌, length, map, drop, slice_index_or, Option, Some, None, arith, refl, ap, sym, ◌∙◌}
use Rattle.std.specs.List.{list_any}
use Rattle.hipe_terms.specs.declared.place.Place.{Place}
use Rattle.core_ast.specs.declared.rule.Rule.{Rule}
use Rattle.core_ast.specs.declared.rule.Broken.{Broken}
use Rattle.core_ast.specs.First.{broken_at}
use Rattle.core_lint.specs.declared.name.Bound.{Bound}
use Rattle.core_lint.specs.Keys.{Key, key_of, same_key}
use Rattle.core_lint.specs.Entries.{entry_of, is_some_wanted, repeats}
use Rattle.core_lint.specs.Noted.{is_wanted, noted_unless}

-- what isn't wanted changes nothing
pub unwanted : (holds : Bool) (r : Rule) (p : Place) (first : Option Broken) → is_wanted r p first ≡ false → noted_unless holds r p first ≡ first
unwanted true r p first e = refl
unwanted false r p None e = absurd (cc)
unwanted false r p (Some known) e = ap (λ b. cond b (Some (broken_at r p)) (Some known)) e

neither : (a b : Bool) → (a || b) ≡ false → (a ≡ false) × (b ≡ false)
neither false b e = (refl, e)
neither true b e = absurd (cc)

-- names of which none is wanted
pub none_wanted : (r : Rule) (seen : List Key) (list : List Bound) (first : Option Broken) → is_some_wanted r list first ≡ false → repeats r seen (map entry_of list) first ≡ first
none_wanted r seen [] first h = refl
none_wanted r seen (b ∷ bs) first h =
    let e = neither (is_wanted r b.at first) (is_some_wanted r bs first) h in
    ap (λ f. repeats r (key_of b.name ∷ seen) (map entry_of bs) f) (unwanted (not (list_any (λ k. same_key (key_of b.name) k) seen)) r b.at first e.0) ∙ none_wanted r (key_of b.name ∷ seen) bs first e.1

-- one that is wanted, behind those that were looked at
pub wanted_here : (r : Rule) (list : List Bound) (first : Option Broken) (i : ℕ) (b : Bound) → i < length list → {w : Bool} → w ≡ is_wanted r (slice_index_or list i b).at first → true ≡ w → is_some_wanted r (drop i list) first ≡ true
wanted_here r [] first i b h is e = absurd (omega arith)
wanted_here r (a ∷ list) first zero b h is e = ap (λ x. x || is_some_wanted r list first) (sym (e ∙ is))
wanted_here r (a ∷ list) first (suc i) b h is e = wanted_here r list first i b (omega arith) is e

-- a single name is no repetition
pub single : (r : Rule) (list : List Bound) (first : Option Broken) → length list < 2 → repeats r [] (map entry_of list) first ≡ first
single r [] first h = refl
single r (b ∷ []) first h = refl
single r (b ∷ c ∷ bs) first h = absurd (omega arith)

pub ruleset wanted = (unwanted, none_wanted, single)
