-- The name 'main', and the number of an atom in a table.
use Rattle.std.proofs.Common.{◌≡◌, ℕ, suc, ◌+◌, Bool, true, false, cond, not, List, [], ◌∷◌, ◌++◌, get_or, bytes_eq, refl, sym, ap, ◌∙◌, arith}
use Rattle.std.specs.Prelude.{◌||◌, if◌then◌else◌, codes}
use Rattle.std.specs.Str.{chars}
use Rattle.std.specs.List.{list_any}
use Rattle.std.proofs.lemmas.Slice.Eq.{bytes_eq-Decides}
use Rattle.image_link.specs.Atoms.{Atoms, interned, number_in}

interned_behind : (b : Bool) (x a : List ℕ) (xs : Atoms) → (if b then x ∷ xs else (x ∷ xs) ++ a ∷ []) ≡ x ∷ (if b then xs else xs ++ a ∷ [])
interned_behind true x a xs = refl
interned_behind false x a xs = refl

-- one atom of a table, where the test says whether it is the one
named_behind : (a x : List ℕ) (xs : Atoms) (same : Bool) → bytes_eq a x ≡ same → get_or (interned a xs) (number_in a xs) [] ≡ a
    → get_or (if same || list_any (bytes_eq a) xs then x ∷ xs else (x ∷ xs) ++ a ∷ []) (cond (not same) (1 + number_in a xs) 0) [] ≡ a
named_behind a x xs true e there = sym ((bytes_eq-Decides a x).0 e)
named_behind a x xs false e there =
    let next : 1 + number_in a xs ≡ suc (number_in a xs) = omega arith in
    ap (λ ys. get_or ys (1 + number_in a xs) []) (interned_behind (list_any (bytes_eq a) xs) x a xs) ∙ ap (λ n. get_or (x ∷ interned a xs) n []) next ∙ there

-- once an atom is interned, it stands at its number
pub named : (a : List ℕ) (atoms : Atoms) → get_or (interned a atoms) (number_in a atoms) [] ≡ a
named a [] = refl
named a (x ∷ xs) = named_behind a x xs (bytes_eq a x) refl (named a xs)

-- the code points of the name 'main'
pub chars_of_main : chars (codes "main") ≡ codes "main"
unfolding chars
chars_of_main = refl
