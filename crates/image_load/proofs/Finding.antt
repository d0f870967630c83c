-- The number of an atom by its hash is the one by its place.
use Rattle.std.proofs.Common.{◌≡◌, ◌∙◌, ◌≤◌, ◌+◌, ℕ, suc, Bool, true, false, nat_lt, List, [], ◌∷◌, refl, ap, arith, length}
use Rattle.std.specs.Prelude.{Some, None, bytes_eq, not, cond, if◌then◌else◌}
use Rattle.std.specs.List.{position_or_len}
use Rattle.std.proofs.lemmas.Bool.Decides.{nat_tests}
use Rattle.image_link.specs.Atoms.{Atoms, number_of}
use Rattle.heap_terms.specs.Building.{same_atom}
use Rattle.heap_terms.specs.Building.{number_of as place_of}

same_texts : (a b : List ℕ) → bytes_eq a b ≡ same_atom a b
same_texts [] [] = refl
same_texts [] (d ∷ b) = refl
same_texts (c ∷ a) [] = refl
same_texts (c ∷ a) (d ∷ b) = grind (arith, nat_tests, same_texts a b)

step : (p : Bool) (m n : ℕ) → m ≡ n → cond (not p) (1 + m) 0 ≡ (if p then 0 else suc n)
step true m n e = refl
step false m n e = omega arith

first_place : (a : List ℕ) (atoms : Atoms) → position_or_len (bytes_eq a) atoms ≡ place_of atoms a
first_place a [] = refl
first_place a (b ∷ bs) =
    step (bytes_eq a b) _ _ (first_place a bs)
    ∙ ap (λ p. if p then 0 else suc (place_of bs a)) (same_texts a b)

within : (p : Bool) (n m : ℕ) → n ≤ m → (if p then 0 else suc n) ≤ suc m
within true n m h = omega arith
within false n m h = omega arith

place_within : (a : List ℕ) (atoms : Atoms) → place_of atoms a ≤ length atoms
place_within a [] = omega arith
place_within a (b ∷ bs) = within (same_atom a b) _ _ (place_within a bs)

some_place : (p : Bool) (k n : ℕ) → cond p (Some k) None ≡ Some n → n ≡ k
some_place true k n e = cc
some_place false k n e = cc

no_place : (k l : ℕ) (p : Bool) → nat_lt k l ≡ p → cond p (Some k) None ≡ None → l ≤ k
no_place k l true t e = cc
no_place k l false t e = grind (arith, nat_tests)

pub found_number : (a : List ℕ) (atoms : Atoms) (n : ℕ) → number_of a atoms ≡ Some n → n ≡ place_of atoms a
found_number a atoms n e = some_place _ _ n e ∙ first_place a atoms

pub no_number : (a : List ℕ) (atoms : Atoms) → number_of a atoms ≡ None → length atoms ≡ place_of atoms a
no_number a atoms e =
    let far : length atoms ≤ position_or_len (bytes_eq a) atoms = no_place _ _ _ refl e in
    omega (arith, far, first_place a atoms, place_within a atoms)

pub ruleset numbers = (found_number, no_number)
