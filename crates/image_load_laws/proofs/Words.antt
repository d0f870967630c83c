-- The words with which a run begins.
use Rattle.std.proofs.Common.{◌≡◌, ◌∙◌, ℕ, zero, suc, ◌-◌, ◌<◌, ◌≤◌, Bool, true, false, List, [], ◌∷◌, ◌++◌, refl, ap, subst, arith, length, length-append, length-drop, get_or, take, drop}
use Rattle.std.specs.Prelude.{Some, nat_lt, slice_get, if◌then◌else◌}
use Rattle.std.proofs.lemmas.Bool.Decides.{nat_tests}
use Rattle.std.proofs.lemmas.List.{get_or-drop}
use Rattle.hipe_terms.specs.Terms.{Term}
use Rattle.heap_terms.specs.Shapes.{Symbols}
use Rattle.heap_terms.specs.Standing.{StandsIn}
use Rattle.heap_terms_laws.specs.Constants.{EachStands}
use Rattle.image_load.specs.Loading.{first_four, beginning_with}
use Rattle.image_load_laws.specs.Arguments.{argument_word}

-- ---- lists

prefix_read : (xs ys : List ℕ) (i : ℕ) → i < length xs → get_or (xs ++ ys) i 0 ≡ get_or xs i 0
prefix_read [] ys i lower = absurd (omega arith)
prefix_read (x ∷ xs) ys zero lower = refl
prefix_read (x ∷ xs) ys (suc i) lower = prefix_read xs ys i (omega arith)

prefix_taken : (xs ys : List ℕ) → take (length xs) (xs ++ ys) ≡ xs
prefix_taken [] ys = refl
prefix_taken (x ∷ xs) ys = ap (λ zs. x ∷ zs) (prefix_taken xs ys)

-- the words of the heap in which a prefix was replaced
pub heap_prefix : (words heap : List ℕ) → take (length words) (beginning_with words heap) ≡ words
heap_prefix words heap = prefix_taken words (drop (length words) heap)

pub heap_size : (words heap : List ℕ) → length words ≤ length heap → length (beginning_with words heap) ≡ length heap
heap_size words heap fits = omega (arith, length-append words (drop (length words) heap), length-drop (length words) heap)

-- ---- arguments

in_registers : (words area : List ℕ) (i : ℕ) → i < 4 → get_or (first_four words) i 0 ≡ get_or words i 0
in_registers words area zero h = refl
in_registers words area (suc zero) h = refl
in_registers words area (suc (suc zero)) h = refl
in_registers words area (suc (suc (suc zero))) h = refl
in_registers words area (suc (suc (suc (suc i)))) h = absurd (omega arith)

in_area : (words area : List ℕ) (i : ℕ) → 4 ≤ i → i < length words → get_or (beginning_with (drop 4 words) area) (i - 4) 0 ≡ get_or words i 0
in_area words area i from lower =
    prefix_read (drop 4 words) (drop (length (drop 4 words)) area) (i - 4) (omega (arith, length-drop 4 words))
    ∙ get_or-drop 4 words (i - 4) 0
    ∙ ap (λ k. get_or words k 0) (omega arith)

below : (i : ℕ) → nat_lt i 4 ≡ true → i < 4
below i e = grind (arith, nat_tests)

from : (i : ℕ) → nat_lt i 4 ≡ false → 4 ≤ i
from i e = grind (arith, nat_tests)

-- the word of an argument, wherever it is
pub word_is : (words area : List ℕ) (i : ℕ) → i < length words → argument_word (first_four words) (beginning_with (drop 4 words) area) i ≡ get_or words i 0
word_is words area i lower = at (nat_lt i 4) refl
  where
    at : (b : Bool) → nat_lt i 4 ≡ b → (if nat_lt i 4 then get_or (first_four words) i 0 else get_or (beginning_with (drop 4 words) area) (i - 4) 0) ≡ get_or words i 0
    at true e = ap (λ b. if b then get_or (first_four words) i 0 else get_or (beginning_with (drop 4 words) area) (i - 4) 0) e ∙ in_registers words area i (below i e)
    at false e = ap (λ b. if b then get_or (first_four words) i 0 else get_or (beginning_with (drop 4 words) area) (i - 4) 0) e ∙ in_area words area i (from i e) lower

-- each of several words that stand for terms stands for its own
pub each_at : (symbols : Symbols) (begin : ℕ) (words : List ℕ) (n : ℕ) (ts : List Term) (ws : List ℕ) (i : ℕ) (t : Term) → EachStands symbols begin words n ts ws → slice_get ts i ≡ Some t
    → (i < length ws) × StandsIn symbols begin words n t (get_or ws i 0)
each_at symbols begin words n [] [] i t each e = absurd (cc)
each_at symbols begin words n [] (w ∷ ws) i t each e = absurd each
each_at symbols begin words n (u ∷ us) [] i t each e = absurd each
each_at symbols begin words n (u ∷ us) (w ∷ ws) zero t each e =
    let same : u ≡ t = cc in
    (omega arith, subst (λ v. StandsIn symbols begin words n v w) same each.0)
each_at symbols begin words n (u ∷ us) (w ∷ ws) (suc i) t each e =
    let rest = each_at symbols begin words n us ws i t each.1 e in
    (omega arith, rest.1)
