-- Cells of lists, as they are put into the heap.
use Rattle.std.proofs.Common.{◌≡◌, ℕ, suc, ◌+◌, ◌-◌, ◌*◌, ◌<◌, ◌≤◌, List, [], ◌∷◌, ◌++◌, length, take, drop, refl, sym, ap, ◌∙◌, append_assoc, length-append, length-drop, get_or, arith}
use Rattle.std.proofs.Math.ListN.{set}
use Rattle.std.proofs.Math.Seq.{drop-cons}
use Rattle.std.proofs.lemmas.List.{take-set-le, drop-set, drop-set-add}
use Rattle.std.proofs.lemmas.Bool.Decides.{nat_tests}
use Rattle.machine_services.specs.Lists.{cells_from}
use Rattle.machine_services.specs.Ends.{list_word}

pub cells_length : (free : ℕ) (ws : List ℕ) (tail : ℕ) → length (cells_from free ws tail).1 ≡ 2 * length ws
cells_length free [] tail = refl
cells_length free (w ∷ ws) tail =
    let r = cells_from free ws tail in
    omega (arith, length-append r.1 (w ∷ r.0 ∷ []), cells_length free ws tail)

word_suc : (free n tail : ℕ) → free + 8 * (2 * n) + 1 ≡ list_word free (suc n) tail
word_suc free n tail = grind (arith, nat_tests)

pub cells_word : (free : ℕ) (ws : List ℕ) (tail : ℕ) → (cells_from free ws tail).0 ≡ list_word free (length ws) tail
cells_word free [] tail = refl
cells_word free (w ∷ ws) tail = ap (λ n. free + 8 * n + 1) (cells_length free ws tail) ∙ word_suc free (length ws) tail

two_set : (heap : List ℕ) (k w x : ℕ) → k + 1 < length heap → drop k (set (set heap k w) (k + 1) x) ≡ w ∷ x ∷ drop (k + 2) heap
two_set heap k w x h =
    let first : k < length heap = omega arith in
    let two : suc (k + 1) ≡ k + 2 = omega arith in
    drop-set-add k (set heap k w) 1 x
    ∙ ap (λ l. set l 1 x) (drop-set heap k w first)
    ∙ ap (λ l. w ∷ set l 0 x) (drop-cons heap (k + 1) 0 h)
    ∙ ap (λ n. w ∷ x ∷ drop n heap) two

joined : (prefix cells rest : List ℕ) (w x y : ℕ) → x ≡ y → prefix ++ cells ++ (w ∷ x ∷ rest) ≡ prefix ++ (cells ++ w ∷ y ∷ []) ++ rest
joined prefix cells rest w x y e = ap (λ z. prefix ++ cells ++ (w ∷ z ∷ rest)) e ∙ simp append_assoc

-- the next cell, below those that were put
pub cell_put : (heap : List ℕ) (at m free w : ℕ) (ws : List ℕ) (tail x : ℕ) → at ≤ m → m + 1 < length heap → x ≡ (cells_from free ws tail).0
    → take at (set (set heap m w) (m + 1) x) ++ (cells_from free ws tail).1 ++ drop m (set (set heap m w) (m + 1) x)
    ≡ take at heap ++ (cells_from free (w ∷ ws) tail).1 ++ drop (m + 2) heap
cell_put heap at m free w ws tail x g h e =
    let r = cells_from free ws tail in
    let after : List ℕ = set (set heap m w) (m + 1) x in
    let kept : take at after ≡ take at heap = take-set-le at (set heap m w) (m + 1) x (omega arith) ∙ take-set-le at heap m w g in
    ap (λ l. l ++ r.1 ++ drop m after) kept
    ∙ ap (λ l. take at heap ++ r.1 ++ l) (two_set heap m w x h)
    ∙ joined (take at heap) r.1 (drop (m + 2) heap) w x r.0 e

rest_length : (elements : List ℕ) (left i : ℕ) → left + i ≡ length elements → i < length elements → length (drop (i + 1) elements) ≡ left - 1
rest_length elements left i e h = omega (arith, length-drop (i + 1) elements)

-- a step of the loop that puts them
pub cell_step : (heap elements : List ℕ) (at left i free tail x : ℕ) → left + i ≡ length elements → i < length elements → at + 2 * left ≤ length heap
    → x ≡ list_word free (left - 1) tail
    → take at (set (set heap (at + 2 * (left - 1)) (get_or elements i 0)) (at + 2 * (left - 1) + 1) x) ++ (cells_from free (drop (i + 1) elements) tail).1
    ++ drop (at + 2 * (left - 1)) (set (set heap (at + 2 * (left - 1)) (get_or elements i 0)) (at + 2 * (left - 1) + 1) x)
    ≡ take at heap ++ (cells_from free (drop i elements) tail).1 ++ drop (at + 2 * left) heap
cell_step heap elements at left i free tail x e h room w =
    let rest : List ℕ = drop (i + 1) elements in
    let two : at + 2 * (left - 1) + 2 ≡ at + 2 * left = omega arith in
    let one : i + 1 ≡ suc i = omega arith in
    cell_put heap at (at + 2 * (left - 1)) free (get_or elements i 0) rest tail x (omega arith) (omega arith)
    (w ∙ ap (λ n. list_word free n tail) (sym (rest_length elements left i e h)) ∙ sym (cells_word free rest tail))
    ∙ ap (λ n. take at heap ++ (cells_from free (get_or elements i 0 ∷ rest) tail).1 ++ drop n heap) two
    ∙ ap (λ l. take at heap ++ (cells_from free l tail).1 ++ drop (at + 2 * left) heap) (ap (λ n. get_or elements i 0 ∷ drop n elements) one ∙ sym (drop-cons elements i 0 h))
