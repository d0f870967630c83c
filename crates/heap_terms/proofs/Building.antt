-- The words of constants, by what the constants are made of.
use Rattle.std.proofs.Common.{◌≡◌, ℕ, ℤ, suc, ◌+◌, ◌*◌, true, List, [], ◌∷◌, ◌++◌, length, map, drop, take, refl, sym, ap, ap₂, ◌∙◌, arith, nat_cmp}
use Rattle.std.specs.Cmp.Lexicographic.{slice_cmp}
use Rattle.std.specs.Ordering.{is_eq}
use Rattle.std.proofs.lemmas.Bool.Decides.{nat_tests}
use Rattle.std.proofs.lemmas.Int.{ints, to_z-of_z}
use mir.Val.{SFits, of_z, to_z}
use mir.Syntax.{w64}
use Rattle.hipe_terms.specs.Constants.{IsConstant}
use Rattle.hipe_terms.specs.Range.{is_in_range}
use Rattle.hipe_terms.proofs.Parts.{form_is, level_form}
use Rattle.hipe_terms.specs.declared.constant.Constant.{Constant, out-Constant}
use Rattle.hipe_terms.specs.declared.constant.Constant.TheOpen.{Constant-F}
use Rattle.hipe_terms.specs.declared.constant.Constant.TheFolds.{fold_out-Constant, fold-Constant, map-Constant}
use Rattle.hipe_terms.specs.declared.constant.Constant.TheViews.{the_lemmas}
use Rattle.hipe_terms.proofs.Levels.{words_is}
use Rattle.heap_terms.specs.declared.tags.TheConstants.{NIL_WORD}
use Rattle.heap_terms.specs.Building.{Built, Builds, same_atom, number_of, atom_word, all_built, cell_built, cells_built, tuple_built, list_built, built_at, built}
use Rattle.heap_terms.specs.Integers.{word_of}

abbrev pub level_built : Constant-F Constant → Builds
level_built (Constant-F.Int n) begin atoms used = (word_of n, used)
level_built (Constant-F.Atom a) begin atoms used = (atom_word (number_of atoms a), used)
level_built Constant-F.Nil begin atoms used = (NIL_WORD, used)
level_built (Constant-F.List cs c) begin atoms used = list_built begin atoms (all_built (map built cs) begin atoms used) (built c)
level_built (Constant-F.Tuple cs) begin atoms used = tuple_built begin (all_built (map built cs) begin atoms used)

built_level : (l : Constant-F Constant) → built_at (map-Constant Constant Builds (fold-Constant Builds built_at) l) ≡ level_built l
unfolding built
built_level (Constant-F.Int n) = refl
built_level (Constant-F.Atom a) = refl
built_level Constant-F.Nil = refl
built_level (Constant-F.List cs c) = refl
built_level (Constant-F.Tuple cs) = refl

pub built_is : (c : Constant) (begin : ℕ) (atoms : List (List ℕ)) (used : List ℕ) → built c begin atoms used ≡ level_built (out-Constant c) begin atoms used
unfolding built
built_is c begin atoms used = ap (λ b. b begin atoms used) (fold_out-Constant Builds built_at c ∙ built_level (out-Constant c))

-- ---- what was there stays a prefix

pub prefix_same : (xs : List ℕ) → take (length xs) xs ≡ xs
prefix_same [] = refl
prefix_same (x ∷ xs) = ap (λ ys. x ∷ ys) (prefix_same xs)

pub prefix_more : (xs ys : List ℕ) → take (length xs) (xs ++ ys) ≡ xs
prefix_more [] ys = refl
prefix_more (x ∷ xs) ys = ap (λ zs. x ∷ zs) (prefix_more xs ys)

pub prefix_then : (xs ys zs : List ℕ) → take (length xs) ys ≡ xs → take (length ys) zs ≡ ys → take (length xs) zs ≡ xs
prefix_then [] ys zs e f = refl
prefix_then (x ∷ xs) [] zs e f = absurd (cc)
prefix_then (x ∷ xs) (y ∷ ys) [] e f = absurd (cc)
prefix_then (x ∷ xs) (y ∷ ys) (z ∷ zs) e f = ap₂ (λ w ws. w ∷ ws) (cc) (prefix_then xs ys zs (cc) (cc))

pub ruleset prefixes = (prefix_same, prefix_more, prefix_then)

pub ruleset building = (the_lemmas, words_is, built_is, prefix_same, prefix_more, prefix_then)

-- ---- integers

-- the integer of a good constant is in the range
pub integer_good : (c : Constant) (n : ℤ) → out-Constant c ≡ Constant-F.Int n → IsConstant c → is_in_range n ≡ true
integer_good c n e g = ap (λ l. (level_form l).good) (sym e) ∙ ap (λ f. f.good) (sym (form_is c)) ∙ g

fits_word : (n : ℤ) → is_in_range n ≡ true → SFits w64 n
fits_word n e = grind (arith, ints)

-- it is the same where it is passed on
pub as_passed : (n : ℤ) → is_in_range n ≡ true → is_in_range (to_z w64 (of_z w64 n)) ≡ true
as_passed n e = ap is_in_range (to_z-of_z w64 n (fits_word n e)) ∙ e

-- ---- cells

pub cells_from : (begin : ℕ) (ws : List ℕ) (tail : Built) (i w : ℕ) → drop i ws ≡ w ∷ drop (suc i) ws → cells_built begin (drop i ws) tail ≡ cell_built begin w (cells_built begin (drop (suc i) ws) tail)
cells_from begin ws tail i w e = ap (λ xs. cells_built begin xs tail) e

pub ruleset cells = (cells_from, prefix_same, prefix_more, prefix_then)

-- ---- atoms that are compared by their order

pub same_order : (a b : List ℕ) → is_eq (slice_cmp nat_cmp a b) ≡ same_atom a b
same_order [] [] = refl
same_order [] (y ∷ b) = refl
same_order (x ∷ a) [] = refl
same_order (x ∷ a) (y ∷ b) = grind (arith, nat_tests, same_order a b)

pub ruleset numbers = (same_order)
