-- How many words several constants are built with.
use Rattle.std.proofs.Common.{◌≡◌, ℕ, ◌+◌, List, [], ◌∷◌, arith, length, map, sum}
use Rattle.std.proofs.lemmas.List.Sums.{sum_by-cons}
use Rattle.hipe_terms.specs.declared.constant.Constant.{Constant}
use Rattle.hipe_terms.specs.Words.{words_of}
use Rattle.heap_terms.specs.Building.{built, all_built}
use Rattle.heap_terms_laws.proofs.Counted.{built_takes}

-- the words of the constants are added to those before
pub all_length : (cs : List Constant) (begin : ℕ) (atoms : List (List ℕ)) (used : List ℕ) → length (all_built (map built cs) begin atoms used).1 ≡ length used + sum (map words_of cs)
all_length [] begin atoms used = omega arith
all_length (c ∷ cs) begin atoms used =
    let whole : sum (map words_of (c ∷ cs)) ≡ words_of c + sum (map words_of cs) = sum_by-cons (λ n. n) (words_of c) (map words_of cs) in
    omega (arith, built_takes begin atoms c used, all_length cs begin atoms (built c begin atoms used).1, whole)
