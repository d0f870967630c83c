-- How many words are built.
use Rattle.std.proofs.Common.{◌≡◌, ℕ, suc, ◌+◌, ◌*◌, List, [], ◌∷◌, length, map, sum, refl, sym, ap, ◌∙◌, subst, arith}
use Rattle.std.proofs.lemmas.List.{length-append}
use Rattle.std.proofs.lemmas.List.Sums.{sum_by-cons}
use Rattle.hipe_terms.specs.declared.constant.Constant.{Constant, roll-Constant}
use Rattle.hipe_terms.specs.declared.constant.Constant.TheOpen.{Constant-F}
use Rattle.hipe_terms.specs.declared.constant.Constant.TheFolds.{ind-Constant, map-Constant, fold-roll-Constant}
use Rattle.hipe_terms.specs.Words.{words_at, words_of}
use Rattle.heap_terms.specs.declared.tags.TheConstants.{HEADER_SCALE}
use Rattle.heap_terms.specs.Building.{Built, Builds, built, built_at, all_built, cells_built}
use Rattle.heap_terms_laws.specs.Constants.{BuiltTakes}
use Rattle.heap_terms_laws.proofs.Built.{built_made}

words_made : (form : Constant-F Constant) → words_of (roll-Constant form) ≡ words_at (map-Constant Constant ℕ words_of form)
unfolding words_of
words_made form = fold-roll-Constant ℕ words_at form

cells_many : (begin : ℕ) (ws : List ℕ) (tail : Built) → length (cells_built begin ws tail).1 ≡ length tail.1 + 2 * length ws
cells_many begin [] tail = omega arith
cells_many begin (w ∷ ws) tail =
    let rest : Built = cells_built begin ws tail in
    omega (arith, cells_many begin ws tail, length-append rest.1 (w ∷ rest.0 ∷ []))

module _ (begin : ℕ) (atoms : List (List ℕ)) where
  abbrev Claim : Constant → Type 0
  Claim c = (used : List ℕ) → length (built c begin atoms used).1 ≡ length used + words_of c

  abbrev Claimed : Type 0
  Claimed = (c : Constant) × Claim c

  abbrev firsts : List Claimed → List Constant
  firsts cs = map (λ c. c.0) cs

  all_many : (cs : List Claimed) (used : List ℕ) → (length (all_built (map built (firsts cs)) begin atoms used).1 ≡ length used + sum (map words_of (firsts cs)))
      × (length (all_built (map built (firsts cs)) begin atoms used).0 ≡ length (map words_of (firsts cs)))
  all_many [] used = (omega arith, refl)
  all_many (c ∷ cs) used =
      let first : Built = built c.0 begin atoms used in
      let others : List ℕ × List ℕ = all_built (map built (firsts cs)) begin atoms first.1 in
      let rest : (length others.1 ≡ length first.1 + sum (map words_of (firsts cs))) × (length others.0 ≡ length (map words_of (firsts cs))) = all_many cs first.1 in
      let all : sum (map words_of (firsts (c ∷ cs))) ≡ words_of c.0 + sum (map words_of (firsts cs)) = sum_by-cons (λ n. n) (words_of c.0) (map words_of (firsts cs)) in
      (omega (arith, rest.0, c.1 used, all), ap suc rest.1)

  abbrev plain : Constant-F Claimed → Constant-F Constant
  plain y = map-Constant Claimed Constant (λ c. c.0) y

  level_many : (y : Constant-F Claimed) (used : List ℕ) → length (built_at (map-Constant Constant Builds built (plain y)) begin atoms used).1 ≡ length used + words_at (map-Constant Constant ℕ words_of (plain y))
  level_many (Constant-F.Int n) used = omega arith
  level_many (Constant-F.Atom a) used = omega arith
  level_many Constant-F.Nil used = omega arith
  level_many (Constant-F.List cs d) used =
      let parts : List ℕ × List ℕ = all_built (map built (firsts cs)) begin atoms used in
      let many : (length parts.1 ≡ length used + sum (map words_of (firsts cs))) × (length parts.0 ≡ length (map words_of (firsts cs))) = all_many cs used in
      omega (arith, many.0, many.1, d.1 parts.1, cells_many begin parts.0 (built d.0 begin atoms parts.1))
  level_many (Constant-F.Tuple cs) used =
      let parts : List ℕ × List ℕ = all_built (map built (firsts cs)) begin atoms used in
      let many : (length parts.1 ≡ length used + sum (map words_of (firsts cs))) × (length parts.0 ≡ length (map words_of (firsts cs))) = all_many cs used in
      omega (arith, many.0, many.1, length-append parts.1 ((HEADER_SCALE * length parts.0) ∷ parts.0))

  step : (y : Constant-F Claimed) → Claim (roll-Constant (plain y))
  step y used =
      ap (λ b. length (b begin atoms used).1) (built_made (plain y)) ∙ level_many y used ∙ ap (λ n. length used + n) (sym (words_made (plain y)))

  takes : (c : Constant) → Claim c
  takes = ind-Constant Claim (λ x y is. subst (λ z. Claim (roll-Constant z)) is (step y))

pub built_takes : BuiltTakes
built_takes begin atoms c used = takes begin atoms c used
