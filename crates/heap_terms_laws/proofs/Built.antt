-- The words of constants stand for their terms.
use Rattle.std.proofs.Common.{◌≡◌, ℕ, zero, suc, ◌<◌, ℤ, pos, negsuc, Bool, true, false, nat_eq, ◌&&◌, List, [], ◌∷◌, ◌++◌, length, map, take, Some, slice_get, refl, sym, ap, ap₂, ◌∙◌, subst, arith}
use Rattle.std.specs.Prelude.{Contains, slice_index_or, not}
use Rattle.std.specs.List.{AllByRecursion}
use Rattle.std.proofs.lemmas.Int.{ints}
use Rattle.std.proofs.lemmas.Bool.{eqb-true, eq-eqb, both_ways, false≢true, cond-true, cond_both}
use Rattle.std.proofs.lemmas.List.Elements.{recursion_from_All}
use Rattle.std.proofs.lemmas.List.{length-take}
use Rattle.hipe_terms.specs.declared.constant.Constant.{Constant, roll-Constant, out-roll-Constant}
use Rattle.hipe_terms.specs.declared.constant.Constant.TheOpen.{Constant-F}
use Rattle.hipe_terms.specs.declared.constant.Constant.TheFolds.{ind-Constant, map-Constant, fold-roll-Constant}
use Rattle.hipe_terms.specs.Constants.{form_of, are_all_good, has_parts, IsConstant}
use Rattle.hipe_terms.specs.Range.{is_in_range}
use Rattle.hipe_terms.specs.Terms.{Term, cells, term_of}
use Rattle.hipe_terms.proofs.Levels.{level_term, term_is}
use Rattle.hipe_terms.proofs.Parts.{level_form, form_is, and_first, and_second}
use Rattle.heap_terms.specs.Building.{Built, Builds, built, built_at, all_built, cells_built, tuple_built, same_atom, number_of}
use Rattle.heap_terms.specs.Integers.{IsInteger}
use Rattle.heap_terms.specs.Shapes.{Symbols, heap_begin}
use Rattle.heap_terms.specs.Standing.{StandsIn}
use Rattle.heap_terms_laws.specs.Constants.{joined, atoms_at, atoms_in, HasAtoms, StartsWith, EachStands, BuiltStands, AllBuiltStand}
use Rattle.heap_terms.specs.Terms.{term_at}
use Rattle.heap_terms_laws.proofs.Growing.{prefixes_have_terms}
use Rattle.heap_terms_laws.proofs.Lists.{starts_same, starts_then, starts_longer, stands_on, each_on, tuple_stands, cells_stand}

in_range : (n : ℤ) → is_in_range n ≡ true → IsInteger n
in_range (pos n) e = grind (arith, ints)
in_range (negsuc n) e = grind (arith, ints)

-- ---- atoms by number

same_atoms : (a b : List ℕ) → same_atom a b ≡ true → a ≡ b
same_atoms [] [] e = refl
same_atoms [] (d ∷ b) e = cc
same_atoms (c ∷ a) [] e = cc
same_atoms (c ∷ a) (d ∷ b) e =
    cond_both (nat_eq c d) (same_atom a b) false (λ r. r ≡ true → c ∷ a ≡ d ∷ b) (λ p q. ap₂ (λ x xs. x ∷ xs) (eqb-true c d p) (same_atoms a b q)) (λ p q. absurd (false≢true q)) e

same_self : (a : List ℕ) → same_atom a a ≡ true
same_self [] = refl
same_self (c ∷ a) = cond-true (nat_eq c c) (same_atom a a) false (eq-eqb c c refl) ∙ same_self a

among_others : (b : List ℕ) (bs : List (List ℕ)) (a : List ℕ) (k : ℕ) → same_atom a b ≡ false → k < length (b ∷ bs) → slice_index_or (b ∷ bs) k a ≡ a → Contains bs a
among_others b bs a zero n h e = absurd (both_ways (same_atom a b) n (subst (λ c. same_atom a c ≡ true) (sym e) (same_self a)))
among_others b bs a (suc k) n h e = (k, omega arith, e)

number_found : (atoms : List (List ℕ)) (a : List ℕ) → Contains atoms a → slice_get atoms (number_of atoms a) ≡ Some a
number_found [] a h = absurd (omega (arith, h.1))
number_found (b ∷ bs) a h =
    cond_both (same_atom a b) 0 (suc (number_of bs a)) (λ n. slice_get (b ∷ bs) n ≡ Some a)
    (λ e. ap (λ c. Some c) (sym (same_atoms a b e)))
    (λ e. number_found bs a (among_others b bs a h.0 e h.1 h.2))

abbrev AllAmong : List (List ℕ) → List (List ℕ) → Type 0
AllAmong atoms names = AllByRecursion (Contains atoms) names

among_first : (atoms names others : List (List ℕ)) → AllAmong atoms (names ++ others) → AllAmong atoms names
among_first atoms [] others h = tt
among_first atoms (a ∷ names) others h = (h.0, among_first atoms names others h.1)

among_second : (atoms names others : List (List ℕ)) → AllAmong atoms (names ++ others) → AllAmong atoms others
among_second atoms [] others h = h
among_second atoms (a ∷ names) others h = among_second atoms names others h.1

-- ---- constants that are put together

form_made : (form : Constant-F Constant) → form_of (roll-Constant form) ≡ level_form form
form_made form = form_is (roll-Constant form) ∙ ap level_form (out-roll-Constant form)

term_made : (form : Constant-F Constant) → term_of (roll-Constant form) ≡ level_term form
term_made form = term_is (roll-Constant form) ∙ ap level_term (out-roll-Constant form)

pub built_made : (form : Constant-F Constant) → built (roll-Constant form) ≡ built_at (map-Constant Constant Builds built form)
unfolding built
built_made form = fold-roll-Constant Builds built_at form

atoms_made : (form : Constant-F Constant) → atoms_in (roll-Constant form) ≡ atoms_at (map-Constant Constant (List (List ℕ)) atoms_in form)
unfolding atoms_in
atoms_made form = fold-roll-Constant (List (List ℕ)) atoms_at form

module _ (symbols : Symbols) (begin : ℕ) where
  abbrev IsMade : List ℕ → Term → Built → Type 0
  IsMade used t b = StartsWith b.1 used × StandsIn symbols begin b.1 (length b.1) t b.0

  abbrev AreMade : List ℕ → List Term → List ℕ × List ℕ → Type 0
  AreMade used ts b = StartsWith b.1 used × EachStands symbols begin b.1 (length b.1) ts b.0

  abbrev Claim : Constant → Type 0
  Claim c = (used : List ℕ) → IsConstant c → AllAmong symbols.atoms (atoms_in c) → IsMade used (term_of c) (built c begin symbols.atoms used)

  abbrev LevelClaim : Constant-F Constant → Type 0
  LevelClaim form = (used : List ℕ) → (level_form form).good ≡ true → AllAmong symbols.atoms (atoms_at (map-Constant Constant (List (List ℕ)) atoms_in form))
      → IsMade used (level_term form) (built_at (map-Constant Constant Builds built form) begin symbols.atoms used)

  abbrev Claimed : Type 0
  Claimed = (c : Constant) × Claim c

  abbrev firsts : List Claimed → List Constant
  firsts cs = map (λ c. c.0) cs

  one_more : (used : List ℕ) (t : Term) (first : Built) (ts : List Term) (others : List ℕ × List ℕ) → IsMade used t first → AreMade first.1 ts others
      → AreMade used (t ∷ ts) (first.0 ∷ others.0, others.1)
  one_more used t first ts others made rest = (
    starts_then others.1 first.1 used rest.0 made.0,
    (stands_on symbols begin others.1 first.1 rest.0 (length first.1) (length others.1) (starts_longer others.1 first.1 rest.0) t first.0 made.1, rest.1),
  )

  all_made : (cs : List Claimed) (used : List ℕ) → are_all_good (map form_of (firsts cs)) ≡ true → AllAmong symbols.atoms (joined (map atoms_in (firsts cs)))
      → AreMade used (map term_of (firsts cs)) (all_built (map built (firsts cs)) begin symbols.atoms used)
  all_made [] used g h = (starts_same used, tt)
  all_made (c ∷ cs) used g h =
      let first : Built = built c.0 begin symbols.atoms used in
      one_more used (term_of c.0) first (map term_of (firsts cs)) (all_built (map built (firsts cs)) begin symbols.atoms first.1)
      (c.1 used (and_first (form_of c.0).good (are_all_good (map form_of (firsts cs))) g) (among_first symbols.atoms (atoms_in c.0) (joined (map atoms_in (firsts cs))) h))
      (all_made cs first.1 (and_second (form_of c.0).good (are_all_good (map form_of (firsts cs))) g) (among_second symbols.atoms (atoms_in c.0) (joined (map atoms_in (firsts cs))) h))

  -- ---- a list

  abbrev rest_good : List Constant → Constant → Bool
  rest_good cs d = are_all_good (map form_of cs) && ((form_of d).good && not (form_of d).list)

  list_made : (cs : List Claimed) (d : Claimed) → LevelClaim (Constant-F.List (firsts cs) d.0)
  list_made cs d used g h =
      let good : rest_good (firsts cs) d.0 ≡ true = and_second (has_parts (map form_of (firsts cs))) (rest_good (firsts cs) d.0) g in
      let parts : List ℕ × List ℕ = all_built (map built (firsts cs)) begin symbols.atoms used in
      let made : AreMade used (map term_of (firsts cs)) parts
      = all_made cs used (and_first (are_all_good (map form_of (firsts cs))) ((form_of d.0).good && not (form_of d.0).list) good)
      (among_first symbols.atoms (joined (map atoms_in (firsts cs))) (atoms_in d.0) h) in
      let tail : Built = built d.0 begin symbols.atoms parts.1 in
      let end : IsMade parts.1 (term_of d.0) tail
      = d.1 parts.1 (and_first (form_of d.0).good (not (form_of d.0).list) (and_second (are_all_good (map form_of (firsts cs))) ((form_of d.0).good && not (form_of d.0).list) good))
      (among_second symbols.atoms (joined (map atoms_in (firsts cs))) (atoms_in d.0) h) in
      let list : StartsWith (cells_built begin parts.0 tail).1 tail.1
      × StandsIn symbols begin (cells_built begin parts.0 tail).1 (length (cells_built begin parts.0 tail).1) (cells (map term_of (firsts cs)) (term_of d.0)) (cells_built begin parts.0 tail).0
      = cells_stand symbols begin (map term_of (firsts cs)) parts.0 (term_of d.0) tail
      (each_on symbols begin tail.1 parts.1 end.0 (length parts.1) (length tail.1) (starts_longer tail.1 parts.1 end.0) (map term_of (firsts cs)) parts.0 made.1) end.1 in
      (starts_then (cells_built begin parts.0 tail).1 tail.1 used list.0 (starts_then tail.1 parts.1 used end.0 made.0), list.1)

  -- ---- every constant

  abbrev plain : Constant-F Claimed → Constant-F Constant
  plain y = map-Constant Claimed Constant (λ c. c.0) y

  level_made : (y : Constant-F Claimed) → LevelClaim (plain y)
  level_made (Constant-F.Int n) used g h = (starts_same used, (in_range n g, refl))
  level_made (Constant-F.Atom a) used g h = (starts_same used, (number_of symbols.atoms a, number_found symbols.atoms a h.0, refl))
  level_made Constant-F.Nil used g h = (starts_same used, refl)
  level_made (Constant-F.List cs d) used g h = list_made cs d used g h
  level_made (Constant-F.Tuple cs) used g h =
      let parts : List ℕ × List ℕ = all_built (map built (firsts cs)) begin symbols.atoms used in
      let made : AreMade used (map term_of (firsts cs)) parts = all_made cs used g h in
      let tuple : StartsWith (tuple_built begin parts).1 parts.1 × StandsIn symbols begin (tuple_built begin parts).1 (length (tuple_built begin parts).1) (level_term (plain (Constant-F.Tuple cs))) (tuple_built begin parts).0
      = tuple_stands symbols begin parts.1 (map term_of (firsts cs)) parts.0 made.1 in
      (starts_then (tuple_built begin parts).1 parts.1 used tuple.0 made.0, tuple.1)

  step : (y : Constant-F Claimed) → Claim (roll-Constant (plain y))
  step y used g h =
      subst (λ t. IsMade used t (built (roll-Constant (plain y)) begin symbols.atoms used)) (sym (term_made (plain y)))
      (subst (λ b. IsMade used (level_term (plain y)) (b begin symbols.atoms used)) (sym (built_made (plain y)))
      (level_made y used (sym (ap (λ m. m.good) (form_made (plain y))) ∙ g) (subst (AllAmong symbols.atoms) (atoms_made (plain y)) h)))

  constant_made : (c : Constant) → Claim c
  constant_made = ind-Constant Claim (λ x y is. subst (λ z. Claim (roll-Constant z)) is (step y))

  constants_made : (cs : List Constant) (used : List ℕ) → AllByRecursion IsConstant cs → AllByRecursion (HasAtoms symbols.atoms) cs
      → AreMade used (map term_of cs) (all_built (map built cs) begin symbols.atoms used)
  constants_made [] used g h = (starts_same used, tt)
  constants_made (c ∷ cs) used g h =
      let first : Built = built c begin symbols.atoms used in
      one_more used (term_of c) first (map term_of cs) (all_built (map built cs) begin symbols.atoms first.1)
      (constant_made c used g.0 (recursion_from_All (Contains symbols.atoms) (atoms_in c) h.0)) (constants_made cs first.1 g.1 h.1)

  -- what stands in words has its term in every heap that begins with them
  term_there : (words : List ℕ) (t : Term) (w : ℕ) → StandsIn symbols begin words (length words) t w → (heap : List ℕ) → heap_begin heap ≡ begin → take (length words) heap ≡ words
      → term_at symbols heap w ≡ Some t
  term_there words t w h heap e f =
      prefixes_have_terms symbols heap (length words) t w (omega (arith, ap length (sym f) ∙ length-take (length words) heap))
      (subst (λ ws. StandsIn symbols (heap_begin heap) ws (length words) t w) (sym f) (subst (λ b. StandsIn symbols b words (length words) t w) (sym e) h))

pub built_stands : BuiltStands
built_stands symbols begin c used g h =
    let made : IsMade symbols begin used (term_of c) (built c begin symbols.atoms used)
    = constant_made symbols begin c used g (recursion_from_All (Contains symbols.atoms) (atoms_in c) h) in
    record {
      behind = made.0;
      stands = made.1;
      has_term = term_there symbols begin (built c begin symbols.atoms used).1 (term_of c) (built c begin symbols.atoms used).0 made.1;
    }

pub all_built_stand : AllBuiltStand
all_built_stand symbols begin cs used g h =
    let made : AreMade symbols begin used (map term_of cs) (all_built (map built cs) begin symbols.atoms used)
    = constants_made symbols begin cs used (recursion_from_All IsConstant cs g) (recursion_from_All (HasAtoms symbols.atoms) cs h) in
    record { behind = made.0; stand = made.1 }
