-- Good terms of a program: each fun in them names a function of the program, with as many values as it captures.
use Rattle.std.proofs.Common.{◌≡◌, ℕ, zero, suc, List, [], ◌∷◌, ◌++◌, Some, refl, sym, ap, subst}
use Rattle.std.specs.Prelude.{length, map, slice_get}
use Rattle.hipe_terms.specs.declared.constant.Constant.{Constant, roll-Constant}
use Rattle.hipe_terms.specs.declared.constant.Constant.TheFolds.{ind-Constant, map-Constant, fold-roll-Constant}
use Rattle.hipe_terms.specs.declared.constant.Constant.TheOpen.{Constant-F}
use Rattle.hipe_terms.specs.Terms.{Term, integer, atom, nil, cons, tuple, fun, Terms, none, more, terms, listed, cells, count, term_at, term_of}
use Rattle.core_meaning.specs.Procedures.{Procedure, Program}
use Rattle.core_soundness.proofs.Basics.{some_same, not_some}

-- the number of a function that captures so many values
abbrev pub Captures : Program → (number captured : ℕ) → Type 0
Captures program n captured = (f : Procedure) × (slice_get program.procedures n ≡ Some f) × (f.captured ≡ captured)

module _ (program : Program) where
  abbrev mutual
    pub GoodTerm : Term → Type 0
    GoodTerm (integer n) = Unit {0}
    GoodTerm (atom a) = Unit {0}
    GoodTerm nil = Unit {0}
    GoodTerm (cons a b) = GoodTerm a × GoodTerm b
    GoodTerm (tuple ts) = GoodTerms ts
    GoodTerm (fun n ts) = Captures program n (count ts) × GoodTerms ts

    pub GoodTerms : Terms → Type 0
    GoodTerms none = Unit {0}
    GoodTerms (more t ts) = GoodTerm t × GoodTerms ts

  abbrev pub AllGood : List Term → Type 0
  AllGood [] = Unit {0}
  AllGood (t ∷ ts) = GoodTerm t × AllGood ts

  pub terms_good : (ts : List Term) → AllGood ts → GoodTerms (terms ts)
  terms_good [] g = tt
  terms_good (t ∷ ts) g = (g.0, terms_good ts g.1)

  pub listed_good : (ts : Terms) → GoodTerms ts → AllGood (listed ts)
  listed_good none g = tt
  listed_good (more t ts) g = (g.0, listed_good ts g.1)

  pub cells_good : (ts : List Term) (t : Term) → AllGood ts → GoodTerm t → GoodTerm (cells ts t)
  cells_good [] t g h = h
  cells_good (u ∷ us) t g h = (g.0, cells_good us t g.1 h)

  pub append_good : (ts us : List Term) → AllGood ts → AllGood us → AllGood (ts ++ us)
  append_good [] us g h = h
  append_good (t ∷ ts) us g h = (g.0, append_good ts us g.1 h)

  pub get_good : (ts : List Term) (i : ℕ) (t : Term) → AllGood ts → slice_get ts i ≡ Some t → GoodTerm t
  get_good [] i t g is = absurd (not_some is)
  get_good (u ∷ us) zero t g is = subst GoodTerm (some_same u t is) g.0
  get_good (u ∷ us) (suc i) t g is = get_good us i t g.1 is

pub count_terms : (ts : List Term) → count (terms ts) ≡ length ts
count_terms [] = refl
count_terms (t ∷ ts) = ap suc (count_terms ts)

pub length_listed : (ts : Terms) → length (listed ts) ≡ count ts
length_listed none = refl
length_listed (more t ts) = ap suc (length_listed ts)

module _ (program : Program) where
  abbrev Claim : Constant → Type 0
  Claim c = GoodTerm program (term_of c)

  abbrev plain : Constant-F ((c : Constant) × Claim c) → Constant-F Constant
  plain y = map-Constant ((c : Constant) × Claim c) Constant (λ c. c.0) y

  parts_good : (cs : List ((c : Constant) × Claim c)) → AllGood program (map term_of (map (λ c. c.0) cs))
  parts_good [] = tt
  parts_good (c ∷ cs) = (c.1, parts_good cs)

  level_good : (y : Constant-F ((c : Constant) × Claim c)) → GoodTerm program (term_at (map-Constant Constant Term term_of (plain y)))
  level_good (Constant-F.Int n) = tt
  level_good (Constant-F.Atom a) = tt
  level_good Constant-F.Nil = tt
  level_good (Constant-F.List cs c) = cells_good program (map term_of (map (λ c. c.0) cs)) (term_of c.0) (parts_good cs) c.1
  level_good (Constant-F.Tuple cs) = terms_good program (map term_of (map (λ c. c.0) cs)) (parts_good cs)

  good_step : (y : Constant-F ((c : Constant) × Claim c)) → Claim (roll-Constant (plain y))
  unfolding term_of
  good_step y = subst (GoodTerm program) (sym (fold-roll-Constant Term term_at (plain y))) (level_good y)

  pub constant_good : (c : Constant) → GoodTerm program (term_of c)
  constant_good = ind-Constant Claim (λ x y is. subst (λ z. Claim (roll-Constant z)) is (good_step y))

  pub constants_good : (cs : List Constant) → AllGood program (map term_of cs)
  constants_good [] = tt
  constants_good (c ∷ cs) = (constant_good c, constants_good cs)
