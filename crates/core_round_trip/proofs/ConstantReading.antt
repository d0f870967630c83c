-- Terminals of the kinds that a constant is printed as are derived as this constant, and those of attributes as these.
use Rattle.std.proofs.Common.{◌≡◌, ℕ, ◌+◌, List, [], ◌∷◌, map, true, false, not, ◌&&◌, refl, ap, ap₂, sym, ◌∙◌, subst}
use Rattle.hipe_terms.specs.declared.place.Place.{Place}
use Rattle.hipe_terms.specs.declared.constant.Constant.{Constant, out-Constant, roll-Constant, out-roll-Constant}
use Rattle.hipe_terms.specs.declared.constant.Constant.TheViews.{roll-out-Constant}
use Rattle.hipe_terms.specs.declared.constant.Constant.TheOpen.{Constant-F}
use Rattle.hipe_terms.specs.declared.constant.Constant.TheFolds.{ind-Constant, map-Constant}
use Rattle.hipe_terms.specs.Constants.{form_of, are_all_good, is_list, IsConstant}
use Rattle.hipe_terms.specs.Terms.{Term, integer, atom, tuple, cells, terms, term_of}
use Rattle.hipe_terms.proofs.Levels.{level_term, term_is}
use Rattle.hipe_terms.proofs.Parts.{level_form, form_is, list_is, and_first, and_second, not_true}
use Rattle.core_ast.specs.WellFormed.{well_formed_attributes}
use Rattle.core_grammar.specs.declared.terminal.Kind.{Kind}
use Rattle.core_grammar.specs.declared.terminal.Mark.{Mark}
use Rattle.core_grammar.specs.declared.terminal.Terminal.{Terminal}
use Rattle.core_grammar.specs.Leave.{Leave, mark}
use Rattle.core_grammar.specs.Trees.{constant_of, constant_cells_before, constant_cells, constant_nil}
use Rattle.core_grammar.specs.Language.{limit}
use Rattle.core_grammar.specs.Grammar as G
use Rattle.core_round_trip.proofs.TreeKinds.{Kinds, next, term_kinds, tail_kinds, terms_kinds, terms_behind, attribute_kinds, attributes_behind, attributes_kinds}
use Rattle.core_round_trip.specs.Fits.{At, TermFits, TermsFit, AttributesFit}
use Rattle.core_round_trip.proofs.Readings.{Reading, ReadingTo, up_to, integer_is}

-- ---- constants that are made

form_made : (form : Constant-F Constant) → form_of (roll-Constant form) ≡ level_form form
form_made form = form_is (roll-Constant form) ∙ ap level_form (out-roll-Constant form)

term_made : (form : Constant-F Constant) → term_of (roll-Constant form) ≡ level_term form
term_made form = term_is (roll-Constant form) ∙ ap level_term (out-roll-Constant form)

rolled : (c : Constant) (form : Constant-F Constant) → out-Constant c ≡ form → constant_of form ≡ c
unfolding constant_of
rolled c form is = ap roll-Constant (sym is) ∙ roll-out-Constant c

cells_by : (cs : List Constant) (c : Constant) (form : Constant-F Constant) → out-Constant c ≡ form → is_list c ≡ false → constant_cells_before cs c form ≡ constant_of (Constant-F.List cs c)
cells_by cs c (Constant-F.List ds d) is e = let g : is_list c ≡ true = list_is c (Constant-F.List ds d) is in cc
cells_by cs c (Constant-F.Int i) is e = refl
cells_by cs c _ is e = refl

-- elements before a tail that is no list
cells_are : (cs : List Constant) (c : Constant) → is_list c ≡ false → constant_cells cs c ≡ constant_of (Constant-F.List cs c)
cells_are cs c e = cells_by cs c (out-Constant c) refl e

-- a tail, where it is no list
abbrev behind_bar : Term → List Kind → List Kind
behind_bar t ks = Kind.Mark Mark.Bar ∷ term_kinds t (Kind.Mark Mark.CloseSquare ∷ ks)

bar_is : (t u : Term) (ks : List Kind) → t ≡ u → tail_kinds u ks ≡ behind_bar u ks → tail_kinds t ks ≡ behind_bar t ks
bar_is t u ks e h = ap (λ v. tail_kinds v ks) e ∙ h ∙ ap (λ v. behind_bar v ks) (sym e)

tail_fits : (n k : ℕ) (ts : List Term) (t : Term) → TermFits n k (cells ts t) → TermFits n k t
tail_fits n k [] t f = f
tail_fits n k (s ∷ ts) t f = tail_fits n k ts t f.2

module _ (n : ℕ) where
  abbrev ok : Leave
  ok = limit n

  abbrev pub ConstantReading : ℕ → Constant → List Kind → List Terminal → Type 0
  ConstantReading k c ks ts = Reading Constant (G.ConstantOf ok k) (λ d. d ≡ c) ks ts

  abbrev SomeReading : ℕ → List Constant → List Kind → List Terminal → Type 0
  SomeReading k cs ks ts = Reading (List Constant) (G.SomeConstants ok k) (λ ds. ds ≡ cs) ks ts

  abbrev AllReading : ℕ → List Constant → List Kind → List Terminal → Type 0
  AllReading k cs ks ts = Reading (List Constant) (G.ConstantsOf ok k) (λ ds. ds ≡ cs) ks ts

  abbrev Claim : Constant → Type 0
  Claim c = (k : ℕ) (ks : List Kind) (ts : List Terminal) → IsConstant c → TermFits n k (term_of c) → Kinds (term_kinds (term_of c) ks) ts → ConstantReading k c ks ts

  abbrev LevelClaim : Constant-F Constant → Type 0
  LevelClaim form = (k : ℕ) (ks : List Kind) (ts : List Terminal) → (level_form form).good ≡ true → TermFits n k (level_term form) → Kinds (term_kinds (level_term form) ks) ts → ConstantReading k (constant_of form) ks ts

  -- a constant with what holds of it
  abbrev Claimed : Type 0
  Claimed = (c : Constant) × Claim c

  abbrev firsts : List Claimed → List Constant
  firsts cs = map (λ c. c.0) cs

  -- ---- lists

  -- the elements of a list from the second one on
  with_more : (k : ℕ) (c : Constant) (cs : List Claimed) (t : Term) (ks : List Kind) (ts : List Terminal) (j : ℕ) → are_all_good (map form_of (firsts cs)) ≡ true → TermFits n j (cells (map term_of (firsts cs)) t) → (j + 1 ≡ k)
      → ConstantReading k c (tail_kinds (cells (map term_of (firsts cs)) t) ks) ts → SomeReading k (c ∷ firsts cs) (tail_kinds t ks) ts
  with_more k c [] t ks ts j g f e x = record { tree = x.tree ∷ []; rest = x.rest; derived = G.last_constant x.derived; same = ap (λ d. d ∷ []) x.same; behind = x.behind }
  with_more k c (d ∷ ds) t ks ts j g f e x =
      let y = up_to x in
      let fits = subst (λ m. TermFits n m (term_of d.0)) e f.1 in
      let z = d.1 k (tail_kinds (cells (map term_of (firsts ds)) t) ks) y.rest (and_first (form_of d.0).good (are_all_good (map form_of (firsts ds))) g) fits y.behind in
      let r = with_more k d.0 ds t ks y.rest j (and_second (form_of d.0).good (are_all_good (map form_of (firsts ds))) g) f.2 e z in
      record { tree = y.tree ∷ r.tree; rest = r.rest; derived = G.more_constants y.at y.derived r.derived; same = ap₂ (λ a as'. a ∷ as') y.same r.same; behind = r.behind }

  -- a list with a tail that isn't the empty list
  before : (k : ℕ) (cs : List Constant) (d : Claimed) (ks : List Kind) (o : Place) (ts : List Terminal) → At n k → (form_of d.0).good ≡ true → is_list d.0 ≡ false → TermFits n k (term_of d.0)
      → ReadingTo (List Constant) (G.SomeConstants ok (k + 1)) (λ ds. ds ≡ cs) (Kind.Mark Mark.Bar) (term_kinds (term_of d.0) (Kind.Mark Mark.CloseSquare ∷ ks)) ts
      → ConstantReading k (constant_of (Constant-F.List cs d.0)) ks (mark Mark.OpenSquare o ∷ ts)
  before k cs d ks o ts l g e f x =
      let y = up_to (d.1 k (Kind.Mark Mark.CloseSquare ∷ ks) x.rest g f x.behind) in
      record {
        tree = constant_cells x.tree y.tree;
        rest = y.rest;
        derived = G.constant_list_before o x.at y.at l x.derived y.derived;
        same = ap₂ constant_cells x.same y.same ∙ cells_are cs d.0 e;
        behind = y.behind;
      }

  -- a list, by what its tail is
  by_tail : (k : ℕ) (cs : List Constant) (d : Claimed) (ks : List Kind) (o : Place) (ts : List Terminal) → At n k → (form_of d.0).good ≡ true → is_list d.0 ≡ false → TermFits n k (term_of d.0)
      → (form : Constant-F Constant) → out-Constant d.0 ≡ form → SomeReading (k + 1) cs (tail_kinds (term_of d.0) ks) ts
      → ConstantReading k (constant_of (Constant-F.List cs d.0)) ks (mark Mark.OpenSquare o ∷ ts)
  by_tail k cs d ks o ts l g e f Constant-F.Nil is x =
      let y = up_to (subst (λ t. SomeReading (k + 1) cs (tail_kinds t ks) ts) (term_is d.0 ∙ ap level_term is) x) in
      record {
        tree = constant_of (Constant-F.List y.tree constant_nil);
        rest = y.rest;
        derived = G.constant_list o y.at l y.derived;
        same = ap₂ (λ ds c. constant_of (Constant-F.List ds c)) y.same (rolled d.0 Constant-F.Nil is);
        behind = y.behind;
      }
  by_tail k cs d ks o ts l g e f (Constant-F.Int i) is x = before k cs d ks o ts l g e f (up_to (subst (λ js. SomeReading (k + 1) cs js ts) (bar_is (term_of d.0) (integer i) ks (term_is d.0 ∙ ap level_term is) refl) x))
  by_tail k cs d ks o ts l g e f (Constant-F.Atom a) is x = before k cs d ks o ts l g e f (up_to (subst (λ js. SomeReading (k + 1) cs js ts) (bar_is (term_of d.0) (atom a) ks (term_is d.0 ∙ ap level_term is) refl) x))
  by_tail k cs d ks o ts l g e f (Constant-F.Tuple ds) is x = before k cs d ks o ts l g e f (up_to (subst (λ js. SomeReading (k + 1) cs js ts) (bar_is (term_of d.0) (tuple (terms (map term_of ds))) ks (term_is d.0 ∙ ap level_term is) refl) x))
  by_tail k cs d ks o ts l g e f (Constant-F.List ds c) is x = let h : is_list d.0 ≡ true = list_is d.0 (Constant-F.List ds c) is in cc

  -- ---- tuples

  with_terms : (k : ℕ) (c : Constant) (cs : List Claimed) (ks : List Kind) (ts : List Terminal) → are_all_good (map form_of (firsts cs)) ≡ true → TermsFit n k (terms (map term_of (firsts cs)))
      → ConstantReading k c (terms_behind (terms (map term_of (firsts cs))) ks) ts → SomeReading k (c ∷ firsts cs) ks ts
  with_terms k c [] ks ts g f x = record { tree = x.tree ∷ []; rest = x.rest; derived = G.last_constant x.derived; same = ap (λ d. d ∷ []) x.same; behind = x.behind }
  with_terms k c (d ∷ ds) ks ts g f x =
      let y = up_to x in
      let z = d.1 k (terms_behind (terms (map term_of (firsts ds))) ks) y.rest (and_first (form_of d.0).good (are_all_good (map form_of (firsts ds))) g) f.0 y.behind in
      let r = with_terms k d.0 ds ks y.rest (and_second (form_of d.0).good (are_all_good (map form_of (firsts ds))) g) f.1 z in
      record { tree = y.tree ∷ r.tree; rest = r.rest; derived = G.more_constants y.at y.derived r.derived; same = ap₂ (λ a as'. a ∷ as') y.same r.same; behind = r.behind }

  all_reading : (k : ℕ) (cs : List Claimed) (ks : List Kind) (ts : List Terminal) → are_all_good (map form_of (firsts cs)) ≡ true → TermsFit n k (terms (map term_of (firsts cs)))
      → Kinds (terms_kinds (terms (map term_of (firsts cs))) ks) ts → AllReading k (firsts cs) ks ts
  all_reading k [] ks ts g f h = record { tree = []; rest = ts; derived = G.no_constants; same = refl; behind = h }
  all_reading k (d ∷ ds) ks ts g f h =
      let z = d.1 k (terms_behind (terms (map term_of (firsts ds))) ks) ts (and_first (form_of d.0).good (are_all_good (map form_of (firsts ds))) g) f.0 h in
      let r = with_terms k d.0 ds ks ts (and_second (form_of d.0).good (are_all_good (map form_of (firsts ds))) g) f.1 z in
      record { tree = r.tree; rest = r.rest; derived = G.some_constants r.derived; same = r.same; behind = r.behind }

  -- ---- constants

  abbrev plain : Constant-F Claimed → Constant-F Constant
  plain y = map-Constant Claimed Constant (λ c. c.0) y

  level_reading : (y : Constant-F Claimed) → LevelClaim (plain y)
  level_reading (Constant-F.Int i) k ks ts g f (next {ts = us} o h) = record { tree = constant_of (Constant-F.Int i); rest = us; derived = G.constant_integer o (integer_is i) f.0; same = refl; behind = h }
  level_reading (Constant-F.Atom a) k ks ts g f (next {ts = us} o h) = record { tree = constant_of (Constant-F.Atom a); rest = us; derived = G.constant_atom a o f.0; same = refl; behind = h }
  level_reading Constant-F.Nil k ks ts g f (next o (next {ts = us} p h)) = record { tree = constant_nil; rest = us; derived = G.constant_empty o p f; same = refl; behind = h }
  level_reading (Constant-F.List [] d) k ks ts g f h = cc
  level_reading (Constant-F.List (c ∷ cs) d) k ks ts g f (next {ts = us} o h) =
      let all = are_all_good (map form_of (firsts cs)) in
      let end = (form_of d.0).good && not (form_of d.0).list in
      let parts : ((form_of c.0).good && all) ≡ true = and_first ((form_of c.0).good && all) end g in
      let tail : end ≡ true = and_second ((form_of c.0).good && all) end g in
      let x = c.1 (k + 1) (tail_kinds (cells (map term_of (firsts cs)) (term_of d.0)) ks) us (and_first (form_of c.0).good all parts) f.1 h in
      let y = with_more (k + 1) c.0 cs (term_of d.0) ks us k (and_second (form_of c.0).good all parts) f.2 refl x in
      by_tail k (c.0 ∷ firsts cs) d ks o us f.0 (and_first (form_of d.0).good (not (form_of d.0).list) tail) (not_true (form_of d.0).list (and_second (form_of d.0).good (not (form_of d.0).list) tail)) (tail_fits n k (map term_of (firsts cs)) (term_of d.0) f.2) (out-Constant d.0) refl y
  level_reading (Constant-F.Tuple cs) k ks ts g f (next {ts = us} o h) =
      let r = up_to (all_reading (k + 1) cs (Kind.Mark Mark.CloseBrace ∷ ks) us g f.1 h) in
      record { tree = constant_of (Constant-F.Tuple r.tree); rest = r.rest; derived = G.constant_tuple o r.at f.0 r.derived; same = ap (λ ds. constant_of (Constant-F.Tuple ds)) r.same; behind = r.behind }

  step : (y : Constant-F Claimed) → Claim (roll-Constant (plain y))
  unfolding constant_of
  step y k ks ts g f h =
      let e = term_made (plain y) in
      level_reading y k ks ts (sym (ap (λ m. m.good) (form_made (plain y))) ∙ g) (subst (TermFits n k) e f) (subst (λ t. Kinds (term_kinds t ks) ts) e h)

  pub constant_reading : (c : Constant) → Claim c
  constant_reading = ind-Constant Claim (λ x y is. subst (λ z. Claim (roll-Constant z)) is (step y))

  -- ---- attributes

  abbrev Attribute : Type 0
  Attribute = List ℕ × Constant

  abbrev AttributeReading : Attribute → List Kind → List Terminal → Type 0
  AttributeReading a ks ts = Reading Attribute (G.AttributeOf ok) (λ b. b ≡ a) ks ts

  abbrev pub AttributesReading : List Attribute → List Kind → List Terminal → Type 0
  AttributesReading as' ks ts = Reading (List Attribute) (G.ListOf Attribute (G.AttributeOf ok)) (λ bs. bs ≡ as') ks ts

  attribute_reading : (a : Attribute) (ks : List Kind) (ts : List Terminal) → IsConstant a.1 → TermFits n 1 (term_of a.1) → Kinds (attribute_kinds a ks) ts → AttributeReading a ks ts
  attribute_reading a ks ts g f (next p (next {ts = us} q h)) =
      let r = constant_reading a.1 1 ks us g f h in
      record { tree = (a.0, r.tree); rest = r.rest; derived = G.attribute q (G.bare (G.atom p)) (G.bare r.derived); same = ap (λ c. (a.0, c)) r.same; behind = r.behind }

  some_attributes : (a : Attribute) (as' : List Attribute) (ks : List Kind) (ts : List Terminal) → well_formed_attributes as' ≡ true → AttributesFit n as' → AttributeReading a (attributes_behind as' ks) ts
      → Reading (List Attribute) (G.SomeOf Attribute (G.AttributeOf ok)) (λ bs. bs ≡ a ∷ as') ks ts
  some_attributes a [] ks ts g f x = record { tree = x.tree ∷ []; rest = x.rest; derived = G.last_of x.derived; same = ap (λ b. b ∷ []) x.same; behind = x.behind }
  some_attributes a (b ∷ bs) ks ts g f x =
      let y = up_to x in
      let z = attribute_reading b (attributes_behind bs ks) y.rest (and_first (form_of b.1).good (well_formed_attributes bs) g) f.1 y.behind in
      let r = some_attributes b bs ks y.rest (and_second (form_of b.1).good (well_formed_attributes bs) g) f.2 z in
      record { tree = y.tree ∷ r.tree; rest = r.rest; derived = G.more_of y.at y.derived r.derived; same = ap₂ (λ c cs. c ∷ cs) y.same r.same; behind = r.behind }

  pub attributes_reading : (as' : List Attribute) (ks : List Kind) (ts : List Terminal) → well_formed_attributes as' ≡ true → AttributesFit n as' → Kinds (attributes_kinds as' ks) ts → AttributesReading as' ks ts
  attributes_reading [] ks ts g f h = record { tree = []; rest = ts; derived = G.none_of; same = refl; behind = h }
  attributes_reading (a ∷ as') ks ts g f h =
      let x = attribute_reading a (attributes_behind as' ks) ts (and_first (form_of a.1).good (well_formed_attributes as') g) f.1 h in
      let r = some_attributes a as' ks ts (and_second (form_of a.1).good (well_formed_attributes as') g) f.2 x in
      record { tree = r.tree; rest = r.rest; derived = G.some_of r.derived; same = r.same; behind = r.behind }
