-- Runs over constants, annotations, names and variables.
use Rattle.std.proofs.Common.{◌≡◌, ℕ, ◌+◌, List, [], ◌∷◌, ◌++◌, true, refl, ap, sym, ◌∙◌, append_assoc}
use Rattle.hipe_terms.specs.declared.place.Place.{Place}
use Rattle.hipe_terms.specs.declared.constant.Constant.{Constant, out-Constant, out-roll-Constant}
use Rattle.hipe_terms.specs.declared.constant.Constant.TheOpen.{Constant-F}
use Rattle.core_ast.specs.declared.pattern.Var.{Var}
use Rattle.core_ast.specs.declared.tree.FunName.{FunName}
use Rattle.core_grammar.specs.declared.terminal.Kind.{Kind}
use Rattle.core_grammar.specs.declared.terminal.Mark.{Mark}
use Rattle.core_grammar.specs.declared.terminal.Terminal.{Terminal}
use Rattle.core_grammar.specs.Trees.{constant_of, constant_cells, constant_cells_before, constant_nil}
use Rattle.core_grammar.specs.Leave.{Leave, part, mark}
use Rattle.core_grammar.specs.Grammar as G
use Rattle.core_parser.specs.declared.symbol.Closer.{Closer}
use Rattle.core_parser.specs.declared.symbol.Element.{Element}
use Rattle.core_parser.specs.declared.symbol.Maker.{Maker}
use Rattle.core_parser.specs.declared.symbol.Part.{Part}
use Rattle.core_parser.specs.declared.symbol.Symbol.{Symbol}
use Rattle.core_parser.specs.declared.symbol.Term.{Term}
use Rattle.core_parser.specs.declared.value.Value.{Value}
use Rattle.core_parser.specs.Values.{Values}
use Rattle.core_parser.specs.Machine.{Symbols, move, run, annotation, annotation_list}
use Rattle.core_parser.proofs.Steps as Steps
use Rattle.core_parser.proofs.Steps.{allowed, begins, calm, filled, opens, opens_bare, opens_other, same, makes}
use Rattle.core_parser.proofs.Elements as Elements
use Rattle.core_parser.proofs.Cells as Cells

-- a constant is of the form that it was made of
constant_form : (form : Constant-F Constant) → out-Constant (constant_of form) ≡ form
unfolding constant_of
constant_form form = out-roll-Constant form

-- no elements behind the elements before
pub nil_joins : (es : List Constant) → constant_cells es constant_nil ≡ constant_of (Constant-F.List es constant_nil)
nil_joins es = ap (constant_cells_before es constant_nil) (constant_form Constant-F.Nil)

pub list_joins : (es fs : List Constant) (c : Constant) → constant_cells es (constant_of (Constant-F.List fs c)) ≡ constant_of (Constant-F.List (es ++ fs) c)
list_joins es fs c = ap (constant_cells_before es (constant_of (Constant-F.List fs c))) (constant_form (Constant-F.List fs c))

cells_join_by : (es fs : List Constant) (c : Constant) (form : Constant-F Constant) → constant_cells es (constant_cells_before fs c form) ≡ constant_cells_before (es ++ fs) c form
cells_join_by es fs c (Constant-F.List gs d) = list_joins es (fs ++ gs) d ∙ ap (λ xs. constant_of (Constant-F.List xs d)) (sym (append_assoc es fs gs))
cells_join_by es fs c (Constant-F.Int n) = list_joins es fs c
cells_join_by es fs c (Constant-F.Atom a) = list_joins es fs c
cells_join_by es fs c Constant-F.Nil = list_joins es fs c
cells_join_by es fs c (Constant-F.Tuple ts) = list_joins es fs c

-- a list that is a tail is one list with the elements before it
pub cells_join : (es fs : List Constant) (c : Constant) → constant_cells es (constant_cells fs c) ≡ constant_cells (es ++ fs) c
cells_join es fs c = cells_join_by es fs c (out-Constant c)

other_joins : (k : ℕ) (ss : Symbols) (vs : Values) (t : Kind) (p : Place) → opens_other t ≡ true → move (Symbol.Tail (Term.Constant k) ∷ ss) vs t p ≡ move (Symbol.Item (Element.Term (Term.Constant k)) ∷ Symbol.Make (Maker.Join (Term.Constant k)) ∷ ss) vs t p
other_joins k ss vs (Kind.Mark Mark.OpenSquare) p h = cc
other_joins k ss vs (Kind.Mark Mark.OpenRound) p h = cc
other_joins k ss vs _ p h = refl

pub bare_is_bare : (x : Part) (ss : Symbols) (vs : Values) (t : Kind) (p : Place) → opens_bare t ≡ true → move (Symbol.Annotated x ∷ ss) vs t p ≡ move (Symbol.Bare x ∷ ss) vs t p
bare_is_bare x ss vs (Kind.Mark Mark.OpenRound) p h = cc
bare_is_bare x ss vs _ p h = refl

abbrev before : Place → List Constant → Constant → Constant
before p es c = constant_cells es c

abbrev ended : Place → Place → List Constant → Constant
ended p q es = constant_of (Constant-F.List es constant_nil)

module _ (ok : Leave) (z : Place) where
  abbrev pub ConstantRuns : ℕ → Constant → List Terminal → List Terminal → Type 0
  ConstantRuns k = Cells.TermRuns ok z Constant (Term.Constant k) Value.Constant Value.Constants before

  pub constant_item : (k : ℕ) (c : Constant) (ts us : List Terminal) → ConstantRuns k c ts us → Elements.ItemRuns ok z Constant (Element.Term (Term.Constant k)) (λ c vs. Value.Constant c ∷ vs) c ts us
  constant_item k c ts us d = (d.0, d.1)

  -- a constant that begins with neither `[` nor `(`
  other_runs : (k : ℕ) (c : Constant) (ts us : List Terminal) → begins opens ts ≡ true → begins opens_other ts ≡ true → ((ss : Symbols) (vs : Values) → begins calm us ≡ true → run ok z (Symbol.Item (Element.Term (Term.Constant k)) ∷ ss) vs ts ≡ run ok z ss (Value.Constant c ∷ vs) us) → ConstantRuns k c ts us
  other_runs k c ts us o other r = (
    o,
    r,
    λ es q p ss vs h.
        same ok z opens_other (Symbol.Tail (Term.Constant k) ∷ ss) (Symbol.Item (Element.Term (Term.Constant k)) ∷ Symbol.Make (Maker.Join (Term.Constant k)) ∷ ss) (Value.Constants es ∷ Value.At q ∷ Value.At p ∷ vs) (Value.Constants es ∷ Value.At q ∷ Value.At p ∷ vs) (other_joins k ss (Value.Constants es ∷ Value.At q ∷ Value.At p ∷ vs)) ts other
        ∙ r (Symbol.Make (Maker.Join (Term.Constant k)) ∷ ss) (Value.Constants es ∷ Value.At q ∷ Value.At p ∷ vs) h
        ∙ makes ok z calm (Maker.Join (Term.Constant k)) ss (Value.Constant c ∷ Value.Constants es ∷ Value.At q ∷ Value.At p ∷ vs) us h,
  )

  -- constants in `{..}`
  pub constant_list_runs : (k : ℕ) (c : Closer) (cs : List Constant) (ts us : List Terminal) (p : Place) → G.ListOf Constant (ConstantRuns k) cs ts (mark (Steps.closing c) p ∷ us) → (ss : Symbols) (vs : Values) → run ok z (Symbol.First (Element.Term (Term.Constant k)) c ∷ ss) (Value.Constants [] ∷ vs) ts ≡ run ok z ss (Value.Constants cs ∷ vs) us
  constant_list_runs k = Elements.list_runs ok z Constant (ConstantRuns k) (Element.Term (Term.Constant k)) (λ c vs. Value.Constant c ∷ vs) Value.Constants (λ c cs vs. refl) (constant_item k)

  list_is_read : (k : ℕ) (cs : List Constant) (ts us : List Terminal) (p q : Place) → ok (part k) (mark Mark.OpenSquare p ∷ ts) ≡ true → G.SomeOf Constant (ConstantRuns (k + 1)) cs ts (mark Mark.CloseSquare q ∷ us) → ConstantRuns k (constant_of (Constant-F.List cs constant_nil)) (mark Mark.OpenSquare p ∷ ts) us
  list_is_read k cs ts us p q h d = (
    refl,
    (λ ss vs c. allowed h _ _ ∙ Cells.list_runs ok z Constant (Term.Constant k) Value.Constant Value.Constants before ended (λ c cs vs. refl) (λ es q p vs. refl) cs ts us q d p ss vs),
    (λ es o r ss vs c.
        Cells.tail_list_runs ok z Constant (Term.Constant k) Value.Constant Value.Constants before ended (λ c cs vs. refl) (λ es q p vs. refl) p q cs ts us h d es o r ss vs
        ∙ ap (λ x. run ok z ss (Value.Constant x ∷ vs) us) (sym (list_joins es cs constant_nil))),
  )

  before_is_read : (k : ℕ) (cs : List Constant) (e : Constant) (ts us ws : List Terminal) (p q r : Place) → ok (part k) (mark Mark.OpenSquare p ∷ ts) ≡ true → G.SomeOf Constant (ConstantRuns (k + 1)) cs ts (mark Mark.Bar q ∷ us) → ConstantRuns k e us (mark Mark.CloseSquare r ∷ ws) → ConstantRuns k (constant_cells cs e) (mark Mark.OpenSquare p ∷ ts) ws
  before_is_read k cs e ts us ws p q r h d f = (
    refl,
    (λ ss vs c. allowed h _ _ ∙ Cells.list_before_runs ok z Constant (Term.Constant k) Value.Constant Value.Constants before ended (λ c cs vs. refl) (λ es q p vs. refl) cs e ts us ws q r d f p ss vs),
    (λ es o t ss vs c.
        Cells.tail_list_before_runs ok z Constant (Term.Constant k) Value.Constant Value.Constants before ended (λ c cs vs. refl) (λ es q p vs. refl) p q r cs e ts us ws h d f es o t ss vs
        ∙ ap (λ x. run ok z ss (Value.Constant x ∷ vs) ws) (sym (cells_join es cs e))),
  )

  empty_is_read : (k : ℕ) (us : List Terminal) (p q : Place) → ok (part k) (mark Mark.OpenSquare p ∷ mark Mark.CloseSquare q ∷ us) ≡ true → ConstantRuns k constant_nil (mark Mark.OpenSquare p ∷ mark Mark.CloseSquare q ∷ us) us
  empty_is_read k us p q h = (
    refl,
    (λ ss vs c. allowed h _ _),
    (λ es o r ss vs c.
        Cells.empty_tail_runs ok z Constant (Term.Constant k) Value.Constant Value.Constants before ended (λ c cs vs. refl) (λ es q p vs. refl) p q us h es o r ss vs
        ∙ ap (λ x. run ok z ss (Value.Constant x ∷ vs) us) (sym (nil_joins es))),
  )

  mutual
    pub constant_runs : (k : ℕ) (c : Constant) (ts us : List Terminal) → G.ConstantOf ok k c ts us → ConstantRuns k c ts us
    constant_runs k c ts us (G.constant_integer p (G.digits n) h) = other_runs k c ts us refl refl (λ ss vs f. allowed h _ _)
    constant_runs k c ts us (G.constant_integer p (G.signed_or_character n) h) = other_runs k c ts us refl refl (λ ss vs f. allowed h _ _)
    constant_runs k c ts us (G.constant_characters s p h) = other_runs k c ts us refl refl (λ ss vs f. allowed h _ _)
    constant_runs k c ts us (G.constant_atom a p h) = other_runs k c ts us refl refl (λ ss vs f. allowed h _ _)
    constant_runs k c ts us (G.constant_empty p q h) = empty_is_read k us p q h
    constant_runs k c ts us (G.constant_tuple {cs = cs} {ts = xs} p q h d) = other_runs k c ts us refl refl (λ ss vs f.
        allowed h _ _
        ∙ constant_list_runs (k + 1) Closer.Brace cs xs us q (constants_run (k + 1) cs xs _ d) (Symbol.Make (Maker.Tuple (Term.Constant k)) ∷ ss) (Value.At p ∷ vs)
        ∙ makes ok z calm (Maker.Tuple (Term.Constant k)) ss (Value.Constants cs ∷ Value.At p ∷ vs) us f)
    constant_runs k c ts us (G.constant_list {cs = cs} {ts = xs} p q h d) = list_is_read k cs xs us p q h (some_constants_run (k + 1) cs xs _ d)
    constant_runs k c ts us (G.constant_list_before {cs = cs} {c = e} {ts = xs} {us = ys} p q r h d f) = before_is_read k cs e xs ys us p q r h (some_constants_run (k + 1) cs xs _ d) (constant_runs k e ys _ f)

    pub some_constants_run : (k : ℕ) (cs : List Constant) (ts us : List Terminal) → G.SomeConstants ok k cs ts us → G.SomeOf Constant (ConstantRuns k) cs ts us
    some_constants_run k cs ts us (G.last_constant {c = c} d) = G.last_of (constant_runs k c ts us d)
    some_constants_run k cs ts us (G.more_constants {c = c} {cs = ds} {us = xs} p d e) = G.more_of p (constant_runs k c ts _ d) (some_constants_run k ds xs us e)

    pub constants_run : (k : ℕ) (cs : List Constant) (ts us : List Terminal) → G.ConstantsOf ok k cs ts us → G.ListOf Constant (ConstantRuns k) cs ts us
    constants_run k cs ts us G.no_constants = G.none_of
    constants_run k cs ts us (G.some_constants d) = G.some_of (some_constants_run k cs ts us d)

  -- annotations

  pub annotation_list_runs : (cs : List Constant) (q r s : Place) (ts us : List Terminal) → G.ConstantsOf ok 1 cs ts (mark Mark.CloseSquare r ∷ mark Mark.CloseRound s ∷ us) → (ss : Symbols) (vs : Values) → run ok z (annotation_list ss) vs (mark Mark.OpenSquare q ∷ ts) ≡ run ok z ss vs us
  annotation_list_runs cs q r s ts us d ss vs = Elements.empty_list_runs ok z Constant (ConstantRuns 1) (Element.Term (Term.Constant 1)) (λ c vs. Value.Constant c ∷ vs) Value.Constants (λ c cs vs. refl) (constant_item 1) refl Closer.Square cs ts (mark Mark.CloseRound s ∷ us) r (constants_run 1 cs ts _ d) (Symbol.Make Maker.Drop ∷ Symbol.Wants Mark.CloseRound ∷ ss) vs

  pub annotation_runs : (ts us : List Terminal) → G.Annotation ok ts us → (ss : Symbols) (vs : Values) → run ok z (annotation ss) vs ts ≡ run ok z ss vs us
  annotation_runs ts us (G.annotation {cs = cs} {ts = xs} p q r s d) ss vs = annotation_list_runs cs q r s xs us d ss vs

  -- a part without an annotation, where `After` holds of what follows it
  abbrev pub BareRuns : (List Terminal → Type 0) → Part → (Values → Values) → List Terminal → List Terminal → Type 0
  BareRuns After x put ts us = (begins opens_bare ts ≡ true) × ((ss : Symbols) (vs : Values) → After us → run ok z (Symbol.Bare x ∷ ss) vs ts ≡ run ok z ss (put vs) us)

  pub annotated_runs : (After : List Terminal → Type 0) → ((p : Place) (us : List Terminal) → After (mark Mark.Dash p ∷ us)) → (x : Part) (put : Values → Values) (X : List Terminal → List Terminal → Type 0) → ((ts us : List Terminal) → X ts us → BareRuns After x put ts us) → (ts us : List Terminal) → G.Annotated ok X ts us → (ss : Symbols) (vs : Values) → After us → run ok z (Symbol.Annotated x ∷ ss) vs ts ≡ run ok z ss (put vs) us
  annotated_runs After dash x put X read ts us (G.bare d) ss vs a =
      same ok z opens_bare (Symbol.Annotated x ∷ ss) (Symbol.Bare x ∷ ss) vs vs (bare_is_bare x ss vs) ts (read ts us d).0 ∙ (read ts us d).1 ss vs a
  annotated_runs After dash x put X read ts us (G.annotated {ts = xs} o d (G.annotation {cs = cs} {ts = ys} p q r s e)) ss vs a =
      (read xs (mark Mark.Dash p ∷ mark Mark.OpenSquare q ∷ ys) d).1 (annotation ss) vs (dash p (mark Mark.OpenSquare q ∷ ys))
      ∙ annotation_runs (mark Mark.Dash p ∷ mark Mark.OpenSquare q ∷ ys) us (G.annotation p q r s e) ss (put vs)

  -- whatever follows
  abbrev pub Anything : List Terminal → Type 0
  Anything us = Unit {0}

  pub atom_runs : (a : List ℕ) (ts us : List Terminal) → G.AtomOf a ts us → BareRuns Anything Part.Atom (λ vs. Value.Atom a ∷ vs) ts us
  atom_runs a ts us (G.atom p) = (refl, λ ss vs _. refl)

  pub variable_runs : (x : Var) (ts us : List Terminal) → G.VariableOf x ts us → BareRuns Anything Part.Variable (λ vs. Value.Variable x ∷ vs) ts us
  variable_runs x ts us G.variable = (refl, λ ss vs _. refl)

  pub name_runs : (f : FunName) (p : Place) (ts us : List Terminal) → G.NameOf f p ts us → BareRuns Anything Part.Name (λ vs. Value.Name f ∷ Value.At p ∷ vs) ts us
  name_runs f p ts us (G.function_name q r) = (refl, λ ss vs _. refl)

  -- variables

  pub variable_item : (x : Var) (ts us : List Terminal) → G.AnnotatedVariable ok x ts us → Elements.ItemRuns ok z Var Element.Variable (λ x vs. Value.Variable x ∷ vs) x ts us
  variable_item x ts us (G.bare G.variable) = (refl, λ ss vs _. refl)
  variable_item x ts us (G.annotated o G.variable n) = (refl, λ ss vs _. annotation_runs _ us n ss (Value.Variable x ∷ vs))

  pub variable_list_runs : (c : Closer) (xs : List Var) (ts us : List Terminal) (p : Place) → G.ListOf Var (G.AnnotatedVariable ok) xs ts (mark (Steps.closing c) p ∷ us) → (ss : Symbols) (vs : Values) → run ok z (Symbol.First Element.Variable c ∷ ss) (Value.Variables [] ∷ vs) ts ≡ run ok z ss (Value.Variables xs ∷ vs) us
  variable_list_runs = Elements.list_runs ok z Var (G.AnnotatedVariable ok) Element.Variable (λ x vs. Value.Variable x ∷ vs) Value.Variables (λ x xs vs. refl) variable_item

  pub variables_run : (xs : List Var) (ts us : List Terminal) → G.VariablesOf ok xs ts us → (ss : Symbols) (vs : Values) → begins filled us ≡ true → run ok z (Symbol.Variables ∷ ss) vs ts ≡ run ok z ss (Value.Variables xs ∷ vs) us
  variables_run xs ts us (G.one_variable {x = x} (G.bare G.variable)) ss vs f = makes ok z filled Maker.OneVariable ss (Value.Variable x ∷ vs) us f
  variables_run xs ts us (G.one_variable {x = x} (G.annotated o G.variable n)) ss vs f =
      annotation_runs _ us n (Symbol.Make Maker.OneVariable ∷ ss) (Value.Variable x ∷ vs) ∙ makes ok z filled Maker.OneVariable ss (Value.Variable x ∷ vs) us f
  variables_run xs ts us (G.value_variables {ts = ys} p q d) ss vs f = variable_list_runs Closer.Angle xs ys us q d ss vs
