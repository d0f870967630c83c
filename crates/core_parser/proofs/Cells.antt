-- Runs over lists, whose tails go on with the elements before them.
use Rattle.std.proofs.Common.{◌≡◌, List, [], ◌∷◌, ◌++◌, true, refl, ◌∙◌}
use Rattle.hipe_terms.specs.declared.place.Place.{Place}
use Rattle.core_grammar.specs.declared.terminal.Kind.{Kind}
use Rattle.core_grammar.specs.declared.terminal.Mark.{Mark}
use Rattle.core_grammar.specs.declared.terminal.Terminal.{Terminal}
use Rattle.core_grammar.specs.Leave.{Leave, part, mark}
use Rattle.core_grammar.specs.Grammar.{SomeOf}
use Rattle.core_parser.specs.declared.symbol.Element.{Element}
use Rattle.core_parser.specs.declared.symbol.Maker.{Maker}
use Rattle.core_parser.specs.declared.symbol.Symbol.{Symbol}
use Rattle.core_parser.specs.declared.symbol.Term.{Term}
use Rattle.core_parser.specs.declared.value.Value.{Value}
use Rattle.core_parser.specs.Values.{Values, pushed, all_cells}
use Rattle.core_parser.specs.Machine.{Symbols, move, run, deeper, level_of}
use Rattle.core_parser.proofs.Steps.{allowed, begins, calm, opens, same, made_as}
use Rattle.core_parser.proofs.Elements.{ItemRuns, elements_run, some_open}

abbrev element_then : Term → Symbols → Symbols
element_then x ss = Symbol.Item (Element.Term (deeper x)) ∷ Symbol.Make (Maker.Push (Element.Term (deeper x))) ∷ Symbol.CellsRest x ∷ ss

first_is_item : (x : Term) (ss : Symbols) (vs : Values) (t : Kind) (p : Place) → opens t ≡ true → move (Symbol.CellsFirst x ∷ ss) vs t p ≡ move (element_then x ss) vs t p
first_is_item x ss vs (Kind.Mark Mark.CloseSquare) p h = cc
first_is_item x ss vs _ p h = refl

tail_first_is_item : (x : Term) (ss : Symbols) (vs : Values) (t : Kind) (p : Place) → opens t ≡ true → move (Symbol.TailFirst x ∷ ss) vs t p ≡ move (element_then x ss) vs t p
tail_first_is_item x ss vs (Kind.Mark Mark.CloseSquare) p h = cc
tail_first_is_item x ss vs _ p h = refl

module _ (ok : Leave) (z : Place) where
  -- a part of a term begins as parts do; its run puts its value on the stack; and as a tail it makes one list with the
  -- elements before it
  abbrev pub TermRuns : (A : Type 0) → Term → (A → Value) → (List A → Value) → (Place → List A → A → A) → A → List Terminal → List Terminal → Type 0
  TermRuns A x one held cells a ts us =
      (begins opens ts ≡ true)
      × ((ss : Symbols) (vs : Values) → begins calm us ≡ true → run ok z (Symbol.Item (Element.Term x) ∷ ss) vs ts ≡ run ok z ss (one a ∷ vs) us)
      × ((es : List A) (q p : Place) (ss : Symbols) (vs : Values) → begins calm us ≡ true → run ok z (Symbol.Tail x ∷ ss) (held es ∷ Value.At q ∷ Value.At p ∷ vs) ts ≡ run ok z ss (one (cells p es a) ∷ vs) us)

  module _ (A : Type 0) (x : Term) (one : A → Value) (held : List A → Value) (cells : Place → List A → A → A) (ended : Place → Place → List A → A) (push : (a : A) (as' : List A) (vs : Values) → pushed (Element.Term (deeper x)) (one a ∷ held as' ∷ vs) ≡ held (as' ++ a ∷ []) ∷ vs) (closed : (es : List A) (q p : Place) (vs : Values) → all_cells x (held es ∷ Value.At q ∷ Value.At p ∷ vs) ≡ one (ended p q es) ∷ vs) where
    part_runs : (a : A) (ts us : List Terminal) → TermRuns A (deeper x) one held cells a ts us → ItemRuns ok z A (Element.Term (deeper x)) (λ a vs. one a ∷ vs) a ts us
    part_runs a ts us d = (d.0, d.1)

    parts_run : (es : List A) (ts us : List Terminal) → SomeOf A (TermRuns A (deeper x) one held cells) es ts us → (bs : List A) (ss : Symbols) (vs : Values) → begins calm us ≡ true → run ok z (element_then x ss) (held bs ∷ vs) ts ≡ run ok z (Symbol.CellsRest x ∷ ss) (held (bs ++ es) ∷ vs) us
    parts_run es ts us d bs ss vs c = elements_run ok z A (TermRuns A (deeper x) one held cells) (Element.Term (deeper x)) (λ a vs. one a ∷ vs) held push part_runs (Symbol.CellsRest x) ss (λ p vs us. refl) es ts us d bs vs c

    parts_open : (es : List A) (ts us : List Terminal) → SomeOf A (TermRuns A (deeper x) one held cells) es ts us → begins opens ts ≡ true
    parts_open es ts us d = some_open ok z A (TermRuns A (deeper x) one held cells) (Element.Term (deeper x)) (λ a vs. one a ∷ vs) held push part_runs es ts us d

    -- elements and `]`
    all_run : (es : List A) (ts us : List Terminal) (r : Place) → SomeOf A (TermRuns A (deeper x) one held cells) es ts (mark Mark.CloseSquare r ∷ us) → (bs : List A) (q p : Place) (ss : Symbols) (vs : Values) → run ok z (element_then x ss) (held bs ∷ Value.At q ∷ Value.At p ∷ vs) ts ≡ run ok z ss (one (ended p q (bs ++ es)) ∷ vs) us
    all_run es ts us r d bs q p ss vs =
        parts_run es ts (mark Mark.CloseSquare r ∷ us) d bs ss (Value.At q ∷ Value.At p ∷ vs) refl
        ∙ made_as ok z ss us (closed (bs ++ es) q p vs)

    -- elements, a tail and `]`
    before_run : (es : List A) (a : A) (ts us ws : List Terminal) (r s : Place) → SomeOf A (TermRuns A (deeper x) one held cells) es ts (mark Mark.Bar r ∷ us) → TermRuns A x one held cells a us (mark Mark.CloseSquare s ∷ ws) → (bs : List A) (q p : Place) (ss : Symbols) (vs : Values) → run ok z (element_then x ss) (held bs ∷ Value.At q ∷ Value.At p ∷ vs) ts ≡ run ok z ss (one (cells p (bs ++ es) a) ∷ vs) ws
    before_run es a ts us ws r s d e bs q p ss vs =
        parts_run es ts (mark Mark.Bar r ∷ us) d bs ss (Value.At q ∷ Value.At p ∷ vs) refl
        ∙ e.2 (bs ++ es) q p (Symbol.Wants Mark.CloseSquare ∷ ss) vs refl

    pub list_runs : (es : List A) (ts us : List Terminal) (r : Place) → SomeOf A (TermRuns A (deeper x) one held cells) es ts (mark Mark.CloseSquare r ∷ us) → (p : Place) (ss : Symbols) (vs : Values) → run ok z (Symbol.CellsFirst x ∷ ss) (held [] ∷ Value.At p ∷ Value.At p ∷ vs) ts ≡ run ok z ss (one (ended p p es) ∷ vs) us
    list_runs es ts us r d p ss vs =
        same ok z opens (Symbol.CellsFirst x ∷ ss) (element_then x ss) (held [] ∷ Value.At p ∷ Value.At p ∷ vs) (held [] ∷ Value.At p ∷ Value.At p ∷ vs) (first_is_item x ss (held [] ∷ Value.At p ∷ Value.At p ∷ vs)) ts (parts_open es ts (mark Mark.CloseSquare r ∷ us) d)
        ∙ all_run es ts us r d [] p p ss vs

    pub list_before_runs : (es : List A) (a : A) (ts us ws : List Terminal) (r s : Place) → SomeOf A (TermRuns A (deeper x) one held cells) es ts (mark Mark.Bar r ∷ us) → TermRuns A x one held cells a us (mark Mark.CloseSquare s ∷ ws) → (p : Place) (ss : Symbols) (vs : Values) → run ok z (Symbol.CellsFirst x ∷ ss) (held [] ∷ Value.At p ∷ Value.At p ∷ vs) ts ≡ run ok z ss (one (cells p es a) ∷ vs) ws
    list_before_runs es a ts us ws r s d e p ss vs =
        same ok z opens (Symbol.CellsFirst x ∷ ss) (element_then x ss) (held [] ∷ Value.At p ∷ Value.At p ∷ vs) (held [] ∷ Value.At p ∷ Value.At p ∷ vs) (first_is_item x ss (held [] ∷ Value.At p ∷ Value.At p ∷ vs)) ts (parts_open es ts (mark Mark.Bar r ∷ us) d)
        ∙ before_run es a ts us ws r s d e [] p p ss vs

    -- lists that are tails

    pub empty_tail_runs : (o r : Place) (us : List Terminal) → ok (part (level_of x)) (mark Mark.OpenSquare o ∷ mark Mark.CloseSquare r ∷ us) ≡ true → (bs : List A) (q p : Place) (ss : Symbols) (vs : Values) → run ok z (Symbol.Tail x ∷ ss) (held bs ∷ Value.At q ∷ Value.At p ∷ vs) (mark Mark.OpenSquare o ∷ mark Mark.CloseSquare r ∷ us) ≡ run ok z ss (one (ended p o bs) ∷ vs) us
    empty_tail_runs o r us h bs q p ss vs = allowed h _ _ ∙ made_as ok z ss us (closed bs o p vs)

    pub tail_list_runs : (o r : Place) (es : List A) (ts us : List Terminal) → ok (part (level_of x)) (mark Mark.OpenSquare o ∷ ts) ≡ true → SomeOf A (TermRuns A (deeper x) one held cells) es ts (mark Mark.CloseSquare r ∷ us) → (bs : List A) (q p : Place) (ss : Symbols) (vs : Values) → run ok z (Symbol.Tail x ∷ ss) (held bs ∷ Value.At q ∷ Value.At p ∷ vs) (mark Mark.OpenSquare o ∷ ts) ≡ run ok z ss (one (ended p o (bs ++ es)) ∷ vs) us
    tail_list_runs o r es ts us h d bs q p ss vs =
        allowed h _ _
        ∙ same ok z opens (Symbol.TailFirst x ∷ ss) (element_then x ss) (held bs ∷ Value.At o ∷ Value.At p ∷ vs) (held bs ∷ Value.At o ∷ Value.At p ∷ vs) (tail_first_is_item x ss (held bs ∷ Value.At o ∷ Value.At p ∷ vs)) ts (parts_open es ts (mark Mark.CloseSquare r ∷ us) d)
        ∙ all_run es ts us r d bs o p ss vs

    pub tail_list_before_runs : (o r s : Place) (es : List A) (a : A) (ts us ws : List Terminal) → ok (part (level_of x)) (mark Mark.OpenSquare o ∷ ts) ≡ true → SomeOf A (TermRuns A (deeper x) one held cells) es ts (mark Mark.Bar r ∷ us) → TermRuns A x one held cells a us (mark Mark.CloseSquare s ∷ ws) → (bs : List A) (q p : Place) (ss : Symbols) (vs : Values) → run ok z (Symbol.Tail x ∷ ss) (held bs ∷ Value.At q ∷ Value.At p ∷ vs) (mark Mark.OpenSquare o ∷ ts) ≡ run ok z ss (one (cells p (bs ++ es) a) ∷ vs) ws
    tail_list_before_runs o r s es a ts us ws h d e bs q p ss vs =
        allowed h _ _
        ∙ same ok z opens (Symbol.TailFirst x ∷ ss) (element_then x ss) (held bs ∷ Value.At o ∷ Value.At p ∷ vs) (held bs ∷ Value.At o ∷ Value.At p ∷ vs) (tail_first_is_item x ss (held bs ∷ Value.At o ∷ Value.At p ∷ vs)) ts (parts_open es ts (mark Mark.Bar r ∷ us) d)
        ∙ before_run es a ts us ws r s d e bs o p ss vs
