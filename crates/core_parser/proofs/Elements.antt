-- Runs over elements with commas.
use Rattle.std.proofs.Common.{◌≡◌, List, [], ◌∷◌, ◌++◌, true, if◌then◌else◌, refl, ap, ◌∙◌, append_assoc}
use Rattle.hipe_terms.specs.declared.place.Place.{Place}
use Rattle.core_grammar.specs.declared.terminal.Kind.{Kind}
use Rattle.core_grammar.specs.declared.terminal.Mark.{Mark}
use Rattle.core_grammar.specs.declared.terminal.Terminal.{Terminal}
use Rattle.core_grammar.specs.Leave.{Leave, mark}
use Rattle.core_grammar.specs.Grammar.{SomeOf, last_of, more_of, ListOf, none_of, some_of}
use Rattle.core_parser.specs.declared.symbol.Closer.{Closer}
use Rattle.core_parser.specs.declared.symbol.Element.{Element}
use Rattle.core_parser.specs.declared.symbol.Maker.{Maker}
use Rattle.core_parser.specs.declared.symbol.Symbol.{Symbol}
use Rattle.core_parser.specs.declared.value.Value.{Value}
use Rattle.core_parser.specs.Values.{Values, pushed, empty}
use Rattle.core_parser.specs.Machine.{Symbols, Go, move, gone, all_ok, run, item, comma}
use Rattle.core_parser.proofs.Steps.{begins, filled, calm, opens, is_filled, closing, it_closes, comma_closes_none, closing_is_calm, opener_closes_none, same, makes, made_as}

first_is_item : (x : Element) (c : Closer) (ss : Symbols) (vs : Values) (t : Kind) (p : Place) → opens t ≡ true → move (Symbol.First x c ∷ ss) vs t p ≡ move (Symbol.Item x ∷ Symbol.Make (Maker.Push x) ∷ Symbol.Rest x c ∷ ss) vs t p
first_is_item x c ss vs t p h = ap (λ b. if b then Go ss vs [] else item x t p (Symbol.Make (Maker.Push x) ∷ Symbol.Rest x c ∷ ss) vs) (opener_closes_none c t h)

module _ (ok : Leave) (z : Place) where
  -- an element begins as parts do, and its run puts its values on the stack
  abbrev pub ItemRuns : (A : Type 0) → Element → (A → Values → Values) → A → List Terminal → List Terminal → Type 0
  ItemRuns A x put a ts us = (begins opens ts ≡ true) × ((ss : Symbols) (vs : Values) → begins calm us ≡ true → run ok z (Symbol.Item x ∷ ss) vs ts ≡ run ok z ss (put a vs) us)

  rest_goes_on : (x : Element) (c : Closer) (ss : Symbols) (p : Place) (vs : Values) (us : List Terminal) → run ok z (Symbol.Rest x c ∷ ss) vs (mark Mark.Comma p ∷ us) ≡ run ok z (Symbol.Item x ∷ Symbol.Make (Maker.Push x) ∷ Symbol.Rest x c ∷ ss) vs us
  rest_goes_on x c ss p vs us = ap (λ b. gone (if b then Go ss vs [] else comma x c (Kind.Mark Mark.Comma) ss vs) (λ needs. all_ok ok needs (mark Mark.Comma p ∷ us)) (Kind.Mark Mark.Comma) p (λ ss' vs'. run ok z ss' vs' us)) (comma_closes_none c)

  rest_ends : (x : Element) (c : Closer) (ss : Symbols) (p : Place) (vs : Values) (us : List Terminal) → run ok z (Symbol.Rest x c ∷ ss) vs (mark (closing c) p ∷ us) ≡ run ok z ss vs us
  rest_ends x c ss p vs us = ap (λ b. gone (if b then Go ss vs [] else comma x c (Kind.Mark (closing c)) ss vs) (λ needs. all_ok ok needs (mark (closing c) p ∷ us)) (Kind.Mark (closing c)) p (λ ss' vs'. run ok z ss' vs' us)) (it_closes c)

  first_ends : (x : Element) (c : Closer) (ss : Symbols) (p : Place) (vs : Values) (us : List Terminal) → run ok z (Symbol.First x c ∷ ss) vs (mark (closing c) p ∷ us) ≡ run ok z ss vs us
  first_ends x c ss p vs us = ap (λ b. gone (if b then Go ss vs [] else item x (Kind.Mark (closing c)) p (Symbol.Make (Maker.Push x) ∷ Symbol.Rest x c ∷ ss) vs) (λ needs. all_ok ok needs (mark (closing c) p ∷ us)) (Kind.Mark (closing c)) p (λ ss' vs'. run ok z ss' vs' us)) (it_closes c)

  module _ (A : Type 0) (X : A → List Terminal → List Terminal → Type 0) (x : Element) (put : A → Values → Values) (held : List A → Value) (push : (a : A) (as' : List A) (vs : Values) → pushed x (put a (held as' ∷ vs)) ≡ held (as' ++ a ∷ []) ∷ vs) (read : (a : A) (ts us : List Terminal) → X a ts us → ItemRuns A x put a ts us) where
    pub some_open : (as' : List A) (ts us : List Terminal) → SomeOf A X as' ts us → begins opens ts ≡ true
    some_open as' ts us (last_of {a = a} d) = (read a ts us d).0
    some_open as' ts us (more_of {a = a} p d ds) = (read a ts _ d).0

    pub elements_run : (r : Symbol) (ss : Symbols) → ((p : Place) (vs : Values) (us : List Terminal) → run ok z (r ∷ ss) vs (mark Mark.Comma p ∷ us) ≡ run ok z (Symbol.Item x ∷ Symbol.Make (Maker.Push x) ∷ r ∷ ss) vs us) → (as' : List A) (ts us : List Terminal) → SomeOf A X as' ts us → (bs : List A) (vs : Values) → begins calm us ≡ true → run ok z (Symbol.Item x ∷ Symbol.Make (Maker.Push x) ∷ r ∷ ss) (held bs ∷ vs) ts ≡ run ok z (r ∷ ss) (held (bs ++ as') ∷ vs) us
    elements_run r ss on as' ts us (last_of {a = a} d) bs vs c =
        (read a ts us d).1 (Symbol.Make (Maker.Push x) ∷ r ∷ ss) (held bs ∷ vs) c
        ∙ makes ok z calm (Maker.Push x) (r ∷ ss) (put a (held bs ∷ vs)) us c
        ∙ made_as ok z (r ∷ ss) us (push a bs vs)
    elements_run r ss on as' ts us (more_of {a = a} {as' = cs} {us = ws} p d ds) bs vs c =
        (read a ts (mark Mark.Comma p ∷ ws) d).1 (Symbol.Make (Maker.Push x) ∷ r ∷ ss) (held bs ∷ vs) refl
        ∙ made_as ok z (r ∷ ss) (mark Mark.Comma p ∷ ws) (push a bs vs)
        ∙ on p (held (bs ++ a ∷ []) ∷ vs) ws
        ∙ elements_run r ss on cs ws us ds (bs ++ a ∷ []) vs c
        ∙ ap (λ xs. run ok z (r ∷ ss) (held xs ∷ vs) us) (append_assoc bs (a ∷ []) cs)

    -- none or more, and what closes them
    pub list_runs : (c : Closer) (as' : List A) (ts us : List Terminal) (p : Place) → ListOf A X as' ts (mark (closing c) p ∷ us) → (ss : Symbols) (vs : Values) → run ok z (Symbol.First x c ∷ ss) (held [] ∷ vs) ts ≡ run ok z ss (held as' ∷ vs) us
    list_runs c as' ts us p none_of ss vs = first_ends x c ss p (held [] ∷ vs) us
    list_runs c as' ts us p (some_of d) ss vs =
        same ok z opens (Symbol.First x c ∷ ss) (Symbol.Item x ∷ Symbol.Make (Maker.Push x) ∷ Symbol.Rest x c ∷ ss) (held [] ∷ vs) (held [] ∷ vs) (first_is_item x c ss (held [] ∷ vs)) ts (some_open as' ts (mark (closing c) p ∷ us) d)
        ∙ elements_run (Symbol.Rest x c) ss (rest_goes_on x c ss) as' ts (mark (closing c) p ∷ us) d [] vs (closing_is_calm c)
        ∙ rest_ends x c ss p (held as' ∷ vs) us

    list_filled : (as' : List A) (ts us : List Terminal) (m : Mark) (p : Place) → ListOf A X as' ts (mark m p ∷ us) → begins filled ts ≡ true
    list_filled as' ts us m p none_of = refl
    list_filled as' ts us m p (some_of d) = is_filled opens ts (some_open as' ts (mark m p ∷ us) d)

    pub empty_list_runs : empty x ≡ held [] → (c : Closer) (as' : List A) (ts us : List Terminal) (p : Place) → ListOf A X as' ts (mark (closing c) p ∷ us) → (ss : Symbols) (vs : Values) → run ok z (Symbol.Make (Maker.Empty x) ∷ Symbol.First x c ∷ ss) vs ts ≡ run ok z ss (held as' ∷ vs) us
    empty_list_runs is c as' ts us p d ss vs =
        makes ok z filled (Maker.Empty x) (Symbol.First x c ∷ ss) vs ts (list_filled as' ts us (closing c) p d)
        ∙ ap (λ v. run ok z (Symbol.First x c ∷ ss) (v ∷ vs) ts) is
        ∙ list_runs c as' ts us p d ss vs
