-- Runs over patterns, alone, as tails, and at the head of a clause.
use Rattle.std.proofs.Common.{◌≡◌, ℕ, ◌+◌, List, [], ◌∷◌, ◌++◌, Bool, true, false, refl, ap, sym, ◌∙◌, append_assoc}
use Rattle.hipe_terms.specs.declared.place.Place.{Place}
use Rattle.core_ast.specs.declared.pattern.Var.{Var}
use Rattle.core_ast.specs.declared.pattern.Pattern.{Pattern}
use Rattle.core_ast.specs.declared.pattern.PatNode.{PatNode, out-PatNode, out-roll-PatNode}
use Rattle.core_ast.specs.declared.pattern.PatNode.TheOpen.{PatNode-F}
use Rattle.core_grammar.specs.declared.terminal.Kind.{Kind}
use Rattle.core_grammar.specs.declared.terminal.Mark.{Mark}
use Rattle.core_grammar.specs.declared.terminal.Terminal.{Terminal}
use Rattle.core_grammar.specs.Trees.{variable_at, pattern_at, pattern_cells, pattern_cells_before, pattern_nil}
use Rattle.core_grammar.specs.Leave.{Leave, part, token, mark}
use Rattle.core_grammar.specs.Grammar as G
use Rattle.core_parser.specs.declared.symbol.Closer.{Closer}
use Rattle.core_parser.specs.declared.symbol.Element.{Element}
use Rattle.core_parser.specs.declared.symbol.Maker.{Maker}
use Rattle.core_parser.specs.declared.symbol.Symbol.{Symbol}
use Rattle.core_parser.specs.declared.symbol.Term.{Term}
use Rattle.core_parser.specs.declared.value.Value.{Value}
use Rattle.core_parser.specs.Values.{Values, variable_pattern}
use Rattle.core_parser.specs.Machine.{Symbols, Move, move, run, after_variable, annotation, alias_of, guarded, when_guarded, one_when_guarded}
use Rattle.core_parser.proofs.Steps as Steps
use Rattle.core_parser.proofs.Steps.{allowed, begins, calm, opens, opens_plain, plain_is_bare, bare_opens, same, makes}
use Rattle.core_parser.proofs.Elements as Elements
use Rattle.core_parser.proofs.Cells as Cells
use Rattle.core_parser.proofs.Constants.{annotation_list_runs, annotation_runs}

-- a pattern is of the form that it was made of
pattern_form_is : (p : Place) (form : PatNode-F PatNode Pattern) → out-PatNode (pattern_at p form).node ≡ form
unfolding pattern_at
pattern_form_is p form = out-roll-PatNode form

pub nil_joins : (p q : Place) (es : List Pattern) → pattern_cells p es (pattern_nil q) ≡ pattern_at p (PatNode-F.List es (pattern_nil q))
nil_joins p q es = ap (pattern_cells_before p es (pattern_nil q)) (pattern_form_is q PatNode-F.Nil)

pub list_joins : (p q : Place) (es fs : List Pattern) (f : Pattern) → pattern_cells p es (pattern_at q (PatNode-F.List fs f)) ≡ pattern_at p (PatNode-F.List (es ++ fs) f)
list_joins p q es fs f = ap (pattern_cells_before p es (pattern_at q (PatNode-F.List fs f))) (pattern_form_is q (PatNode-F.List fs f))

cells_join_by : (p q : Place) (es fs : List Pattern) (f : Pattern) (form : PatNode-F PatNode Pattern) → pattern_cells p es (pattern_cells_before q fs f form) ≡ pattern_cells_before p (es ++ fs) f form
cells_join_by p q es fs f (PatNode-F.List gs g) = list_joins p q es (fs ++ gs) g ∙ ap (λ xs. pattern_at p (PatNode-F.List xs g)) (sym (append_assoc es fs gs))
cells_join_by p q es fs f (PatNode-F.Var x) = list_joins p q es fs f
cells_join_by p q es fs f (PatNode-F.Int n) = list_joins p q es fs f
cells_join_by p q es fs f (PatNode-F.Atom a) = list_joins p q es fs f
cells_join_by p q es fs f PatNode-F.Nil = list_joins p q es fs f
cells_join_by p q es fs f (PatNode-F.Tuple ts) = list_joins p q es fs f
cells_join_by p q es fs f (PatNode-F.Alias x g) = list_joins p q es fs f

-- a list that is a tail is one list with the elements before it
pub cells_join : (p q : Place) (es fs : List Pattern) (f : Pattern) → pattern_cells p es (pattern_cells q fs f) ≡ pattern_cells p (es ++ fs) f
cells_join p q es fs f = cells_join_by p q es fs f (out-PatNode f.node)

abbrev before : Place → List Pattern → Pattern → Pattern
before p es f = pattern_cells p es f

abbrev ended : Place → Place → List Pattern → Pattern
ended p q es = pattern_at p (PatNode-F.List es (pattern_nil q))

-- symbols that make the same moves

abbrev plain_other : Kind → Bool
plain_other (Kind.Mark Mark.OpenSquare) = false
plain_other t = opens_plain t

other_joins : (k : ℕ) (ss : Symbols) (vs : Values) (t : Kind) (p : Place) → plain_other t ≡ true → move (Symbol.Tail (Term.Pattern k) ∷ ss) vs t p ≡ move (Symbol.Pattern k ∷ Symbol.Make (Maker.Join (Term.Pattern k)) ∷ ss) vs t p
other_joins k ss vs (Kind.Mark Mark.OpenSquare) p h = cc
other_joins k ss vs (Kind.Mark Mark.OpenRound) p h = cc
other_joins k ss vs _ p h = refl

inside_is_plain : (k : ℕ) (ss : Symbols) (vs : Values) (t : Kind) (p : Place) → opens_plain t ≡ true → move (Symbol.PatternInside k ∷ ss) vs t p ≡ move (Symbol.Pattern k ∷ annotation ss) vs t p
inside_is_plain k ss vs (Kind.Variable x) p h = cc
inside_is_plain k ss vs (Kind.Mark Mark.OpenRound) p h = cc
inside_is_plain k ss vs _ p h = refl

tail_inside_is_tail : (k : ℕ) (ss : Symbols) (vs : Values) (t : Kind) (p : Place) → opens_plain t ≡ true → move (Symbol.PatternTailInside k ∷ ss) vs t p ≡ move (Symbol.Tail (Term.Pattern k) ∷ annotation ss) vs t p
tail_inside_is_tail k ss vs (Kind.Variable x) p h = cc
tail_inside_is_tail k ss vs (Kind.Mark Mark.OpenRound) p h = cc
tail_inside_is_tail k ss vs _ p h = refl

clause_is_plain : (k : ℕ) (ss : Symbols) (vs : Values) (t : Kind) (p : Place) → opens_plain t ≡ true → move (Symbol.Clause k ∷ ss) vs t p ≡ move (Symbol.Pattern (k + 1) ∷ one_when_guarded k ss) vs t p
clause_is_plain k ss vs (Kind.Variable x) p h = cc
clause_is_plain k ss vs (Kind.Mark Mark.OpenRound) p h = cc
clause_is_plain k ss vs (Kind.Mark Mark.Less) p h = cc
clause_is_plain k ss vs _ p h = refl

clause_inside_is_plain : (k : ℕ) (ss : Symbols) (vs : Values) (t : Kind) (p : Place) → opens_plain t ≡ true → move (Symbol.ClauseInside k ∷ ss) vs t p ≡ move (Symbol.Pattern (k + 1) ∷ Symbol.ClauseMiddle k ∷ ss) vs t p
clause_inside_is_plain k ss vs (Kind.Variable x) p h = cc
clause_inside_is_plain k ss vs (Kind.Mark Mark.OpenRound) p h = cc
clause_inside_is_plain k ss vs (Kind.Mark Mark.Less) p h = cc
clause_inside_is_plain k ss vs _ p h = refl

clause_twice_inside_is_plain : (k : ℕ) (ss : Symbols) (vs : Values) (t : Kind) (p : Place) → opens_plain t ≡ true → move (Symbol.ClauseTwiceInside k ∷ ss) vs t p ≡ move (Symbol.Pattern (k + 1) ∷ annotation (one_when_guarded k (annotation ss))) vs t p
clause_twice_inside_is_plain k ss vs (Kind.Variable x) p h = cc
clause_twice_inside_is_plain k ss vs (Kind.Mark Mark.OpenRound) p h = cc
clause_twice_inside_is_plain k ss vs _ p h = refl

variable_skips : (k : ℕ) (t : Kind) (ss : Symbols) (vs : Values) (m : Move) → calm t ≡ true → after_variable k t ss vs m ≡ m
variable_skips k (Kind.Mark Mark.Equals) ss vs m h = cc
variable_skips k _ ss vs m h = refl

abbrev of_variable : Var → Terminal
of_variable x = token (Kind.Variable x.name) x.at

module _ (ok : Leave) (z : Place) where
  abbrev pub PatternRuns : ℕ → Pattern → List Terminal → List Terminal → Type 0
  PatternRuns k = Cells.TermRuns ok z Pattern (Term.Pattern k) Value.Pattern Value.Patterns before

  pub pattern_item : (k : ℕ) (f : Pattern) (ts us : List Terminal) → PatternRuns k f ts us → Elements.ItemRuns ok z Pattern (Element.Term (Term.Pattern k)) (λ f vs. Value.Pattern f ∷ vs) f ts us
  pattern_item k f ts us d = (d.0, d.1)

  -- a pattern that isn't a variable or an alias
  abbrev pub PlainRuns : ℕ → Pattern → List Terminal → List Terminal → Type 0
  PlainRuns k f ts us =
      (begins opens_plain ts ≡ true)
      × ((ss : Symbols) (vs : Values) → begins calm us ≡ true → run ok z (Symbol.Pattern k ∷ ss) vs ts ≡ run ok z ss (Value.Pattern f ∷ vs) us)
      × ((es : List Pattern) (q p : Place) (ss : Symbols) (vs : Values) → begins calm us ≡ true → run ok z (Symbol.Tail (Term.Pattern k) ∷ ss) (Value.Patterns es ∷ Value.At q ∷ Value.At p ∷ vs) ts ≡ run ok z ss (Value.Pattern (pattern_cells p es f) ∷ vs) us)

  -- a pattern without an annotation
  pub data BareForm : ℕ → Pattern → List Terminal → List Terminal → Type 0 where
    plain : {k : ℕ} {f : Pattern} {ts us : List Terminal} → PlainRuns k f ts us → BareForm k f ts us
    variable : {k : ℕ} {us : List Terminal} (x : Var) → ok (part k) (of_variable x ∷ us) ≡ true → BareForm k (pattern_at x.at (PatNode-F.Var x.name)) (of_variable x ∷ us) us
    alias : {k : ℕ} {ts us : List Terminal} (f : Pattern) (x : Var) (q : Place) → ok (part k) (of_variable x ∷ mark Mark.Equals q ∷ ts) ≡ true → PatternRuns (k + 1) f ts us → BareForm k (pattern_at x.at (PatNode-F.Alias x f)) (of_variable x ∷ mark Mark.Equals q ∷ ts) us
    annotated_alias : {k : ℕ} {ts us ws : List Terminal} (f : Pattern) (x : Var) (o q : Place) → ok (part k) (of_variable x ∷ ts) ≡ true → G.Annotation ok ts (mark Mark.Equals q ∷ us) → PatternRuns (k + 1) f us ws → BareForm k (pattern_at x.at (PatNode-F.Alias x f)) (mark Mark.OpenRound o ∷ of_variable x ∷ ts) ws

  pub data Form : ℕ → Pattern → List Terminal → List Terminal → Type 0 where
    bare : {k : ℕ} {f : Pattern} {ts us : List Terminal} → BareForm k f ts us → Form k f ts us
    noted : {k : ℕ} {f : Pattern} {ts us ws : List Terminal} (o : Place) → BareForm k f ts us → G.Annotation ok us ws → Form k f (mark Mark.OpenRound o ∷ ts) ws

  pub annotation_calm : (us ws : List Terminal) → G.Annotation ok us ws → begins calm us ≡ true
  annotation_calm us ws (G.annotation p q r s d) = refl

  skip_variable : (k : ℕ) (x : Var) (ss : Symbols) (vs : Values) (us : List Terminal) → begins calm us ≡ true → run ok z (Symbol.AfterVariable k ∷ ss) (Value.Variable x ∷ vs) us ≡ run ok z ss (Value.Pattern (pattern_at x.at (PatNode-F.Var x.name)) ∷ vs) us
  skip_variable k x ss vs us h = same ok z calm (Symbol.AfterVariable k ∷ ss) ss (Value.Variable x ∷ vs) (variable_pattern (Value.Variable x ∷ vs)) (λ t p c. variable_skips k t ss (Value.Variable x ∷ vs) _ c) us h

  alias_runs : (k : ℕ) (f : Pattern) (ts us : List Terminal) → PatternRuns (k + 1) f ts us → (x : Var) (ss : Symbols) (vs : Values) → begins calm us ≡ true → run ok z (alias_of k ss) (Value.Variable x ∷ vs) ts ≡ run ok z ss (Value.Pattern (pattern_at x.at (PatNode-F.Alias x f)) ∷ vs) us
  alias_runs k f ts us d x ss vs c =
      same ok z opens (alias_of k ss) (Symbol.Item (Element.Term (Term.Pattern (k + 1))) ∷ Symbol.Make Maker.Alias ∷ ss) (Value.Variable x ∷ vs) (Value.Variable x ∷ vs) (λ t p h. refl) ts d.0
      ∙ d.1 (Symbol.Make Maker.Alias ∷ ss) (Value.Variable x ∷ vs) c
      ∙ makes ok z calm Maker.Alias ss (Value.Pattern f ∷ Value.Variable x ∷ vs) us c

  pattern_run : (k : ℕ) (f : Pattern) (ts us : List Terminal) → Form k f ts us → (ss : Symbols) (vs : Values) → begins calm us ≡ true → run ok z (Symbol.Pattern k ∷ ss) vs ts ≡ run ok z ss (Value.Pattern f ∷ vs) us
  pattern_run k f ts us (bare (plain d)) ss vs c = d.1 ss vs c
  pattern_run k f ts us (bare (variable x h)) ss vs c = allowed h _ _ ∙ skip_variable k x ss vs us c
  pattern_run k f ts us (bare (alias i x q h d)) ss vs c = allowed h _ _ ∙ alias_runs k i _ us d x ss vs c
  pattern_run k f ts us (bare (annotated_alias i x o q h (G.annotation a b e g n) d)) ss vs c =
      allowed h _ _ ∙ annotation_list_runs ok z _ b e g _ _ n (Symbol.AfterVariable k ∷ ss) (Value.Variable x ∷ vs) ∙ alias_runs k i _ us d x ss vs c
  pattern_run k f ts us (noted {ts = xs} {us = ys} o (plain d) n) ss vs c =
      same ok z opens_plain (Symbol.PatternInside k ∷ ss) (Symbol.Pattern k ∷ annotation ss) vs vs (inside_is_plain k ss vs) xs d.0
      ∙ d.1 (annotation ss) vs (annotation_calm ys us n) ∙ annotation_runs ok z ys us n ss (Value.Pattern f ∷ vs)
  pattern_run k f ts us (noted o (variable x h) (G.annotation a b e g n)) ss vs c =
      allowed h _ _ ∙ annotation_list_runs ok z _ b e g _ _ n (Symbol.AfterVariable k ∷ ss) (Value.Variable x ∷ vs) ∙ skip_variable k x ss vs us c
  pattern_run k f ts us (noted {us = ys} o (alias i x q h d) n) ss vs c =
      allowed h _ _ ∙ alias_runs k i _ ys d x (annotation ss) vs (annotation_calm ys us n) ∙ annotation_runs ok z ys us n ss (Value.Pattern f ∷ vs)
  pattern_run k f ts us (noted {us = ys} o (annotated_alias {us = ws} i x o' q h m d) n) ss vs c =
      allowed h _ _ ∙ annotation_runs ok z _ (mark Mark.Equals q ∷ ws) m (Symbol.Wants Mark.Equals ∷ alias_of k (annotation ss)) (Value.Variable x ∷ vs)
      ∙ alias_runs k i ws ys d x (annotation ss) vs (annotation_calm ys us n) ∙ annotation_runs ok z ys us n ss (Value.Pattern f ∷ vs)

  -- a pattern that is read before it makes one list with the elements before it
  joined_run : (k : ℕ) (f : Pattern) (ts us : List Terminal) → Form k f ts us → (es : List Pattern) (q p : Place) (ss : Symbols) (vs : Values) → begins calm us ≡ true → run ok z (Symbol.Pattern k ∷ Symbol.Make (Maker.Join (Term.Pattern k)) ∷ ss) (Value.Patterns es ∷ Value.At q ∷ Value.At p ∷ vs) ts ≡ run ok z ss (Value.Pattern (pattern_cells p es f) ∷ vs) us
  joined_run k f ts us d es q p ss vs c =
      pattern_run k f ts us d (Symbol.Make (Maker.Join (Term.Pattern k)) ∷ ss) (Value.Patterns es ∷ Value.At q ∷ Value.At p ∷ vs) c
      ∙ makes ok z calm (Maker.Join (Term.Pattern k)) ss (Value.Pattern f ∷ Value.Patterns es ∷ Value.At q ∷ Value.At p ∷ vs) us c

  tail_run : (k : ℕ) (f : Pattern) (ts us : List Terminal) → Form k f ts us → (es : List Pattern) (q p : Place) (ss : Symbols) (vs : Values) → begins calm us ≡ true → run ok z (Symbol.Tail (Term.Pattern k) ∷ ss) (Value.Patterns es ∷ Value.At q ∷ Value.At p ∷ vs) ts ≡ run ok z ss (Value.Pattern (pattern_cells p es f) ∷ vs) us
  tail_run k f ts us (bare (plain d)) es q p ss vs c = d.2 es q p ss vs c
  tail_run k f ts us (bare (variable x h)) es q p ss vs c = joined_run k f ts us (bare (variable x h)) es q p ss vs c
  tail_run k f ts us (bare (alias i x r h d)) es q p ss vs c = joined_run k f ts us (bare (alias i x r h d)) es q p ss vs c
  tail_run k f ts us (bare (annotated_alias i x o r h n d)) es q p ss vs c = joined_run k f ts us (bare (annotated_alias i x o r h n d)) es q p ss vs c
  tail_run k f ts us (noted {ts = xs} {us = ys} o (plain d) n) es q p ss vs c =
      same ok z opens_plain (Symbol.PatternTailInside k ∷ ss) (Symbol.Tail (Term.Pattern k) ∷ annotation ss) (Value.Patterns es ∷ Value.At q ∷ Value.At p ∷ vs) (Value.Patterns es ∷ Value.At q ∷ Value.At p ∷ vs) (tail_inside_is_tail k ss (Value.Patterns es ∷ Value.At q ∷ Value.At p ∷ vs)) xs d.0
      ∙ d.2 es q p (annotation ss) vs (annotation_calm ys us n)
      ∙ annotation_runs ok z ys us n ss (Value.Pattern (pattern_cells p es f) ∷ vs)
  tail_run k f ts us (noted o (variable x h) n) es q p ss vs c = joined_run k f ts us (noted o (variable x h) n) es q p ss vs c
  tail_run k f ts us (noted o (alias i x r h d) n) es q p ss vs c = joined_run k f ts us (noted o (alias i x r h d) n) es q p ss vs c
  tail_run k f ts us (noted o (annotated_alias i x o' r h m d) n) es q p ss vs c = joined_run k f ts us (noted o (annotated_alias i x o' r h m d) n) es q p ss vs c

  form_opens : (k : ℕ) (f : Pattern) (ts us : List Terminal) → Form k f ts us → begins opens ts ≡ true
  form_opens k f ts us (bare (plain d)) = bare_opens ts (plain_is_bare ts d.0)
  form_opens k f ts us (bare (variable x h)) = refl
  form_opens k f ts us (bare (alias i x q h d)) = refl
  form_opens k f ts us (bare (annotated_alias i x o q h n d)) = refl
  form_opens k f ts us (noted o d n) = refl

  form_runs : (k : ℕ) (f : Pattern) (ts us : List Terminal) → Form k f ts us → PatternRuns k f ts us
  form_runs k f ts us d = (
    form_opens k f ts us d,
    (λ ss vs c. same ok z opens (Symbol.Item (Element.Term (Term.Pattern k)) ∷ ss) (Symbol.Pattern k ∷ ss) vs vs (λ t p h. refl) ts (form_opens k f ts us d) ∙ pattern_run k f ts us d ss vs c),
    tail_run k f ts us d,
  )

  -- a plain pattern that doesn't begin with `[`
  other_runs : (k : ℕ) (f : Pattern) (ts us : List Terminal) → begins opens_plain ts ≡ true → begins plain_other ts ≡ true → ((ss : Symbols) (vs : Values) → begins calm us ≡ true → run ok z (Symbol.Pattern k ∷ ss) vs ts ≡ run ok z ss (Value.Pattern f ∷ vs) us) → BareForm k f ts us
  other_runs k f ts us o other r = plain (
    o,
    r,
    λ es q p ss vs h.
        same ok z plain_other (Symbol.Tail (Term.Pattern k) ∷ ss) (Symbol.Pattern k ∷ Symbol.Make (Maker.Join (Term.Pattern k)) ∷ ss) (Value.Patterns es ∷ Value.At q ∷ Value.At p ∷ vs) (Value.Patterns es ∷ Value.At q ∷ Value.At p ∷ vs) (other_joins k ss (Value.Patterns es ∷ Value.At q ∷ Value.At p ∷ vs)) ts other
        ∙ r (Symbol.Make (Maker.Join (Term.Pattern k)) ∷ ss) (Value.Patterns es ∷ Value.At q ∷ Value.At p ∷ vs) h
        ∙ makes ok z calm (Maker.Join (Term.Pattern k)) ss (Value.Pattern f ∷ Value.Patterns es ∷ Value.At q ∷ Value.At p ∷ vs) us h,
  )

  pub pattern_list_runs : (k : ℕ) (c : Closer) (fs : List Pattern) (ts us : List Terminal) (p : Place) → G.ListOf Pattern (PatternRuns k) fs ts (mark (Steps.closing c) p ∷ us) → (ss : Symbols) (vs : Values) → run ok z (Symbol.First (Element.Term (Term.Pattern k)) c ∷ ss) (Value.Patterns [] ∷ vs) ts ≡ run ok z ss (Value.Patterns fs ∷ vs) us
  pattern_list_runs k = Elements.list_runs ok z Pattern (PatternRuns k) (Element.Term (Term.Pattern k)) (λ f vs. Value.Pattern f ∷ vs) Value.Patterns (λ f fs vs. refl) (pattern_item k)

  list_is_read : (k : ℕ) (fs : List Pattern) (ts us : List Terminal) (p q : Place) → ok (part k) (mark Mark.OpenSquare p ∷ ts) ≡ true → G.SomeOf Pattern (PatternRuns (k + 1)) fs ts (mark Mark.CloseSquare q ∷ us) → BareForm k (pattern_at p (PatNode-F.List fs (pattern_nil p))) (mark Mark.OpenSquare p ∷ ts) us
  list_is_read k fs ts us p q h d = plain (
    refl,
    (λ ss vs c. allowed h _ _ ∙ Cells.list_runs ok z Pattern (Term.Pattern k) Value.Pattern Value.Patterns before ended (λ f fs vs. refl) (λ es q p vs. refl) fs ts us q d p ss vs),
    (λ es o r ss vs c.
        Cells.tail_list_runs ok z Pattern (Term.Pattern k) Value.Pattern Value.Patterns before ended (λ f fs vs. refl) (λ es q p vs. refl) p q fs ts us h d es o r ss vs
        ∙ ap (λ x. run ok z ss (Value.Pattern x ∷ vs) us) (sym (list_joins r p es fs (pattern_nil p)))),
  )

  before_is_read : (k : ℕ) (fs : List Pattern) (e : Pattern) (ts us ws : List Terminal) (p q r : Place) → ok (part k) (mark Mark.OpenSquare p ∷ ts) ≡ true → G.SomeOf Pattern (PatternRuns (k + 1)) fs ts (mark Mark.Bar q ∷ us) → PatternRuns k e us (mark Mark.CloseSquare r ∷ ws) → BareForm k (pattern_cells p fs e) (mark Mark.OpenSquare p ∷ ts) ws
  before_is_read k fs e ts us ws p q r h d f = plain (
    refl,
    (λ ss vs c. allowed h _ _ ∙ Cells.list_before_runs ok z Pattern (Term.Pattern k) Value.Pattern Value.Patterns before ended (λ f fs vs. refl) (λ es q p vs. refl) fs e ts us ws q r d f p ss vs),
    (λ es o t ss vs c.
        Cells.tail_list_before_runs ok z Pattern (Term.Pattern k) Value.Pattern Value.Patterns before ended (λ f fs vs. refl) (λ es q p vs. refl) p q r fs e ts us ws h d f es o t ss vs
        ∙ ap (λ x. run ok z ss (Value.Pattern x ∷ vs) ws) (sym (cells_join t p es fs e))),
  )

  empty_is_read : (k : ℕ) (us : List Terminal) (p q : Place) → ok (part k) (mark Mark.OpenSquare p ∷ mark Mark.CloseSquare q ∷ us) ≡ true → BareForm k (pattern_nil p) (mark Mark.OpenSquare p ∷ mark Mark.CloseSquare q ∷ us) us
  empty_is_read k us p q h = plain (
    refl,
    (λ ss vs c. allowed h _ _),
    (λ es o r ss vs c.
        Cells.empty_tail_runs ok z Pattern (Term.Pattern k) Value.Pattern Value.Patterns before ended (λ f fs vs. refl) (λ es q p vs. refl) p q us h es o r ss vs
        ∙ ap (λ x. run ok z ss (Value.Pattern x ∷ vs) us) (sym (nil_joins r p es))),
  )

  mutual
    pub bare_form : (k : ℕ) (f : Pattern) (ts us : List Terminal) → G.BarePattern ok k f ts us → BareForm k f ts us
    bare_form k f ts us (G.pattern_variable x p h) = variable (variable_at p x) h
    bare_form k f ts us (G.pattern_integer p (G.digits n) h) = other_runs k f ts us refl refl (λ ss vs c. allowed h _ _)
    bare_form k f ts us (G.pattern_integer p (G.signed_or_character n) h) = other_runs k f ts us refl refl (λ ss vs c. allowed h _ _)
    bare_form k f ts us (G.pattern_characters s p h) = other_runs k f ts us refl refl (λ ss vs c. allowed h _ _)
    bare_form k f ts us (G.pattern_atom a p h) = other_runs k f ts us refl refl (λ ss vs c. allowed h _ _)
    bare_form k f ts us (G.pattern_empty p q h) = empty_is_read k us p q h
    bare_form k f ts us (G.pattern_tuple {fs = fs} {ts = xs} p q h d) = other_runs k f ts us refl refl (λ ss vs c.
        allowed h _ _
        ∙ pattern_list_runs (k + 1) Closer.Brace fs xs us q (patterns_run (k + 1) fs xs _ d) (Symbol.Make (Maker.Tuple (Term.Pattern k)) ∷ ss) (Value.At p ∷ vs)
        ∙ makes ok z calm (Maker.Tuple (Term.Pattern k)) ss (Value.Patterns fs ∷ Value.At p ∷ vs) us c)
    bare_form k f ts us (G.pattern_list {fs = fs} {ts = xs} p q h d) = list_is_read k fs xs us p q h (some_patterns_run (k + 1) fs xs _ d)
    bare_form k f ts us (G.pattern_list_before {fs = fs} {f = e} {ts = xs} {us = ys} p q r h d g) = before_is_read k fs e xs ys us p q r h (some_patterns_run (k + 1) fs xs _ d) (form_runs k e ys _ (pattern_form k e ys _ g))
    bare_form k f ts us (G.pattern_alias {x = x} {f = g} {us = ys} q h (G.bare G.variable) d) = alias g x q h (form_runs (k + 1) g ys us (pattern_form (k + 1) g ys us d))
    bare_form k f ts us (G.pattern_alias {x = x} {f = g} {us = ys} q h (G.annotated o G.variable n) d) = annotated_alias g x o q h n (form_runs (k + 1) g ys us (pattern_form (k + 1) g ys us d))

    pub pattern_form : (k : ℕ) (f : Pattern) (ts us : List Terminal) → G.PatternOf ok k f ts us → Form k f ts us
    pattern_form k f ts us (G.pattern_bare d) = bare (bare_form k f ts us d)
    pattern_form k f ts us (G.pattern_annotated {ts = xs} {us = ys} o d n) = noted o (bare_form k f xs ys d) n
    pattern_form k f ts us (G.pattern_aliased {x = x} {f = g} {us = ys} q h (G.bare G.variable) d) = bare (alias g x q h (form_runs (k + 1) g ys us (pattern_form (k + 1) g ys us d)))
    pattern_form k f ts us (G.pattern_aliased {x = x} {f = g} {us = ys} q h (G.annotated o G.variable n) d) = bare (annotated_alias g x o q h n (form_runs (k + 1) g ys us (pattern_form (k + 1) g ys us d)))

    pub some_patterns_run : (k : ℕ) (fs : List Pattern) (ts us : List Terminal) → G.SomePatterns ok k fs ts us → G.SomeOf Pattern (PatternRuns k) fs ts us
    some_patterns_run k fs ts us (G.last_pattern {f = f} d) = G.last_of (form_runs k f ts us (pattern_form k f ts us d))
    some_patterns_run k fs ts us (G.more_patterns {f = f} {fs = gs} {us = xs} p d e) = G.more_of p (form_runs k f ts _ (pattern_form k f ts _ d)) (some_patterns_run k gs xs us e)

    pub patterns_run : (k : ℕ) (fs : List Pattern) (ts us : List Terminal) → G.PatternsOf ok k fs ts us → G.ListOf Pattern (PatternRuns k) fs ts us
    patterns_run k fs ts us G.no_patterns = G.none_of
    patterns_run k fs ts us (G.some_patterns d) = G.some_of (some_patterns_run k fs ts us d)

  -- the one pattern of a clause

  one_runs : (k : ℕ) (f : Pattern) (ts us : List Terminal) (w : Place) → Form (k + 1) f ts (mark Mark.When w ∷ us) → (ss : Symbols) (vs : Values) → run ok z (Symbol.Clause k ∷ ss) vs ts ≡ run ok z (guarded k ss) (Value.Patterns (f ∷ []) ∷ Value.At f.at ∷ vs) us
  one_runs k f ts us w (bare (plain d)) ss vs =
      same ok z opens_plain (Symbol.Clause k ∷ ss) (Symbol.Pattern (k + 1) ∷ one_when_guarded k ss) vs vs (clause_is_plain k ss vs) ts d.0
      ∙ d.1 (one_when_guarded k ss) vs refl
  one_runs k f ts us w (bare (variable x h)) ss vs = allowed h _ _
  one_runs k f ts us w (bare (alias i x q h d)) ss vs = allowed h _ _ ∙ alias_runs (k + 1) i _ (mark Mark.When w ∷ us) d x (one_when_guarded k ss) vs refl
  one_runs k f ts us w (bare (annotated_alias i x o q h (G.annotation a b e g n) d)) ss vs =
      allowed h _ _ ∙ annotation_list_runs ok z _ b e g _ _ n (Symbol.AfterVariable (k + 1) ∷ one_when_guarded k ss) (Value.Variable x ∷ vs)
      ∙ alias_runs (k + 1) i _ (mark Mark.When w ∷ us) d x (one_when_guarded k ss) vs refl
  one_runs k f ts us w (noted {ts = xs} o (plain d) (G.annotation a b e g n)) ss vs =
      same ok z opens_plain (Symbol.ClauseInside k ∷ ss) (Symbol.Pattern (k + 1) ∷ Symbol.ClauseMiddle k ∷ ss) vs vs (clause_inside_is_plain k ss vs) xs d.0
      ∙ d.1 (Symbol.ClauseMiddle k ∷ ss) vs refl
      ∙ annotation_list_runs ok z _ b e g _ _ n (one_when_guarded k ss) (Value.Pattern f ∷ vs)
  one_runs k f ts us w (noted o (variable x h) (G.annotation a b e g n)) ss vs =
      allowed h _ _ ∙ annotation_list_runs ok z _ b e g _ _ n (Symbol.AfterVariable (k + 1) ∷ one_when_guarded k ss) (Value.Variable x ∷ vs)
  one_runs k f ts us w (noted o (alias i x q h d) (G.annotation {ts = ys} a b e g n)) ss vs =
      allowed h _ _ ∙ alias_runs (k + 1) i _ (mark Mark.Dash a ∷ mark Mark.OpenSquare b ∷ ys) d x (Symbol.ClauseMiddle k ∷ ss) vs refl
      ∙ annotation_list_runs ok z _ b e g _ _ n (one_when_guarded k ss) (Value.Pattern f ∷ vs)
  one_runs k f ts us w (noted o (annotated_alias i x o' q h (G.annotation a' b' e' g' m) d) (G.annotation {ts = ys} a b e g n)) ss vs =
      allowed h _ _ ∙ annotation_list_runs ok z _ b' e' g' _ _ m (Symbol.ClauseTwiceInsideAnnotated k ∷ ss) (Value.Variable x ∷ vs)
      ∙ alias_runs (k + 1) i _ (mark Mark.Dash a ∷ mark Mark.OpenSquare b ∷ ys) d x (Symbol.ClauseMiddle k ∷ ss) vs refl
      ∙ annotation_list_runs ok z _ b e g _ _ n (one_when_guarded k ss) (Value.Pattern f ∷ vs)

  one_inside_runs : (k : ℕ) (f : Pattern) (ts us : List Terminal) (w : Place) → Form (k + 1) f ts (mark Mark.When w ∷ us) → (ss : Symbols) (vs : Values) → run ok z (Symbol.ClauseInside k ∷ ss) vs ts ≡ run ok z (guarded k (annotation ss)) (Value.Patterns (f ∷ []) ∷ Value.At f.at ∷ vs) us
  one_inside_runs k f ts us w (bare (plain d)) ss vs =
      same ok z opens_plain (Symbol.ClauseInside k ∷ ss) (Symbol.Pattern (k + 1) ∷ Symbol.ClauseMiddle k ∷ ss) vs vs (clause_inside_is_plain k ss vs) ts d.0
      ∙ d.1 (Symbol.ClauseMiddle k ∷ ss) vs refl
  one_inside_runs k f ts us w (bare (variable x h)) ss vs = allowed h _ _
  one_inside_runs k f ts us w (bare (alias i x q h d)) ss vs = allowed h _ _ ∙ alias_runs (k + 1) i _ (mark Mark.When w ∷ us) d x (Symbol.ClauseMiddle k ∷ ss) vs refl
  one_inside_runs k f ts us w (bare (annotated_alias i x o q h (G.annotation a b e g n) d)) ss vs =
      allowed h _ _ ∙ annotation_list_runs ok z _ b e g _ _ n (Symbol.ClauseTwiceInsideAnnotated k ∷ ss) (Value.Variable x ∷ vs)
      ∙ alias_runs (k + 1) i _ (mark Mark.When w ∷ us) d x (Symbol.ClauseMiddle k ∷ ss) vs refl
  one_inside_runs k f ts us w (noted {ts = xs} {us = ys} o (plain d) n) ss vs =
      same ok z opens_plain (Symbol.ClauseTwiceInside k ∷ ss) (Symbol.Pattern (k + 1) ∷ annotation (one_when_guarded k (annotation ss))) vs vs (clause_twice_inside_is_plain k ss vs) xs d.0
      ∙ d.1 (annotation (one_when_guarded k (annotation ss))) vs (annotation_calm ys _ n)
      ∙ annotation_runs ok z ys (mark Mark.When w ∷ us) n (one_when_guarded k (annotation ss)) (Value.Pattern f ∷ vs)
  one_inside_runs k f ts us w (noted o (variable x h) (G.annotation a b e g n)) ss vs =
      allowed h _ _ ∙ annotation_list_runs ok z _ b e g _ _ n (Symbol.ClauseTwiceInsideAnnotated k ∷ ss) (Value.Variable x ∷ vs)
  one_inside_runs k f ts us w (noted {us = ys} o (alias i x q h d) n) ss vs =
      allowed h _ _ ∙ alias_runs (k + 1) i _ ys d x (annotation (one_when_guarded k (annotation ss))) vs (annotation_calm ys _ n)
      ∙ annotation_runs ok z ys (mark Mark.When w ∷ us) n (one_when_guarded k (annotation ss)) (Value.Pattern f ∷ vs)
  one_inside_runs k f ts us w (noted {us = ys} o (annotated_alias {us = ws} i x o' q h m d) n) ss vs =
      allowed h _ _ ∙ annotation_runs ok z _ (mark Mark.Equals q ∷ ws) m (Symbol.Wants Mark.Equals ∷ alias_of (k + 1) (annotation (one_when_guarded k (annotation ss)))) (Value.Variable x ∷ vs)
      ∙ alias_runs (k + 1) i ws ys d x (annotation (one_when_guarded k (annotation ss))) vs (annotation_calm ys _ n)
      ∙ annotation_runs ok z ys (mark Mark.When w ∷ us) n (one_when_guarded k (annotation ss)) (Value.Pattern f ∷ vs)

  -- the patterns of a clause, and `when`

  pub head_runs : (k : ℕ) (p : Place) (fs : List Pattern) (ts us : List Terminal) (w : Place) → G.ClausePatterns ok k p fs ts (mark Mark.When w ∷ us) → (ss : Symbols) (vs : Values) → run ok z (Symbol.Clause k ∷ ss) vs ts ≡ run ok z (guarded k ss) (Value.Patterns fs ∷ Value.At p ∷ vs) us
  head_runs k p fs ts us w (G.one_pattern {f = f} d) ss vs = one_runs k f ts us w (pattern_form (k + 1) f ts _ d) ss vs
  head_runs k p fs ts us w (G.value_patterns {ts = xs} a b h d) ss vs =
      allowed h _ _ ∙ pattern_list_runs (k + 1) Closer.Angle fs xs (mark Mark.When w ∷ us) b (patterns_run (k + 1) fs xs _ d) (when_guarded k ss) (Value.At p ∷ vs)

  pub head_inside_runs : (k : ℕ) (p : Place) (fs : List Pattern) (ts us : List Terminal) (w : Place) → G.ClausePatterns ok k p fs ts (mark Mark.When w ∷ us) → (ss : Symbols) (vs : Values) → run ok z (Symbol.ClauseInside k ∷ ss) vs ts ≡ run ok z (guarded k (annotation ss)) (Value.Patterns fs ∷ Value.At p ∷ vs) us
  head_inside_runs k p fs ts us w (G.one_pattern {f = f} d) ss vs = one_inside_runs k f ts us w (pattern_form (k + 1) f ts _ d) ss vs
  head_inside_runs k p fs ts us w (G.value_patterns {ts = xs} a b h d) ss vs =
      allowed h _ _ ∙ pattern_list_runs (k + 1) Closer.Angle fs xs (mark Mark.When w ∷ us) b (patterns_run (k + 1) fs xs _ d) (when_guarded k (annotation ss)) (Value.At p ∷ vs)

  -- what a clause begins with

  pub head_opens : (k : ℕ) (p : Place) (fs : List Pattern) (ts us : List Terminal) → G.ClausePatterns ok k p fs ts us → begins opens ts ≡ true
  head_opens k p fs ts us (G.one_pattern {f = f} d) = form_opens (k + 1) f ts us (pattern_form (k + 1) f ts us d)
  head_opens k p fs ts us (G.value_patterns a b h d) = refl
