-- Runs over expressions, clauses, funs and definitions.
use Rattle.std.proofs.Common.{◌≡◌, ℕ, ◌+◌, List, [], ◌∷◌, ◌++◌, Bool, true, false, refl, ap, sym, ◌∙◌, append_assoc, append-nil}
use Rattle.hipe_terms.specs.declared.place.Place.{Place}
use Rattle.core_ast.specs.declared.pattern.Pattern.{Pattern}
use Rattle.core_ast.specs.declared.tree.Clause.{Clause}
use Rattle.core_ast.specs.declared.tree.Expr.{Expr}
use Rattle.core_ast.specs.declared.tree.Fun.{Fun}
use Rattle.core_ast.specs.declared.tree.FunDef.{FunDef}
use Rattle.core_ast.specs.declared.tree.Node.{Node, out-Node, out-roll-Node}
use Rattle.core_ast.specs.declared.tree.Node.TheOpen.{Node-F}
use Rattle.core_grammar.specs.declared.terminal.Kind.{Kind}
use Rattle.core_grammar.specs.declared.terminal.Mark.{Mark}
use Rattle.core_grammar.specs.declared.terminal.Terminal.{Terminal}
use Rattle.core_grammar.specs.Trees.{expression_at, cells, cells_before, nil_at, clause_at, fun_at}
use Rattle.core_grammar.specs.Leave.{Leave, part, mark}
use Rattle.core_grammar.specs.Grammar as G
use Rattle.core_parser.specs.declared.symbol.Closer.{Closer}
use Rattle.core_parser.specs.declared.symbol.Element.{Element}
use Rattle.core_parser.specs.declared.symbol.Maker.{Maker}
use Rattle.core_parser.specs.declared.symbol.Part.{Part}
use Rattle.core_parser.specs.declared.symbol.Symbol.{Symbol}
use Rattle.core_parser.specs.declared.symbol.Term.{Term}
use Rattle.core_parser.specs.declared.value.Value.{Value}
use Rattle.core_parser.specs.Values.{Values, literal}
use Rattle.core_parser.specs.Machine.{Symbols, Move, move, run, after_atom, definitions, defined, annotation, arguments, expression, guarded}
use Rattle.core_parser.proofs.Steps as Steps
use Rattle.core_parser.proofs.Steps.{allowed, begins, calm, opens, opens_bare, opens_other, bare_opens, opens_calm, same, makes}
use Rattle.core_parser.proofs.Elements as Elements
use Rattle.core_parser.proofs.Cells as Cells
use Rattle.core_parser.proofs.Constants.{bare_is_bare, annotation_runs, BareRuns, annotated_runs, Anything, atom_runs, variables_run, variable_list_runs}
use Rattle.core_parser.proofs.Patterns.{annotation_calm, head_runs, head_inside_runs, head_opens}

-- an expression is of the form that it was made of
expression_form_is : (p : Place) (form : Node-F Node Clause Expr Fun FunDef) → out-Node (expression_at p form).node ≡ form
unfolding expression_at
expression_form_is p form = out-roll-Node form

nil_joins : (p q : Place) (es : List Expr) → cells p es (nil_at q) ≡ expression_at p (Node-F.List es (nil_at q))
nil_joins p q es = ap (cells_before p es (nil_at q)) (expression_form_is q Node-F.Nil)

list_joins : (p q : Place) (es fs : List Expr) (f : Expr) → cells p es (expression_at q (Node-F.List fs f)) ≡ expression_at p (Node-F.List (es ++ fs) f)
list_joins p q es fs f = ap (cells_before p es (expression_at q (Node-F.List fs f))) (expression_form_is q (Node-F.List fs f))

cells_join_by : (p q : Place) (es fs : List Expr) (f : Expr) (form : Node-F Node Clause Expr Fun FunDef) → cells p es (cells_before q fs f form) ≡ cells_before p (es ++ fs) f form
cells_join_by p q es fs f (Node-F.List gs g) = list_joins p q es (fs ++ gs) g ∙ ap (λ xs. expression_at p (Node-F.List xs g)) (sym (append_assoc es fs gs))
cells_join_by p q es fs f _ = list_joins p q es fs f

-- a list that is a tail is one list with the elements before it
cells_join : (p q : Place) (es fs : List Expr) (f : Expr) → cells p es (cells q fs f) ≡ cells p (es ++ fs) f
cells_join p q es fs f = cells_join_by p q es fs f (out-Node f.node)

abbrev before : Place → List Expr → Expr → Expr
before p es f = cells p es f

abbrev ended : Place → Place → List Expr → Expr
ended p q es = expression_at p (Node-F.List es (nil_at q))

-- symbols that make the same moves

other_joins : (k : ℕ) (ss : Symbols) (vs : Values) (t : Kind) (p : Place) → opens_other t ≡ true → move (Symbol.Tail (Term.Expression k) ∷ ss) vs t p ≡ move (Symbol.Bare (Part.Expression k) ∷ Symbol.Make (Maker.Join (Term.Expression k)) ∷ ss) vs t p
other_joins k ss vs (Kind.Mark Mark.OpenSquare) p h = cc
other_joins k ss vs (Kind.Mark Mark.OpenRound) p h = cc
other_joins k ss vs _ p h = refl

item_is_bare : (k : ℕ) (ss : Symbols) (vs : Values) (t : Kind) (p : Place) → opens_bare t ≡ true → move (Symbol.Item (Element.Term (Term.Expression k)) ∷ ss) vs t p ≡ move (Symbol.Bare (Part.Expression k) ∷ ss) vs t p
item_is_bare k ss vs (Kind.Mark Mark.OpenRound) p h = cc
item_is_bare k ss vs _ p h = refl

tail_inside_is_tail : (k : ℕ) (ss : Symbols) (vs : Values) (t : Kind) (p : Place) → opens_bare t ≡ true → move (Symbol.ExpressionTailInside k ∷ ss) vs t p ≡ move (Symbol.Tail (Term.Expression k) ∷ annotation ss) vs t p
tail_inside_is_tail k ss vs (Kind.Mark Mark.OpenRound) p h = cc
tail_inside_is_tail k ss vs _ p h = refl

atom_skips : (t : Kind) (ss : Symbols) (vs : Values) (m : Move) → calm t ≡ true → after_atom t ss vs m ≡ m
atom_skips (Kind.Mark Mark.Slash) ss vs m h = cc
atom_skips _ ss vs m h = refl

rest_is_clause : (k : ℕ) (ss : Symbols) (vs : Values) (t : Kind) (p : Place) → opens t ≡ true → move (Symbol.ClausesRest k ∷ ss) vs t p ≡ move (Symbol.Clause k ∷ Symbol.ClausesRest k ∷ ss) vs t p
rest_is_clause k ss vs (Kind.Mark Mark.End) p h = cc
rest_is_clause k ss vs _ p h = refl

-- what ends definitions
abbrev pub ends_definitions : Kind → Bool
ends_definitions (Kind.Mark Mark.In) = true
ends_definitions (Kind.Mark Mark.End) = true
ends_definitions _ = false

definitions_skip : (k : ℕ) (ss : Symbols) (vs : Values) (t : Kind) (p : Place) (m : Move) → ends_definitions t ≡ true → definitions k t p ss vs m ≡ m
definitions_skip k ss vs (Kind.Atom a) p m h = cc
definitions_skip k ss vs (Kind.Mark Mark.OpenRound) p m h = cc
definitions_skip k ss vs _ p m h = refl

calm_end : (t : Kind) → ends_definitions t ≡ true → calm t ≡ true
calm_end (Kind.Mark Mark.Slash) h = cc
calm_end (Kind.Mark Mark.Equals) h = cc
calm_end _ h = refl

module _ (ok : Leave) (z : Place) where
  abbrev pub ExpressionRuns : ℕ → Expr → List Terminal → List Terminal → Type 0
  ExpressionRuns k = Cells.TermRuns ok z Expr (Term.Expression k) Value.Expression Value.Expressions before

  expression_item : (k : ℕ) (e : Expr) (ts us : List Terminal) → ExpressionRuns k e ts us → Elements.ItemRuns ok z Expr (Element.Term (Term.Expression k)) (λ e vs. Value.Expression e ∷ vs) e ts us
  expression_item k e ts us d = (d.0, d.1)

  -- an expression without an annotation
  abbrev pub BareExpressionRuns : ℕ → Expr → List Terminal → List Terminal → Type 0
  BareExpressionRuns k e ts us =
      (begins opens_bare ts ≡ true)
      × ((ss : Symbols) (vs : Values) → begins calm us ≡ true → run ok z (Symbol.Bare (Part.Expression k) ∷ ss) vs ts ≡ run ok z ss (Value.Expression e ∷ vs) us)
      × ((es : List Expr) (q p : Place) (ss : Symbols) (vs : Values) → begins calm us ≡ true → run ok z (Symbol.Tail (Term.Expression k) ∷ ss) (Value.Expressions es ∷ Value.At q ∷ Value.At p ∷ vs) ts ≡ run ok z ss (Value.Expression (cells p es e) ∷ vs) us)

  bare_is_read : (k : ℕ) (e : Expr) (ts us : List Terminal) → BareExpressionRuns k e ts us → ExpressionRuns k e ts us
  bare_is_read k e ts us d = (
    bare_opens ts d.0,
    (λ ss vs c. same ok z opens_bare (Symbol.Item (Element.Term (Term.Expression k)) ∷ ss) (Symbol.Bare (Part.Expression k) ∷ ss) vs vs (item_is_bare k ss vs) ts d.0 ∙ d.1 ss vs c),
    d.2,
  )

  annotated_is_read : (k : ℕ) (e : Expr) (ts us ws : List Terminal) (o : Place) → BareExpressionRuns k e ts us → G.Annotation ok us ws → ExpressionRuns k e (mark Mark.OpenRound o ∷ ts) ws
  annotated_is_read k e ts us ws o d n = (
    refl,
    (λ ss vs c. d.1 (annotation ss) vs (annotation_calm ok z us ws n) ∙ annotation_runs ok z us ws n ss (Value.Expression e ∷ vs)),
    (λ es q p ss vs c.
        same ok z opens_bare (Symbol.ExpressionTailInside k ∷ ss) (Symbol.Tail (Term.Expression k) ∷ annotation ss) (Value.Expressions es ∷ Value.At q ∷ Value.At p ∷ vs) (Value.Expressions es ∷ Value.At q ∷ Value.At p ∷ vs) (tail_inside_is_tail k ss (Value.Expressions es ∷ Value.At q ∷ Value.At p ∷ vs)) ts d.0
        ∙ d.2 es q p (annotation ss) vs (annotation_calm ok z us ws n)
        ∙ annotation_runs ok z us ws n ss (Value.Expression (cells p es e) ∷ vs)),
  )

  -- an expression that isn't a list
  other_runs : (k : ℕ) (e : Expr) (ts us : List Terminal) → begins opens_bare ts ≡ true → begins opens_other ts ≡ true → ((ss : Symbols) (vs : Values) → begins calm us ≡ true → run ok z (Symbol.Bare (Part.Expression k) ∷ ss) vs ts ≡ run ok z ss (Value.Expression e ∷ vs) us) → BareExpressionRuns k e ts us
  other_runs k e ts us o other r = (
    o,
    r,
    λ es q p ss vs h.
        same ok z opens_other (Symbol.Tail (Term.Expression k) ∷ ss) (Symbol.Bare (Part.Expression k) ∷ Symbol.Make (Maker.Join (Term.Expression k)) ∷ ss) (Value.Expressions es ∷ Value.At q ∷ Value.At p ∷ vs) (Value.Expressions es ∷ Value.At q ∷ Value.At p ∷ vs) (other_joins k ss (Value.Expressions es ∷ Value.At q ∷ Value.At p ∷ vs)) ts other
        ∙ r (Symbol.Make (Maker.Join (Term.Expression k)) ∷ ss) (Value.Expressions es ∷ Value.At q ∷ Value.At p ∷ vs) h
        ∙ makes ok z calm (Maker.Join (Term.Expression k)) ss (Value.Expression e ∷ Value.Expressions es ∷ Value.At q ∷ Value.At p ∷ vs) us h,
  )

  list_is_read : (k : ℕ) (fs : List Expr) (ts us : List Terminal) (p q : Place) → ok (part k) (mark Mark.OpenSquare p ∷ ts) ≡ true → G.SomeOf Expr (ExpressionRuns (k + 1)) fs ts (mark Mark.CloseSquare q ∷ us) → BareExpressionRuns k (expression_at p (Node-F.List fs (nil_at p))) (mark Mark.OpenSquare p ∷ ts) us
  list_is_read k fs ts us p q h d = (
    refl,
    (λ ss vs c. allowed h _ _ ∙ Cells.list_runs ok z Expr (Term.Expression k) Value.Expression Value.Expressions before ended (λ f fs vs. refl) (λ es q p vs. refl) fs ts us q d p ss vs),
    (λ es o r ss vs c.
        Cells.tail_list_runs ok z Expr (Term.Expression k) Value.Expression Value.Expressions before ended (λ f fs vs. refl) (λ es q p vs. refl) p q fs ts us h d es o r ss vs
        ∙ ap (λ x. run ok z ss (Value.Expression x ∷ vs) us) (sym (list_joins r p es fs (nil_at p)))),
  )

  before_is_read : (k : ℕ) (fs : List Expr) (e : Expr) (ts us ws : List Terminal) (p q r : Place) → ok (part k) (mark Mark.OpenSquare p ∷ ts) ≡ true → G.SomeOf Expr (ExpressionRuns (k + 1)) fs ts (mark Mark.Bar q ∷ us) → ExpressionRuns k e us (mark Mark.CloseSquare r ∷ ws) → BareExpressionRuns k (cells p fs e) (mark Mark.OpenSquare p ∷ ts) ws
  before_is_read k fs e ts us ws p q r h d f = (
    refl,
    (λ ss vs c. allowed h _ _ ∙ Cells.list_before_runs ok z Expr (Term.Expression k) Value.Expression Value.Expressions before ended (λ f fs vs. refl) (λ es q p vs. refl) fs e ts us ws q r d f p ss vs),
    (λ es o t ss vs c.
        Cells.tail_list_before_runs ok z Expr (Term.Expression k) Value.Expression Value.Expressions before ended (λ f fs vs. refl) (λ es q p vs. refl) p q r fs e ts us ws h d f es o t ss vs
        ∙ ap (λ x. run ok z ss (Value.Expression x ∷ vs) ws) (sym (cells_join t p es fs e))),
  )

  empty_is_read : (k : ℕ) (us : List Terminal) (p q : Place) → ok (part k) (mark Mark.OpenSquare p ∷ mark Mark.CloseSquare q ∷ us) ≡ true → BareExpressionRuns k (nil_at p) (mark Mark.OpenSquare p ∷ mark Mark.CloseSquare q ∷ us) us
  empty_is_read k us p q h = (
    refl,
    (λ ss vs c. allowed h _ _),
    (λ es o r ss vs c.
        Cells.empty_tail_runs ok z Expr (Term.Expression k) Value.Expression Value.Expressions before ended (λ f fs vs. refl) (λ es q p vs. refl) p q us h es o r ss vs
        ∙ ap (λ x. run ok z ss (Value.Expression x ∷ vs) us) (sym (nil_joins r p es))),
  )

  -- E
  expression_run : (k : ℕ) (e : Expr) (ts us : List Terminal) → ExpressionRuns k e ts us → (ss : Symbols) (vs : Values) → begins calm us ≡ true → run ok z (expression k ss) vs ts ≡ run ok z ss (Value.Expression e ∷ vs) us
  expression_run k e ts us d ss vs c = same ok z opens (expression k ss) (Symbol.Item (Element.Term (Term.Expression k)) ∷ ss) vs vs (λ t p h. refl) ts d.0 ∙ d.1 ss vs c

  skip_atom : (a : List ℕ) (p : Place) (ss : Symbols) (vs : Values) (us : List Terminal) → begins calm us ≡ true → run ok z (Symbol.AfterAtom ∷ ss) (Value.Atom a ∷ Value.At p ∷ vs) us ≡ run ok z ss (Value.Expression (expression_at p (Node-F.Atom a)) ∷ vs) us
  skip_atom a p ss vs us h = same ok z calm (Symbol.AfterAtom ∷ ss) ss (Value.Atom a ∷ Value.At p ∷ vs) (literal (Value.Atom a ∷ Value.At p ∷ vs)) (λ t q c. atom_skips t ss (Value.Atom a ∷ Value.At p ∷ vs) _ c) us h

  expression_list_runs : (k : ℕ) (c : Closer) (es : List Expr) (ts us : List Terminal) (p : Place) → G.ListOf Expr (ExpressionRuns k) es ts (mark (Steps.closing c) p ∷ us) → (ss : Symbols) (vs : Values) → run ok z (Symbol.First (Element.Term (Term.Expression k)) c ∷ ss) (Value.Expressions [] ∷ vs) ts ≡ run ok z ss (Value.Expressions es ∷ vs) us
  expression_list_runs k = Elements.list_runs ok z Expr (ExpressionRuns k) (Element.Term (Term.Expression k)) (λ e vs. Value.Expression e ∷ vs) Value.Expressions (λ e es vs. refl) (expression_item k)

  arguments_run : (k : ℕ) (m : Maker) (es : List Expr) (ts us : List Terminal) (q p : Place) → G.ListOf Expr (ExpressionRuns k) es ts (mark Mark.CloseRound p ∷ us) → (ss : Symbols) (vs : Values) → run ok z (arguments k m ss) vs (mark Mark.OpenRound q ∷ ts) ≡ run ok z (Symbol.Make m ∷ ss) (Value.Expressions es ∷ vs) us
  arguments_run k m es ts us q p d ss vs = Elements.empty_list_runs ok z Expr (ExpressionRuns k) (Element.Term (Term.Expression k)) (λ e vs. Value.Expression e ∷ vs) Value.Expressions (λ e es vs. refl) (expression_item k) refl Closer.Round es ts us p d (Symbol.Make m ∷ ss) vs

  operand_runs : (a : List ℕ) (ts us : List Terminal) → G.Operand ok a ts us → BareRuns ok z (Anything ok z) Part.Operand (λ vs. Value.Atom a ∷ vs) ts us
  operand_runs a ts us (G.atom_operand (G.atom p)) = (refl, λ ss vs _. refl)
  operand_runs a ts us (G.operand_variable x p h) = (refl, λ ss vs _. allowed h _ _)

  annotated_operand : (a : List ℕ) (ts us : List Terminal) → G.Annotated ok (G.Operand ok a) ts us → (ss : Symbols) (vs : Values) → run ok z (Symbol.Annotated Part.Operand ∷ ss) vs ts ≡ run ok z ss (Value.Atom a ∷ vs) us
  annotated_operand a ts us d ss vs = annotated_runs ok z (Anything ok z) (λ p us. tt) Part.Operand (λ vs. Value.Atom a ∷ vs) (G.Operand ok a) (operand_runs a) ts us d ss vs tt

  annotated_atom : (a : List ℕ) (ts us : List Terminal) → G.Annotated ok (G.AtomOf a) ts us → (ss : Symbols) (vs : Values) → run ok z (Symbol.Annotated Part.Atom ∷ ss) vs ts ≡ run ok z ss (Value.Atom a ∷ vs) us
  annotated_atom a ts us d ss vs = annotated_runs ok z (Anything ok z) (λ p us. tt) Part.Atom (λ vs. Value.Atom a ∷ vs) (G.AtomOf a) (atom_runs ok z a) ts us d ss vs tt

  -- A(clause), whose clause goes to the end of those before it
  abbrev ClauseRuns : ℕ → Clause → List Terminal → List Terminal → Type 0
  ClauseRuns k c ts us =
      (begins opens ts ≡ true)
      × ((cs : List Clause) (ss : Symbols) (vs : Values) → begins calm us ≡ true → run ok z (Symbol.Clause k ∷ ss) (Value.Clauses cs ∷ vs) ts ≡ run ok z ss (Value.Clauses (cs ++ c ∷ []) ∷ vs) us)

  abbrev ClausesRun : ℕ → List Clause → List Terminal → List Terminal → Type 0
  ClausesRun k cs ts us =
      (begins opens ts ≡ true)
      × ((bs : List Clause) (ss : Symbols) (vs : Values) → begins calm us ≡ true → run ok z (Symbol.Clause k ∷ Symbol.ClausesRest k ∷ ss) (Value.Clauses bs ∷ vs) ts ≡ run ok z (Symbol.ClausesRest k ∷ ss) (Value.Clauses (bs ++ cs) ∷ vs) us)

  -- the guard and the body of a clause
  guarded_run : (k : ℕ) (p : Place) (fs : List Pattern) (g e : Expr) (ts us ws : List Terminal) (r : Place) → ExpressionRuns (k + 1) g ts (mark Mark.Arrow r ∷ us) → ExpressionRuns (k + 1) e us ws → (cs : List Clause) (ss : Symbols) (vs : Values) → begins calm ws ≡ true → run ok z (guarded k ss) (Value.Patterns fs ∷ Value.At p ∷ Value.Clauses cs ∷ vs) ts ≡ run ok z ss (Value.Clauses (cs ++ clause_at p fs g e ∷ []) ∷ vs) ws
  guarded_run k p fs g e ts us ws r d f cs ss vs c =
      expression_run (k + 1) g ts (mark Mark.Arrow r ∷ us) d (Symbol.Wants Mark.Arrow ∷ expression (k + 1) (Symbol.Make Maker.Clause ∷ ss)) (Value.Patterns fs ∷ Value.At p ∷ Value.Clauses cs ∷ vs) refl
      ∙ expression_run (k + 1) e us ws f (Symbol.Make Maker.Clause ∷ ss) (Value.Expression g ∷ Value.Patterns fs ∷ Value.At p ∷ Value.Clauses cs ∷ vs) c
      ∙ makes ok z calm Maker.Clause ss (Value.Expression e ∷ Value.Expression g ∷ Value.Patterns fs ∷ Value.At p ∷ Value.Clauses cs ∷ vs) ws c

  -- fun
  abbrev BareFunRuns : ℕ → Fun → List Terminal → List Terminal → Type 0
  BareFunRuns k f ts us = BareRuns ok z (λ us. begins calm us ≡ true) (Part.Fun k) (λ vs. Value.Fun f ∷ vs) ts us

  pub definitions_calm : (k : ℕ) (ds : List FunDef) (ts us : List Terminal) → G.DefinitionsOf ok k ds ts us → begins ends_definitions us ≡ true → begins calm ts ≡ true
  definitions_calm k ds ts us G.no_definitions h = Steps.widened ends_definitions calm calm_end ts h
  definitions_calm k ds ts us (G.more_definitions (G.definition q (G.bare (G.function_name a b)) f) d) h = refl
  definitions_calm k ds ts us (G.more_definitions (G.definition q (G.annotated o n m) f) d) h = refl

  no_definitions_run : (k : ℕ) (us : List Terminal) (bs : List FunDef) (ss : Symbols) (vs : Values) → begins ends_definitions us ≡ true → run ok z (Symbol.Definitions k ∷ ss) (Value.Definitions bs ∷ vs) us ≡ run ok z ss (Value.Definitions (bs ++ []) ∷ vs) us
  no_definitions_run k us bs ss vs h =
      same ok z ends_definitions (Symbol.Definitions k ∷ ss) ss (Value.Definitions bs ∷ vs) (Value.Definitions bs ∷ vs) (λ t p c. definitions_skip k ss (Value.Definitions bs ∷ vs) t p _ c) us h
      ∙ ap (λ xs. run ok z ss (Value.Definitions xs ∷ vs) us) (sym (append-nil bs))

  annotated_fun : (k : ℕ) (f : Fun) (ts us ws : List Terminal) (o : Place) → BareFunRuns k f ts us → G.Annotation ok us ws → (ss : Symbols) (vs : Values) → run ok z (Symbol.Annotated (Part.Fun k) ∷ ss) vs (mark Mark.OpenRound o ∷ ts) ≡ run ok z ss (Value.Fun f ∷ vs) ws
  annotated_fun k f ts us ws o d n ss vs = d.1 (annotation ss) vs (annotation_calm ok z us ws n) ∙ annotation_runs ok z us ws n ss (Value.Fun f ∷ vs)

  mutual
    pub expression_runs : (k : ℕ) (e : Expr) (ts us : List Terminal) → G.ExpressionOf ok k e ts us → ExpressionRuns k e ts us
    expression_runs k e ts us (G.expression_bare d) = bare_is_read k e ts us (bare_runs k e ts us d)
    expression_runs k e ts us (G.expression_annotated {ts = xs} {us = ys} o d n) = annotated_is_read k e xs ys us o (bare_runs k e xs ys d) n

    bare_runs : (k : ℕ) (e : Expr) (ts us : List Terminal) → G.BareExpression ok k e ts us → BareExpressionRuns k e ts us
    bare_runs k e ts us (G.integer p (G.digits n) h) = other_runs k e ts us refl refl (λ ss vs c. allowed h _ _)
    bare_runs k e ts us (G.integer p (G.signed_or_character n) h) = other_runs k e ts us refl refl (λ ss vs c. allowed h _ _)
    bare_runs k e ts us (G.characters s p h) = other_runs k e ts us refl refl (λ ss vs c. allowed h _ _)
    bare_runs k e ts us (G.literal a p h) = other_runs k e ts us refl refl (λ ss vs c. allowed h _ _ ∙ skip_atom a p ss vs us c)
    bare_runs k e ts us (G.variable_name x p h) = other_runs k e ts us refl refl (λ ss vs c. allowed h _ _)
    bare_runs k e ts us (G.function {f = f} {p = p} h (G.function_name q r)) = other_runs k e ts us refl refl (λ ss vs c. allowed h _ _ ∙ makes ok z calm Maker.Name ss (Value.Name f ∷ Value.At p ∷ vs) us c)
    bare_runs k e ts us (G.empty p q h) = empty_is_read k us p q h
    bare_runs k e ts us (G.tuple {es = es} {ts = xs} p q h d) = other_runs k e ts us refl refl (λ ss vs c.
        allowed h _ _
        ∙ expression_list_runs (k + 1) Closer.Brace es xs us q (expressions_run (k + 1) es xs _ d) (Symbol.Make (Maker.Tuple (Term.Expression k)) ∷ ss) (Value.At p ∷ vs)
        ∙ makes ok z calm (Maker.Tuple (Term.Expression k)) ss (Value.Expressions es ∷ Value.At p ∷ vs) us c)
    bare_runs k e ts us (G.list {es = es} {ts = xs} p q h d) = list_is_read k es xs us p q h (some_expressions_run (k + 1) es xs _ d)
    bare_runs k e ts us (G.list_before {es = es} {e = f} {ts = xs} {us = ys} p q r h d g) = before_is_read k es f xs ys us p q r h (some_expressions_run (k + 1) es xs _ d) (expression_runs k f ys _ g)
    bare_runs k e ts us (G.values {es = es} {ts = xs} p q h d) = other_runs k e ts us refl refl (λ ss vs c.
        allowed h _ _
        ∙ expression_list_runs (k + 1) Closer.Angle es xs us q (expressions_run (k + 1) es xs _ d) (Symbol.Make Maker.Values ∷ ss) (Value.At p ∷ vs)
        ∙ makes ok z calm Maker.Values ss (Value.Expressions es ∷ Value.At p ∷ vs) us c)
    bare_runs k e ts us (G.«let» {xs = xs} {e = f} {f = g} {ts = as'} {us = bs} {vs = cs} p q r h v d t) = other_runs k e ts us refl refl (λ ss vs c.
        allowed h _ _
        ∙ variables_run ok z xs as' (mark Mark.Equals q ∷ bs) v (Symbol.Wants Mark.Equals ∷ expression (k + 1) (Symbol.Wants Mark.In ∷ expression (k + 1) (Symbol.Make Maker.Let ∷ ss))) (Value.At p ∷ vs) refl
        ∙ expression_run (k + 1) f bs (mark Mark.In r ∷ cs) (expression_runs (k + 1) f bs _ d) (Symbol.Wants Mark.In ∷ expression (k + 1) (Symbol.Make Maker.Let ∷ ss)) (Value.Variables xs ∷ Value.At p ∷ vs) refl
        ∙ expression_run (k + 1) g cs us (expression_runs (k + 1) g cs us t) (Symbol.Make Maker.Let ∷ ss) (Value.Expression f ∷ Value.Variables xs ∷ Value.At p ∷ vs) c
        ∙ makes ok z calm Maker.Let ss (Value.Expression g ∷ Value.Expression f ∷ Value.Variables xs ∷ Value.At p ∷ vs) us c)
    bare_runs k e ts us (G.case {e = f} {cs = cs} {ts = as'} {us = bs} p q r h d t) = other_runs k e ts us refl refl (λ ss vs c.
        let ds = clauses_run (k + 1) cs bs (mark Mark.End r ∷ us) t in
        allowed h _ _
        ∙ expression_run (k + 1) f as' (mark Mark.Of q ∷ bs) (expression_runs (k + 1) f as' _ d) (Symbol.Wants Mark.Of ∷ Symbol.Make Maker.NoClauses ∷ Symbol.Clause (k + 1) ∷ Symbol.ClausesRest (k + 1) ∷ ss) (Value.At p ∷ vs) refl
        ∙ makes ok z opens Maker.NoClauses (Symbol.Clause (k + 1) ∷ Symbol.ClausesRest (k + 1) ∷ ss) (Value.Expression f ∷ Value.At p ∷ vs) bs ds.0
        ∙ ds.1 [] ss (Value.Expression f ∷ Value.At p ∷ vs) refl)
    bare_runs k e ts us (G.lambda {f = f} {p = p} d) = lambda_runs k p f ts us d
    bare_runs k e ts us (G.letrec {ds = ds} {e = f} {ts = as'} {us = bs} p q h d t) = other_runs k e ts us refl refl (λ ss vs c.
        allowed h _ _
        ∙ makes ok z calm Maker.NoDefinitions (Symbol.Definitions (k + 1) ∷ Symbol.Wants Mark.In ∷ expression (k + 1) (Symbol.Make Maker.Letrec ∷ ss)) (Value.At p ∷ vs) as' (definitions_calm (k + 1) ds as' _ d refl)
        ∙ definitions_run (k + 1) ds as' _ d [] (Symbol.Wants Mark.In ∷ expression (k + 1) (Symbol.Make Maker.Letrec ∷ ss)) (Value.At p ∷ vs) refl
        ∙ expression_run (k + 1) f bs us (expression_runs (k + 1) f bs us t) (Symbol.Make Maker.Letrec ∷ ss) (Value.Definitions ds ∷ Value.At p ∷ vs) c
        ∙ makes ok z calm Maker.Letrec ss (Value.Expression f ∷ Value.Definitions ds ∷ Value.At p ∷ vs) us c)
    bare_runs k e ts us (G.apply {e = f} {es = es} {ts = as'} {us = bs} p q r h d t) = other_runs k e ts us refl refl (λ ss vs c.
        allowed h _ _
        ∙ expression_run (k + 1) f as' (mark Mark.OpenRound q ∷ bs) (expression_runs (k + 1) f as' _ d) (arguments (k + 1) Maker.Apply ss) (Value.At p ∷ vs) refl
        ∙ arguments_run (k + 1) Maker.Apply es bs us q r (expressions_run (k + 1) es bs _ t) ss (Value.Expression f ∷ Value.At p ∷ vs)
        ∙ makes ok z calm Maker.Apply ss (Value.Expressions es ∷ Value.Expression f ∷ Value.At p ∷ vs) us c)
    bare_runs k e ts us (G.call {m = m} {f = f} {es = es} {ts = as'} {us = bs} {vs = cs} p q r s h a b d) = other_runs k e ts us refl refl (λ ss vs c.
        allowed h _ _
        ∙ annotated_operand m as' (mark Mark.Colon q ∷ bs) a (Symbol.Wants Mark.Colon ∷ Symbol.Annotated Part.Operand ∷ arguments (k + 1) Maker.Call ss) (Value.At p ∷ vs)
        ∙ annotated_operand f bs (mark Mark.OpenRound r ∷ cs) b (arguments (k + 1) Maker.Call ss) (Value.Atom m ∷ Value.At p ∷ vs)
        ∙ arguments_run (k + 1) Maker.Call es cs us r s (expressions_run (k + 1) es cs _ d) ss (Value.Atom f ∷ Value.Atom m ∷ Value.At p ∷ vs)
        ∙ makes ok z calm Maker.Call ss (Value.Expressions es ∷ Value.Atom f ∷ Value.Atom m ∷ Value.At p ∷ vs) us c)
    bare_runs k e ts us (G.primop {f = f} {es = es} {ts = as'} {us = bs} p q r h a d) = other_runs k e ts us refl refl (λ ss vs c.
        allowed h _ _
        ∙ annotated_atom f as' (mark Mark.OpenRound q ∷ bs) a (arguments (k + 1) Maker.Primop ss) (Value.At p ∷ vs)
        ∙ arguments_run (k + 1) Maker.Primop es bs us q r (expressions_run (k + 1) es bs _ d) ss (Value.Atom f ∷ Value.At p ∷ vs)
        ∙ makes ok z calm Maker.Primop ss (Value.Expressions es ∷ Value.Atom f ∷ Value.At p ∷ vs) us c)
    bare_runs k e ts us (G.try {e = f} {f = g} {g = i} {xs = xs} {ys = ys} {t1 = t1} {t2 = t2} {t3 = t3} {t4 = t4} {t5 = t5} p q r s t h a u b v d) = other_runs k e ts us refl refl (λ ss vs c.
        let s5 = expression (k + 1) (Symbol.Make Maker.Try ∷ ss) in
        let s4 = Symbol.Wants Mark.Catch ∷ Symbol.Variables ∷ Symbol.Wants Mark.Arrow ∷ s5 in
        let s2 = Symbol.Wants Mark.Of ∷ Symbol.Variables ∷ Symbol.Wants Mark.Arrow ∷ expression (k + 1) s4 in
        allowed h _ _
        ∙ expression_run (k + 1) f t1 (mark Mark.Of q ∷ t2) (expression_runs (k + 1) f t1 _ a) s2 (Value.At p ∷ vs) refl
        ∙ variables_run ok z xs t2 (mark Mark.Arrow r ∷ t3) u (Symbol.Wants Mark.Arrow ∷ expression (k + 1) s4) (Value.Expression f ∷ Value.At p ∷ vs) refl
        ∙ expression_run (k + 1) g t3 (mark Mark.Catch s ∷ t4) (expression_runs (k + 1) g t3 _ b) s4 (Value.Variables xs ∷ Value.Expression f ∷ Value.At p ∷ vs) refl
        ∙ variables_run ok z ys t4 (mark Mark.Arrow t ∷ t5) v (Symbol.Wants Mark.Arrow ∷ s5) (Value.Expression g ∷ Value.Variables xs ∷ Value.Expression f ∷ Value.At p ∷ vs) refl
        ∙ expression_run (k + 1) i t5 us (expression_runs (k + 1) i t5 us d) (Symbol.Make Maker.Try ∷ ss) (Value.Variables ys ∷ Value.Expression g ∷ Value.Variables xs ∷ Value.Expression f ∷ Value.At p ∷ vs) c
        ∙ makes ok z calm Maker.Try ss (Value.Expression i ∷ Value.Variables ys ∷ Value.Expression g ∷ Value.Variables xs ∷ Value.Expression f ∷ Value.At p ∷ vs) us c)
    bare_runs k e ts us (G.do_both {e = f} {f = g} {ts = as'} {us = bs} p h d t) = other_runs k e ts us refl refl (λ ss vs c.
        let second = expression_runs (k + 1) g bs us t in
        allowed h _ _
        ∙ expression_run (k + 1) f as' bs (expression_runs (k + 1) f as' bs d) (expression (k + 1) (Symbol.Make Maker.Do ∷ ss)) (Value.At p ∷ vs) (opens_calm bs second.0)
        ∙ expression_run (k + 1) g bs us second (Symbol.Make Maker.Do ∷ ss) (Value.Expression f ∷ Value.At p ∷ vs) c
        ∙ makes ok z calm Maker.Do ss (Value.Expression g ∷ Value.Expression f ∷ Value.At p ∷ vs) us c)
    bare_runs k e ts us (G.catch {e = f} {ts = as'} p h d) = other_runs k e ts us refl refl (λ ss vs c.
        allowed h _ _
        ∙ expression_run (k + 1) f as' us (expression_runs (k + 1) f as' us d) (Symbol.Make Maker.Catch ∷ ss) (Value.At p ∷ vs) c
        ∙ makes ok z calm Maker.Catch ss (Value.Expression f ∷ Value.At p ∷ vs) us c)

    some_expressions_run : (k : ℕ) (es : List Expr) (ts us : List Terminal) → G.SomeExpressions ok k es ts us → G.SomeOf Expr (ExpressionRuns k) es ts us
    some_expressions_run k es ts us (G.last_expression {e = e} d) = G.last_of (expression_runs k e ts us d)
    some_expressions_run k es ts us (G.more_expressions {e = e} {es = fs} {us = xs} p d t) = G.more_of p (expression_runs k e ts _ d) (some_expressions_run k fs xs us t)

    expressions_run : (k : ℕ) (es : List Expr) (ts us : List Terminal) → G.ExpressionsOf ok k es ts us → G.ListOf Expr (ExpressionRuns k) es ts us
    expressions_run k es ts us G.no_expressions = G.none_of
    expressions_run k es ts us (G.some_expressions d) = G.some_of (some_expressions_run k es ts us d)

    clauses_run : (k : ℕ) (cs : List Clause) (ts us : List Terminal) → G.ClausesOf ok k cs ts us → ClausesRun k cs ts us
    clauses_run k cs ts us (G.last_clause {c = c} d) =
        let r = clause_runs k c ts us d in
        (r.0, λ bs ss vs h. r.1 bs (Symbol.ClausesRest k ∷ ss) vs h)
    clauses_run k cs ts us (G.more_clauses {c = c} {cs = ds} {us = xs} d t) =
        let r = clause_runs k c ts xs d in
        let rs = clauses_run k ds xs us t in (
          r.0,
          λ bs ss vs h.
              r.1 bs (Symbol.ClausesRest k ∷ ss) vs (opens_calm xs rs.0)
              ∙ same ok z opens (Symbol.ClausesRest k ∷ ss) (Symbol.Clause k ∷ Symbol.ClausesRest k ∷ ss) (Value.Clauses (bs ++ c ∷ []) ∷ vs) (Value.Clauses (bs ++ c ∷ []) ∷ vs) (rest_is_clause k ss (Value.Clauses (bs ++ c ∷ []) ∷ vs)) xs rs.0
              ∙ rs.1 (bs ++ c ∷ []) ss vs h
              ∙ ap (λ xs. run ok z (Symbol.ClausesRest k ∷ ss) (Value.Clauses xs ∷ vs) us) (append_assoc bs (c ∷ []) ds),
        )

    clause_runs : (k : ℕ) (c : Clause) (ts us : List Terminal) → G.ClauseOf ok k c ts us → ClauseRuns k c ts us
    clause_runs k c ts us (G.clause_bare (G.clause {p = p} {fs = fs} {g = g} {e = e} {us = as'} {vs = bs} q r d t f)) = (
      head_opens ok z k p fs ts _ d,
      λ cs ss vs h.
          head_runs ok z k p fs ts as' q d ss (Value.Clauses cs ∷ vs)
          ∙ guarded_run k p fs g e as' bs us r (expression_runs (k + 1) g as' _ t) (expression_runs (k + 1) e bs us f) cs ss vs h,
    )
    clause_runs k c ts us (G.clause_annotated {ts = xs} {us = ys} o (G.clause {p = p} {fs = fs} {g = g} {e = e} {us = as'} {vs = bs} q r d t f) n) = (
      refl,
      λ cs ss vs h.
          head_inside_runs ok z k p fs xs as' q d ss (Value.Clauses cs ∷ vs)
          ∙ guarded_run k p fs g e as' bs ys r (expression_runs (k + 1) g as' _ t) (expression_runs (k + 1) e bs ys f) cs (annotation ss) vs (annotation_calm ok z ys us n)
          ∙ annotation_runs ok z ys us n ss (Value.Clauses (cs ++ c ∷ []) ∷ vs),
    )

    lambda_runs : (k : ℕ) (p : Place) (f : Fun) (ts us : List Terminal) → G.BareFun ok k p f ts us → BareExpressionRuns k (expression_at p (Node-F.Lambda f)) ts us
    lambda_runs k p f ts us (G.«fun» {xs = xs} {e = g} {ts = as'} {us = bs} p' q r s h v d) = other_runs k (expression_at p (Node-F.Lambda f)) ts us refl refl (λ ss vs c.
        allowed h _ _
        ∙ variable_list_runs ok z Closer.Round xs as' (mark Mark.Arrow s ∷ bs) r v (Symbol.Wants Mark.Arrow ∷ expression (k + 1) (Symbol.Make Maker.Fun ∷ Symbol.Make Maker.Lambda ∷ ss)) (Value.At p' ∷ Value.At p' ∷ vs)
        ∙ expression_run (k + 1) g bs us (expression_runs (k + 1) g bs us d) (Symbol.Make Maker.Fun ∷ Symbol.Make Maker.Lambda ∷ ss) (Value.Variables xs ∷ Value.At p' ∷ Value.At p' ∷ vs) c
        ∙ makes ok z calm Maker.Fun (Symbol.Make Maker.Lambda ∷ ss) (Value.Expression g ∷ Value.Variables xs ∷ Value.At p' ∷ Value.At p' ∷ vs) us c
        ∙ makes ok z calm Maker.Lambda ss (Value.Fun (fun_at p' xs g) ∷ Value.At p' ∷ vs) us c)

    bare_fun_runs : (k : ℕ) (p : Place) (f : Fun) (ts us : List Terminal) → G.BareFun ok k p f ts us → BareFunRuns k f ts us
    bare_fun_runs k p f ts us (G.«fun» {xs = xs} {e = g} {ts = as'} {us = bs} p' q r s h v d) = (
      refl,
      λ ss vs c.
          allowed h _ _
          ∙ variable_list_runs ok z Closer.Round xs as' (mark Mark.Arrow s ∷ bs) r v (Symbol.Wants Mark.Arrow ∷ expression (k + 1) (Symbol.Make Maker.Fun ∷ ss)) (Value.At p' ∷ vs)
          ∙ expression_run (k + 1) g bs us (expression_runs (k + 1) g bs us d) (Symbol.Make Maker.Fun ∷ ss) (Value.Variables xs ∷ Value.At p' ∷ vs) c
          ∙ makes ok z calm Maker.Fun ss (Value.Expression g ∷ Value.Variables xs ∷ Value.At p' ∷ vs) us c,
    )

    fun_runs : (k : ℕ) (f : Fun) (ts us : List Terminal) → G.FunOf ok k f ts us → (ss : Symbols) (vs : Values) → begins calm us ≡ true → run ok z (Symbol.Annotated (Part.Fun k) ∷ ss) vs ts ≡ run ok z ss (Value.Fun f ∷ vs) us
    fun_runs k f ts us (G.fun_bare {p = p} d) ss vs c =
        let r = bare_fun_runs k p f ts us d in
        same ok z opens_bare (Symbol.Annotated (Part.Fun k) ∷ ss) (Symbol.Bare (Part.Fun k) ∷ ss) vs vs (bare_is_bare (Part.Fun k) ss vs) ts r.0 ∙ r.1 ss vs c
    fun_runs k f ts us (G.fun_annotated {p = p} {ts = xs} {us = ys} o d n) ss vs c = annotated_fun k f xs ys us o (bare_fun_runs k p f xs ys d) n ss vs

    definition_runs : (k : ℕ) (d : FunDef) (ts us : List Terminal) → G.DefinitionOf ok k d ts us → (bs : List FunDef) (ss : Symbols) (vs : Values) → begins calm us ≡ true → run ok z (Symbol.Definitions k ∷ ss) (Value.Definitions bs ∷ vs) ts ≡ run ok z (Symbol.Definitions k ∷ ss) (Value.Definitions (bs ++ d ∷ []) ∷ vs) us
    definition_runs k d ts us (G.definition {f = f} {p = p} {g = g} {us = xs} q (G.bare (G.function_name a b)) e) bs ss vs c =
        fun_runs k g xs us e (Symbol.Make Maker.Definition ∷ Symbol.Definitions k ∷ ss) (Value.Name f ∷ Value.At p ∷ Value.Definitions bs ∷ vs) c
        ∙ makes ok z calm Maker.Definition (Symbol.Definitions k ∷ ss) (Value.Fun g ∷ Value.Name f ∷ Value.At p ∷ Value.Definitions bs ∷ vs) us c
    definition_runs k d ts us (G.definition {f = f} {p = p} {g = g} {us = xs} q (G.annotated o (G.function_name a b) n) e) bs ss vs c =
        annotation_runs ok z _ (mark Mark.Equals q ∷ xs) n (defined k ss) (Value.Name f ∷ Value.At p ∷ Value.Definitions bs ∷ vs)
        ∙ fun_runs k g xs us e (Symbol.Make Maker.Definition ∷ Symbol.Definitions k ∷ ss) (Value.Name f ∷ Value.At p ∷ Value.Definitions bs ∷ vs) c
        ∙ makes ok z calm Maker.Definition (Symbol.Definitions k ∷ ss) (Value.Fun g ∷ Value.Name f ∷ Value.At p ∷ Value.Definitions bs ∷ vs) us c

    pub definitions_run : (k : ℕ) (ds : List FunDef) (ts us : List Terminal) → G.DefinitionsOf ok k ds ts us → (bs : List FunDef) (ss : Symbols) (vs : Values) → begins ends_definitions us ≡ true → run ok z (Symbol.Definitions k ∷ ss) (Value.Definitions bs ∷ vs) ts ≡ run ok z ss (Value.Definitions (bs ++ ds) ∷ vs) us
    definitions_run k ds ts us G.no_definitions bs ss vs h = no_definitions_run k us bs ss vs h
    definitions_run k ds ts us (G.more_definitions {d = d} {ds = es} {us = xs} e t) bs ss vs h =
        definition_runs k d ts xs e bs ss vs (definitions_calm k es xs us t h)
        ∙ definitions_run k es xs us t (bs ++ d ∷ []) ss vs h
        ∙ ap (λ xs. run ok z ss (Value.Definitions xs ∷ vs) us) (append_assoc bs (d ∷ []) es)
