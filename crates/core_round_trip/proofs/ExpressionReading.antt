-- Terminals of the kinds that an expression is printed as are derived as an expression that differs in places alone.
use Rattle.std.proofs.Common.{◌≡◌, ℕ, ◌+◌, List, [], ◌∷◌, Bool, true, false, refl, ap, ap₂, sym, ◌∙◌}
use Rattle.hipe_terms.specs.declared.place.Place.{Place}
use Rattle.core_ast.specs.declared.pattern.Var.{Var}
use Rattle.core_ast.specs.declared.pattern.Pattern.{Pattern}
use Rattle.core_ast.specs.declared.tree.Clause.{Clause}
use Rattle.core_ast.specs.declared.tree.Expr.{Expr}
use Rattle.core_ast.specs.declared.tree.Fun.{Fun}
use Rattle.core_ast.specs.declared.tree.FunDef.{FunDef}
use Rattle.core_ast.specs.declared.tree.FunName.{FunName}
use Rattle.core_ast.specs.declared.tree.Node.TheOpen.{Node-F}
use Rattle.core_ast.specs.Trees as T
use Rattle.core_ast.specs.SameTree.{start, placeless_variables, placeless_patterns, placeless, placeless_expressions, placeless_clauses, placeless_definitions}
use Rattle.core_ast.specs.WellFormed.{is_list}
use Rattle.core_grammar.specs.declared.terminal.Kind.{Kind}
use Rattle.core_grammar.specs.declared.terminal.Mark.{Mark}
use Rattle.core_grammar.specs.declared.terminal.Terminal.{Terminal}
use Rattle.core_grammar.specs.Leave.{Leave, mark}
use Rattle.core_grammar.specs.Trees.{expression_at, cells, nil_at, clause_at, fun_at, definition_at}
use Rattle.core_grammar.specs.Language.{limit}
use Rattle.core_grammar.specs.Grammar as G
use Rattle.core_print.specs.Printed.{is_nil}
use Rattle.core_round_trip.proofs.TreeKinds.{Kinds, next, list_end, variables_kinds, binders_kinds, patterns_kinds, kinds, kinds_of_all, kinds_behind, clauses_kinds, definitions_kinds}
use Rattle.core_round_trip.specs.Fits.{At, PatternsFit, HasExpression, HasClause, Fits, AllFit, ClausesFit, DefinitionsFit}
use Rattle.core_round_trip.proofs.Made.{expression_made, plain_expressions, cells_made, same_list, clause_made, fun_made, definition_made, plain_clauses, plain_definitions}
use Rattle.core_round_trip.proofs.Readings.{Reading, ReadingTo, up_to, integer_is, name_reading, SameVariables, variables_reading, binders_reading}
use Rattle.core_round_trip.proofs.PatternReading.{SamePatterns, patterns_reading}

abbrev pub Same : T.Expression → Expr → Type 0
Same e f = placeless (T.expression_of f) ≡ placeless e

abbrev pub AllSame : T.Expressions → List Expr → Type 0
AllSame es fs = placeless_expressions (plain_expressions fs) ≡ placeless_expressions es

abbrev pub SameClauses : T.Clauses → List Clause → Type 0
SameClauses cs ds = placeless_clauses (plain_clauses ds) ≡ placeless_clauses cs

abbrev pub SameDefinitions : T.Definitions → List FunDef → Type 0
SameDefinitions ds es = placeless_definitions (plain_definitions es) ≡ placeless_definitions ds

-- functions with these parameters and this body
abbrev pub SameFun : List Var → T.Expression → Fun → Type 0
SameFun xs e f = (placeless_variables (T.function_of f).parameters ≡ placeless_variables xs) × (placeless (T.function_of f).body ≡ placeless e)

nil_is : (e : T.Expression) → is_nil e ≡ true → placeless e ≡ T.Expression.Nil start
nil_is (T.Expression.Nil p) h = refl
nil_is _ h = cc

-- clauses, none or more
data AnyClauses (ok : Leave) (k : ℕ) : List Clause → List Terminal → List Terminal → Type 0 where
  no_clauses : {us : List Terminal} → AnyClauses ok k [] us us
  some_clauses : {cs : List Clause} {ts us : List Terminal} → G.ClausesOf ok k cs ts us → AnyClauses ok k cs ts us

with_clauses : (ok : Leave) (k : ℕ) (c : Clause) (cs : List Clause) (ts us ws : List Terminal) → G.ClauseOf ok k c ts us → AnyClauses ok k cs us ws → G.ClausesOf ok k (c ∷ cs) ts ws
with_clauses ok k c cs ts us ws d no_clauses = G.last_clause d
with_clauses ok k c cs ts us ws d (some_clauses e) = G.more_clauses d e

are_clauses : (ok : Leave) (k : ℕ) (qs : T.Clauses) (cs : List Clause) (ts us : List Terminal) → HasClause qs → SameClauses qs cs → AnyClauses ok k cs ts us → G.ClausesOf ok k cs ts us
are_clauses ok k T.no_clause cs ts us h s d = absurd h
are_clauses ok k (T.and_clause p fs g e qs) cs ts us h s no_clauses = cc
are_clauses ok k (T.and_clause p fs g e qs) cs ts us h s (some_clauses d) = d

module _ (n : ℕ) where
  abbrev ok : Leave
  ok = limit n

  abbrev pub ExpressionReading : ℕ → T.Expression → List Kind → List Terminal → Type 0
  ExpressionReading k e ks ts = Reading Expr (G.ExpressionOf ok k) (Same e) ks ts

  abbrev SomeReading : ℕ → T.Expressions → List Kind → List Terminal → Type 0
  SomeReading k es ks ts = Reading (List Expr) (G.SomeExpressions ok k) (AllSame es) ks ts

  abbrev AllReading : ℕ → T.Expressions → List Kind → List Terminal → Type 0
  AllReading k es ks ts = Reading (List Expr) (G.ExpressionsOf ok k) (AllSame es) ks ts

  abbrev ClausesReading : ℕ → T.Clauses → List Kind → List Terminal → Type 0
  ClausesReading k cs ks ts = Reading (List Clause) (AnyClauses ok k) (SameClauses cs) ks ts

  abbrev pub DefinitionsReading : ℕ → T.Definitions → List Kind → List Terminal → Type 0
  DefinitionsReading k ds ks ts = Reading (List FunDef) (G.DefinitionsOf ok k) (SameDefinitions ds) ks ts

  -- ---- lists

  -- a list whose tail is the empty list
  nil_list : (k : ℕ) (p : Place) (es : T.Expressions) (tail : T.Expression) (ks : List Kind) (o : Place) (ts : List Terminal) → At n k → is_nil tail ≡ true
      → ReadingTo (List Expr) (G.SomeExpressions ok (k + 1)) (AllSame es) (Kind.Mark Mark.CloseSquare) ks ts
      → ExpressionReading k (T.Expression.Cons p es tail) ks (mark Mark.OpenSquare o ∷ ts)
  nil_list k p es tail ks o ts l e r =
      record {
        tree = expression_at o (Node-F.List r.tree (nil_at o));
        rest = r.rest;
        derived = G.expression_bare (G.list o r.at l r.derived);
        same =
            ap placeless (expression_made o (Node-F.List r.tree (nil_at o)))
            ∙ ap₂ (T.Expression.Cons start) r.same (ap placeless (expression_made o Node-F.Nil) ∙ sym (nil_is tail e));
        behind = r.behind;
      }

  -- a list with another tail
  list_with : (k : ℕ) (p : Place) (es : T.Expressions) (tail : T.Expression) (ks : List Kind) (o : Place) (ts : List Terminal) (fs : List Expr) (m : Place) (us : List Terminal)
      → At n k → is_list tail ≡ false → G.SomeExpressions ok (k + 1) fs ts (mark Mark.Bar m ∷ us) → AllSame es fs
      → ReadingTo Expr (G.ExpressionOf ok k) (Same tail) (Kind.Mark Mark.CloseSquare) ks us
      → ExpressionReading k (T.Expression.Cons p es tail) ks (mark Mark.OpenSquare o ∷ ts)
  list_with k p es tail ks o ts fs m us l e d s r =
      record {
        tree = cells o fs r.tree;
        rest = r.rest;
        derived = G.expression_bare (G.list_before o m r.at l d r.derived);
        same =
            ap placeless (cells_made o fs r.tree (same_list (T.expression_of r.tree) tail r.same e))
            ∙ ap₂ (T.Expression.Cons start) s r.same;
        behind = r.behind;
      }

  -- a list, by whether its tail is the empty list
  list_reading : (k : ℕ) (p : Place) (es : T.Expressions) (tail : T.Expression) (ks : List Kind) (o : Place) (ts : List Terminal) → At n k → is_list tail ≡ false
      → ((us : List Terminal) → Kinds (kinds tail (Kind.Mark Mark.CloseSquare ∷ ks)) us → ExpressionReading k tail (Kind.Mark Mark.CloseSquare ∷ ks) us)
      → (b : Bool) → is_nil tail ≡ b
      → SomeReading (k + 1) es (list_end b (kinds tail (Kind.Mark Mark.CloseSquare ∷ ks)) ks) ts
      → ExpressionReading k (T.Expression.Cons p es tail) ks (mark Mark.OpenSquare o ∷ ts)
  list_reading k p es tail ks o ts l e back true i x = nil_list k p es tail ks o ts l i (up_to x)
  list_reading k p es tail ks o ts l e back false i x =
      let y = up_to x in
      list_with k p es tail ks o ts y.tree y.at y.rest l e y.derived y.same (up_to (back y.rest y.behind))

  -- ---- functions

  -- the parameters of a function, which end before `) ->`
  abbrev Parameters : List Var → List Kind → List Terminal → Type 0
  Parameters xs ks ts = ReadingTo (List Var) (G.ListOf Var (G.AnnotatedVariable ok)) (SameVariables ok xs) (Kind.Mark Mark.CloseRound) (Kind.Mark Mark.Arrow ∷ ks) ts

  abbrev FunReading : ℕ → Place → List Var → T.Expression → List Kind → List Terminal → Type 0
  FunReading k p xs e ks ts = Reading Fun (G.BareFun ok k p) (SameFun xs e) ks ts

  fun_reading_by : (k : ℕ) (xs : List Var) (e : T.Expression) (ks : List Kind) (p o : Place) (ts : List Terminal) → At n k
      → ((us : List Terminal) → Kinds (kinds e ks) us → ExpressionReading (k + 1) e ks us)
      → (ys : List Var) (q : Place) (us : List Terminal) → G.ListOf Var (G.AnnotatedVariable ok) ys ts (mark Mark.CloseRound q ∷ us) → SameVariables ok xs ys → Kinds (Kind.Mark Mark.Arrow ∷ kinds e ks) us
      → FunReading k p xs e ks (mark Mark.Fun p ∷ mark Mark.OpenRound o ∷ ts)
  fun_reading_by k xs e ks p o ts l back ys q us d s (next {ts = vs} r h) =
      let b = back vs h in
      record {
        tree = fun_at p ys b.tree;
        rest = b.rest;
        derived = G.«fun» p o q r l d b.derived;
        same = (ap (λ f. placeless_variables f.parameters) (fun_made p ys b.tree) ∙ s, ap (λ f. placeless f.body) (fun_made p ys b.tree) ∙ b.same);
        behind = b.behind;
      }

  fun_reading : (k : ℕ) (xs : List Var) (e : T.Expression) (ks : List Kind) (p o : Place) (ts : List Terminal) → At n k
      → ((us : List Terminal) → Kinds (kinds e ks) us → ExpressionReading (k + 1) e ks us)
      → Kinds (variables_kinds xs (Kind.Mark Mark.CloseRound ∷ Kind.Mark Mark.Arrow ∷ kinds e ks)) ts
      → FunReading k p xs e ks (mark Mark.Fun p ∷ mark Mark.OpenRound o ∷ ts)
  fun_reading k xs e ks p o ts l back h =
      let r = up_to (variables_reading ok xs (Kind.Mark Mark.CloseRound ∷ Kind.Mark Mark.Arrow ∷ kinds e ks) ts h) in
      fun_reading_by k xs e ks p o ts l back r.tree r.at r.rest r.derived r.same r.behind

  -- a function and its name
  fun_of : (k : ℕ) (xs : List Var) (e : T.Expression) (ks : List Kind) (ts : List Terminal) → At n k
      → ((us : List Terminal) → Kinds (kinds e ks) us → ExpressionReading (k + 1) e ks us)
      → Kinds (Kind.Mark Mark.Fun ∷ Kind.Mark Mark.OpenRound ∷ variables_kinds xs (Kind.Mark Mark.CloseRound ∷ Kind.Mark Mark.Arrow ∷ kinds e ks)) ts
      → Reading Fun (G.FunOf ok k) (SameFun xs e) ks ts
  fun_of k xs e ks ts l back (next p (next {ts = us} o h)) =
      let r = fun_reading k xs e ks p o us l back h in
      record { tree = r.tree; rest = r.rest; derived = G.fun_bare r.derived; same = r.same; behind = r.behind }

  definition_same : (f : FunName) (xs : List Var) (e : T.Expression) (ds : T.Definitions) (p : Place) (g : Fun) (es : List FunDef) (q r : Place) → SameFun xs e g → SameDefinitions ds es
      → SameDefinitions (T.and_definition q f r xs e ds) (definition_at p f g ∷ es)
  definition_same f xs e ds p g es q r s t =
      ap (λ d. T.and_definition start d.name start (placeless_variables d.function.parameters) (placeless d.function.body) (placeless_definitions (plain_definitions es))) (definition_made p f g)
      ∙ ap₂ (λ a b. T.and_definition start f start a b (placeless_definitions (plain_definitions es))) s.0 s.1
      ∙ ap (T.and_definition start f start (placeless_variables xs) (placeless e)) t

  -- ---- clauses

  clause_patterns : (k : ℕ) (fs : T.Patterns) (ks : List Kind) (o : Place) (ts : List Terminal) → At n k → PatternsFit n (k + 1) fs
      → Kinds (patterns_kinds fs (Kind.Mark Mark.Greater ∷ Kind.Mark Mark.When ∷ ks)) ts
      → Reading (List Pattern) (G.ClausePatterns ok k o) (SamePatterns fs) (Kind.Mark Mark.When ∷ ks) (mark Mark.Less o ∷ ts)
  clause_patterns k fs ks o ts l f h =
      let r = up_to (patterns_reading n (k + 1) fs (Kind.Mark Mark.Greater ∷ Kind.Mark Mark.When ∷ ks) ts f h) in
      record { tree = r.tree; rest = r.rest; derived = G.value_patterns o r.at l r.derived; same = r.same; behind = r.behind }

  clause_same : (fs : T.Patterns) (g e : T.Expression) (cs : T.Clauses) (p o : Place) (hs : List Pattern) (a b : Expr) (ds : List Clause) → SamePatterns fs hs → Same g a → Same e b → SameClauses cs ds
      → SameClauses (T.and_clause p fs g e cs) (clause_at o hs a b ∷ ds)
  clause_same fs g e cs p o hs a b ds s t u v =
      ap (λ c. T.and_clause start (placeless_patterns c.patterns) (placeless c.guard) (placeless c.body) (placeless_clauses (plain_clauses ds))) (clause_made o hs a b)
      ∙ ap₂ (λ x y. T.and_clause start x y (placeless (T.expression_of b)) (placeless_clauses (plain_clauses ds))) s t
      ∙ ap₂ (T.and_clause start (placeless_patterns fs) (placeless g)) u v

  -- ---- expressions

  mutual
    pub expression_reading : (k : ℕ) (e : T.Expression) (ks : List Kind) (ts : List Terminal) → Fits n k e → Kinds (kinds e ks) ts → ExpressionReading k e ks ts
    expression_reading k (T.Expression.Int p i) ks ts f (next {ts = us} o h) =
        record { tree = expression_at o (Node-F.Int i); rest = us; derived = G.expression_bare (G.integer o (integer_is i) f.0); same = ap placeless (expression_made o (Node-F.Int i)); behind = h }
    expression_reading k (T.Expression.Atom p a) ks ts f (next {ts = us} o h) =
        record { tree = expression_at o (Node-F.Atom a); rest = us; derived = G.expression_bare (G.literal a o f.0); same = ap placeless (expression_made o (Node-F.Atom a)); behind = h }
    expression_reading k (T.Expression.Nil p) ks ts f (next o (next {ts = us} c h)) =
        record { tree = nil_at o; rest = us; derived = G.expression_bare (G.empty o c f); same = ap placeless (expression_made o Node-F.Nil); behind = h }
    expression_reading k (T.Expression.Variable p x) ks ts f (next {ts = us} o h) =
        record { tree = expression_at o (Node-F.Var x); rest = us; derived = G.expression_bare (G.variable_name x o f.0); same = ap placeless (expression_made o (Node-F.Var x)); behind = h }
    expression_reading k (T.Expression.Name p g) ks ts f h =
        let r = name_reading g ks ts h in
        record { tree = expression_at r.tree (Node-F.Name g); rest = r.rest; derived = G.expression_bare (G.function f.0 r.derived); same = ap placeless (expression_made r.tree (Node-F.Name g)); behind = r.behind }
    expression_reading k (T.Expression.Tuple p es) ks ts f (next {ts = us} o h) =
        let r = up_to (all_reading (k + 1) es (Kind.Mark Mark.CloseBrace ∷ ks) us f.1 h) in
        record { tree = expression_at o (Node-F.Tuple r.tree); rest = r.rest; derived = G.expression_bare (G.tuple o r.at f.0 r.derived); same = ap placeless (expression_made o (Node-F.Tuple r.tree)) ∙ ap (T.Expression.Tuple start) r.same; behind = r.behind }
    expression_reading k (T.Expression.Cons p es tail) ks ts f (next {ts = us} o h) =
        let after = list_end (is_nil tail) (kinds tail (Kind.Mark Mark.CloseSquare ∷ ks)) ks in
        list_reading k p es tail ks o us f.0 f.4 (λ vs i. expression_reading k tail (Kind.Mark Mark.CloseSquare ∷ ks) vs f.3 i) (is_nil tail) refl (some_reading (k + 1) es after us f.1 f.2 h)
    expression_reading k (T.Expression.Values p es) ks ts f (next {ts = us} o h) =
        let r = up_to (all_reading (k + 1) es (Kind.Mark Mark.Greater ∷ ks) us f.1 h) in
        record { tree = expression_at o (Node-F.Values r.tree); rest = r.rest; derived = G.expression_bare (G.values o r.at f.0 r.derived); same = ap placeless (expression_made o (Node-F.Values r.tree)) ∙ ap (T.Expression.Values start) r.same; behind = r.behind }
    expression_reading k (T.Expression.Let p xs v e) ks ts f (next {ts = us} o h) =
        let x = up_to (binders_reading ok xs (Kind.Mark Mark.Equals ∷ kinds v (Kind.Mark Mark.In ∷ kinds e ks)) us h) in
        let y = up_to (expression_reading (k + 1) v (Kind.Mark Mark.In ∷ kinds e ks) x.rest f.2 x.behind) in
        let z = expression_reading (k + 1) e ks y.rest f.3 y.behind in
        record {
          tree = expression_at o (Node-F.Let x.tree y.tree z.tree);
          rest = z.rest;
          derived = G.expression_bare (G.«let» o x.at y.at f.0 x.derived y.derived z.derived);
          same = ap placeless (expression_made o (Node-F.Let x.tree y.tree z.tree)) ∙ ap₂ (λ a b. T.Expression.Let start a b (placeless (T.expression_of z.tree))) x.same y.same ∙ ap (T.Expression.Let start (placeless_variables xs) (placeless v)) z.same;
          behind = z.behind;
        }
    expression_reading k (T.Expression.Case p v cs) ks ts f (next {ts = us} o h) =
        let x = up_to (expression_reading (k + 1) v (Kind.Mark Mark.Of ∷ clauses_kinds cs (Kind.Mark Mark.End ∷ ks)) us f.1 h) in
        let y = up_to (clauses_reading (k + 1) cs (Kind.Mark Mark.End ∷ ks) x.rest f.3 x.behind) in
        record {
          tree = expression_at o (Node-F.Case x.tree y.tree);
          rest = y.rest;
          derived = G.expression_bare (G.case o x.at y.at f.0 x.derived (are_clauses ok (k + 1) cs y.tree x.rest (mark Mark.End y.at ∷ y.rest) f.2 y.same y.derived));
          same = ap placeless (expression_made o (Node-F.Case x.tree y.tree)) ∙ ap₂ (T.Expression.Case start) x.same y.same;
          behind = y.behind;
        }
    expression_reading k (T.Expression.Lambda p q xs e) ks ts f (next a (next {ts = us} o h)) =
        let r = fun_reading k xs e ks a o us f.0 (λ vs i. expression_reading (k + 1) e ks vs f.2 i) h in
        record { tree = expression_at a (Node-F.Lambda r.tree); rest = r.rest; derived = G.expression_bare (G.lambda r.derived); same = ap placeless (expression_made a (Node-F.Lambda r.tree)) ∙ ap₂ (T.Expression.Lambda start start) r.same.0 r.same.1; behind = r.behind }
    expression_reading k (T.Expression.Letrec p ds e) ks ts f (next {ts = us} o h) =
        let x = up_to (definitions_reading (k + 1) ds (Kind.Mark Mark.In ∷ kinds e ks) us f.1 h) in
        let y = expression_reading (k + 1) e ks x.rest f.2 x.behind in
        record {
          tree = expression_at o (Node-F.Letrec x.tree y.tree);
          rest = y.rest;
          derived = G.expression_bare (G.letrec o x.at f.0 x.derived y.derived);
          same = ap placeless (expression_made o (Node-F.Letrec x.tree y.tree)) ∙ ap₂ (T.Expression.Letrec start) x.same y.same;
          behind = y.behind;
        }
    expression_reading k (T.Expression.Apply p g es) ks ts f (next {ts = us} o h) =
        let x = up_to (expression_reading (k + 1) g (Kind.Mark Mark.OpenRound ∷ kinds_of_all es (Kind.Mark Mark.CloseRound ∷ ks)) us f.1 h) in
        let y = up_to (all_reading (k + 1) es (Kind.Mark Mark.CloseRound ∷ ks) x.rest f.2 x.behind) in
        record {
          tree = expression_at o (Node-F.Apply x.tree y.tree);
          rest = y.rest;
          derived = G.expression_bare (G.apply o x.at y.at f.0 x.derived y.derived);
          same = ap placeless (expression_made o (Node-F.Apply x.tree y.tree)) ∙ ap₂ (T.Expression.Apply start) x.same y.same;
          behind = y.behind;
        }
    expression_reading k (T.Expression.Call p m g es) ks ts f (next o (next a (next c (next b (next {ts = us} q h))))) =
        let r = up_to (all_reading (k + 1) es (Kind.Mark Mark.CloseRound ∷ ks) us f.3 h) in
        record {
          tree = expression_at o (Node-F.Call m g r.tree);
          rest = r.rest;
          derived = G.expression_bare (G.call o c q r.at f.0 (G.bare (G.atom_operand (G.atom a))) (G.bare (G.atom_operand (G.atom b))) r.derived);
          same = ap placeless (expression_made o (Node-F.Call m g r.tree)) ∙ ap (T.Expression.Call start m g) r.same;
          behind = r.behind;
        }
    expression_reading k (T.Expression.Primop p g es) ks ts f (next o (next b (next {ts = us} q h))) =
        let r = up_to (all_reading (k + 1) es (Kind.Mark Mark.CloseRound ∷ ks) us f.2 h) in
        record {
          tree = expression_at o (Node-F.Primop g r.tree);
          rest = r.rest;
          derived = G.expression_bare (G.primop o q r.at f.0 (G.bare (G.atom b)) r.derived);
          same = ap placeless (expression_made o (Node-F.Primop g r.tree)) ∙ ap (T.Expression.Primop start g) r.same;
          behind = r.behind;
        }
    expression_reading k (T.Expression.Try p e xs b ys c) ks ts f (next {ts = us} o h) =
        let k3 = Kind.Mark Mark.Arrow ∷ kinds c ks in
        let k2 = kinds b (Kind.Mark Mark.Catch ∷ binders_kinds ys k3) in
        let x = up_to (expression_reading (k + 1) e (Kind.Mark Mark.Of ∷ binders_kinds xs (Kind.Mark Mark.Arrow ∷ k2)) us f.1 h) in
        let u = up_to (binders_reading ok xs (Kind.Mark Mark.Arrow ∷ k2) x.rest x.behind) in
        let y = up_to (expression_reading (k + 1) b (Kind.Mark Mark.Catch ∷ binders_kinds ys k3) u.rest f.3 u.behind) in
        let v = up_to (binders_reading ok ys k3 y.rest y.behind) in
        let z = expression_reading (k + 1) c ks v.rest f.5 v.behind in
        record {
          tree = expression_at o (Node-F.Try x.tree u.tree y.tree v.tree z.tree);
          rest = z.rest;
          derived = G.expression_bare (G.try o x.at u.at y.at v.at f.0 x.derived u.derived y.derived v.derived z.derived);
          same =
              ap placeless (expression_made o (Node-F.Try x.tree u.tree y.tree v.tree z.tree))
              ∙ ap₂ (λ d w. T.Expression.Try start d w (placeless (T.expression_of y.tree)) (placeless_variables v.tree) (placeless (T.expression_of z.tree))) x.same u.same
              ∙ ap₂ (λ d w. T.Expression.Try start (placeless e) (placeless_variables xs) d w (placeless (T.expression_of z.tree))) y.same v.same
              ∙ ap (T.Expression.Try start (placeless e) (placeless_variables xs) (placeless b) (placeless_variables ys)) z.same;
          behind = z.behind;
        }
    expression_reading k (T.Expression.Do p d e) ks ts f (next {ts = us} o h) =
        let x = expression_reading (k + 1) d (kinds e ks) us f.1 h in
        let y = expression_reading (k + 1) e ks x.rest f.2 x.behind in
        record {
          tree = expression_at o (Node-F.Do x.tree y.tree);
          rest = y.rest;
          derived = G.expression_bare (G.do_both o f.0 x.derived y.derived);
          same = ap placeless (expression_made o (Node-F.Do x.tree y.tree)) ∙ ap₂ (T.Expression.Do start) x.same y.same;
          behind = y.behind;
        }
    expression_reading k (T.Expression.Catch p e) ks ts f (next {ts = us} o h) =
        let x = expression_reading (k + 1) e ks us f.1 h in
        record { tree = expression_at o (Node-F.Catch x.tree); rest = x.rest; derived = G.expression_bare (G.catch o f.0 x.derived); same = ap placeless (expression_made o (Node-F.Catch x.tree)) ∙ ap (T.Expression.Catch start) x.same; behind = x.behind }

    -- an expression, and those behind it
    with_more : (k : ℕ) (e : T.Expression) (es : T.Expressions) (ks : List Kind) (ts : List Terminal) → AllFit n k es → ExpressionReading k e (kinds_behind es ks) ts → SomeReading k (T.and_expression e es) ks ts
    with_more k e T.no_expression ks ts f x = record { tree = x.tree ∷ []; rest = x.rest; derived = G.last_expression x.derived; same = ap (λ g. T.and_expression g T.no_expression) x.same; behind = x.behind }
    with_more k e (T.and_expression g gs) ks ts f x =
        let y = up_to x in
        let r = with_more k g gs ks y.rest f.1 (expression_reading k g (kinds_behind gs ks) y.rest f.0 y.behind) in
        record { tree = y.tree ∷ r.tree; rest = r.rest; derived = G.more_expressions y.at y.derived r.derived; same = ap₂ T.and_expression y.same r.same; behind = r.behind }

    some_reading : (k : ℕ) (es : T.Expressions) (ks : List Kind) (ts : List Terminal) → HasExpression es → AllFit n k es → Kinds (kinds_of_all es ks) ts → SomeReading k es ks ts
    some_reading k T.no_expression ks ts s f h = absurd s
    some_reading k (T.and_expression e es) ks ts s f h = with_more k e es ks ts f.1 (expression_reading k e (kinds_behind es ks) ts f.0 h)

    all_reading : (k : ℕ) (es : T.Expressions) (ks : List Kind) (ts : List Terminal) → AllFit n k es → Kinds (kinds_of_all es ks) ts → AllReading k es ks ts
    all_reading k T.no_expression ks ts f h = record { tree = []; rest = ts; derived = G.no_expressions; same = refl; behind = h }
    all_reading k (T.and_expression e es) ks ts f h =
        let r = with_more k e es ks ts f.1 (expression_reading k e (kinds_behind es ks) ts f.0 h) in
        record { tree = r.tree; rest = r.rest; derived = G.some_expressions r.derived; same = r.same; behind = r.behind }

    clauses_reading : (k : ℕ) (cs : T.Clauses) (ks : List Kind) (ts : List Terminal) → ClausesFit n k cs → Kinds (clauses_kinds cs ks) ts → ClausesReading k cs ks ts
    clauses_reading k T.no_clause ks ts f h = record { tree = []; rest = ts; derived = no_clauses; same = refl; behind = h }
    clauses_reading k (T.and_clause p fs g e cs) ks ts f (next {ts = us} o h) =
        let k2 = clauses_kinds cs ks in
        let k1 = kinds e k2 in
        let x = up_to (clause_patterns k fs (kinds g (Kind.Mark Mark.Arrow ∷ k1)) o us f.0 f.1 h) in
        let y = up_to (expression_reading (k + 1) g (Kind.Mark Mark.Arrow ∷ k1) x.rest f.2 x.behind) in
        let z = expression_reading (k + 1) e k2 y.rest f.3 y.behind in
        let r = clauses_reading k cs ks z.rest f.4 z.behind in
        record {
          tree = clause_at o x.tree y.tree z.tree ∷ r.tree;
          rest = r.rest;
          derived = some_clauses (with_clauses ok k (clause_at o x.tree y.tree z.tree) r.tree (mark Mark.Less o ∷ us) z.rest r.rest (G.clause_bare (G.clause x.at y.at x.derived y.derived z.derived)) r.derived);
          same = clause_same fs g e cs p o x.tree y.tree z.tree r.tree x.same y.same z.same r.same;
          behind = r.behind;
        }

    pub definitions_reading : (k : ℕ) (ds : T.Definitions) (ks : List Kind) (ts : List Terminal) → DefinitionsFit n k ds → Kinds (definitions_kinds ds ks) ts → DefinitionsReading k ds ks ts
    definitions_reading k T.no_definition ks ts f h = record { tree = []; rest = ts; derived = G.no_definitions; same = refl; behind = h }
    definitions_reading k (T.and_definition p g q xs e ds) ks ts f h =
        let k2 = definitions_kinds ds ks in
        let k1 = Kind.Mark Mark.Fun ∷ Kind.Mark Mark.OpenRound ∷ variables_kinds xs (Kind.Mark Mark.CloseRound ∷ Kind.Mark Mark.Arrow ∷ kinds e k2) in
        let x = up_to (name_reading g (Kind.Mark Mark.Equals ∷ k1) ts h) in
        let y = fun_of k xs e k2 x.rest f.0 (λ vs i. expression_reading (k + 1) e k2 vs f.3 i) x.behind in
        let r = definitions_reading k ds ks y.rest f.4 y.behind in
        record {
          tree = definition_at x.tree g y.tree ∷ r.tree;
          rest = r.rest;
          derived = G.more_definitions (G.definition x.at (G.bare x.derived) y.derived) r.derived;
          same = definition_same g xs e ds x.tree y.tree r.tree p q y.same r.same;
          behind = r.behind;
        }
