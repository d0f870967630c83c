-- What symbols stand for, as relations of the grammar.
use Rattle.std.proofs.Common.{◌≡◌, ℕ, ◌+◌, List, [], ◌∷◌, true}
use Rattle.hipe_terms.specs.declared.place.Place.{Place}
use Rattle.hipe_terms.specs.declared.constant.Constant.{Constant}
use Rattle.core_ast.specs.declared.pattern.Var.{Var}
use Rattle.core_ast.specs.declared.pattern.Pattern.{Pattern}
use Rattle.core_ast.specs.declared.tree.Clause.{Clause}
use Rattle.core_ast.specs.declared.tree.Expr.{Expr}
use Rattle.core_ast.specs.declared.tree.Fun.{Fun}
use Rattle.core_ast.specs.declared.tree.FunDef.{FunDef}
use Rattle.core_ast.specs.declared.tree.FunName.{FunName}
use Rattle.core_ast.specs.declared.tree.Module.{Module}
use Rattle.core_grammar.specs.declared.terminal.Kind.{Kind}
use Rattle.core_grammar.specs.declared.terminal.Mark.{Mark}
use Rattle.core_grammar.specs.declared.terminal.Terminal.{Terminal}
use Rattle.core_grammar.specs.Leave.{part, argument, Leave, token, mark}
use Rattle.core_grammar.specs.Grammar as G
use Rattle.core_parser.specs.declared.symbol.Closer.{Closer}
use Rattle.core_parser.specs.declared.symbol.Element.{Element}
use Rattle.core_parser.specs.declared.symbol.Maker.{Maker}
use Rattle.core_parser.specs.declared.symbol.Part.{Part}
use Rattle.core_parser.specs.declared.symbol.Symbol.{Symbol}
use Rattle.core_parser.specs.declared.symbol.Term.{Term}
use Rattle.core_parser.specs.Machine.{Symbols, deeper, annotation, annotation_list, arguments, guarded}
use Rattle.core_parser.proofs.Steps.{closing}

abbrev pub of_variable : Var → Terminal
of_variable x = token (Kind.Variable x.name) x.at

module _ (ok : Leave) where
  -- what a symbol stands for. A symbol behind the first terminals of a part stands for what makes that part with them.
  pub data Sat : Symbol → List Terminal → List Terminal → Type 0 where
    wants : {us : List Terminal} (m : Mark) (p : Place) → Sat (Symbol.Wants m) (mark m p ∷ us) us
    make : {m : Maker} {us : List Terminal} → Sat (Symbol.Make m) us us
    -- parts
    bare_module : {m : Module} {ts us : List Terminal} → G.BareModule ok m ts us → Sat (Symbol.Bare Part.Module) ts us
    bare_name : {f : FunName} {p : Place} {ts us : List Terminal} → G.NameOf f p ts us → Sat (Symbol.Bare Part.Name) ts us
    bare_atom : {a : List ℕ} {ts us : List Terminal} → G.AtomOf a ts us → Sat (Symbol.Bare Part.Atom) ts us
    bare_operand : {a : List ℕ} {ts us : List Terminal} → G.Operand ok a ts us → Sat (Symbol.Bare Part.Operand) ts us
    bare_variable : {x : Var} {ts us : List Terminal} → G.VariableOf x ts us → Sat (Symbol.Bare Part.Variable) ts us
    bare_constant : {k : ℕ} {c : Constant} {ts us : List Terminal} → G.ConstantOf ok k c ts us → Sat (Symbol.Bare (Part.Constant k)) ts us
    bare_fun : {k : ℕ} {p : Place} {f : Fun} {ts us : List Terminal} → G.BareFun ok k p f ts us → Sat (Symbol.Bare (Part.Fun k)) ts us
    bare_expression : {k : ℕ} {e : Expr} {ts us : List Terminal} → G.BareExpression ok k e ts us → Sat (Symbol.Bare (Part.Expression k)) ts us
    module' : {m : Module} {ts us : List Terminal} → G.ModuleOf ok m ts us → Sat (Symbol.Annotated Part.Module) ts us
    name : {f : FunName} {p : Place} {ts us : List Terminal} → G.Annotated ok (G.NameOf f p) ts us → Sat (Symbol.Annotated Part.Name) ts us
    atom : {a : List ℕ} {ts us : List Terminal} → G.Annotated ok (G.AtomOf a) ts us → Sat (Symbol.Annotated Part.Atom) ts us
    operand : {a : List ℕ} {ts us : List Terminal} → G.Annotated ok (G.Operand ok a) ts us → Sat (Symbol.Annotated Part.Operand) ts us
    variable : {x : Var} {ts us : List Terminal} → G.AnnotatedVariable ok x ts us → Sat (Symbol.Annotated Part.Variable) ts us
    constant : {k : ℕ} {c : Constant} {ts us : List Terminal} → G.Annotated ok (G.ConstantOf ok k c) ts us → Sat (Symbol.Annotated (Part.Constant k)) ts us
    fun : {k : ℕ} {f : Fun} {ts us : List Terminal} → G.FunOf ok k f ts us → Sat (Symbol.Annotated (Part.Fun k)) ts us
    expression : {k : ℕ} {e : Expr} {ts us : List Terminal} → G.ExpressionOf ok k e ts us → Sat (Symbol.Annotated (Part.Expression k)) ts us
    -- names
    no_arity : {us : List Terminal} → Sat Symbol.AfterAtom us us
    slash : {us : List Terminal} (n : ℕ) (p q : Place) → Sat Symbol.AfterAtom (mark Mark.Slash p ∷ token (Kind.Natural n) q ∷ us) us
    arity : {us : List Terminal} (n : ℕ) (p : Place) → Sat Symbol.Arity (token (Kind.Natural n) p ∷ us) us
    -- elements
    item_variable : {x : Var} {ts us : List Terminal} → G.AnnotatedVariable ok x ts us → Sat (Symbol.Item Element.Variable) ts us
    item_export : {e : FunName × Place} {ts us : List Terminal} → G.ExportOf ok e ts us → Sat (Symbol.Item Element.Export) ts us
    item_attribute : {x : List ℕ × Constant} {ts us : List Terminal} → G.AttributeOf ok x ts us → Sat (Symbol.Item Element.Attribute) ts us
    item_expression : {k : ℕ} {e : Expr} {ts us : List Terminal} → G.ExpressionOf ok k e ts us → Sat (Symbol.Item (Element.Term (Term.Expression k))) ts us
    item_pattern : {k : ℕ} {f : Pattern} {ts us : List Terminal} → G.PatternOf ok k f ts us → Sat (Symbol.Item (Element.Term (Term.Pattern k))) ts us
    item_constant : {k : ℕ} {c : Constant} {ts us : List Terminal} → G.ConstantOf ok k c ts us → Sat (Symbol.Item (Element.Term (Term.Constant k))) ts us
    first_none : {x : Element} {c : Closer} {us : List Terminal} (p : Place) → Sat (Symbol.First x c) (mark (closing c) p ∷ us) us
    first_some : {x : Element} {c : Closer} {ts us ws : List Terminal} → Sat (Symbol.Item x) ts us → Sat (Symbol.Rest x c) us ws → Sat (Symbol.First x c) ts ws
    rest_none : {x : Element} {c : Closer} {us : List Terminal} (p : Place) → Sat (Symbol.Rest x c) (mark (closing c) p ∷ us) us
    rest_more : {x : Element} {c : Closer} {ts us ws : List Terminal} (p : Place) → Sat (Symbol.Item x) ts us → Sat (Symbol.Rest x c) us ws → Sat (Symbol.Rest x c) (mark Mark.Comma p ∷ ts) ws
    -- lists
    cells_none : {x : Term} {us : List Terminal} (p : Place) → Sat (Symbol.CellsFirst x) (mark Mark.CloseSquare p ∷ us) us
    cells_some : {x : Term} {ts us ws : List Terminal} → Sat (Symbol.Item (Element.Term (deeper x))) ts us → Sat (Symbol.CellsRest x) us ws → Sat (Symbol.CellsFirst x) ts ws
    cells_end : {x : Term} {us : List Terminal} (p : Place) → Sat (Symbol.CellsRest x) (mark Mark.CloseSquare p ∷ us) us
    cells_more : {x : Term} {ts us ws : List Terminal} (p : Place) → Sat (Symbol.Item (Element.Term (deeper x))) ts us → Sat (Symbol.CellsRest x) us ws → Sat (Symbol.CellsRest x) (mark Mark.Comma p ∷ ts) ws
    cells_tail : {x : Term} {ts us : List Terminal} (p q : Place) → Sat (Symbol.Item (Element.Term x)) ts (mark Mark.CloseSquare q ∷ us) → Sat (Symbol.CellsRest x) (mark Mark.Bar p ∷ ts) us
    tail : {x : Term} {ts us : List Terminal} → Sat (Symbol.Item (Element.Term x)) ts us → Sat (Symbol.Tail x) ts us
    expression_tail_inside : {k : ℕ} {e : Expr} {ts us : List Terminal} → ((o : Place) → G.ExpressionOf ok k e (mark Mark.OpenRound o ∷ ts) us) → Sat (Symbol.ExpressionTailInside k) ts us
    pattern_tail_inside : {k : ℕ} {f : Pattern} {ts us : List Terminal} → ((o : Place) → G.PatternOf ok k f (mark Mark.OpenRound o ∷ ts) us) → Sat (Symbol.PatternTailInside k) ts us
    tail_first : {x : Term} {ts us : List Terminal} → Sat (Symbol.CellsFirst x) ts us → Sat (Symbol.TailFirst x) ts us
    variables : {xs : List Var} {ts us : List Terminal} → G.VariablesOf ok xs ts us → Sat Symbol.Variables ts us
    -- patterns
    pattern' : {k : ℕ} {f : Pattern} {ts us : List Terminal} → G.PatternOf ok k f ts us → Sat (Symbol.Pattern k) ts us
    pattern_inside : {k : ℕ} {f : Pattern} {ts us : List Terminal} → ((o : Place) → G.PatternOf ok k f (mark Mark.OpenRound o ∷ ts) us) → Sat (Symbol.PatternInside k) ts us
    pattern_inside_variable : {k : ℕ} {ts us : List Terminal} (f : Var → Pattern) → ((o : Place) (x : Var) → ok (part k) (of_variable x ∷ ts) ≡ true → G.PatternOf ok k (f x) (mark Mark.OpenRound o ∷ of_variable x ∷ ts) us) → Sat (Symbol.PatternInsideVariable k) ts us
    alias_name : {k : ℕ} {us : List Terminal} (x : Var) → ok (part k) (of_variable x ∷ us) ≡ true → Sat (Symbol.AliasName k) (of_variable x ∷ us) us
    no_alias : {k : ℕ} {us : List Terminal} → Sat (Symbol.AfterVariable k) us us
    equals : {k : ℕ} {f : Pattern} {ts us : List Terminal} (q : Place) → G.PatternOf ok (k + 1) f ts us → Sat (Symbol.AfterVariable k) (mark Mark.Equals q ∷ ts) us
    -- clauses
    clause : {k : ℕ} {c : Clause} {ts us : List Terminal} → G.ClauseOf ok k c ts us → Sat (Symbol.Clause k) ts us
    clause_inside : {k : ℕ} {c : Clause} {ts us : List Terminal} → ((o : Place) → G.ClauseOf ok k c (mark Mark.OpenRound o ∷ ts) us) → Sat (Symbol.ClauseInside k) ts us
    clause_inside_variable : {k : ℕ} {ts us : List Terminal} (c : Var → Clause) → ((o : Place) (x : Var) → ok (part (k + 1)) (of_variable x ∷ ts) ≡ true → G.ClauseOf ok k (c x) (mark Mark.OpenRound o ∷ of_variable x ∷ ts) us) → Sat (Symbol.ClauseInsideVariable k) ts us
    clause_twice_inside : {k : ℕ} {c : Clause} {ts us : List Terminal} → ((o q : Place) → G.ClauseOf ok k c (mark Mark.OpenRound o ∷ mark Mark.OpenRound q ∷ ts) us) → Sat (Symbol.ClauseTwiceInside k) ts us
    clause_twice_inside_variable : {k : ℕ} {ts us : List Terminal} (c : Var → Clause) → ((o q : Place) (x : Var) → ok (part (k + 1)) (of_variable x ∷ ts) ≡ true → G.ClauseOf ok k (c x) (mark Mark.OpenRound o ∷ mark Mark.OpenRound q ∷ of_variable x ∷ ts) us) → Sat (Symbol.ClauseTwiceInsideVariable k) ts us
    clause_twice_inside_annotated : {k : ℕ} {ts us : List Terminal} (c : Var → Clause) → ((o q : Place) (x : Var) (vs : List Terminal) → ok (part (k + 1)) (of_variable x ∷ vs) ≡ true → G.Annotation ok vs ts → G.ClauseOf ok k (c x) (mark Mark.OpenRound o ∷ mark Mark.OpenRound q ∷ of_variable x ∷ vs) us) → Sat (Symbol.ClauseTwiceInsideAnnotated k) ts us
    clause_middle : {k : ℕ} {ts us : List Terminal} (c : Pattern → Clause) → ((f : Pattern) (o : Place) (ws : List Terminal) → G.BarePattern ok (k + 1) f ws ts → G.ClauseOf ok k (c f) (mark Mark.OpenRound o ∷ ws) us) → Sat (Symbol.ClauseMiddle k) ts us
    clauses_none : {k : ℕ} {us : List Terminal} (p : Place) → Sat (Symbol.ClausesRest k) (mark Mark.End p ∷ us) us
    clauses_some : {k : ℕ} {cs : List Clause} {ts us : List Terminal} (p : Place) → G.ClausesOf ok k cs ts (mark Mark.End p ∷ us) → Sat (Symbol.ClausesRest k) ts us
    -- definitions and modules
    definitions : {k : ℕ} {ds : List FunDef} {ts us : List Terminal} → G.DefinitionsOf ok k ds ts us → Sat (Symbol.Definitions k) ts us
    module_end : {us : List Terminal} (p : Place) → Sat Symbol.ModuleEnd (mark Mark.End p ∷ us) us
    -- calls
    arguments_first : {cs : List Constant} {ts us : List Terminal} (p : Place) → G.ArgumentsOf ok cs ts (mark Mark.CloseRound p ∷ us) → Sat Symbol.ArgumentsFirst ts us
    argument' : {i : ℕ} {c : Constant} {ts us : List Terminal} → ok (argument i) ts ≡ true → G.ConstantOf ok 1 c ts us → Sat (Symbol.Argument i) ts us
    arguments_none : {i : ℕ} {us : List Terminal} (p : Place) → Sat (Symbol.ArgumentsRest i) (mark Mark.CloseRound p ∷ us) us
    arguments_some : {i : ℕ} {cs : List Constant} {ts us : List Terminal} (p q : Place) → G.SomeArguments ok i cs ts (mark Mark.CloseRound q ∷ us) → Sat (Symbol.ArgumentsRest i) (mark Mark.Comma p ∷ ts) us

  pub data Holds : Symbols → List Terminal → Type 0 where
    done : Holds [] []
    on : {s : Symbol} {ss : Symbols} {ts us : List Terminal} → Sat s ts us → Holds ss us → Holds (s ∷ ss) ts

  -- elements with commas, and what closes them

  pub data FoundExpressions : ℕ → Closer → List Terminal → List Terminal → Type 0 where
    found_expressions : {k : ℕ} {c : Closer} {es : List Expr} {ts us : List Terminal} (p : Place) → G.SomeExpressions ok k es ts (mark (closing c) p ∷ us) → FoundExpressions k c ts us

  rest_expressions : (k : ℕ) (c : Closer) (e : Expr) (ts us ws : List Terminal) → G.ExpressionOf ok k e ts us → Sat (Symbol.Rest (Element.Term (Term.Expression k)) c) us ws → FoundExpressions k c ts ws
  rest_expressions k c e ts us ws d (rest_none p) = found_expressions p (G.last_expression d)
  rest_expressions k c e ts us ws d (rest_more {ts = xs} {us = ys} p (item_expression {e = f} g) r) = elim (rest_expressions k c f xs ys ws g r) [ found_expressions q fs ↦ found_expressions q (G.more_expressions p d fs) ]

  pub data AllExpressions : ℕ → Closer → List Terminal → List Terminal → Type 0 where
    all_expressions : {k : ℕ} {c : Closer} {es : List Expr} {ts us : List Terminal} (p : Place) → G.ExpressionsOf ok k es ts (mark (closing c) p ∷ us) → AllExpressions k c ts us

  pub expressions_of : (k : ℕ) (c : Closer) (ts us : List Terminal) → Sat (Symbol.First (Element.Term (Term.Expression k)) c) ts us → AllExpressions k c ts us
  expressions_of k c ts us (first_none p) = all_expressions p G.no_expressions
  expressions_of k c ts us (first_some {us = ys} (item_expression {e = e} d) r) = elim (rest_expressions k c e ts ys us d r) [ found_expressions p ds ↦ all_expressions p (G.some_expressions ds) ]

  pub data FoundPatterns : ℕ → Closer → List Terminal → List Terminal → Type 0 where
    found_patterns : {k : ℕ} {c : Closer} {fs : List Pattern} {ts us : List Terminal} (p : Place) → G.SomePatterns ok k fs ts (mark (closing c) p ∷ us) → FoundPatterns k c ts us

  rest_patterns : (k : ℕ) (c : Closer) (f : Pattern) (ts us ws : List Terminal) → G.PatternOf ok k f ts us → Sat (Symbol.Rest (Element.Term (Term.Pattern k)) c) us ws → FoundPatterns k c ts ws
  rest_patterns k c f ts us ws d (rest_none p) = found_patterns p (G.last_pattern d)
  rest_patterns k c f ts us ws d (rest_more {ts = xs} {us = ys} p (item_pattern {f = e} g) r) = elim (rest_patterns k c e xs ys ws g r) [ found_patterns q fs ↦ found_patterns q (G.more_patterns p d fs) ]

  pub data AllPatterns : ℕ → Closer → List Terminal → List Terminal → Type 0 where
    all_patterns : {k : ℕ} {c : Closer} {fs : List Pattern} {ts us : List Terminal} (p : Place) → G.PatternsOf ok k fs ts (mark (closing c) p ∷ us) → AllPatterns k c ts us

  pub patterns_of : (k : ℕ) (c : Closer) (ts us : List Terminal) → Sat (Symbol.First (Element.Term (Term.Pattern k)) c) ts us → AllPatterns k c ts us
  patterns_of k c ts us (first_none p) = all_patterns p G.no_patterns
  patterns_of k c ts us (first_some {us = ys} (item_pattern {f = f} d) r) = elim (rest_patterns k c f ts ys us d r) [ found_patterns p ds ↦ all_patterns p (G.some_patterns ds) ]

  pub data FoundConstants : ℕ → Closer → List Terminal → List Terminal → Type 0 where
    found_constants : {k : ℕ} {c : Closer} {cs : List Constant} {ts us : List Terminal} (p : Place) → G.SomeConstants ok k cs ts (mark (closing c) p ∷ us) → FoundConstants k c ts us

  rest_constants : (k : ℕ) (c : Closer) (e : Constant) (ts us ws : List Terminal) → G.ConstantOf ok k e ts us → Sat (Symbol.Rest (Element.Term (Term.Constant k)) c) us ws → FoundConstants k c ts ws
  rest_constants k c e ts us ws d (rest_none p) = found_constants p (G.last_constant d)
  rest_constants k c e ts us ws d (rest_more {ts = xs} {us = ys} p (item_constant {c = f} g) r) = elim (rest_constants k c f xs ys ws g r) [ found_constants q fs ↦ found_constants q (G.more_constants p d fs) ]

  pub data AllConstants : ℕ → Closer → List Terminal → List Terminal → Type 0 where
    all_constants : {k : ℕ} {c : Closer} {cs : List Constant} {ts us : List Terminal} (p : Place) → G.ConstantsOf ok k cs ts (mark (closing c) p ∷ us) → AllConstants k c ts us

  pub constants_of : (k : ℕ) (c : Closer) (ts us : List Terminal) → Sat (Symbol.First (Element.Term (Term.Constant k)) c) ts us → AllConstants k c ts us
  constants_of k c ts us (first_none p) = all_constants p G.no_constants
  constants_of k c ts us (first_some {us = ys} (item_constant {c = e} d) r) = elim (rest_constants k c e ts ys us d r) [ found_constants p ds ↦ all_constants p (G.some_constants ds) ]

  pub data AllVariables : Closer → List Terminal → List Terminal → Type 0 where
    all_variables : {c : Closer} {xs : List Var} {ts us : List Terminal} (p : Place) → G.ListOf Var (G.AnnotatedVariable ok) xs ts (mark (closing c) p ∷ us) → AllVariables c ts us

  pub data FoundVariables : Closer → List Terminal → List Terminal → Type 0 where
    found_variables : {c : Closer} {xs : List Var} {ts us : List Terminal} (p : Place) → G.SomeOf Var (G.AnnotatedVariable ok) xs ts (mark (closing c) p ∷ us) → FoundVariables c ts us

  rest_variables : (c : Closer) (x : Var) (ts us ws : List Terminal) → G.AnnotatedVariable ok x ts us → Sat (Symbol.Rest Element.Variable c) us ws → FoundVariables c ts ws
  rest_variables c x ts us ws d (rest_none p) = found_variables p (G.last_of d)
  rest_variables c x ts us ws d (rest_more {ts = xs} {us = ys} p (item_variable {x = y} g) r) = elim (rest_variables c y xs ys ws g r) [ found_variables q fs ↦ found_variables q (G.more_of p d fs) ]

  pub variables_of : (c : Closer) (ts us : List Terminal) → Sat (Symbol.First Element.Variable c) ts us → AllVariables c ts us
  variables_of c ts us (first_none p) = all_variables p G.none_of
  variables_of c ts us (first_some {us = ys} (item_variable {x = x} d) r) = elim (rest_variables c x ts ys us d r) [ found_variables p ds ↦ all_variables p (G.some_of ds) ]

  pub data AllExports : Closer → List Terminal → List Terminal → Type 0 where
    all_exports : {c : Closer} {es : List (FunName × Place)} {ts us : List Terminal} (p : Place) → G.ListOf (FunName × Place) (G.ExportOf ok) es ts (mark (closing c) p ∷ us) → AllExports c ts us

  pub data FoundExports : Closer → List Terminal → List Terminal → Type 0 where
    found_exports : {c : Closer} {es : List (FunName × Place)} {ts us : List Terminal} (p : Place) → G.SomeOf (FunName × Place) (G.ExportOf ok) es ts (mark (closing c) p ∷ us) → FoundExports c ts us

  rest_exports : (c : Closer) (e : FunName × Place) (ts us ws : List Terminal) → G.ExportOf ok e ts us → Sat (Symbol.Rest Element.Export c) us ws → FoundExports c ts ws
  rest_exports c e ts us ws d (rest_none p) = found_exports p (G.last_of d)
  rest_exports c e ts us ws d (rest_more {ts = xs} {us = ys} p (item_export {e = f} g) r) = elim (rest_exports c f xs ys ws g r) [ found_exports q fs ↦ found_exports q (G.more_of p d fs) ]

  pub exports_of : (c : Closer) (ts us : List Terminal) → Sat (Symbol.First Element.Export c) ts us → AllExports c ts us
  exports_of c ts us (first_none p) = all_exports p G.none_of
  exports_of c ts us (first_some {us = ys} (item_export {e = e} d) r) = elim (rest_exports c e ts ys us d r) [ found_exports p ds ↦ all_exports p (G.some_of ds) ]

  pub data AllAttributes : Closer → List Terminal → List Terminal → Type 0 where
    all_attributes : {c : Closer} {xs : List (List ℕ × Constant)} {ts us : List Terminal} (p : Place) → G.ListOf (List ℕ × Constant) (G.AttributeOf ok) xs ts (mark (closing c) p ∷ us) → AllAttributes c ts us

  pub data FoundAttributes : Closer → List Terminal → List Terminal → Type 0 where
    found_attributes : {c : Closer} {xs : List (List ℕ × Constant)} {ts us : List Terminal} (p : Place) → G.SomeOf (List ℕ × Constant) (G.AttributeOf ok) xs ts (mark (closing c) p ∷ us) → FoundAttributes c ts us

  rest_attributes : (c : Closer) (x : List ℕ × Constant) (ts us ws : List Terminal) → G.AttributeOf ok x ts us → Sat (Symbol.Rest Element.Attribute c) us ws → FoundAttributes c ts ws
  rest_attributes c x ts us ws d (rest_none p) = found_attributes p (G.last_of d)
  rest_attributes c x ts us ws d (rest_more {ts = xs} {us = ys} p (item_attribute {x = y} g) r) = elim (rest_attributes c y xs ys ws g r) [ found_attributes q fs ↦ found_attributes q (G.more_of p d fs) ]

  pub attributes_of : (c : Closer) (ts us : List Terminal) → Sat (Symbol.First Element.Attribute c) ts us → AllAttributes c ts us
  attributes_of c ts us (first_none p) = all_attributes p G.none_of
  attributes_of c ts us (first_some {us = ys} (item_attribute {x = x} d) r) = elim (rest_attributes c x ts ys us d r) [ found_attributes p ds ↦ all_attributes p (G.some_of ds) ]

  -- lists: elements and `]`, or elements, a tail and `]`

  pub data ExpressionCells : ℕ → List Terminal → List Terminal → Type 0 where
    expressions_end : {k : ℕ} {es : List Expr} {ts us : List Terminal} (p : Place) → G.SomeExpressions ok (k + 1) es ts (mark Mark.CloseSquare p ∷ us) → ExpressionCells k ts us
    expressions_tail : {k : ℕ} {es : List Expr} {e : Expr} {ts us ws : List Terminal} (p q : Place) → G.SomeExpressions ok (k + 1) es ts (mark Mark.Bar p ∷ us) → G.ExpressionOf ok k e us (mark Mark.CloseSquare q ∷ ws) → ExpressionCells k ts ws

  expression_cells : (k : ℕ) (e : Expr) (ts us ws : List Terminal) → G.ExpressionOf ok (k + 1) e ts us → Sat (Symbol.CellsRest (Term.Expression k)) us ws → ExpressionCells k ts ws
  expression_cells k e ts us ws d (cells_end p) = expressions_end p (G.last_expression d)
  expression_cells k e ts us ws d (cells_tail p q (item_expression f)) = expressions_tail p q (G.last_expression d) f
  expression_cells k e ts us ws d (cells_more {ts = xs} {us = ys} p (item_expression {e = f} g) r) = elim (expression_cells k f xs ys ws g r) [ expressions_end q fs ↦ expressions_end q (G.more_expressions p d fs) | expressions_tail q s fs t ↦ expressions_tail q s (G.more_expressions p d fs) t ]

  pub data FoundExpression : ℕ → List Terminal → List Terminal → Type 0 where
    found_expression : {k : ℕ} {e : Expr} {ts us : List Terminal} → G.BareExpression ok k e ts us → FoundExpression k ts us

  pub expression_list : (k : ℕ) (o : Place) (ts us : List Terminal) → ok (part k) (mark Mark.OpenSquare o ∷ ts) ≡ true → Sat (Symbol.CellsFirst (Term.Expression k)) ts us → FoundExpression k (mark Mark.OpenSquare o ∷ ts) us
  expression_list k o ts us h (cells_none p) = found_expression (G.empty o p h)
  expression_list k o ts us h (cells_some {us = ys} (item_expression {e = e} d) r) = elim (expression_cells k e ts ys us d r) [ expressions_end p ds ↦ found_expression (G.list o p h ds) | expressions_tail p q ds f ↦ found_expression (G.list_before o p q h ds f) ]

  pub data PatternCells : ℕ → List Terminal → List Terminal → Type 0 where
    patterns_end : {k : ℕ} {fs : List Pattern} {ts us : List Terminal} (p : Place) → G.SomePatterns ok (k + 1) fs ts (mark Mark.CloseSquare p ∷ us) → PatternCells k ts us
    patterns_tail : {k : ℕ} {fs : List Pattern} {f : Pattern} {ts us ws : List Terminal} (p q : Place) → G.SomePatterns ok (k + 1) fs ts (mark Mark.Bar p ∷ us) → G.PatternOf ok k f us (mark Mark.CloseSquare q ∷ ws) → PatternCells k ts ws

  pattern_cells : (k : ℕ) (e : Pattern) (ts us ws : List Terminal) → G.PatternOf ok (k + 1) e ts us → Sat (Symbol.CellsRest (Term.Pattern k)) us ws → PatternCells k ts ws
  pattern_cells k e ts us ws d (cells_end p) = patterns_end p (G.last_pattern d)
  pattern_cells k e ts us ws d (cells_tail p q (item_pattern f)) = patterns_tail p q (G.last_pattern d) f
  pattern_cells k e ts us ws d (cells_more {ts = xs} {us = ys} p (item_pattern {f = f} g) r) = elim (pattern_cells k f xs ys ws g r) [ patterns_end q fs ↦ patterns_end q (G.more_patterns p d fs) | patterns_tail q s fs t ↦ patterns_tail q s (G.more_patterns p d fs) t ]

  pub data FoundPattern : ℕ → List Terminal → List Terminal → Type 0 where
    found_pattern : {k : ℕ} {f : Pattern} {ts us : List Terminal} → G.BarePattern ok k f ts us → FoundPattern k ts us

  pub pattern_list : (k : ℕ) (o : Place) (ts us : List Terminal) → ok (part k) (mark Mark.OpenSquare o ∷ ts) ≡ true → Sat (Symbol.CellsFirst (Term.Pattern k)) ts us → FoundPattern k (mark Mark.OpenSquare o ∷ ts) us
  pattern_list k o ts us h (cells_none p) = found_pattern (G.pattern_empty o p h)
  pattern_list k o ts us h (cells_some {us = ys} (item_pattern {f = e} d) r) = elim (pattern_cells k e ts ys us d r) [ patterns_end p ds ↦ found_pattern (G.pattern_list o p h ds) | patterns_tail p q ds f ↦ found_pattern (G.pattern_list_before o p q h ds f) ]

  pub data ConstantCells : ℕ → List Terminal → List Terminal → Type 0 where
    constants_end : {k : ℕ} {cs : List Constant} {ts us : List Terminal} (p : Place) → G.SomeConstants ok (k + 1) cs ts (mark Mark.CloseSquare p ∷ us) → ConstantCells k ts us
    constants_tail : {k : ℕ} {cs : List Constant} {c : Constant} {ts us ws : List Terminal} (p q : Place) → G.SomeConstants ok (k + 1) cs ts (mark Mark.Bar p ∷ us) → G.ConstantOf ok k c us (mark Mark.CloseSquare q ∷ ws) → ConstantCells k ts ws

  constant_cells : (k : ℕ) (e : Constant) (ts us ws : List Terminal) → G.ConstantOf ok (k + 1) e ts us → Sat (Symbol.CellsRest (Term.Constant k)) us ws → ConstantCells k ts ws
  constant_cells k e ts us ws d (cells_end p) = constants_end p (G.last_constant d)
  constant_cells k e ts us ws d (cells_tail p q (item_constant f)) = constants_tail p q (G.last_constant d) f
  constant_cells k e ts us ws d (cells_more {ts = xs} {us = ys} p (item_constant {c = f} g) r) = elim (constant_cells k f xs ys ws g r) [ constants_end q fs ↦ constants_end q (G.more_constants p d fs) | constants_tail q s fs t ↦ constants_tail q s (G.more_constants p d fs) t ]

  pub data FoundConstant : ℕ → List Terminal → List Terminal → Type 0 where
    found_constant : {k : ℕ} {c : Constant} {ts us : List Terminal} → G.ConstantOf ok k c ts us → FoundConstant k ts us

  pub constant_list : (k : ℕ) (o : Place) (ts us : List Terminal) → ok (part k) (mark Mark.OpenSquare o ∷ ts) ≡ true → Sat (Symbol.CellsFirst (Term.Constant k)) ts us → FoundConstant k (mark Mark.OpenSquare o ∷ ts) us
  constant_list k o ts us h (cells_none p) = found_constant (G.constant_empty o p h)
  constant_list k o ts us h (cells_some {us = ys} (item_constant {c = e} d) r) = elim (constant_cells k e ts ys us d r) [ constants_end p ds ↦ found_constant (G.constant_list o p h ds) | constants_tail p q ds f ↦ found_constant (G.constant_list_before o p q h ds f) ]

  -- what the symbols of an annotation, of arguments and of a guard stand for together

  pub data HeldAnnotation : Symbols → List Terminal → Type 0 where
    held_annotation : {ss : Symbols} {ts us : List Terminal} → G.Annotation ok ts us → Holds ss us → HeldAnnotation ss ts

  pub annotation_list_of : (p : Place) (ss : Symbols) (ts : List Terminal) → Holds (annotation_list ss) ts → HeldAnnotation ss (mark Mark.Dash p ∷ ts)
  annotation_list_of p ss ts (on (wants _ q) (on make (on {ts = xs} {us = ys} d (on make (on (wants _ s) h))))) = elim (constants_of 1 Closer.Square xs ys d) [ all_constants r cs ↦ held_annotation (G.annotation p q r s cs) h ]

  pub annotation_of : (ss : Symbols) (ts : List Terminal) → Holds (annotation ss) ts → HeldAnnotation ss ts
  annotation_of ss ts (on (wants _ p) h) = annotation_list_of p ss _ h

  pub data HeldArguments : ℕ → Symbols → List Terminal → Type 0 where
    held_arguments : {k : ℕ} {ss : Symbols} {es : List Expr} {ts us : List Terminal} (p q : Place) → G.ExpressionsOf ok k es ts (mark Mark.CloseRound q ∷ us) → Holds ss us → HeldArguments k ss (mark Mark.OpenRound p ∷ ts)

  pub arguments_of : (k : ℕ) (m : Maker) (ss : Symbols) (ts : List Terminal) → Holds (arguments k m ss) ts → HeldArguments k ss ts
  arguments_of k m ss ts (on (wants _ p) (on make (on {ts = xs} {us = ys} d (on make h)))) = elim (expressions_of k Closer.Round xs ys d) [ all_expressions q es ↦ held_arguments p q es h ]

  pub data HeldGuarded : ℕ → Symbols → List Terminal → Type 0 where
    held_guarded : {k : ℕ} {ss : Symbols} {g e : Expr} {ts us ws : List Terminal} (r : Place) → G.ExpressionOf ok (k + 1) g ts (mark Mark.Arrow r ∷ us) → G.ExpressionOf ok (k + 1) e us ws → Holds ss ws → HeldGuarded k ss ts

  pub guarded_of : (k : ℕ) (ss : Symbols) (ts : List Terminal) → Holds (guarded k ss) ts → HeldGuarded k ss ts
  guarded_of k ss ts (on (expression d) (on (wants _ r) (on (expression f) (on make h)))) = held_guarded r d f h
