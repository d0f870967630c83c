-- The grammar: which terminals derive which tree. Each fact says that a list of terminals begins with what it names, and
-- which terminals come after it. A(x) is `x` or `( x -| [ constants ] )`, and list(x) is none or more x with commas. A part
-- stands where its first terminal stands, where the `(` of annotations don't count. A part without a terminal, as the tail of
-- `[E]`, stands where the innermost list or text stands.
--
-- The productions are those of the profile of Core Erlang 1.0.3 that docs/LANGUAGE.md lists, in its order, from the module
-- down to patterns. What stands as x in A(x) or list(x) comes before them: constants, names, exports and attributes, which
-- lead back to none of them. Where x leads back to what it is a part of, A(x) and list(x) are written out: beside
-- `BarePattern`, which is x, stands `PatternOf`, which is A(x), and beside `SomePatterns`, which is one or more x with commas,
-- stands `PatternsOf`, which is list(x). The last are the module as a whole and calls from outside.
use Rattle.std.specs.Prelude.{◌≡◌, ℕ, ℤ, pos, ◌+◌, List, [], ◌∷◌, true}
use Rattle.hipe_terms.specs.declared.place.Place.{Place}
use Rattle.hipe_terms.specs.declared.constant.Constant.{Constant}
use Rattle.hipe_terms.specs.declared.constant.Constant.TheOpen.{Constant-F}
use Rattle.hipe_terms.specs.declared.constant.Call.{Call}
use Rattle.core_ast.specs.declared.pattern.Var.{Var}
use Rattle.core_ast.specs.declared.pattern.Pattern.{Pattern}
use Rattle.core_ast.specs.declared.pattern.PatNode.TheOpen.{PatNode-F}
use Rattle.core_ast.specs.declared.tree.Clause.{Clause}
use Rattle.core_ast.specs.declared.tree.Expr.{Expr}
use Rattle.core_ast.specs.declared.tree.Fun.{Fun}
use Rattle.core_ast.specs.declared.tree.FunDef.{FunDef}
use Rattle.core_ast.specs.declared.tree.FunName.{FunName}
use Rattle.core_ast.specs.declared.tree.Module.{Module}
use Rattle.core_ast.specs.declared.tree.Node.TheOpen.{Node-F}
use Rattle.core_grammar.specs.declared.terminal.Kind.{Kind}
use Rattle.core_grammar.specs.declared.terminal.Mark.{Mark}
use Rattle.core_grammar.specs.declared.terminal.Terminal.{Terminal}
use Rattle.core_grammar.specs.Leave.{part, variable_operand, argument, Leave, text_level, token, mark, inner}
use Rattle.core_grammar.specs.Trees.{constant_of, constant_cells, constant_nil, constant_text, pattern_at, pattern_cells, pattern_nil, pattern_text, expression_at, cells, nil_at, text_at, clause_at, fun_at, definition_at}

-- a part of level k may begin with the first of these terminals
abbrev pub MayBegin : Leave → ℕ → List Terminal → Type 0
MayBegin ok k ts = ok (part k) ts ≡ true

-- integer | character, and its value: a character is an integer
pub data Integer : Kind → ℤ → Type 0 where
  digits : (n : ℕ) → Integer (Kind.Natural n) (pos n)
  signed_or_character : (n : ℤ) → Integer (Kind.Integer n) n

-- list(x): none or more, with commas

pub data SomeOf (A : Type 0) (X : A → List Terminal → List Terminal → Type 0) : List A → List Terminal → List Terminal → Type 0 where
  last_of : {a : A} {ts us : List Terminal} → X a ts us → SomeOf A X (a ∷ []) ts us
  more_of : {a : A} {as' : List A} {ts us ws : List Terminal} (p : Place)
      → X a ts (mark Mark.Comma p ∷ us)
      → SomeOf A X as' us ws
      → SomeOf A X (a ∷ as') ts ws

pub data ListOf (A : Type 0) (X : A → List Terminal → List Terminal → Type 0) : List A → List Terminal → List Terminal → Type 0 where
  none_of : {us : List Terminal} → ListOf A X [] us us
  some_of : {as' : List A} {ts us : List Terminal} → SomeOf A X as' ts us → ListOf A X as' ts us

-- constants

mutual
  -- constant
  pub data ConstantOf (ok : Leave) : ℕ → Constant → List Terminal → List Terminal → Type 0 where
    -- integer | character
    constant_integer : {k : ℕ} {t : Kind} {n : ℤ} {us : List Terminal} (p : Place)
        → Integer t n
        → MayBegin ok k (token t p ∷ us)
        → ConstantOf ok k (constant_of (Constant-F.Int n)) (token t p ∷ us) us
    -- text
    constant_characters : {k : ℕ} {us : List Terminal} (s : List ℕ) (p : Place)
        → MayBegin ok (text_level k s) (token (Kind.Text s) p ∷ us)
        → ConstantOf ok k (constant_text s) (token (Kind.Text s) p ∷ us) us
    -- atom
    constant_atom : {k : ℕ} {us : List Terminal} (a : List ℕ) (p : Place)
        → MayBegin ok k (token (Kind.Atom a) p ∷ us)
        → ConstantOf ok k (constant_of (Constant-F.Atom a)) (token (Kind.Atom a) p ∷ us) us
    -- [ ]
    constant_empty : {k : ℕ} {us : List Terminal} (p q : Place)
        → MayBegin ok k (mark Mark.OpenSquare p ∷ mark Mark.CloseSquare q ∷ us)
        → ConstantOf ok k constant_nil (mark Mark.OpenSquare p ∷ mark Mark.CloseSquare q ∷ us) us
    -- { list(constant) }
    constant_tuple : {k : ℕ} {cs : List Constant} {ts us : List Terminal} (p q : Place)
        → MayBegin ok k (mark Mark.OpenBrace p ∷ ts)
        → ConstantsOf ok (k + 1) cs ts (mark Mark.CloseBrace q ∷ us)
        → ConstantOf ok k (constant_of (Constant-F.Tuple cs)) (mark Mark.OpenBrace p ∷ ts) us
    -- [ constant , .. ]
    constant_list : {k : ℕ} {cs : List Constant} {ts us : List Terminal} (p q : Place)
        → MayBegin ok k (mark Mark.OpenSquare p ∷ ts)
        → SomeConstants ok (k + 1) cs ts (mark Mark.CloseSquare q ∷ us)
        → ConstantOf ok k (constant_of (Constant-F.List cs constant_nil)) (mark Mark.OpenSquare p ∷ ts) us
    -- [ constant , .. | constant ]
    constant_list_before : {k : ℕ} {cs : List Constant} {c : Constant} {ts us ws : List Terminal} (p q r : Place)
        → MayBegin ok k (mark Mark.OpenSquare p ∷ ts)
        → SomeConstants ok (k + 1) cs ts (mark Mark.Bar q ∷ us)
        → ConstantOf ok k c us (mark Mark.CloseSquare r ∷ ws)
        → ConstantOf ok k (constant_cells cs c) (mark Mark.OpenSquare p ∷ ts) ws

  -- constant, .. , constant
  pub data SomeConstants (ok : Leave) : ℕ → List Constant → List Terminal → List Terminal → Type 0 where
    last_constant : {k : ℕ} {c : Constant} {ts us : List Terminal}
        → ConstantOf ok k c ts us
        → SomeConstants ok k (c ∷ []) ts us
    more_constants : {k : ℕ} {c : Constant} {cs : List Constant} {ts us ws : List Terminal} (p : Place)
        → ConstantOf ok k c ts (mark Mark.Comma p ∷ us)
        → SomeConstants ok k cs us ws
        → SomeConstants ok k (c ∷ cs) ts ws

  -- list(constant)
  pub data ConstantsOf (ok : Leave) : ℕ → List Constant → List Terminal → List Terminal → Type 0 where
    no_constants : {k : ℕ} {us : List Terminal} → ConstantsOf ok k [] us us
    some_constants : {k : ℕ} {cs : List Constant} {ts us : List Terminal}
        → SomeConstants ok k cs ts us
        → ConstantsOf ok k cs ts us

-- annotations

-- what closes an annotation
pub data Annotation (ok : Leave) : List Terminal → List Terminal → Type 0 where
  -- -| [ list(constant) ] )
  annotation : {cs : List Constant} {ts us : List Terminal} (p q r s : Place)
      → ConstantsOf ok 1 cs ts (mark Mark.CloseSquare r ∷ mark Mark.CloseRound s ∷ us)
      → Annotation ok (mark Mark.Dash p ∷ mark Mark.OpenSquare q ∷ ts) us

-- A(x)
pub data Annotated (ok : Leave) (X : List Terminal → List Terminal → Type 0) : List Terminal → List Terminal → Type 0 where
  -- x
  bare : {ts us : List Terminal} → X ts us → Annotated ok X ts us
  -- ( x -| [..] )
  annotated : {ts us ws : List Terminal} (o : Place)
      → X ts us
      → Annotation ok us ws
      → Annotated ok X (mark Mark.OpenRound o ∷ ts) ws

-- names

-- atom
pub data AtomOf (a : List ℕ) : List Terminal → List Terminal → Type 0 where
  atom : {us : List Terminal} (p : Place) → AtomOf a (token (Kind.Atom a) p ∷ us) us

-- variable
pub data VariableOf (x : Var) : List Terminal → List Terminal → Type 0 where
  variable : {us : List Terminal} → VariableOf x (token (Kind.Variable x.name) x.at ∷ us) us

-- A(variable)
abbrev pub AnnotatedVariable : Leave → Var → List Terminal → List Terminal → Type 0
AnnotatedVariable ok x ts us = Annotated ok (VariableOf x) ts us

-- fname, which stands at p
pub data NameOf (f : FunName) (p : Place) : List Terminal → List Terminal → Type 0 where
  -- atom / integer
  function_name : {us : List Terminal} (q r : Place)
      → NameOf f p (token (Kind.Atom f.name) p ∷ mark Mark.Slash q ∷ token (Kind.Natural f.arity) r ∷ us) us

-- exports and attributes

-- A(fname) as an export, with its place
abbrev pub ExportOf : Leave → FunName × Place → List Terminal → List Terminal → Type 0
ExportOf ok e ts us = Annotated ok (NameOf e.0 e.1) ts us

-- attr
pub data AttributeOf (ok : Leave) : List ℕ × Constant → List Terminal → List Terminal → Type 0 where
  -- A(atom) = A(constant)
  attribute : {a : List ℕ} {c : Constant} {ts us ws : List Terminal} (q : Place)
      → Annotated ok (AtomOf a) ts (mark Mark.Equals q ∷ us)
      → Annotated ok (ConstantOf ok 1 c) us ws
      → AttributeOf ok (a, c) ts ws

-- the module or the name of a `call`: A(atom), or a variable where there is leave, whose name is then of no matter
pub data Operand (ok : Leave) : List ℕ → List Terminal → List Terminal → Type 0 where
  atom_operand : {a : List ℕ} {ts us : List Terminal} → AtomOf a ts us → Operand ok a ts us
  operand_variable : {us : List Terminal} (x : List ℕ) (p : Place)
      → ok variable_operand (token (Kind.Variable x) p ∷ us) ≡ true
      → Operand ok [] (token (Kind.Variable x) p ∷ us) us

-- modules

abbrev pub module_at : List ℕ → List (FunName × Place) → List (List ℕ × Constant) → List FunDef → Module
module_at a exports attributes defs = record { name = a; exports = exports; attributes = attributes; defs = defs }

mutual
  -- module
  pub data BareModule (ok : Leave) : Module → List Terminal → List Terminal → Type 0 where
    -- module atom [ list(A(fname)) ] attributes [ list(attr) ] def* end
    «module» : {exports : List (FunName × Place)} {attributes : List (List ℕ × Constant)} {ds : List FunDef} {ts us vs ws : List Terminal} (a : List ℕ) (p q r s t u v w : Place)
        → ListOf (FunName × Place) (ExportOf ok) exports ts (mark Mark.CloseSquare s ∷ mark Mark.Attributes t ∷ mark Mark.OpenSquare u ∷ us)
        → ListOf (List ℕ × Constant) (AttributeOf ok) attributes us (mark Mark.CloseSquare v ∷ vs)
        → DefinitionsOf ok 1 ds vs (mark Mark.End w ∷ ws)
        → BareModule ok (module_at a exports attributes ds) (mark Mark.Module p ∷ token (Kind.Atom a) q ∷ mark Mark.OpenSquare r ∷ ts) ws

  -- def, none or more
  pub data DefinitionsOf (ok : Leave) : ℕ → List FunDef → List Terminal → List Terminal → Type 0 where
    no_definitions : {k : ℕ} {us : List Terminal} → DefinitionsOf ok k [] us us
    more_definitions : {k : ℕ} {d : FunDef} {ds : List FunDef} {ts us ws : List Terminal}
        → DefinitionOf ok k d ts us
        → DefinitionsOf ok k ds us ws
        → DefinitionsOf ok k (d ∷ ds) ts ws

  -- def
  pub data DefinitionOf (ok : Leave) : ℕ → FunDef → List Terminal → List Terminal → Type 0 where
    -- A(fname) = A(fun)
    definition : {k : ℕ} {f : FunName} {p : Place} {g : Fun} {ts us ws : List Terminal} (q : Place)
        → Annotated ok (NameOf f p) ts (mark Mark.Equals q ∷ us)
        → FunOf ok k g us ws
        → DefinitionOf ok k (definition_at p f g) ts ws

  -- A(fun)
  pub data FunOf (ok : Leave) : ℕ → Fun → List Terminal → List Terminal → Type 0 where
    -- fun
    fun_bare : {k : ℕ} {p : Place} {f : Fun} {ts us : List Terminal}
        → BareFun ok k p f ts us
        → FunOf ok k f ts us
    -- ( fun -| [..] )
    fun_annotated : {k : ℕ} {p : Place} {f : Fun} {ts us ws : List Terminal} (o : Place)
        → BareFun ok k p f ts us
        → Annotation ok us ws
        → FunOf ok k f (mark Mark.OpenRound o ∷ ts) ws

  -- fun, which stands at p
  pub data BareFun (ok : Leave) : ℕ → Place → Fun → List Terminal → List Terminal → Type 0 where
    -- fun ( list(A(variable)) ) -> E
    «fun» : {k : ℕ} {xs : List Var} {e : Expr} {ts us ws : List Terminal} (p q r s : Place)
        → MayBegin ok k (mark Mark.Fun p ∷ mark Mark.OpenRound q ∷ ts)
        → ListOf Var (AnnotatedVariable ok) xs ts (mark Mark.CloseRound r ∷ mark Mark.Arrow s ∷ us)
        → ExpressionOf ok (k + 1) e us ws
        → BareFun ok k p (fun_at p xs e) (mark Mark.Fun p ∷ mark Mark.OpenRound q ∷ ts) ws

  -- E
  pub data ExpressionOf (ok : Leave) : ℕ → Expr → List Terminal → List Terminal → Type 0 where
    -- expr
    expression_bare : {k : ℕ} {e : Expr} {ts us : List Terminal}
        → BareExpression ok k e ts us
        → ExpressionOf ok k e ts us
    -- ( expr -| [..] )
    expression_annotated : {k : ℕ} {e : Expr} {ts us ws : List Terminal} (o : Place)
        → BareExpression ok k e ts us
        → Annotation ok us ws
        → ExpressionOf ok k e (mark Mark.OpenRound o ∷ ts) ws

  -- expr
  pub data BareExpression (ok : Leave) : ℕ → Expr → List Terminal → List Terminal → Type 0 where
    -- integer | character
    integer : {k : ℕ} {t : Kind} {n : ℤ} {us : List Terminal} (p : Place)
        → Integer t n
        → MayBegin ok k (token t p ∷ us)
        → BareExpression ok k (expression_at p (Node-F.Int n)) (token t p ∷ us) us
    -- text
    characters : {k : ℕ} {us : List Terminal} (s : List ℕ) (p : Place)
        → MayBegin ok (text_level k s) (token (Kind.Text s) p ∷ us)
        → BareExpression ok k (text_at p s) (token (Kind.Text s) p ∷ us) us
    -- atom
    literal : {k : ℕ} {us : List Terminal} (a : List ℕ) (p : Place)
        → MayBegin ok k (token (Kind.Atom a) p ∷ us)
        → BareExpression ok k (expression_at p (Node-F.Atom a)) (token (Kind.Atom a) p ∷ us) us
    -- variable
    variable_name : {k : ℕ} {us : List Terminal} (x : List ℕ) (p : Place)
        → MayBegin ok k (token (Kind.Variable x) p ∷ us)
        → BareExpression ok k (expression_at p (Node-F.Var x)) (token (Kind.Variable x) p ∷ us) us
    -- fname
    function : {k : ℕ} {f : FunName} {p : Place} {ts us : List Terminal}
        → MayBegin ok k ts
        → NameOf f p ts us
        → BareExpression ok k (expression_at p (Node-F.Name f)) ts us
    -- [ ]
    empty : {k : ℕ} {us : List Terminal} (p q : Place)
        → MayBegin ok k (mark Mark.OpenSquare p ∷ mark Mark.CloseSquare q ∷ us)
        → BareExpression ok k (nil_at p) (mark Mark.OpenSquare p ∷ mark Mark.CloseSquare q ∷ us) us
    -- { list(E) }
    tuple : {k : ℕ} {es : List Expr} {ts us : List Terminal} (p q : Place)
        → MayBegin ok k (mark Mark.OpenBrace p ∷ ts)
        → ExpressionsOf ok (k + 1) es ts (mark Mark.CloseBrace q ∷ us)
        → BareExpression ok k (expression_at p (Node-F.Tuple es)) (mark Mark.OpenBrace p ∷ ts) us
    -- [ E , .. , E ]
    list : {k : ℕ} {es : List Expr} {ts us : List Terminal} (p q : Place)
        → MayBegin ok k (mark Mark.OpenSquare p ∷ ts)
        → SomeExpressions ok (k + 1) es ts (mark Mark.CloseSquare q ∷ us)
        → BareExpression ok k (expression_at p (Node-F.List es (nil_at p))) (mark Mark.OpenSquare p ∷ ts) us
    -- [ E , .. , E | E ]
    list_before : {k : ℕ} {es : List Expr} {e : Expr} {ts us ws : List Terminal} (p q r : Place)
        → MayBegin ok k (mark Mark.OpenSquare p ∷ ts)
        → SomeExpressions ok (k + 1) es ts (mark Mark.Bar q ∷ us)
        → ExpressionOf ok k e us (mark Mark.CloseSquare r ∷ ws)
        → BareExpression ok k (cells p es e) (mark Mark.OpenSquare p ∷ ts) ws
    -- < list(E) >
    values : {k : ℕ} {es : List Expr} {ts us : List Terminal} (p q : Place)
        → MayBegin ok k (mark Mark.Less p ∷ ts)
        → ExpressionsOf ok (k + 1) es ts (mark Mark.Greater q ∷ us)
        → BareExpression ok k (expression_at p (Node-F.Values es)) (mark Mark.Less p ∷ ts) us
    -- let Vars = E in E
    «let» : {k : ℕ} {xs : List Var} {e f : Expr} {ts us vs ws : List Terminal} (p q r : Place)
        → MayBegin ok k (mark Mark.Let p ∷ ts)
        → VariablesOf ok xs ts (mark Mark.Equals q ∷ us)
        → ExpressionOf ok (k + 1) e us (mark Mark.In r ∷ vs)
        → ExpressionOf ok (k + 1) f vs ws
        → BareExpression ok k (expression_at p (Node-F.Let xs e f)) (mark Mark.Let p ∷ ts) ws
    -- case E of A(clause)+ end
    case : {k : ℕ} {e : Expr} {cs : List Clause} {ts us ws : List Terminal} (p q r : Place)
        → MayBegin ok k (mark Mark.Case p ∷ ts)
        → ExpressionOf ok (k + 1) e ts (mark Mark.Of q ∷ us)
        → ClausesOf ok (k + 1) cs us (mark Mark.End r ∷ ws)
        → BareExpression ok k (expression_at p (Node-F.Case e cs)) (mark Mark.Case p ∷ ts) ws
    -- fun
    lambda : {k : ℕ} {f : Fun} {p : Place} {ts us : List Terminal}
        → BareFun ok k p f ts us
        → BareExpression ok k (expression_at p (Node-F.Lambda f)) ts us
    -- letrec def* in E
    letrec : {k : ℕ} {ds : List FunDef} {e : Expr} {ts us ws : List Terminal} (p q : Place)
        → MayBegin ok k (mark Mark.Letrec p ∷ ts)
        → DefinitionsOf ok (k + 1) ds ts (mark Mark.In q ∷ us)
        → ExpressionOf ok (k + 1) e us ws
        → BareExpression ok k (expression_at p (Node-F.Letrec ds e)) (mark Mark.Letrec p ∷ ts) ws
    -- apply E ( list(E) )
    apply : {k : ℕ} {e : Expr} {es : List Expr} {ts us ws : List Terminal} (p q r : Place)
        → MayBegin ok k (mark Mark.Apply p ∷ ts)
        → ExpressionOf ok (k + 1) e ts (mark Mark.OpenRound q ∷ us)
        → ExpressionsOf ok (k + 1) es us (mark Mark.CloseRound r ∷ ws)
        → BareExpression ok k (expression_at p (Node-F.Apply e es)) (mark Mark.Apply p ∷ ts) ws
    -- call A(atom) : A(atom) ( list(E) )
    call : {k : ℕ} {m f : List ℕ} {es : List Expr} {ts us vs ws : List Terminal} (p q r s : Place)
        → MayBegin ok k (mark Mark.Call p ∷ ts)
        → Annotated ok (Operand ok m) ts (mark Mark.Colon q ∷ us)
        → Annotated ok (Operand ok f) us (mark Mark.OpenRound r ∷ vs)
        → ExpressionsOf ok (k + 1) es vs (mark Mark.CloseRound s ∷ ws)
        → BareExpression ok k (expression_at p (Node-F.Call m f es)) (mark Mark.Call p ∷ ts) ws
    -- primop A(atom) ( list(E) )
    primop : {k : ℕ} {f : List ℕ} {es : List Expr} {ts us ws : List Terminal} (p q r : Place)
        → MayBegin ok k (mark Mark.Primop p ∷ ts)
        → Annotated ok (AtomOf f) ts (mark Mark.OpenRound q ∷ us)
        → ExpressionsOf ok (k + 1) es us (mark Mark.CloseRound r ∷ ws)
        → BareExpression ok k (expression_at p (Node-F.Primop f es)) (mark Mark.Primop p ∷ ts) ws
    -- try E of Vars -> E catch Vars -> E
    try : {k : ℕ} {e f g : Expr} {xs ys : List Var} {t1 t2 t3 t4 t5 t6 : List Terminal} (p q r s t : Place)
        → MayBegin ok k (mark Mark.Try p ∷ t1)
        → ExpressionOf ok (k + 1) e t1 (mark Mark.Of q ∷ t2)
        → VariablesOf ok xs t2 (mark Mark.Arrow r ∷ t3)
        → ExpressionOf ok (k + 1) f t3 (mark Mark.Catch s ∷ t4)
        → VariablesOf ok ys t4 (mark Mark.Arrow t ∷ t5)
        → ExpressionOf ok (k + 1) g t5 t6
        → BareExpression ok k (expression_at p (Node-F.Try e xs f ys g)) (mark Mark.Try p ∷ t1) t6
    -- do E E
    do_both : {k : ℕ} {e f : Expr} {ts us ws : List Terminal} (p : Place)
        → MayBegin ok k (mark Mark.Do p ∷ ts)
        → ExpressionOf ok (k + 1) e ts us
        → ExpressionOf ok (k + 1) f us ws
        → BareExpression ok k (expression_at p (Node-F.Do e f)) (mark Mark.Do p ∷ ts) ws
    -- catch E
    catch : {k : ℕ} {e : Expr} {ts us : List Terminal} (p : Place)
        → MayBegin ok k (mark Mark.Catch p ∷ ts)
        → ExpressionOf ok (k + 1) e ts us
        → BareExpression ok k (expression_at p (Node-F.Catch e)) (mark Mark.Catch p ∷ ts) us

  -- E, .. , E
  pub data SomeExpressions (ok : Leave) : ℕ → List Expr → List Terminal → List Terminal → Type 0 where
    last_expression : {k : ℕ} {e : Expr} {ts us : List Terminal}
        → ExpressionOf ok k e ts us
        → SomeExpressions ok k (e ∷ []) ts us
    more_expressions : {k : ℕ} {e : Expr} {es : List Expr} {ts us ws : List Terminal} (p : Place)
        → ExpressionOf ok k e ts (mark Mark.Comma p ∷ us)
        → SomeExpressions ok k es us ws
        → SomeExpressions ok k (e ∷ es) ts ws

  -- list(E)
  pub data ExpressionsOf (ok : Leave) : ℕ → List Expr → List Terminal → List Terminal → Type 0 where
    no_expressions : {k : ℕ} {us : List Terminal} → ExpressionsOf ok k [] us us
    some_expressions : {k : ℕ} {es : List Expr} {ts us : List Terminal}
        → SomeExpressions ok k es ts us
        → ExpressionsOf ok k es ts us

  -- Vars
  pub data VariablesOf (ok : Leave) : List Var → List Terminal → List Terminal → Type 0 where
    -- A(variable)
    one_variable : {x : Var} {ts us : List Terminal}
        → AnnotatedVariable ok x ts us
        → VariablesOf ok (x ∷ []) ts us
    -- < list(A(variable)) >
    value_variables : {xs : List Var} {ts us : List Terminal} (p q : Place)
        → ListOf Var (AnnotatedVariable ok) xs ts (mark Mark.Greater q ∷ us)
        → VariablesOf ok xs (mark Mark.Less p ∷ ts) us

  -- A(clause), one or more
  pub data ClausesOf (ok : Leave) : ℕ → List Clause → List Terminal → List Terminal → Type 0 where
    last_clause : {k : ℕ} {c : Clause} {ts us : List Terminal}
        → ClauseOf ok k c ts us
        → ClausesOf ok k (c ∷ []) ts us
    more_clauses : {k : ℕ} {c : Clause} {cs : List Clause} {ts us ws : List Terminal}
        → ClauseOf ok k c ts us
        → ClausesOf ok k cs us ws
        → ClausesOf ok k (c ∷ cs) ts ws

  -- A(clause)
  pub data ClauseOf (ok : Leave) : ℕ → Clause → List Terminal → List Terminal → Type 0 where
    -- clause
    clause_bare : {k : ℕ} {c : Clause} {ts us : List Terminal}
        → BareClause ok k c ts us
        → ClauseOf ok k c ts us
    -- ( clause -| [..] )
    clause_annotated : {k : ℕ} {c : Clause} {ts us ws : List Terminal} (o : Place)
        → BareClause ok k c ts us
        → Annotation ok us ws
        → ClauseOf ok k c (mark Mark.OpenRound o ∷ ts) ws

  -- clause
  pub data BareClause (ok : Leave) : ℕ → Clause → List Terminal → List Terminal → Type 0 where
    -- Pats when E -> E
    clause : {k : ℕ} {p : Place} {fs : List Pattern} {g e : Expr} {ts us vs ws : List Terminal} (q r : Place)
        → ClausePatterns ok k p fs ts (mark Mark.When q ∷ us)
        → ExpressionOf ok (k + 1) g us (mark Mark.Arrow r ∷ vs)
        → ExpressionOf ok (k + 1) e vs ws
        → BareClause ok k (clause_at p fs g e) ts ws

  -- Pats: the patterns of a clause of level k that begins at p. One pattern begins with the same terminal as its clause, and
  -- asks for both.
  pub data ClausePatterns (ok : Leave) : ℕ → Place → List Pattern → List Terminal → List Terminal → Type 0 where
    -- P
    one_pattern : {k : ℕ} {f : Pattern} {ts us : List Terminal}
        → PatternOf ok (k + 1) f ts us
        → ClausePatterns ok k f.at (f ∷ []) ts us
    -- < list(P) >
    value_patterns : {k : ℕ} {fs : List Pattern} {ts us : List Terminal} (p q : Place)
        → MayBegin ok k (mark Mark.Less p ∷ ts)
        → PatternsOf ok (k + 1) fs ts (mark Mark.Greater q ∷ us)
        → ClausePatterns ok k p fs (mark Mark.Less p ∷ ts) us

  -- P
  pub data PatternOf (ok : Leave) : ℕ → Pattern → List Terminal → List Terminal → Type 0 where
    -- pat
    pattern_bare : {k : ℕ} {f : Pattern} {ts us : List Terminal}
        → BarePattern ok k f ts us
        → PatternOf ok k f ts us
    -- ( pat -| [..] )
    pattern_annotated : {k : ℕ} {f : Pattern} {ts us ws : List Terminal} (o : Place)
        → BarePattern ok k f ts us
        → Annotation ok us ws
        → PatternOf ok k f (mark Mark.OpenRound o ∷ ts) ws
    -- A(variable) = P
    pattern_aliased : {k : ℕ} {x : Var} {f : Pattern} {ts us ws : List Terminal} (q : Place)
        → MayBegin ok k (inner ts)
        → AnnotatedVariable ok x ts (mark Mark.Equals q ∷ us)
        → PatternOf ok (k + 1) f us ws
        → PatternOf ok k (pattern_at x.at (PatNode-F.Alias x f)) ts ws

  -- pat
  pub data BarePattern (ok : Leave) : ℕ → Pattern → List Terminal → List Terminal → Type 0 where
    -- variable
    pattern_variable : {k : ℕ} {us : List Terminal} (x : List ℕ) (p : Place)
        → MayBegin ok k (token (Kind.Variable x) p ∷ us)
        → BarePattern ok k (pattern_at p (PatNode-F.Var x)) (token (Kind.Variable x) p ∷ us) us
    -- integer | character
    pattern_integer : {k : ℕ} {t : Kind} {n : ℤ} {us : List Terminal} (p : Place)
        → Integer t n
        → MayBegin ok k (token t p ∷ us)
        → BarePattern ok k (pattern_at p (PatNode-F.Int n)) (token t p ∷ us) us
    -- text
    pattern_characters : {k : ℕ} {us : List Terminal} (s : List ℕ) (p : Place)
        → MayBegin ok (text_level k s) (token (Kind.Text s) p ∷ us)
        → BarePattern ok k (pattern_text p s) (token (Kind.Text s) p ∷ us) us
    -- atom
    pattern_atom : {k : ℕ} {us : List Terminal} (a : List ℕ) (p : Place)
        → MayBegin ok k (token (Kind.Atom a) p ∷ us)
        → BarePattern ok k (pattern_at p (PatNode-F.Atom a)) (token (Kind.Atom a) p ∷ us) us
    -- [ ]
    pattern_empty : {k : ℕ} {us : List Terminal} (p q : Place)
        → MayBegin ok k (mark Mark.OpenSquare p ∷ mark Mark.CloseSquare q ∷ us)
        → BarePattern ok k (pattern_nil p) (mark Mark.OpenSquare p ∷ mark Mark.CloseSquare q ∷ us) us
    -- { list(P) }
    pattern_tuple : {k : ℕ} {fs : List Pattern} {ts us : List Terminal} (p q : Place)
        → MayBegin ok k (mark Mark.OpenBrace p ∷ ts)
        → PatternsOf ok (k + 1) fs ts (mark Mark.CloseBrace q ∷ us)
        → BarePattern ok k (pattern_at p (PatNode-F.Tuple fs)) (mark Mark.OpenBrace p ∷ ts) us
    -- [ P , .. , P ]
    pattern_list : {k : ℕ} {fs : List Pattern} {ts us : List Terminal} (p q : Place)
        → MayBegin ok k (mark Mark.OpenSquare p ∷ ts)
        → SomePatterns ok (k + 1) fs ts (mark Mark.CloseSquare q ∷ us)
        → BarePattern ok k (pattern_at p (PatNode-F.List fs (pattern_nil p))) (mark Mark.OpenSquare p ∷ ts) us
    -- [ P , .. , P | P ]
    pattern_list_before : {k : ℕ} {fs : List Pattern} {f : Pattern} {ts us ws : List Terminal} (p q r : Place)
        → MayBegin ok k (mark Mark.OpenSquare p ∷ ts)
        → SomePatterns ok (k + 1) fs ts (mark Mark.Bar q ∷ us)
        → PatternOf ok k f us (mark Mark.CloseSquare r ∷ ws)
        → BarePattern ok k (pattern_cells p fs f) (mark Mark.OpenSquare p ∷ ts) ws
    -- A(variable) = P
    pattern_alias : {k : ℕ} {x : Var} {f : Pattern} {ts us ws : List Terminal} (q : Place)
        → MayBegin ok k (inner ts)
        → AnnotatedVariable ok x ts (mark Mark.Equals q ∷ us)
        → PatternOf ok (k + 1) f us ws
        → BarePattern ok k (pattern_at x.at (PatNode-F.Alias x f)) ts ws

  -- P, .. , P
  pub data SomePatterns (ok : Leave) : ℕ → List Pattern → List Terminal → List Terminal → Type 0 where
    last_pattern : {k : ℕ} {f : Pattern} {ts us : List Terminal}
        → PatternOf ok k f ts us
        → SomePatterns ok k (f ∷ []) ts us
    more_patterns : {k : ℕ} {f : Pattern} {fs : List Pattern} {ts us ws : List Terminal} (p : Place)
        → PatternOf ok k f ts (mark Mark.Comma p ∷ us)
        → SomePatterns ok k fs us ws
        → SomePatterns ok k (f ∷ fs) ts ws

  -- list(P)
  pub data PatternsOf (ok : Leave) : ℕ → List Pattern → List Terminal → List Terminal → Type 0 where
    no_patterns : {k : ℕ} {us : List Terminal} → PatternsOf ok k [] us us
    some_patterns : {k : ℕ} {fs : List Pattern} {ts us : List Terminal}
        → SomePatterns ok k fs ts us
        → PatternsOf ok k fs ts us

-- A(module)
abbrev pub ModuleOf : Leave → Module → List Terminal → List Terminal → Type 0
ModuleOf ok m ts us = Annotated ok (BareModule ok m) ts us

-- calls from outside

-- the arguments from this number on
pub data SomeArguments (ok : Leave) : ℕ → List Constant → List Terminal → List Terminal → Type 0 where
  last_argument : {i : ℕ} {c : Constant} {ts us : List Terminal}
      → ok (argument i) ts ≡ true
      → ConstantOf ok 1 c ts us
      → SomeArguments ok i (c ∷ []) ts us
  more_arguments : {i : ℕ} {c : Constant} {cs : List Constant} {ts us ws : List Terminal} (p : Place)
      → ok (argument i) ts ≡ true
      → ConstantOf ok 1 c ts (mark Mark.Comma p ∷ us)
      → SomeArguments ok (i + 1) cs us ws
      → SomeArguments ok i (c ∷ cs) ts ws

pub data ArgumentsOf (ok : Leave) : List Constant → List Terminal → List Terminal → Type 0 where
  no_arguments : {us : List Terminal} → ArgumentsOf ok [] us us
  some_arguments : {cs : List Constant} {ts us : List Terminal}
      → SomeArguments ok 1 cs ts us
      → ArgumentsOf ok cs ts us

-- atom ( list(constant) )
pub data CallOf (ok : Leave) : Call → List Terminal → List Terminal → Type 0 where
  -- atom ( list(constant) )
  call_of : {cs : List Constant} {ts us : List Terminal} (a : List ℕ) (p q r : Place)
      → ArgumentsOf ok cs ts (mark Mark.CloseRound r ∷ us)
      → CallOf ok (record { name = a; args = cs }) (token (Kind.Atom a) p ∷ mark Mark.OpenRound q ∷ ts) us
