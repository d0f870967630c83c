-- Modules as plain trees: what the trees of this crate show. All definitions of the language are about these, by recursion on
-- their structure. Each part has its place.
use Rattle.std.specs.Prelude.{ℕ, ℤ, List, [], ◌∷◌, map}
use Rattle.hipe_terms.specs.declared.place.Place.{Place}
use Rattle.core_ast.specs.declared.pattern.Var.{Var}
use Rattle.core_ast.specs.declared.pattern.Pattern as RustPattern
use Rattle.core_ast.specs.declared.pattern.PatNode.TheOpen.{PatNode-F, Pattern-F}
use Rattle.core_ast.specs.declared.pattern.PatNode.TheFolds.{fold-Pattern}
use Rattle.core_ast.specs.declared.tree.Clause as RustClause
use Rattle.core_ast.specs.declared.tree.Expr.{Expr}
use Rattle.core_ast.specs.declared.tree.Fun.{Fun}
use Rattle.core_ast.specs.declared.tree.FunDef.{FunDef}
use Rattle.core_ast.specs.declared.tree.FunName.{FunName}
use Rattle.core_ast.specs.declared.tree.Module as RustModule
use Rattle.hipe_terms.specs.declared.constant.Constant.{Constant}
use Rattle.core_ast.specs.declared.tree.Node.TheOpen.{Node-F, Clause-F, Expr-F, Fun-F, FunDef-F}
use Rattle.core_ast.specs.declared.tree.Node.TheFolds.{fold-Clause, fold-Expr, fold-Fun, fold-FunDef}

mutual
  -- a pattern; the patterns of a list's first elements stand before that of its tail
  pub data Pattern : Type 0 where
    Variable : Place → List ℕ → Pattern
    Int : Place → ℤ → Pattern
    Atom : Place → List ℕ → Pattern
    Nil : Place → Pattern
    Tuple : Place → Patterns → Pattern
    Cons : Place → Patterns → Pattern → Pattern
    Alias : Place → Var → Pattern → Pattern

  pub data Patterns : Type 0 where
    no_pattern : Patterns
    and_pattern : Pattern → Patterns → Patterns

mutual
  -- An expression. The first elements of a list stand before its tail, and a text is a list of integers. `Lambda` is a fun,
  -- with the place of its `fun`.
  pub data Expression : Type 0 where
    Int : Place → ℤ → Expression
    Atom : Place → List ℕ → Expression
    Nil : Place → Expression
    Variable : Place → List ℕ → Expression
    Name : Place → FunName → Expression
    Tuple : Place → Expressions → Expression
    Cons : Place → Expressions → Expression → Expression
    Values : Place → Expressions → Expression
    Let : Place → (variables : List Var) (values body : Expression) → Expression
    Case : Place → (values : Expression) → Clauses → Expression
    Lambda : Place → Place → (parameters : List Var) (body : Expression) → Expression
    Letrec : Place → Definitions → (body : Expression) → Expression
    Apply : Place → (fun : Expression) (arguments : Expressions) → Expression
    Call : Place → (of name : List ℕ) (arguments : Expressions) → Expression
    Primop : Place → (name : List ℕ) (arguments : Expressions) → Expression
    Try : Place → (part : Expression) (values : List Var) (body : Expression) (causes : List Var) (handler : Expression) → Expression
    Do : Place → (first second : Expression) → Expression
    Catch : Place → (part : Expression) → Expression

  pub data Expressions : Type 0 where
    no_expression : Expressions
    and_expression : Expression → Expressions → Expressions

  pub data Clauses : Type 0 where
    no_clause : Clauses
    and_clause : Place → Patterns → (guard body : Expression) → Clauses → Clauses

  -- functions with their names, of a module or of a `letrec`: the place of the name, the name, and the place of `fun`
  pub data Definitions : Type 0 where
    no_definition : Definitions
    and_definition : Place → FunName → Place → (parameters : List Var) (body : Expression) → Definitions → Definitions

-- a clause by itself
pub record Clause : Type 0 where
  pub patterns : Patterns
  pub guard : Expression
  pub body : Expression
  pub at : Place

-- a fun by itself
pub record Function : Type 0 where
  pub parameters : List Var
  pub body : Expression
  pub at : Place

-- a function with its name, by itself
pub record Definition : Type 0 where
  pub name : FunName
  pub function : Function
  pub at : Place

-- a module
pub record Module : Type 0 where
  pub name : List ℕ
  pub exports : List (FunName × Place)
  pub attributes : List (List ℕ × Constant)
  pub definitions : Definitions

abbrev pub patterns : List Pattern → Patterns
patterns [] = no_pattern
patterns (p ∷ ps) = and_pattern p (patterns ps)

abbrev pub expressions : List Expression → Expressions
expressions [] = no_expression
expressions (e ∷ es) = and_expression e (expressions es)

abbrev pub clauses : List Clause → Clauses
clauses [] = no_clause
clauses (c ∷ cs) = and_clause c.at c.patterns c.guard c.body (clauses cs)

abbrev pub definitions : List Definition → Definitions
definitions [] = no_definition
definitions (d ∷ ds) = and_definition d.at d.name d.function.at d.function.parameters d.function.body (definitions ds)

-- the plain trees that the trees of this crate show --------------------------------------------------------------------------------

abbrev pub pattern_node_at : PatNode-F (Place → Pattern) Pattern → Place → Pattern
pattern_node_at (PatNode-F.Var x) p = Pattern.Variable p x
pattern_node_at (PatNode-F.Int n) p = Pattern.Int p n
pattern_node_at (PatNode-F.Atom a) p = Pattern.Atom p a
pattern_node_at PatNode-F.Nil p = Pattern.Nil p
pattern_node_at (PatNode-F.Tuple parts) p = Pattern.Tuple p (patterns parts)
pattern_node_at (PatNode-F.List parts tail) p = Pattern.Cons p (patterns parts) tail
pattern_node_at (PatNode-F.Alias x part) p = Pattern.Alias p x part

abbrev pub pattern_at : Pattern-F (Place → Pattern) Pattern → Pattern
pattern_at q = q.node q.at

unfoldable pub pattern_of : RustPattern.Pattern → Pattern
pattern_of = fold-Pattern (Place → Pattern) Pattern pattern_node_at pattern_at

abbrev pub node_at : Node-F (Place → Expression) Clause Expression Function Definition → Place → Expression
node_at (Node-F.Int n) p = Expression.Int p n
node_at (Node-F.Atom a) p = Expression.Atom p a
node_at Node-F.Nil p = Expression.Nil p
node_at (Node-F.Var x) p = Expression.Variable p x
node_at (Node-F.Name f) p = Expression.Name p f
node_at (Node-F.Tuple parts) p = Expression.Tuple p (expressions parts)
node_at (Node-F.List parts tail) p = Expression.Cons p (expressions parts) tail
node_at (Node-F.Values parts) p = Expression.Values p (expressions parts)
node_at (Node-F.Let xs values body) p = Expression.Let p xs values body
node_at (Node-F.Case values cs) p = Expression.Case p values (clauses cs)
node_at (Node-F.Lambda f) p = Expression.Lambda p f.at f.parameters f.body
node_at (Node-F.Letrec ds body) p = Expression.Letrec p (definitions ds) body
node_at (Node-F.Apply f args) p = Expression.Apply p f (expressions args)
node_at (Node-F.Call m f args) p = Expression.Call p m f (expressions args)
node_at (Node-F.Primop f args) p = Expression.Primop p f (expressions args)
node_at (Node-F.Try part xs body ys handler) p = Expression.Try p part xs body ys handler
node_at (Node-F.Do first second) p = Expression.Do p first second
node_at (Node-F.Catch part) p = Expression.Catch p part

abbrev pub clause_at : Clause-F (Place → Expression) Clause Expression Function Definition → Clause
clause_at c = record { patterns = patterns (map pattern_of c.patterns); guard = c.guard; body = c.body; at = c.at }

abbrev pub expression_at : Expr-F (Place → Expression) Clause Expression Function Definition → Expression
expression_at e = e.node e.at

abbrev pub fun_at : Fun-F (Place → Expression) Clause Expression Function Definition → Function
fun_at f = record { parameters = f.params; body = f.body; at = f.at }

abbrev pub definition_at : FunDef-F (Place → Expression) Clause Expression Function Definition → Definition
definition_at d = record { name = d.name; function = d.fun; at = d.at }

unfoldable pub expression_of : Expr → Expression
expression_of = fold-Expr (Place → Expression) Clause Expression Function Definition node_at clause_at expression_at fun_at definition_at

unfoldable pub clause_of : RustClause.Clause → Clause
clause_of = fold-Clause (Place → Expression) Clause Expression Function Definition node_at clause_at expression_at fun_at definition_at

unfoldable pub function_of : Fun → Function
function_of = fold-Fun (Place → Expression) Clause Expression Function Definition node_at clause_at expression_at fun_at definition_at

unfoldable pub definition_of : FunDef → Definition
definition_of = fold-FunDef (Place → Expression) Clause Expression Function Definition node_at clause_at expression_at fun_at definition_at

abbrev pub module_of : RustModule.Module → Module
module_of m = record { name = m.name; exports = m.exports; attributes = m.attributes; definitions = definitions (map definition_of m.defs) }
