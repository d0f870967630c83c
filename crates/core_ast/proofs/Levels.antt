-- The plain tree that a tree shows, by what the tree is made of.
use Rattle.std.proofs.Common.{◌≡◌, map, refl, ap, ◌∙◌}
use Rattle.hipe_terms.specs.declared.place.Place.{Place}
use Rattle.core_ast.specs.declared.pattern.Pattern as RustPattern
use Rattle.core_ast.specs.declared.pattern.PatNode.{PatNode, out-PatNode}
use Rattle.core_ast.specs.declared.pattern.PatNode.TheOpen.{PatNode-F}
use Rattle.core_ast.specs.declared.pattern.PatNode.TheFolds.{fold_out-PatNode, fold_out-Pattern, fold-PatNode, map-PatNode}
use Rattle.core_ast.specs.declared.pattern.PatNode.TheViews as PatNodeViews
use Rattle.core_ast.specs.declared.tree.Clause as RustClause
use Rattle.core_ast.specs.declared.tree.Expr.{Expr}
use Rattle.core_ast.specs.declared.tree.Fun.{Fun, out-Fun}
use Rattle.core_ast.specs.declared.tree.FunDef.{FunDef, out-FunDef}
use Rattle.core_ast.specs.declared.tree.Node.{Node, out-Node}
use Rattle.core_ast.specs.declared.tree.Node.TheOpen.{Node-F}
use Rattle.core_ast.specs.declared.tree.Node.TheFolds.{fold_out-Node, fold_out-Clause, fold_out-Expr, fold_out-Fun, fold_out-FunDef, fold-Node, map-Node}
use Rattle.core_ast.specs.declared.tree.Node.TheViews.{the_lemmas}
use Rattle.core_ast.specs.Places.{place_of}
use Rattle.core_ast.specs.Trees.{Pattern, patterns, Expression, expressions, Clause, clauses, Function, Definition, definitions, pattern_node_at, pattern_at, pattern_of, node_at, clause_at, expression_at, fun_at, definition_at, expression_of, clause_of, function_of, definition_of}

abbrev pub level_pattern : PatNode-F PatNode RustPattern.Pattern → Place → Pattern
level_pattern (PatNode-F.Var x) p = Pattern.Variable p x
level_pattern (PatNode-F.Int n) p = Pattern.Int p n
level_pattern (PatNode-F.Atom a) p = Pattern.Atom p a
level_pattern PatNode-F.Nil p = Pattern.Nil p
level_pattern (PatNode-F.Tuple parts) p = Pattern.Tuple p (patterns (map pattern_of parts))
level_pattern (PatNode-F.List parts tail) p = Pattern.Cons p (patterns (map pattern_of parts)) (pattern_of tail)
level_pattern (PatNode-F.Alias x part) p = Pattern.Alias p x (pattern_of part)

pattern_level : (l : PatNode-F PatNode RustPattern.Pattern) (p : Place) → pattern_node_at (map-PatNode PatNode RustPattern.Pattern (Place → Pattern) Pattern (fold-PatNode (Place → Pattern) Pattern pattern_node_at pattern_at) pattern_of l) p ≡ level_pattern l p
unfolding pattern_of
pattern_level (PatNode-F.Var x) p = refl
pattern_level (PatNode-F.Int n) p = refl
pattern_level (PatNode-F.Atom a) p = refl
pattern_level PatNode-F.Nil p = refl
pattern_level (PatNode-F.Tuple parts) p = refl
pattern_level (PatNode-F.List parts tail) p = refl
pattern_level (PatNode-F.Alias x part) p = refl

pub pattern_is : (q : RustPattern.Pattern) → pattern_of q ≡ level_pattern (out-PatNode q.node) q.at
unfolding pattern_of
pattern_is q = fold_out-Pattern (Place → Pattern) Pattern pattern_node_at pattern_at q ∙ ap (λ f. f q.at) (fold_out-PatNode (Place → Pattern) Pattern pattern_node_at pattern_at q.node) ∙ pattern_level (out-PatNode q.node) q.at

abbrev pub Level : Type 0
Level = Node-F Node RustClause.Clause Expr Fun FunDef

abbrev pub level : Level → Place → Expression
level (Node-F.Int n) p = Expression.Int p n
level (Node-F.Atom a) p = Expression.Atom p a
level Node-F.Nil p = Expression.Nil p
level (Node-F.Var x) p = Expression.Variable p x
level (Node-F.Name f) p = Expression.Name p f
level (Node-F.Tuple parts) p = Expression.Tuple p (expressions (map expression_of parts))
level (Node-F.List parts tail) p = Expression.Cons p (expressions (map expression_of parts)) (expression_of tail)
level (Node-F.Values parts) p = Expression.Values p (expressions (map expression_of parts))
level (Node-F.Let xs values body) p = Expression.Let p xs (expression_of values) (expression_of body)
level (Node-F.Case values cs) p = Expression.Case p (expression_of values) (clauses (map clause_of cs))
level (Node-F.Lambda f) p = Expression.Lambda p (function_of f).at (function_of f).parameters (function_of f).body
level (Node-F.Letrec ds body) p = Expression.Letrec p (definitions (map definition_of ds)) (expression_of body)
level (Node-F.Apply f args) p = Expression.Apply p (expression_of f) (expressions (map expression_of args))
level (Node-F.Call m f args) p = Expression.Call p m f (expressions (map expression_of args))
level (Node-F.Primop f args) p = Expression.Primop p f (expressions (map expression_of args))
level (Node-F.Try part xs body ys handler) p = Expression.Try p (expression_of part) xs (expression_of body) ys (expression_of handler)
level (Node-F.Do first second) p = Expression.Do p (expression_of first) (expression_of second)
level (Node-F.Catch part) p = Expression.Catch p (expression_of part)

abbrev Plain : Type 0
Plain = Place → Expression

node_level : (l : Level) (p : Place) → node_at (map-Node Node RustClause.Clause Expr Fun FunDef Plain Clause Expression Function Definition (fold-Node Plain Clause Expression Function Definition node_at clause_at expression_at fun_at definition_at) clause_of expression_of function_of definition_of l) p ≡ level l p
unfolding expression_of clause_of function_of definition_of
node_level (Node-F.Int n) p = refl
node_level (Node-F.Atom a) p = refl
node_level Node-F.Nil p = refl
node_level (Node-F.Var x) p = refl
node_level (Node-F.Name f) p = refl
node_level (Node-F.Tuple parts) p = refl
node_level (Node-F.List parts tail) p = refl
node_level (Node-F.Values parts) p = refl
node_level (Node-F.Let xs values body) p = refl
node_level (Node-F.Case values cs) p = refl
node_level (Node-F.Lambda f) p = refl
node_level (Node-F.Letrec ds body) p = refl
node_level (Node-F.Apply f args) p = refl
node_level (Node-F.Call m f args) p = refl
node_level (Node-F.Primop f args) p = refl
node_level (Node-F.Try part xs body ys handler) p = refl
node_level (Node-F.Do first second) p = refl
node_level (Node-F.Catch part) p = refl

pub expression_is : (e : Expr) → expression_of e ≡ level (out-Node e.node) e.at
unfolding expression_of clause_of function_of definition_of
expression_is e = fold_out-Expr Plain Clause Expression Function Definition node_at clause_at expression_at fun_at definition_at e ∙ ap (λ f. f e.at) (fold_out-Node Plain Clause Expression Function Definition node_at clause_at expression_at fun_at definition_at e.node) ∙ node_level (out-Node e.node) e.at

place_level : (l : Level) (p : Place) → place_of (level l p) ≡ p
place_level (Node-F.Int n) p = refl
place_level (Node-F.Atom a) p = refl
place_level Node-F.Nil p = refl
place_level (Node-F.Var x) p = refl
place_level (Node-F.Name f) p = refl
place_level (Node-F.Tuple es) p = refl
place_level (Node-F.List es tail) p = refl
place_level (Node-F.Values es) p = refl
place_level (Node-F.Let xs values body) p = refl
place_level (Node-F.Case values cs) p = refl
place_level (Node-F.Lambda f) p = refl
place_level (Node-F.Letrec ds body) p = refl
place_level (Node-F.Apply f args) p = refl
place_level (Node-F.Call m f args) p = refl
place_level (Node-F.Primop f args) p = refl
place_level (Node-F.Try part xs body ys handler) p = refl
place_level (Node-F.Do first second) p = refl
place_level (Node-F.Catch part) p = refl

pub place_is : (e : Expr) → place_of (expression_of e) ≡ e.at
place_is e = ap place_of (expression_is e) ∙ place_level (out-Node e.node) e.at

pub clause_is : (c : RustClause.Clause) → clause_of c ≡ record { patterns = patterns (map pattern_of c.patterns); guard = expression_of c.guard; body = expression_of c.body; at = c.at }
unfolding expression_of clause_of
clause_is c = fold_out-Clause Plain Clause Expression Function Definition node_at clause_at expression_at fun_at definition_at c

pub function_is : (f : Fun) → function_of f ≡ record { parameters = (out-Fun f).params; body = expression_of (out-Fun f).body; at = (out-Fun f).at }
unfolding expression_of function_of
function_is f = fold_out-Fun Plain Clause Expression Function Definition node_at clause_at expression_at fun_at definition_at f

pub definition_is : (d : FunDef) → definition_of d ≡ record { name = (out-FunDef d).name; function = function_of (out-FunDef d).fun; at = (out-FunDef d).at }
unfolding function_of definition_of
definition_is d = fold_out-FunDef Plain Clause Expression Function Definition node_at clause_at expression_at fun_at definition_at d

pub ruleset levels = (the_lemmas, expression_is, clause_is, function_is, definition_is)

pub ruleset pattern_levels = (PatNodeViews.the_lemmas, pattern_is)
