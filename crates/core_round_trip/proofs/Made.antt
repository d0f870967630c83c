-- The plain trees of the trees that the productions derive.
use Rattle.std.proofs.Common.{◌≡◌, List, map, true, false, refl, ap, sym, ◌∙◌}
use Rattle.hipe_terms.specs.declared.place.Place.{Place}
use Rattle.core_ast.specs.declared.pattern.Var.{Var}
use Rattle.core_ast.specs.declared.pattern.Pattern.{Pattern}
use Rattle.core_ast.specs.declared.pattern.PatNode.{PatNode, out-PatNode, out-roll-PatNode}
use Rattle.core_ast.specs.declared.pattern.PatNode.TheOpen.{PatNode-F}
use Rattle.core_ast.specs.declared.tree.Clause.{Clause}
use Rattle.core_ast.specs.declared.tree.Expr.{Expr}
use Rattle.core_ast.specs.declared.tree.Fun.{Fun, out-roll-Fun}
use Rattle.core_ast.specs.declared.tree.FunDef.{FunDef, out-roll-FunDef}
use Rattle.core_ast.specs.declared.tree.FunName.{FunName}
use Rattle.core_ast.specs.declared.tree.Node.{Node, out-Node, out-roll-Node}
use Rattle.core_ast.specs.declared.tree.Node.TheOpen.{Node-F}
use Rattle.core_ast.specs.Trees as T
use Rattle.core_ast.specs.SameTree.{placeless_pattern, placeless}
use Rattle.core_ast.specs.WellFormed.{is_list_pattern, is_list}
use Rattle.core_ast.proofs.Levels.{level_pattern, pattern_is, level, expression_is, clause_is, function_is, definition_is}
use Rattle.core_grammar.specs.Trees.{pattern_at, pattern_cells_before, pattern_cells, expression_at, cells_before, cells, clause_at, fun_at, definition_at}

-- ---- patterns

pub pattern_made : (p : Place) (form : PatNode-F PatNode Pattern) → T.pattern_of (pattern_at p form) ≡ level_pattern form p
unfolding pattern_at
pattern_made p form = pattern_is (pattern_at p form) ∙ ap (λ f. level_pattern f p) (out-roll-PatNode form)

abbrev pub plain_patterns : List Pattern → T.Patterns
plain_patterns fs = T.patterns (map T.pattern_of fs)

list_made : (p : Place) (fs : List Pattern) (f : Pattern) (form : PatNode-F PatNode Pattern) → out-PatNode f.node ≡ form → is_list_pattern (T.pattern_of f) ≡ false
    → T.pattern_of (pattern_cells_before p fs f form) ≡ T.Pattern.Cons p (plain_patterns fs) (T.pattern_of f)
list_made p fs f (PatNode-F.List gs g) is h = let e : is_list_pattern (T.pattern_of f) ≡ true = ap is_list_pattern (pattern_is f ∙ ap (λ l. level_pattern l f.at) is) in cc
list_made p fs f (PatNode-F.Var x) is h = pattern_made p (PatNode-F.List fs f)
list_made p fs f _ is h = pattern_made p (PatNode-F.List fs f)

-- elements before a tail that is no list
pub pattern_cells_made : (p : Place) (fs : List Pattern) (f : Pattern) → is_list_pattern (T.pattern_of f) ≡ false → T.pattern_of (pattern_cells p fs f) ≡ T.Pattern.Cons p (plain_patterns fs) (T.pattern_of f)
pattern_cells_made p fs f h = list_made p fs f (out-PatNode f.node) refl h

pub placeless_list_pattern : (q : T.Pattern) → is_list_pattern (placeless_pattern q) ≡ is_list_pattern q
placeless_list_pattern (T.Pattern.Variable p x) = refl
placeless_list_pattern (T.Pattern.Int p n) = refl
placeless_list_pattern (T.Pattern.Atom p a) = refl
placeless_list_pattern (T.Pattern.Nil p) = refl
placeless_list_pattern (T.Pattern.Tuple p fs) = refl
placeless_list_pattern (T.Pattern.Cons p fs f) = refl
placeless_list_pattern (T.Pattern.Alias p x f) = refl

-- equal but for places, and so a list or none
pub same_list_pattern : (q r : T.Pattern) → placeless_pattern q ≡ placeless_pattern r → is_list_pattern r ≡ false → is_list_pattern q ≡ false
same_list_pattern q r e h = sym (placeless_list_pattern q) ∙ ap is_list_pattern e ∙ placeless_list_pattern r ∙ h

-- ---- expressions

pub expression_made : (p : Place) (form : Node-F Node Clause Expr Fun FunDef) → T.expression_of (expression_at p form) ≡ level form p
unfolding expression_at
expression_made p form = expression_is (expression_at p form) ∙ ap (λ f. level f p) (out-roll-Node form)

abbrev pub plain_expressions : List Expr → T.Expressions
plain_expressions es = T.expressions (map T.expression_of es)

expression_list_made : (p : Place) (es : List Expr) (e : Expr) (form : Node-F Node Clause Expr Fun FunDef) → out-Node e.node ≡ form → is_list (T.expression_of e) ≡ false
    → T.expression_of (cells_before p es e form) ≡ T.Expression.Cons p (plain_expressions es) (T.expression_of e)
expression_list_made p es e (Node-F.List fs f) is h = let g : is_list (T.expression_of e) ≡ true = ap is_list (expression_is e ∙ ap (λ l. level l e.at) is) in cc
expression_list_made p es e _ is h = expression_made p (Node-F.List es e)

-- elements before a tail that is no list
pub cells_made : (p : Place) (es : List Expr) (e : Expr) → is_list (T.expression_of e) ≡ false → T.expression_of (cells p es e) ≡ T.Expression.Cons p (plain_expressions es) (T.expression_of e)
cells_made p es e h = expression_list_made p es e (out-Node e.node) refl h

pub placeless_list : (e : T.Expression) → is_list (placeless e) ≡ is_list e
placeless_list (T.Expression.Int p n) = refl
placeless_list (T.Expression.Atom p a) = refl
placeless_list (T.Expression.Nil p) = refl
placeless_list (T.Expression.Variable p x) = refl
placeless_list (T.Expression.Name p f) = refl
placeless_list (T.Expression.Tuple p es) = refl
placeless_list (T.Expression.Cons p es e) = refl
placeless_list (T.Expression.Values p es) = refl
placeless_list (T.Expression.Let p xs e f) = refl
placeless_list (T.Expression.Case p e cs) = refl
placeless_list (T.Expression.Lambda p q xs e) = refl
placeless_list (T.Expression.Letrec p ds e) = refl
placeless_list (T.Expression.Apply p e es) = refl
placeless_list (T.Expression.Call p m f es) = refl
placeless_list (T.Expression.Primop p f es) = refl
placeless_list (T.Expression.Try p e xs f ys g) = refl
placeless_list (T.Expression.Do p e f) = refl
placeless_list (T.Expression.Catch p e) = refl

-- equal but for places, and so a list or none
pub same_list : (e f : T.Expression) → placeless e ≡ placeless f → is_list f ≡ false → is_list e ≡ false
same_list e f h k = sym (placeless_list e) ∙ ap is_list h ∙ placeless_list f ∙ k

-- ---- clauses and functions

pub clause_made : (p : Place) (fs : List Pattern) (g e : Expr) → T.clause_of (clause_at p fs g e) ≡ record { patterns = plain_patterns fs; guard = T.expression_of g; body = T.expression_of e; at = p }
unfolding clause_at
clause_made p fs g e = clause_is (clause_at p fs g e)

abbrev pub plain_fun : Place → List Var → Expr → T.Function
plain_fun p xs e = record { parameters = xs; body = T.expression_of e; at = p }

pub fun_made : (p : Place) (xs : List Var) (e : Expr) → T.function_of (fun_at p xs e) ≡ plain_fun p xs e
unfolding fun_at
fun_made p xs e = function_is (fun_at p xs e) ∙ ap (λ f. record { parameters = f.params; body = T.expression_of f.body; at = f.at }) (out-roll-Fun (record { params = xs; body = e; at = p }))

pub definition_made : (p : Place) (f : FunName) (g : Fun) → T.definition_of (definition_at p f g) ≡ record { name = f; function = T.function_of g; at = p }
unfolding definition_at
definition_made p f g = definition_is (definition_at p f g) ∙ ap (λ d. record { name = d.name; function = T.function_of d.fun; at = d.at }) (out-roll-FunDef (record { name = f; fun = g; at = p }))

abbrev pub plain_clauses : List Clause → T.Clauses
plain_clauses cs = T.clauses (map T.clause_of cs)

abbrev pub plain_definitions : List FunDef → T.Definitions
plain_definitions ds = T.definitions (map T.definition_of ds)
