-- The trees that the productions derive. A list in the tail of a list is one list with it, and a text is the list of its
-- characters, all of which stand where it stands.
use Rattle.std.specs.Prelude.{ℕ, pos, List, [], ◌∷◌, ◌++◌, map}
use Rattle.hipe_terms.specs.declared.place.Place.{Place}
use Rattle.hipe_terms.specs.declared.constant.Constant.{Constant, roll-Constant, out-Constant}
use Rattle.hipe_terms.specs.declared.constant.Constant.TheOpen.{Constant-F}
use Rattle.core_ast.specs.declared.pattern.Var.{Var}
use Rattle.core_ast.specs.declared.pattern.Pattern.{Pattern}
use Rattle.core_ast.specs.declared.pattern.PatNode.{PatNode, roll-PatNode, out-PatNode}
use Rattle.core_ast.specs.declared.pattern.PatNode.TheOpen.{PatNode-F}
use Rattle.core_ast.specs.declared.tree.Clause.{Clause}
use Rattle.core_ast.specs.declared.tree.Expr.{Expr}
use Rattle.core_ast.specs.declared.tree.Fun.{Fun, roll-Fun}
use Rattle.core_ast.specs.declared.tree.FunDef.{FunDef, roll-FunDef}
use Rattle.core_ast.specs.declared.tree.FunName.{FunName}
use Rattle.core_ast.specs.declared.tree.Node.{Node, roll-Node, out-Node}
use Rattle.core_ast.specs.declared.tree.Node.TheOpen.{Node-F}

-- constants

unfoldable pub constant_of : Constant-F Constant → Constant
constant_of form = roll-Constant form

-- elements before a tail, by what the tail is
abbrev pub constant_cells_before : List Constant → Constant → Constant-F Constant → Constant
constant_cells_before parts tail (Constant-F.List more end) = constant_of (Constant-F.List (parts ++ more) end)
constant_cells_before parts tail _ = constant_of (Constant-F.List parts tail)

-- elements before a tail
abbrev pub constant_cells : List Constant → Constant → Constant
constant_cells parts tail = constant_cells_before parts tail (out-Constant tail)

abbrev pub constant_nil : Constant
constant_nil = constant_of Constant-F.Nil

abbrev pub constant_character : ℕ → Constant
constant_character c = constant_of (Constant-F.Int (pos c))

abbrev pub constant_text : List ℕ → Constant
constant_text [] = constant_nil
constant_text (c ∷ cs) = constant_of (Constant-F.List (map constant_character (c ∷ cs)) constant_nil)

-- patterns

abbrev pub variable_at : Place → List ℕ → Var
variable_at p x = record { name = x; at = p }

unfoldable pub pattern_at : Place → PatNode-F PatNode Pattern → Pattern
pattern_at p form = record { node = roll-PatNode form; at = p }

abbrev pub pattern_cells_before : Place → List Pattern → Pattern → PatNode-F PatNode Pattern → Pattern
pattern_cells_before p parts tail (PatNode-F.List more end) = pattern_at p (PatNode-F.List (parts ++ more) end)
pattern_cells_before p parts tail _ = pattern_at p (PatNode-F.List parts tail)

-- the list of a place with these elements before a tail
abbrev pub pattern_cells : Place → List Pattern → Pattern → Pattern
pattern_cells p parts tail = pattern_cells_before p parts tail (out-PatNode tail.node)

abbrev pub pattern_nil : Place → Pattern
pattern_nil p = pattern_at p PatNode-F.Nil

abbrev pub pattern_character : Place → ℕ → Pattern
pattern_character p c = pattern_at p (PatNode-F.Int (pos c))

abbrev pub pattern_text : Place → List ℕ → Pattern
pattern_text p [] = pattern_nil p
pattern_text p (c ∷ cs) = pattern_at p (PatNode-F.List (map (pattern_character p) (c ∷ cs)) (pattern_nil p))

-- expressions, clauses and functions

unfoldable pub expression_at : Place → Node-F Node Clause Expr Fun FunDef → Expr
expression_at p form = record { node = roll-Node form; at = p }

abbrev pub cells_before : Place → List Expr → Expr → Node-F Node Clause Expr Fun FunDef → Expr
cells_before p parts tail (Node-F.List more end) = expression_at p (Node-F.List (parts ++ more) end)
cells_before p parts tail _ = expression_at p (Node-F.List parts tail)

-- the list of a place with these elements before a tail
abbrev pub cells : Place → List Expr → Expr → Expr
cells p parts tail = cells_before p parts tail (out-Node tail.node)

abbrev pub nil_at : Place → Expr
nil_at p = expression_at p Node-F.Nil

abbrev pub character_at : Place → ℕ → Expr
character_at p c = expression_at p (Node-F.Int (pos c))

abbrev pub text_at : Place → List ℕ → Expr
text_at p [] = nil_at p
text_at p (c ∷ cs) = expression_at p (Node-F.List (map (character_at p) (c ∷ cs)) (nil_at p))

unfoldable pub clause_at : Place → List Pattern → Expr → Expr → Clause
clause_at p patterns guard body = record { patterns = patterns; guard = guard; body = body; at = p }

unfoldable pub fun_at : Place → List Var → Expr → Fun
fun_at p params body = roll-Fun (record { params = params; body = body; at = p })

abbrev pub name_of : List ℕ → ℕ → FunName
name_of a n = record { name = a; arity = n }

unfoldable pub definition_at : Place → FunName → Fun → FunDef
definition_at p name fun = roll-FunDef (record { name = name; fun = fun; at = p })
