-- The values of the parser, and how they are put together. A value of another kind than is asked for is taken for one
-- without parts; in a run that doesn't come.
use Rattle.std.specs.Prelude.{ℕ, List, [], ◌∷◌, ◌++◌}
use Rattle.hipe_terms.specs.declared.place.Place.{Place}
use Rattle.hipe_terms.specs.declared.constant.Call.{Call}
use Rattle.hipe_terms.specs.declared.constant.Constant.{Constant}
use Rattle.hipe_terms.specs.declared.constant.Constant.TheOpen.{Constant-F}
use Rattle.core_ast.specs.declared.pattern.Var.{Var}
use Rattle.core_ast.specs.declared.pattern.Pattern.{Pattern}
use Rattle.core_ast.specs.declared.pattern.PatNode.TheOpen.{PatNode-F}
use Rattle.core_ast.specs.declared.tree.Clause.{Clause}
use Rattle.core_ast.specs.declared.tree.Expr.{Expr}
use Rattle.core_ast.specs.declared.tree.Fun.{Fun}
use Rattle.core_ast.specs.declared.tree.FunDef.{FunDef}
use Rattle.core_ast.specs.declared.tree.FunName.{FunName}
use Rattle.core_ast.specs.declared.tree.Module.{Module}
use Rattle.core_ast.specs.declared.tree.Node.{Node}
use Rattle.core_ast.specs.declared.tree.Node.TheOpen.{Node-F}
use Rattle.core_grammar.specs.Grammar.{module_at}
use Rattle.core_grammar.specs.Trees.{constant_of, constant_cells, constant_nil, variable_at, pattern_at, pattern_cells, pattern_nil, expression_at, cells, nil_at, clause_at, fun_at, name_of, definition_at}
use Rattle.core_parser.specs.declared.symbol.Element.{Element}
use Rattle.core_parser.specs.declared.symbol.Maker.{Maker}
use Rattle.core_parser.specs.declared.symbol.Term.{Term}
use Rattle.core_parser.specs.declared.value.Value.{Value}

-- the stack of values, its top first
abbrev pub Values : Type 0
Values = List Value

abbrev pub nowhere : Place
nowhere = record { line = 0; col = 0 }

abbrev pub top : Values → Value
top [] = Value.At nowhere
top (v ∷ vs) = v

abbrev pub below : Values → Values
below [] = []
below (v ∷ vs) = vs

abbrev pub below2 : Values → Values
below2 vs = below (below vs)

abbrev pub below3 : Values → Values
below3 vs = below (below2 vs)

abbrev pub below4 : Values → Values
below4 vs = below (below3 vs)

-- values of each kind

abbrev pub to_place : Value → Place
to_place (Value.At p) = p
to_place _ = nowhere

abbrev pub to_atom : Value → List ℕ
to_atom (Value.Atom a) = a
to_atom _ = []

abbrev pub to_name : Value → FunName
to_name (Value.Name f) = f
to_name _ = name_of [] 0

abbrev pub to_variable : Value → Var
to_variable (Value.Variable x) = x
to_variable _ = variable_at nowhere []

abbrev pub to_variables : Value → List Var
to_variables (Value.Variables xs) = xs
to_variables _ = []

abbrev pub to_constant : Value → Constant
to_constant (Value.Constant c) = c
to_constant _ = constant_nil

abbrev pub to_constants : Value → List Constant
to_constants (Value.Constants cs) = cs
to_constants _ = []

abbrev pub to_pattern : Value → Pattern
to_pattern (Value.Pattern f) = f
to_pattern _ = pattern_nil nowhere

abbrev pub to_patterns : Value → List Pattern
to_patterns (Value.Patterns fs) = fs
to_patterns _ = []

abbrev pub to_expression : Value → Expr
to_expression (Value.Expression e) = e
to_expression _ = nil_at nowhere

abbrev pub to_expressions : Value → List Expr
to_expressions (Value.Expressions es) = es
to_expressions _ = []

abbrev pub to_clauses : Value → List Clause
to_clauses (Value.Clauses cs) = cs
to_clauses _ = []

abbrev pub to_fun : Value → Fun
to_fun (Value.Fun f) = f
to_fun _ = fun_at nowhere [] (nil_at nowhere)

abbrev pub to_definitions : Value → List FunDef
to_definitions (Value.Definitions ds) = ds
to_definitions _ = []

abbrev pub to_exports : Value → List (FunName × Place)
to_exports (Value.Exports es) = es
to_exports _ = []

abbrev pub to_attributes : Value → List (List ℕ × Constant)
to_attributes (Value.Attributes as') = as'
to_attributes _ = []

abbrev pub to_module : Value → Module
to_module (Value.Module m) = m
to_module _ = module_at [] [] [] []

abbrev pub to_call : Value → Call
to_call (Value.Call c) = c
to_call _ = record { name = []; args = [] }

-- elements

-- no elements
abbrev pub empty : Element → Value
empty Element.Variable = Value.Variables []
empty Element.Export = Value.Exports []
empty Element.Attribute = Value.Attributes []
empty (Element.Term (Term.Expression k)) = Value.Expressions []
empty (Element.Term (Term.Pattern k)) = Value.Patterns []
empty (Element.Term (Term.Constant k)) = Value.Constants []

-- the element on top goes to the end of those below it
abbrev pub pushed : Element → Values → Values
pushed Element.Variable vs = Value.Variables (to_variables (top (below vs)) ++ to_variable (top vs) ∷ []) ∷ below2 vs
pushed Element.Export vs = Value.Exports (to_exports (top (below2 vs)) ++ (to_name (top vs), to_place (top (below vs))) ∷ []) ∷ below3 vs
pushed Element.Attribute vs = Value.Attributes (to_attributes (top (below2 vs)) ++ (to_atom (top (below vs)), to_constant (top vs)) ∷ []) ∷ below3 vs
pushed (Element.Term (Term.Expression k)) vs = Value.Expressions (to_expressions (top (below vs)) ++ to_expression (top vs) ∷ []) ∷ below2 vs
pushed (Element.Term (Term.Pattern k)) vs = Value.Patterns (to_patterns (top (below vs)) ++ to_pattern (top vs) ∷ []) ∷ below2 vs
pushed (Element.Term (Term.Constant k)) vs = Value.Constants (to_constants (top (below vs)) ++ to_constant (top vs) ∷ []) ∷ below2 vs

-- lists. Their elements stand on the place of the `[` behind which the last of them stand, and that on the place of the list.

-- a list with no element
abbrev pub no_cells : Term → Values → Values
no_cells (Term.Expression k) vs = Value.Expression (nil_at (to_place (top (below2 vs)))) ∷ below3 vs
no_cells (Term.Pattern k) vs = Value.Pattern (pattern_nil (to_place (top (below2 vs)))) ∷ below3 vs
no_cells (Term.Constant k) vs = Value.Constant constant_nil ∷ below3 vs

-- a list with elements, and no other tail
abbrev pub all_cells : Term → Values → Values
all_cells (Term.Expression k) vs = Value.Expression (expression_at (to_place (top (below2 vs))) (Node-F.List (to_expressions (top vs)) (nil_at (to_place (top (below vs)))))) ∷ below3 vs
all_cells (Term.Pattern k) vs = Value.Pattern (pattern_at (to_place (top (below2 vs))) (PatNode-F.List (to_patterns (top vs)) (pattern_nil (to_place (top (below vs)))))) ∷ below3 vs
all_cells (Term.Constant k) vs = Value.Constant (constant_of (Constant-F.List (to_constants (top vs)) constant_nil)) ∷ below3 vs

-- a list with elements before a tail
abbrev pub joined : Term → Values → Values
joined (Term.Expression k) vs = Value.Expression (cells (to_place (top (below3 vs))) (to_expressions (top (below vs))) (to_expression (top vs))) ∷ below4 vs
joined (Term.Pattern k) vs = Value.Pattern (pattern_cells (to_place (top (below3 vs))) (to_patterns (top (below vs))) (to_pattern (top vs))) ∷ below4 vs
joined (Term.Constant k) vs = Value.Constant (constant_cells (to_constants (top (below vs))) (to_constant (top vs))) ∷ below4 vs

-- the next elements stand behind the `[` at this place
abbrev pub continued : Place → Values → Values
continued p vs = top vs ∷ Value.At p ∷ below2 vs

abbrev pub tuple : Term → Values → Values
tuple (Term.Expression k) vs = Value.Expression (expression_at (to_place (top (below vs))) (Node-F.Tuple (to_expressions (top vs)))) ∷ below2 vs
tuple (Term.Pattern k) vs = Value.Pattern (pattern_at (to_place (top (below vs))) (PatNode-F.Tuple (to_patterns (top vs)))) ∷ below2 vs
tuple (Term.Constant k) vs = Value.Constant (constant_of (Constant-F.Tuple (to_constants (top vs)))) ∷ below2 vs

-- expressions

-- an expression of this form, at the place on top of these values
abbrev pub expression : Values → Node-F Node Clause Expr Fun FunDef → Values
expression vs form = Value.Expression (expression_at (to_place (top vs)) form) ∷ below vs

abbrev pub literal : Values → Values
literal vs = expression (below vs) (Node-F.Atom (to_atom (top vs)))

abbrev pub name : Values → Values
name vs = expression (below vs) (Node-F.Name (to_name (top vs)))

-- an atom becomes the name of a function with this number of parameters
abbrev pub with_arity : ℕ → Values → Values
with_arity n vs = Value.Name (name_of (to_atom (top vs)) n) ∷ below vs

abbrev pub values : Values → Values
values vs = expression (below vs) (Node-F.Values (to_expressions (top vs)))

abbrev pub lets : Values → Values
lets vs = expression (below3 vs) (Node-F.Let (to_variables (top (below2 vs))) (to_expression (top (below vs))) (to_expression (top vs)))

abbrev pub case : Values → Values
case vs = expression (below2 vs) (Node-F.Case (to_expression (top (below vs))) (to_clauses (top vs)))

abbrev pub lambda : Values → Values
lambda vs = expression (below vs) (Node-F.Lambda (to_fun (top vs)))

abbrev pub letrec : Values → Values
letrec vs = expression (below2 vs) (Node-F.Letrec (to_definitions (top (below vs))) (to_expression (top vs)))

abbrev pub apply : Values → Values
apply vs = expression (below2 vs) (Node-F.Apply (to_expression (top (below vs))) (to_expressions (top vs)))

abbrev pub call : Values → Values
call vs = expression (below3 vs) (Node-F.Call (to_atom (top (below2 vs))) (to_atom (top (below vs))) (to_expressions (top vs)))

abbrev pub primop : Values → Values
primop vs = expression (below2 vs) (Node-F.Primop (to_atom (top (below vs))) (to_expressions (top vs)))

abbrev pub tries : Values → Values
tries vs = expression (below (below4 vs)) (Node-F.Try (to_expression (top (below4 vs))) (to_variables (top (below3 vs))) (to_expression (top (below2 vs))) (to_variables (top (below vs))) (to_expression (top vs)))

abbrev pub sequence : Values → Values
sequence vs = expression (below2 vs) (Node-F.Do (to_expression (top (below vs))) (to_expression (top vs)))

abbrev pub caught : Values → Values
caught vs = expression (below vs) (Node-F.Catch (to_expression (top vs)))

-- clauses, patterns and variables

abbrev pub clause : Values → Values
clause vs = Value.Clauses (to_clauses (top (below4 vs)) ++ clause_at (to_place (top (below3 vs))) (to_patterns (top (below2 vs))) (to_expression (top (below vs))) (to_expression (top vs)) ∷ []) ∷ below (below4 vs)

abbrev pub one_pattern : Values → Values
one_pattern vs = let f = to_pattern (top vs) in Value.Patterns (f ∷ []) ∷ Value.At f.at ∷ below vs

abbrev pub variable_pattern : Values → Values
variable_pattern vs = let x = to_variable (top vs) in Value.Pattern (pattern_at x.at (PatNode-F.Var x.name)) ∷ below vs

abbrev pub alias : Values → Values
alias vs = let x = to_variable (top (below vs)) in Value.Pattern (pattern_at x.at (PatNode-F.Alias x (to_pattern (top vs)))) ∷ below2 vs

abbrev pub one_variable : Values → Values
one_variable vs = Value.Variables (to_variable (top vs) ∷ []) ∷ below vs

-- functions, modules and calls

abbrev pub function : Values → Values
function vs = Value.Fun (fun_at (to_place (top (below2 vs))) (to_variables (top (below vs))) (to_expression (top vs))) ∷ below3 vs

abbrev pub definition : Values → Values
definition vs = Value.Definitions (to_definitions (top (below3 vs)) ++ definition_at (to_place (top (below2 vs))) (to_name (top (below vs))) (to_fun (top vs)) ∷ []) ∷ below4 vs

abbrev pub whole_module : Values → Values
whole_module vs = Value.Module (module_at (to_atom (top (below3 vs))) (to_exports (top (below2 vs))) (to_attributes (top (below vs))) (to_definitions (top vs))) ∷ below4 vs

abbrev pub whole_call : Values → Values
whole_call vs = Value.Call (record { name = to_atom (top (below vs)); args = to_constants (top vs) }) ∷ below2 vs

-- what a maker makes
abbrev pub made : Maker → Values → Values
made (Maker.Empty x) vs = empty x ∷ vs
made (Maker.Push x) vs = pushed x vs
made (Maker.Join x) vs = joined x vs
made Maker.Name vs = name vs
made (Maker.Tuple x) vs = tuple x vs
made Maker.Values vs = values vs
made Maker.Let vs = lets vs
made Maker.Lambda vs = lambda vs
made Maker.Letrec vs = letrec vs
made Maker.Apply vs = apply vs
made Maker.Call vs = call vs
made Maker.Primop vs = primop vs
made Maker.Try vs = tries vs
made Maker.Do vs = sequence vs
made Maker.Catch vs = caught vs
made Maker.NoClauses vs = Value.Clauses [] ∷ vs
made Maker.Clause vs = clause vs
made Maker.OnePattern vs = one_pattern vs
made Maker.Alias vs = alias vs
made Maker.OneVariable vs = one_variable vs
made Maker.Fun vs = function vs
made Maker.NoDefinitions vs = Value.Definitions [] ∷ vs
made Maker.Definition vs = definition vs
made Maker.Drop vs = below vs
