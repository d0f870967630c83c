-- Runs by hand. The terminals of an example stand in the columns 1, 2, .. of the first line, and it ends in column 99.
use Rattle.std.proofs.Common.{◌≡◌, ℕ, pos, ◌+◌, List, [], ◌∷◌, ◌++◌, Ok, Err, refl}
use Rattle.core_ast.specs.declared.pattern.Pattern.{Pattern}
use Rattle.core_ast.specs.declared.pattern.PatNode.{PatNode}
use Rattle.core_ast.specs.declared.pattern.PatNode.TheOpen.{PatNode-F}
use Rattle.core_ast.specs.declared.tree.Clause.{Clause}
use Rattle.core_ast.specs.declared.tree.Expr.{Expr}
use Rattle.core_ast.specs.declared.tree.Fun.{Fun}
use Rattle.core_ast.specs.declared.tree.FunDef.{FunDef}
use Rattle.core_ast.specs.declared.tree.Node.{Node}
use Rattle.core_ast.specs.declared.tree.Node.TheOpen.{Node-F}
use Rattle.core_grammar.specs.declared.fault.Fault.{Fault}
use Rattle.core_grammar.specs.declared.terminal.Kind.{Kind}
use Rattle.core_grammar.specs.declared.terminal.Mark.{Mark}
use Rattle.core_grammar.specs.declared.terminal.Terminal.{Terminal}
use Rattle.core_grammar.specs.Trees.{expression_at, pattern_at, variable_at, clause_at}
use Rattle.core_grammar.specs.Leave.{token}
use Rattle.core_grammar.specs.Language.{limit}
use Rattle.core_grammar.specs.Examples.{at, one_line, one_module}
use Rattle.core_parser.specs.declared.symbol.Part.{Part}
use Rattle.core_parser.specs.declared.symbol.Symbol.{Symbol}
use Rattle.core_parser.specs.declared.value.Value.{Value}
use Rattle.core_parser.specs.Machine.{Answer, run, module_start, call_start}

abbrev in_columns : ℕ → List Kind → List Terminal
in_columns c [] = []
in_columns c (t ∷ ts) = token t (at c) ∷ in_columns (c + 1) ts

abbrev s : Mark → Kind
s m = Kind.Mark m

abbrev i : ℕ → Kind
i n = Kind.Natural n

-- a variable, an atom
abbrev v : Kind
v = Kind.Variable (88 ∷ [])

abbrev a : Kind
a = Kind.Atom (97 ∷ [])

-- an expression of level 1 and `end`
abbrev reads : ℕ → List Kind → Answer
reads n ts = run (limit n) (at 99) (Symbol.Annotated (Part.Expression 1) ∷ Symbol.Wants Mark.End ∷ []) [] (in_columns 1 (ts ++ s Mark.End ∷ []))

abbrev e : ℕ → Node-F Node Clause Expr Fun FunDef → Expr
e c form = expression_at (at c) form

abbrev p : ℕ → PatNode-F PatNode Pattern → Pattern
p c form = pattern_at (at c) form

abbrev read : Expr → Answer
read x = Ok (Value.Expression x ∷ [])

abbrev refused : Fault → ℕ → Answer
refused f c = Err (f, at c)

-- modules

reads_one_line : run (limit 2) (at 66) module_start [] one_line ≡ Ok (Value.Module one_module ∷ [])
reads_one_line = refl

too_deep_at_42 : run (limit 1) (at 66) module_start [] one_line ≡ Err (Fault.TooDeep, at 60)
too_deep_at_42 = refl

-- lists: `[X|[1,2]]`, `[X|([1] -| [])]`, `["a"]`, `[""]`, `[1|[2|[3]]]`

list_in_a_tail : reads 2 (s Mark.OpenSquare ∷ v ∷ s Mark.Bar ∷ s Mark.OpenSquare ∷ i 1 ∷ s Mark.Comma ∷ i 2 ∷ s Mark.CloseSquare ∷ s Mark.CloseSquare ∷ []) ≡ read (e 1 (Node-F.List (e 2 (Node-F.Var (88 ∷ [])) ∷ e 5 (Node-F.Int (pos 1)) ∷ e 7 (Node-F.Int (pos 2)) ∷ []) (e 4 Node-F.Nil)))
list_in_a_tail = refl

annotated_list_in_a_tail : reads 2 (s Mark.OpenSquare ∷ v ∷ s Mark.Bar ∷ s Mark.OpenRound ∷ s Mark.OpenSquare ∷ i 1 ∷ s Mark.CloseSquare ∷ s Mark.Dash ∷ s Mark.OpenSquare ∷ s Mark.CloseSquare ∷ s Mark.CloseRound ∷ s Mark.CloseSquare ∷ []) ≡ read (e 1 (Node-F.List (e 2 (Node-F.Var (88 ∷ [])) ∷ e 6 (Node-F.Int (pos 1)) ∷ []) (e 5 Node-F.Nil)))
annotated_list_in_a_tail = refl

three_levels_for_a_text : reads 2 (s Mark.OpenSquare ∷ Kind.Text (97 ∷ []) ∷ s Mark.CloseSquare ∷ []) ≡ refused Fault.TooDeep 2
three_levels_for_a_text = refl

two_levels_for_no_text : reads 2 (s Mark.OpenSquare ∷ Kind.Text [] ∷ s Mark.CloseSquare ∷ []) ≡ read (e 1 (Node-F.List (e 2 Node-F.Nil ∷ []) (e 1 Node-F.Nil)))
two_levels_for_no_text = refl

a_tail_has_the_level_of_its_list : reads 2 (s Mark.OpenSquare ∷ i 1 ∷ s Mark.Bar ∷ s Mark.OpenSquare ∷ i 2 ∷ s Mark.Bar ∷ s Mark.OpenSquare ∷ i 3 ∷ s Mark.CloseSquare ∷ s Mark.CloseSquare ∷ s Mark.CloseSquare ∷ []) ≡ read (e 1 (Node-F.List (e 2 (Node-F.Int (pos 1)) ∷ e 5 (Node-F.Int (pos 2)) ∷ e 8 (Node-F.Int (pos 3)) ∷ []) (e 7 Node-F.Nil)))
a_tail_has_the_level_of_its_list = refl

-- `{{{1}}}` with three levels

too_deep_in_a_tuple : reads 3 (s Mark.OpenBrace ∷ s Mark.OpenBrace ∷ s Mark.OpenBrace ∷ i 1 ∷ s Mark.CloseBrace ∷ []) ≡ refused Fault.TooDeep 4
too_deep_in_a_tuple = refl

-- `call X:'a'()`, `call (X -| [])`, `call 'a':(X`, `call ((`

variable_as_a_module : reads 9 (s Mark.Call ∷ v ∷ s Mark.Colon ∷ a ∷ []) ≡ refused Fault.NotInProfile 2
variable_as_a_module = refl

annotated_variable_as_a_module : reads 9 (s Mark.Call ∷ s Mark.OpenRound ∷ v ∷ s Mark.Dash ∷ []) ≡ refused Fault.NotInProfile 3
annotated_variable_as_a_module = refl

variable_as_a_name : reads 9 (s Mark.Call ∷ a ∷ s Mark.Colon ∷ s Mark.OpenRound ∷ v ∷ []) ≡ refused Fault.NotInProfile 5
variable_as_a_name = refl

no_annotation_in_an_annotation : reads 9 (s Mark.Call ∷ s Mark.OpenRound ∷ s Mark.OpenRound ∷ []) ≡ refused Fault.Syntax 3
no_annotation_in_an_annotation = refl

an_integer_is_no_operand : reads 9 (s Mark.Call ∷ s Mark.Hash ∷ []) ≡ refused Fault.Syntax 2
an_integer_is_no_operand = refl

variable_of_primop : reads 9 (s Mark.Primop ∷ v ∷ []) ≡ refused Fault.Syntax 2
variable_of_primop = refl

-- what isn't in the profile: `'a'/#`, `'a'/-1`, `let X = #`, `let #`, `{1 #`, `do 1 #`

foreign_arity : reads 9 (a ∷ s Mark.Slash ∷ s Mark.Hash ∷ []) ≡ refused Fault.NotInProfile 3
foreign_arity = refl

signed_arity : reads 9 (a ∷ s Mark.Slash ∷ Kind.Integer (pos 1) ∷ []) ≡ refused Fault.Syntax 3
signed_arity = refl

foreign_value : reads 9 (s Mark.Let ∷ v ∷ s Mark.Equals ∷ s Mark.Hash ∷ []) ≡ refused Fault.NotInProfile 4
foreign_value = refl

foreign_variable : reads 9 (s Mark.Let ∷ Kind.Float ∷ []) ≡ refused Fault.Syntax 2
foreign_variable = refl

foreign_comma : reads 9 (s Mark.OpenBrace ∷ i 1 ∷ Kind.Float ∷ []) ≡ refused Fault.Syntax 3
foreign_comma = refl

foreign_second_part : reads 9 (s Mark.Do ∷ i 1 ∷ Kind.Float ∷ []) ≡ refused Fault.NotInProfile 3
foreign_second_part = refl

-- clauses: `case 1 of (PATTERN when 1 -> 2 ..`

abbrev case_of : List Kind → List Kind
case_of ts = s Mark.Case ∷ i 1 ∷ s Mark.Of ∷ ts

abbrev when : List Kind → List Kind
when ts = s Mark.When ∷ i 1 ∷ s Mark.Arrow ∷ i 2 ∷ ts

abbrev notes : List Kind → List Kind
notes ts = s Mark.Dash ∷ s Mark.OpenSquare ∷ s Mark.CloseSquare ∷ s Mark.CloseRound ∷ ts

no_clause : reads 9 (case_of (s Mark.End ∷ [])) ≡ refused Fault.Syntax 4
no_clause = refl

foreign_second_clause : reads 9 (case_of (v ∷ when (Kind.Float ∷ []))) ≡ refused Fault.NotInProfile 9
foreign_second_clause = refl

-- `( ( X -| [] ) = Y -| [] )` is one annotated alias

abbrev alias_clause : List Kind
alias_clause = case_of (s Mark.OpenRound ∷ s Mark.OpenRound ∷ v ∷ notes (s Mark.Equals ∷ i 3 ∷ notes (when (s Mark.End ∷ []))))

annotated_alias : reads 9 alias_clause ≡ read (e 1 (Node-F.Case (e 2 (Node-F.Int (pos 1))) (clause_at (p 6 (PatNode-F.Alias (variable_at (at 6) (88 ∷ [])) (p 12 (PatNode-F.Int (pos 3))))).at (p 6 (PatNode-F.Alias (variable_at (at 6) (88 ∷ [])) (p 12 (PatNode-F.Int (pos 3)))) ∷ []) (e 18 (Node-F.Int (pos 1))) (e 20 (Node-F.Int (pos 2))) ∷ [])))
annotated_alias = refl

-- `( ( X -| [] ) when 1 -> 2 -| [] )` is an annotated clause with an annotated pattern

annotated_clause : reads 9 (case_of (s Mark.OpenRound ∷ s Mark.OpenRound ∷ v ∷ notes (when (notes (s Mark.End ∷ []))))) ≡ read (e 1 (Node-F.Case (e 2 (Node-F.Int (pos 1))) (clause_at (p 6 (PatNode-F.Var (88 ∷ []))).at (p 6 (PatNode-F.Var (88 ∷ [])) ∷ []) (e 12 (Node-F.Int (pos 1))) (e 14 (Node-F.Int (pos 2))) ∷ [])))
annotated_clause = refl

after_two_brackets_a_variable : reads 9 (case_of (s Mark.OpenRound ∷ s Mark.OpenRound ∷ s Mark.OpenRound ∷ i 1 ∷ [])) ≡ refused Fault.Syntax 7
after_two_brackets_a_variable = refl

-- a clause has level 2 here and its pattern level 3; `<>` begins the clause alone

clause_without_a_pattern : reads 2 (case_of (s Mark.Less ∷ s Mark.Greater ∷ s Mark.When ∷ i 1 ∷ [])) ≡ refused Fault.TooDeep 7
clause_without_a_pattern = refl

clause_with_a_pattern : reads 2 (case_of (s Mark.OpenRound ∷ s Mark.OpenRound ∷ v ∷ [])) ≡ refused Fault.TooDeep 6
clause_with_a_pattern = refl

-- calls

call_of_none : run (limit 1) (at 99) call_start [] (in_columns 1 (a ∷ s Mark.OpenRound ∷ s Mark.CloseRound ∷ [])) ≡ Ok (Value.Call (record { name = 97 ∷ []; args = [] }) ∷ [])
call_of_none = refl

call_too_deep : run (limit 1) (at 99) call_start [] (in_columns 1 (a ∷ s Mark.OpenRound ∷ s Mark.OpenBrace ∷ i 1 ∷ [])) ≡ refused Fault.TooDeep 4
call_too_deep = refl

call_not_ended : run (limit 1) (at 99) call_start [] (in_columns 1 (a ∷ s Mark.OpenRound ∷ i 1 ∷ [])) ≡ refused Fault.Syntax 99
call_not_ended = refl
