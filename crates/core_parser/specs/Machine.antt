-- The machine: what a terminal does to the symbols that are to come and to the values that were read.
use Rattle.std.specs.Prelude.{ℕ, pos, ◌+◌, List, [], ◌∷◌, Bool, true, false, ◌&&◌, if◌then◌else◌, Result, Ok, Err}
use Rattle.hipe_terms.specs.declared.place.Place.{Place}
use Rattle.hipe_terms.specs.declared.constant.Constant.TheOpen.{Constant-F}
use Rattle.hipe_terms.specs.declared.constant.Call.{Call}
use Rattle.core_ast.specs.declared.pattern.PatNode.TheOpen.{PatNode-F}
use Rattle.core_ast.specs.declared.tree.Module.{Module}
use Rattle.core_ast.specs.declared.tree.Node.TheOpen.{Node-F}
use Rattle.core_grammar.specs.declared.fault.Fault.{Fault}
use Rattle.core_grammar.specs.declared.terminal.Kind.{Kind}
use Rattle.core_grammar.specs.declared.terminal.Mark.{Mark}
use Rattle.core_grammar.specs.declared.terminal.Terminal.{Terminal}
use Rattle.core_grammar.specs.Leave.{Need, part, variable_operand, argument, Leave, text_level}
use Rattle.core_grammar.specs.Language.{is_foreign}
use Rattle.core_grammar.specs.Marks.{same_mark}
use Rattle.core_grammar.specs.Trees.{constant_of, constant_text, variable_at, pattern_at, pattern_text, expression_at, text_at}
use Rattle.core_parser.specs.declared.moved.Moved.{Moved}
use Rattle.core_parser.specs.declared.moved.Wanted.{Wanted}
use Rattle.core_parser.specs.declared.symbol.Closer.{Closer}
use Rattle.core_parser.specs.declared.symbol.Element.{Element}
use Rattle.core_parser.specs.declared.symbol.Maker.{Maker}
use Rattle.core_parser.specs.declared.symbol.Part.{Part}
use Rattle.core_parser.specs.declared.symbol.Symbol.{Symbol}
use Rattle.core_parser.specs.declared.symbol.Term.{Term}
use Rattle.core_parser.specs.declared.value.Value.{Value}
use Rattle.core_parser.specs.Values.{Values, top, to_module, to_call, no_cells, all_cells, continued, literal, with_arity, case, one_pattern, variable_pattern, whole_module, whole_call, made}

-- the stack of symbols, the next one first
abbrev pub Symbols : Type 0
Symbols = List Symbol

-- what comes next, the values, and what the terminal needs leave for; or no move, and what is wanted in its place
pub data Move : Type 0 where
  Go : (ss : Symbols) (vs : Values) (needs : List Need) → Move
  No : (wanted : Wanted) → Move

-- what is to come after a first terminal

abbrev pub annotation_list : Symbols → Symbols
annotation_list ss =
    Symbol.Wants Mark.OpenSquare ∷ Symbol.Make (Maker.Empty (Element.Term (Term.Constant 1))) ∷ Symbol.First (Element.Term (Term.Constant 1)) Closer.Square
    ∷ Symbol.Make Maker.Drop ∷ Symbol.Wants Mark.CloseRound ∷ ss

-- what closes an annotation
abbrev pub annotation : Symbols → Symbols
annotation ss = Symbol.Wants Mark.Dash ∷ annotation_list ss

abbrev pub expression : ℕ → Symbols → Symbols
expression k ss = Symbol.Annotated (Part.Expression k) ∷ ss

-- arguments in `(..)`, of this level
abbrev pub arguments : ℕ → Maker → Symbols → Symbols
arguments k maker ss =
    Symbol.Wants Mark.OpenRound ∷ Symbol.Make (Maker.Empty (Element.Term (Term.Expression k))) ∷ Symbol.First (Element.Term (Term.Expression k)) Closer.Round
    ∷ Symbol.Make maker ∷ ss

-- the guard and the body of a clause of this level
abbrev pub guarded : ℕ → Symbols → Symbols
guarded k ss = expression (k + 1) (Symbol.Wants Mark.Arrow ∷ expression (k + 1) (Symbol.Make Maker.Clause ∷ ss))

-- what follows the patterns of a clause
abbrev pub when_guarded : ℕ → Symbols → Symbols
when_guarded k ss = Symbol.Wants Mark.When ∷ guarded k ss

-- what follows the pattern of a clause that has one without `<`
abbrev pub one_when_guarded : ℕ → Symbols → Symbols
one_when_guarded k ss = Symbol.Make Maker.OnePattern ∷ when_guarded k ss

abbrev pub alias_of : ℕ → Symbols → Symbols
alias_of k ss = Symbol.Pattern (k + 1) ∷ Symbol.Make Maker.Alias ∷ ss

-- one level deeper
abbrev pub deeper : Term → Term
deeper (Term.Expression k) = Term.Expression (k + 1)
deeper (Term.Pattern k) = Term.Pattern (k + 1)
deeper (Term.Constant k) = Term.Constant (k + 1)

-- the first terminal of each part

abbrev pub bare_atom : Kind → Symbols → Values → Move
bare_atom (Kind.Atom a) ss vs = Go ss (Value.Atom a ∷ vs) []
bare_atom _ ss vs = No Wanted.Other

abbrev pub bare_operand : Kind → Symbols → Values → Move
bare_operand (Kind.Atom a) ss vs = Go ss (Value.Atom a ∷ vs) []
bare_operand (Kind.Variable x) ss vs = Go ss (Value.Atom [] ∷ vs) (variable_operand ∷ [])
bare_operand _ ss vs = No Wanted.Other

abbrev pub bare_variable : Kind → Place → Symbols → Values → Move
bare_variable (Kind.Variable x) p ss vs = Go ss (Value.Variable (variable_at p x) ∷ vs) []
bare_variable _ p ss vs = No Wanted.Other

abbrev pub bare_name : Kind → Place → Symbols → Values → Move
bare_name (Kind.Atom a) p ss vs = Go (Symbol.Wants Mark.Slash ∷ Symbol.Arity ∷ ss) (Value.Atom a ∷ Value.At p ∷ vs) []
bare_name _ p ss vs = No Wanted.Other

abbrev pub constant : ℕ → Kind → Place → Symbols → Values → Move
constant k (Kind.Natural n) p ss vs = Go ss (Value.Constant (constant_of (Constant-F.Int (pos n))) ∷ vs) (part k ∷ [])
constant k (Kind.Integer n) p ss vs = Go ss (Value.Constant (constant_of (Constant-F.Int n)) ∷ vs) (part k ∷ [])
constant k (Kind.Text s) p ss vs = Go ss (Value.Constant (constant_text s) ∷ vs) (part (text_level k s) ∷ [])
constant k (Kind.Atom a) p ss vs = Go ss (Value.Constant (constant_of (Constant-F.Atom a)) ∷ vs) (part k ∷ [])
constant k (Kind.Mark Mark.OpenSquare) p ss vs = Go (Symbol.CellsFirst (Term.Constant k) ∷ ss) (Value.Constants [] ∷ Value.At p ∷ Value.At p ∷ vs) (part k ∷ [])
constant k (Kind.Mark Mark.OpenBrace) p ss vs = Go (Symbol.First (Element.Term (Term.Constant (k + 1))) Closer.Brace ∷ Symbol.Make (Maker.Tuple (Term.Constant k)) ∷ ss) (Value.Constants [] ∷ Value.At p ∷ vs) (part k ∷ [])
constant k _ p ss vs = No Wanted.Integer

abbrev pub bare_fun : ℕ → Kind → Place → Symbols → Values → Move
bare_fun k (Kind.Mark Mark.Fun) p ss vs = Go (Symbol.Wants Mark.OpenRound ∷ Symbol.First Element.Variable Closer.Round ∷ Symbol.Wants Mark.Arrow ∷ expression (k + 1) (Symbol.Make Maker.Fun ∷ ss)) (Value.Variables [] ∷ Value.At p ∷ vs) (part k ∷ [])
bare_fun k _ p ss vs = No Wanted.Other

abbrev pub bare_expression : ℕ → Kind → Place → Symbols → Values → Move
bare_expression k (Kind.Natural n) p ss vs = Go ss (Value.Expression (expression_at p (Node-F.Int (pos n))) ∷ vs) (part k ∷ [])
bare_expression k (Kind.Integer n) p ss vs = Go ss (Value.Expression (expression_at p (Node-F.Int n)) ∷ vs) (part k ∷ [])
bare_expression k (Kind.Text s) p ss vs = Go ss (Value.Expression (text_at p s) ∷ vs) (part (text_level k s) ∷ [])
bare_expression k (Kind.Atom a) p ss vs = Go (Symbol.AfterAtom ∷ ss) (Value.Atom a ∷ Value.At p ∷ vs) (part k ∷ [])
bare_expression k (Kind.Variable x) p ss vs = Go ss (Value.Expression (expression_at p (Node-F.Var x)) ∷ vs) (part k ∷ [])
bare_expression k (Kind.Mark Mark.OpenSquare) p ss vs = Go (Symbol.CellsFirst (Term.Expression k) ∷ ss) (Value.Expressions [] ∷ Value.At p ∷ Value.At p ∷ vs) (part k ∷ [])
bare_expression k (Kind.Mark Mark.OpenBrace) p ss vs = Go (Symbol.First (Element.Term (Term.Expression (k + 1))) Closer.Brace ∷ Symbol.Make (Maker.Tuple (Term.Expression k)) ∷ ss) (Value.Expressions [] ∷ Value.At p ∷ vs) (part k ∷ [])
bare_expression k (Kind.Mark Mark.Less) p ss vs = Go (Symbol.First (Element.Term (Term.Expression (k + 1))) Closer.Angle ∷ Symbol.Make Maker.Values ∷ ss) (Value.Expressions [] ∷ Value.At p ∷ vs) (part k ∷ [])
bare_expression k (Kind.Mark Mark.Let) p ss vs = Go (Symbol.Variables ∷ Symbol.Wants Mark.Equals ∷ expression (k + 1) (Symbol.Wants Mark.In ∷ expression (k + 1) (Symbol.Make Maker.Let ∷ ss))) (Value.At p ∷ vs) (part k ∷ [])
bare_expression k (Kind.Mark Mark.Case) p ss vs = Go (expression (k + 1) (Symbol.Wants Mark.Of ∷ Symbol.Make Maker.NoClauses ∷ Symbol.Clause (k + 1) ∷ Symbol.ClausesRest (k + 1) ∷ ss)) (Value.At p ∷ vs) (part k ∷ [])
bare_expression k (Kind.Mark Mark.Fun) p ss vs = bare_fun k (Kind.Mark Mark.Fun) p (Symbol.Make Maker.Lambda ∷ ss) (Value.At p ∷ vs)
bare_expression k (Kind.Mark Mark.Letrec) p ss vs = Go (Symbol.Make Maker.NoDefinitions ∷ Symbol.Definitions (k + 1) ∷ Symbol.Wants Mark.In ∷ expression (k + 1) (Symbol.Make Maker.Letrec ∷ ss)) (Value.At p ∷ vs) (part k ∷ [])
bare_expression k (Kind.Mark Mark.Apply) p ss vs = Go (expression (k + 1) (arguments (k + 1) Maker.Apply ss)) (Value.At p ∷ vs) (part k ∷ [])
bare_expression k (Kind.Mark Mark.Call) p ss vs = Go (Symbol.Annotated Part.Operand ∷ Symbol.Wants Mark.Colon ∷ Symbol.Annotated Part.Operand ∷ arguments (k + 1) Maker.Call ss) (Value.At p ∷ vs) (part k ∷ [])
bare_expression k (Kind.Mark Mark.Primop) p ss vs = Go (Symbol.Annotated Part.Atom ∷ arguments (k + 1) Maker.Primop ss) (Value.At p ∷ vs) (part k ∷ [])
bare_expression k (Kind.Mark Mark.Try) p ss vs = Go (expression (k + 1) (Symbol.Wants Mark.Of ∷ Symbol.Variables ∷ Symbol.Wants Mark.Arrow ∷ expression (k + 1) (Symbol.Wants Mark.Catch ∷ Symbol.Variables ∷ Symbol.Wants Mark.Arrow ∷ expression (k + 1) (Symbol.Make Maker.Try ∷ ss)))) (Value.At p ∷ vs) (part k ∷ [])
bare_expression k (Kind.Mark Mark.Do) p ss vs = Go (expression (k + 1) (expression (k + 1) (Symbol.Make Maker.Do ∷ ss))) (Value.At p ∷ vs) (part k ∷ [])
bare_expression k (Kind.Mark Mark.Catch) p ss vs = Go (expression (k + 1) (Symbol.Make Maker.Catch ∷ ss)) (Value.At p ∷ vs) (part k ∷ [])
bare_expression k _ p ss vs = No Wanted.Integer

abbrev pub bare_module : Kind → Symbols → Values → Move
bare_module (Kind.Mark Mark.Module) ss vs =
    Go (Symbol.Bare Part.Atom
    ∷ Symbol.Wants Mark.OpenSquare ∷ Symbol.Make (Maker.Empty Element.Export) ∷ Symbol.First Element.Export Closer.Square
    ∷ Symbol.Wants Mark.Attributes ∷ Symbol.Wants Mark.OpenSquare ∷ Symbol.Make (Maker.Empty Element.Attribute) ∷ Symbol.First Element.Attribute Closer.Square
    ∷ Symbol.Make Maker.NoDefinitions ∷ Symbol.Definitions 1 ∷ Symbol.ModuleEnd ∷ ss) vs []
bare_module _ ss vs = No Wanted.Other

abbrev pub bare : Part → Kind → Place → Symbols → Values → Move
bare Part.Module t p ss vs = bare_module t ss vs
bare Part.Name t p ss vs = bare_name t p ss vs
bare Part.Atom t p ss vs = bare_atom t ss vs
bare Part.Operand t p ss vs = bare_operand t ss vs
bare Part.Variable t p ss vs = bare_variable t p ss vs
bare (Part.Constant k) t p ss vs = constant k t p ss vs
bare (Part.Fun k) t p ss vs = bare_fun k t p ss vs
bare (Part.Expression k) t p ss vs = bare_expression k t p ss vs

abbrev pub annotated : Part → Kind → Place → Symbols → Values → Move
annotated x (Kind.Mark Mark.OpenRound) p ss vs = Go (Symbol.Bare x ∷ annotation ss) vs []
annotated x t p ss vs = bare x t p ss vs

-- names

abbrev pub after_atom : Kind → Symbols → Values → Move → Move
after_atom (Kind.Mark Mark.Slash) ss vs skip = Go (Symbol.Arity ∷ Symbol.Make Maker.Name ∷ ss) vs []
after_atom _ ss vs skip = skip

abbrev pub arity : Kind → Symbols → Values → Move
arity (Kind.Natural n) ss vs = Go ss (with_arity n vs) []
arity _ ss vs = No Wanted.Integer

-- patterns

-- a pattern that isn't a variable or an alias
abbrev pub plain_pattern : ℕ → Kind → Place → Symbols → Values → Move
plain_pattern k (Kind.Natural n) p ss vs = Go ss (Value.Pattern (pattern_at p (PatNode-F.Int (pos n))) ∷ vs) (part k ∷ [])
plain_pattern k (Kind.Integer n) p ss vs = Go ss (Value.Pattern (pattern_at p (PatNode-F.Int n)) ∷ vs) (part k ∷ [])
plain_pattern k (Kind.Text s) p ss vs = Go ss (Value.Pattern (pattern_text p s) ∷ vs) (part (text_level k s) ∷ [])
plain_pattern k (Kind.Atom a) p ss vs = Go ss (Value.Pattern (pattern_at p (PatNode-F.Atom a)) ∷ vs) (part k ∷ [])
plain_pattern k (Kind.Mark Mark.OpenSquare) p ss vs = Go (Symbol.CellsFirst (Term.Pattern k) ∷ ss) (Value.Patterns [] ∷ Value.At p ∷ Value.At p ∷ vs) (part k ∷ [])
plain_pattern k (Kind.Mark Mark.OpenBrace) p ss vs = Go (Symbol.First (Element.Term (Term.Pattern (k + 1))) Closer.Brace ∷ Symbol.Make (Maker.Tuple (Term.Pattern k)) ∷ ss) (Value.Patterns [] ∷ Value.At p ∷ vs) (part k ∷ [])
plain_pattern k _ p ss vs = No Wanted.Integer

-- a variable of a pattern of this level
abbrev pub pattern_variable : Symbol → ℕ → List ℕ → Place → Symbols → Values → Move
pattern_variable next k x p ss vs = Go (next ∷ ss) (Value.Variable (variable_at p x) ∷ vs) (part k ∷ [])

abbrev pub bare_pattern : ℕ → Kind → Place → Symbols → Values → Move
bare_pattern k (Kind.Variable x) p ss vs = pattern_variable (Symbol.AfterVariable k) k x p ss vs
bare_pattern k t p ss vs = plain_pattern k t p ss vs

abbrev pub pattern : ℕ → Kind → Place → Symbols → Values → Move
pattern k (Kind.Mark Mark.OpenRound) p ss vs = Go (Symbol.PatternInside k ∷ ss) vs []
pattern k t p ss vs = bare_pattern k t p ss vs

abbrev pub pattern_inside : ℕ → Kind → Place → Symbols → Values → Move
pattern_inside k (Kind.Variable x) p ss vs = pattern_variable (Symbol.PatternInsideVariable k) k x p ss vs
pattern_inside k (Kind.Mark Mark.OpenRound) p ss vs = Go (Symbol.AliasName k ∷ annotation (Symbol.Wants Mark.Equals ∷ alias_of k (annotation ss))) vs []
pattern_inside k t p ss vs = plain_pattern k t p (annotation ss) vs

abbrev pub pattern_inside_variable : ℕ → Kind → Symbols → Values → Move
pattern_inside_variable k (Kind.Mark Mark.Equals) ss vs = Go (alias_of k (annotation ss)) vs []
pattern_inside_variable k (Kind.Mark Mark.Dash) ss vs = Go (annotation_list (Symbol.AfterVariable k ∷ ss)) vs []
pattern_inside_variable k _ ss vs = No Wanted.Other

abbrev pub alias_name : ℕ → Kind → Place → Symbols → Values → Move
alias_name k (Kind.Variable x) p ss vs = Go ss (Value.Variable (variable_at p x) ∷ vs) (part k ∷ [])
alias_name k _ p ss vs = No Wanted.Other

abbrev pub after_variable : ℕ → Kind → Symbols → Values → Move → Move
after_variable k (Kind.Mark Mark.Equals) ss vs skip = Go (alias_of k ss) vs []
after_variable k _ ss vs skip = skip

-- elements with commas

abbrev pub term : Term → Kind → Place → Symbols → Values → Move
term (Term.Expression k) t p ss vs = annotated (Part.Expression k) t p ss vs
term (Term.Pattern k) t p ss vs = pattern k t p ss vs
term (Term.Constant k) t p ss vs = constant k t p ss vs

abbrev pub item : Element → Kind → Place → Symbols → Values → Move
item Element.Variable t p ss vs = annotated Part.Variable t p ss vs
item Element.Export t p ss vs = annotated Part.Name t p ss vs
item Element.Attribute t p ss vs = annotated Part.Atom t p (Symbol.Wants Mark.Equals ∷ Symbol.Annotated (Part.Constant 1) ∷ ss) vs
item (Element.Term x) t p ss vs = term x t p ss vs

abbrev pub closes : Closer → Kind → Bool
closes Closer.Round (Kind.Mark Mark.CloseRound) = true
closes Closer.Brace (Kind.Mark Mark.CloseBrace) = true
closes Closer.Square (Kind.Mark Mark.CloseSquare) = true
closes Closer.Angle (Kind.Mark Mark.Greater) = true
closes _ _ = false

abbrev pub first : Element → Closer → Kind → Place → Symbols → Values → Move
first x c t p ss vs = if closes c t then Go ss vs [] else item x t p (Symbol.Make (Maker.Push x) ∷ Symbol.Rest x c ∷ ss) vs

abbrev pub comma : Element → Closer → Kind → Symbols → Values → Move
comma x c (Kind.Mark Mark.Comma) ss vs = Go (Symbol.Item x ∷ Symbol.Make (Maker.Push x) ∷ Symbol.Rest x c ∷ ss) vs []
comma x c _ ss vs = No Wanted.Other

abbrev pub rest : Element → Closer → Kind → Symbols → Values → Move
rest x c t ss vs = if closes c t then Go ss vs [] else comma x c t ss vs

-- lists

abbrev pub cells_first : Term → Kind → Place → Symbols → Values → Move
cells_first x (Kind.Mark Mark.CloseSquare) p ss vs = Go ss (no_cells x vs) []
cells_first x t p ss vs = term (deeper x) t p (Symbol.Make (Maker.Push (Element.Term (deeper x))) ∷ Symbol.CellsRest x ∷ ss) vs

abbrev pub cells_rest : Term → Kind → Symbols → Values → Move
cells_rest x (Kind.Mark Mark.Comma) ss vs = Go (Symbol.Item (Element.Term (deeper x)) ∷ Symbol.Make (Maker.Push (Element.Term (deeper x))) ∷ Symbol.CellsRest x ∷ ss) vs []
cells_rest x (Kind.Mark Mark.Bar) ss vs = Go (Symbol.Tail x ∷ Symbol.Wants Mark.CloseSquare ∷ ss) vs []
cells_rest x (Kind.Mark Mark.CloseSquare) ss vs = Go ss (all_cells x vs) []
cells_rest x _ ss vs = No Wanted.Other

abbrev pub level_of : Term → ℕ
level_of (Term.Expression k) = k
level_of (Term.Pattern k) = k
level_of (Term.Constant k) = k

-- a list that is a tail goes on with the elements before it
abbrev pub tail_list : Term → Place → Symbols → Values → Move
tail_list x p ss vs = Go (Symbol.TailFirst x ∷ ss) (continued p vs) (part (level_of x) ∷ [])

-- a tail that begins with neither `[` nor `(`
abbrev pub other_tail : Term → Kind → Place → Symbols → Values → Move
other_tail (Term.Expression k) t p ss vs = bare_expression k t p ss vs
other_tail (Term.Pattern k) t p ss vs = bare_pattern k t p ss vs
other_tail (Term.Constant k) t p ss vs = constant k t p ss vs

abbrev pub tail_open : Term → Symbols → Values → Move
tail_open (Term.Expression k) ss vs = Go (Symbol.ExpressionTailInside k ∷ ss) vs []
tail_open (Term.Pattern k) ss vs = Go (Symbol.PatternTailInside k ∷ ss) vs []
tail_open (Term.Constant k) ss vs = No Wanted.Integer

abbrev pub tail : Term → Kind → Place → Symbols → Values → Move
tail x (Kind.Mark Mark.OpenSquare) p ss vs = tail_list x p ss vs
tail x (Kind.Mark Mark.OpenRound) p ss vs = tail_open x ss vs
tail x t p ss vs = other_tail x t p (Symbol.Make (Maker.Join x) ∷ ss) vs

-- a tail behind its `(`. What isn't a variable or an alias makes one list with the elements before it at once, before its
-- annotation; a variable or an alias does once it is read.

abbrev pub expression_tail_inside : ℕ → Kind → Place → Symbols → Values → Move
expression_tail_inside k (Kind.Mark Mark.OpenSquare) p ss vs = tail_list (Term.Expression k) p (annotation ss) vs
expression_tail_inside k t p ss vs = bare_expression k t p (Symbol.Make (Maker.Join (Term.Expression k)) ∷ annotation ss) vs

abbrev pub pattern_tail_inside : ℕ → Kind → Place → Symbols → Values → Move
pattern_tail_inside k (Kind.Mark Mark.OpenSquare) p ss vs = tail_list (Term.Pattern k) p (annotation ss) vs
pattern_tail_inside k (Kind.Variable x) p ss vs = pattern_inside k (Kind.Variable x) p (Symbol.Make (Maker.Join (Term.Pattern k)) ∷ ss) vs
pattern_tail_inside k (Kind.Mark Mark.OpenRound) p ss vs = pattern_inside k (Kind.Mark Mark.OpenRound) p (Symbol.Make (Maker.Join (Term.Pattern k)) ∷ ss) vs
pattern_tail_inside k t p ss vs = plain_pattern k t p (Symbol.Make (Maker.Join (Term.Pattern k)) ∷ annotation ss) vs

abbrev pub tail_first : Term → Kind → Place → Symbols → Values → Move
tail_first x (Kind.Mark Mark.CloseSquare) p ss vs = Go ss (all_cells x vs) []
tail_first x t p ss vs = term (deeper x) t p (Symbol.Make (Maker.Push (Element.Term (deeper x))) ∷ Symbol.CellsRest x ∷ ss) vs

-- variables

abbrev pub variables : Kind → Place → Symbols → Values → Move
variables (Kind.Mark Mark.Less) p ss vs = Go (Symbol.First Element.Variable Closer.Angle ∷ ss) (Value.Variables [] ∷ vs) []
variables t p ss vs = annotated Part.Variable t p (Symbol.Make Maker.OneVariable ∷ ss) vs

-- clauses of this level

-- patterns in `<..>`
abbrev pub value_patterns : ℕ → Place → Symbols → Values → Move
value_patterns k p ss vs = Go (Symbol.First (Element.Term (Term.Pattern (k + 1))) Closer.Angle ∷ ss) (Value.Patterns [] ∷ Value.At p ∷ vs) (part k ∷ [])

abbrev pub clause : ℕ → Kind → Place → Symbols → Values → Move
clause k (Kind.Mark Mark.OpenRound) p ss vs = Go (Symbol.ClauseInside k ∷ ss) vs []
clause k (Kind.Mark Mark.Less) p ss vs = value_patterns k p (when_guarded k ss) vs
clause k t p ss vs = bare_pattern (k + 1) t p (one_when_guarded k ss) vs

abbrev pub clause_inside : ℕ → Kind → Place → Symbols → Values → Move
clause_inside k (Kind.Variable x) p ss vs = pattern_variable (Symbol.ClauseInsideVariable k) (k + 1) x p ss vs
clause_inside k (Kind.Mark Mark.OpenRound) p ss vs = Go (Symbol.ClauseTwiceInside k ∷ ss) vs []
clause_inside k (Kind.Mark Mark.Less) p ss vs = value_patterns k p (when_guarded k (annotation ss)) vs
clause_inside k t p ss vs = plain_pattern (k + 1) t p (Symbol.ClauseMiddle k ∷ ss) vs

abbrev pub clause_inside_variable : ℕ → Kind → Symbols → Values → Move
clause_inside_variable k (Kind.Mark Mark.Equals) ss vs = Go (alias_of (k + 1) (Symbol.ClauseMiddle k ∷ ss)) vs []
clause_inside_variable k (Kind.Mark Mark.Dash) ss vs = Go (annotation_list (Symbol.AfterVariable (k + 1) ∷ one_when_guarded k ss)) vs []
clause_inside_variable k (Kind.Mark Mark.When) ss vs = Go (guarded k (annotation ss)) (one_pattern (variable_pattern vs)) []
clause_inside_variable k _ ss vs = No Wanted.Other

abbrev pub clause_twice_inside : ℕ → Kind → Place → Symbols → Values → Move
clause_twice_inside k (Kind.Variable x) p ss vs = pattern_variable (Symbol.ClauseTwiceInsideVariable k) (k + 1) x p ss vs
clause_twice_inside k (Kind.Mark Mark.OpenRound) p ss vs = Go (Symbol.AliasName (k + 1) ∷ annotation (Symbol.Wants Mark.Equals ∷ alias_of (k + 1) (annotation (one_when_guarded k (annotation ss))))) vs []
clause_twice_inside k t p ss vs = plain_pattern (k + 1) t p (annotation (one_when_guarded k (annotation ss))) vs

abbrev pub clause_twice_inside_variable : ℕ → Kind → Symbols → Values → Move
clause_twice_inside_variable k (Kind.Mark Mark.Equals) ss vs = Go (alias_of (k + 1) (annotation (one_when_guarded k (annotation ss)))) vs []
clause_twice_inside_variable k (Kind.Mark Mark.Dash) ss vs = Go (annotation_list (Symbol.ClauseTwiceInsideAnnotated k ∷ ss)) vs []
clause_twice_inside_variable k _ ss vs = No Wanted.Other

abbrev pub clause_twice_inside_annotated : ℕ → Kind → Symbols → Values → Move
clause_twice_inside_annotated k (Kind.Mark Mark.Equals) ss vs = Go (alias_of (k + 1) (Symbol.ClauseMiddle k ∷ ss)) vs []
clause_twice_inside_annotated k (Kind.Mark Mark.When) ss vs = Go (guarded k (annotation ss)) (one_pattern (variable_pattern vs)) []
clause_twice_inside_annotated k _ ss vs = No Wanted.Other

abbrev pub clause_middle : ℕ → Kind → Symbols → Values → Move
clause_middle k (Kind.Mark Mark.When) ss vs = Go (guarded k (annotation ss)) (one_pattern vs) []
clause_middle k (Kind.Mark Mark.Dash) ss vs = Go (annotation_list (one_when_guarded k ss)) vs []
clause_middle k _ ss vs = No Wanted.Other

abbrev pub clauses_rest : ℕ → Kind → Place → Symbols → Values → Move
clauses_rest k (Kind.Mark Mark.End) p ss vs = Go ss (case vs) []
clauses_rest k t p ss vs = clause k t p (Symbol.ClausesRest k ∷ ss) vs

-- definitions

-- what follows the name of a definition
abbrev pub defined : ℕ → Symbols → Symbols
defined k ss = Symbol.Wants Mark.Equals ∷ Symbol.Annotated (Part.Fun k) ∷ Symbol.Make Maker.Definition ∷ Symbol.Definitions k ∷ ss

abbrev pub definitions : ℕ → Kind → Place → Symbols → Values → Move → Move
definitions k (Kind.Atom a) p ss vs skip = bare_name (Kind.Atom a) p (defined k ss) vs
definitions k (Kind.Mark Mark.OpenRound) p ss vs skip = Go (Symbol.Bare Part.Name ∷ annotation (defined k ss)) vs []
definitions k _ p ss vs skip = skip

abbrev pub module_end : Kind → Symbols → Values → Move
module_end (Kind.Mark Mark.End) ss vs = Go ss (whole_module vs) []
module_end _ ss vs = No Wanted.Other

-- the arguments of a call

-- with another need
abbrev pub also : Need → Move → Move
also need (Go ss vs needs) = Go ss vs (need ∷ needs)
also need (No wanted) = No wanted

abbrev pub call_argument : ℕ → Kind → Place → Symbols → Values → Move
call_argument i t p ss vs = also (argument i) (constant 1 t p ss vs)

abbrev pub argument_pushed : ℕ → Symbols → Symbols
argument_pushed i ss = Symbol.Make (Maker.Push (Element.Term (Term.Constant 1))) ∷ Symbol.ArgumentsRest i ∷ ss

abbrev pub arguments_first : Kind → Place → Symbols → Values → Move
arguments_first (Kind.Mark Mark.CloseRound) p ss vs = Go ss (whole_call vs) []
arguments_first t p ss vs = call_argument 1 t p (argument_pushed 2 ss) vs

abbrev pub arguments_rest : ℕ → Kind → Symbols → Values → Move
arguments_rest i (Kind.Mark Mark.Comma) ss vs = Go (Symbol.Argument i ∷ argument_pushed (i + 1) ss) vs []
arguments_rest i (Kind.Mark Mark.CloseRound) ss vs = Go ss (whole_call vs) []
arguments_rest i _ ss vs = No Wanted.Other

-- keywords and signs

abbrev pub wants : Mark → Kind → Symbols → Values → Move
wants m (Kind.Mark n) ss vs = if same_mark m n then Go ss vs [] else No Wanted.Other
wants m _ ss vs = No Wanted.Other

-- what a terminal of this kind at this place does
abbrev pub move : Symbols → Values → Kind → Place → Move
move [] vs t p = No Wanted.Other
move (Symbol.Wants m ∷ ss) vs t p = wants m t ss vs
move (Symbol.Annotated x ∷ ss) vs t p = annotated x t p ss vs
move (Symbol.Bare x ∷ ss) vs t p = bare x t p ss vs
move (Symbol.AfterAtom ∷ ss) vs t p = after_atom t ss vs (move ss (literal vs) t p)
move (Symbol.Arity ∷ ss) vs t p = arity t ss vs
move (Symbol.Item x ∷ ss) vs t p = item x t p ss vs
move (Symbol.First x c ∷ ss) vs t p = first x c t p ss vs
move (Symbol.Rest x c ∷ ss) vs t p = rest x c t ss vs
move (Symbol.CellsFirst x ∷ ss) vs t p = cells_first x t p ss vs
move (Symbol.CellsRest x ∷ ss) vs t p = cells_rest x t ss vs
move (Symbol.Tail x ∷ ss) vs t p = tail x t p ss vs
move (Symbol.ExpressionTailInside k ∷ ss) vs t p = expression_tail_inside k t p ss vs
move (Symbol.PatternTailInside k ∷ ss) vs t p = pattern_tail_inside k t p ss vs
move (Symbol.TailFirst x ∷ ss) vs t p = tail_first x t p ss vs
move (Symbol.Variables ∷ ss) vs t p = variables t p ss vs
move (Symbol.Pattern k ∷ ss) vs t p = pattern k t p ss vs
move (Symbol.PatternInside k ∷ ss) vs t p = pattern_inside k t p ss vs
move (Symbol.PatternInsideVariable k ∷ ss) vs t p = pattern_inside_variable k t ss vs
move (Symbol.AliasName k ∷ ss) vs t p = alias_name k t p ss vs
move (Symbol.AfterVariable k ∷ ss) vs t p = after_variable k t ss vs (move ss (variable_pattern vs) t p)
move (Symbol.Clause k ∷ ss) vs t p = clause k t p ss vs
move (Symbol.ClauseInside k ∷ ss) vs t p = clause_inside k t p ss vs
move (Symbol.ClauseInsideVariable k ∷ ss) vs t p = clause_inside_variable k t ss vs
move (Symbol.ClauseTwiceInside k ∷ ss) vs t p = clause_twice_inside k t p ss vs
move (Symbol.ClauseTwiceInsideVariable k ∷ ss) vs t p = clause_twice_inside_variable k t ss vs
move (Symbol.ClauseTwiceInsideAnnotated k ∷ ss) vs t p = clause_twice_inside_annotated k t ss vs
move (Symbol.ClauseMiddle k ∷ ss) vs t p = clause_middle k t ss vs
move (Symbol.ClausesRest k ∷ ss) vs t p = clauses_rest k t p ss vs
move (Symbol.Definitions k ∷ ss) vs t p = definitions k t p ss vs (move ss vs t p)
move (Symbol.ModuleEnd ∷ ss) vs t p = module_end t ss vs
move (Symbol.ArgumentsFirst ∷ ss) vs t p = arguments_first t p ss vs
move (Symbol.Argument i ∷ ss) vs t p = call_argument i t p ss vs
move (Symbol.ArgumentsRest i ∷ ss) vs t p = arguments_rest i t ss vs
move (Symbol.Make maker ∷ ss) vs t p = move ss (made maker vs) t p

-- a run

-- what is wanted where an integer has this move
abbrev pub wanted_by : Move → Wanted
wanted_by (No wanted) = Wanted.Other
wanted_by (Go ss vs needs) = Wanted.Integer

-- why a foreign terminal doesn't go on
abbrev pub outside_of : Wanted → Fault
outside_of Wanted.Integer = Fault.NotInProfile
outside_of Wanted.Other = Fault.Syntax

-- why no terminal of this kind goes on
abbrev pub why : Kind → Wanted → Fault
why t wanted = if is_foreign t then outside_of wanted else Fault.Syntax

abbrev pub all_ok : Leave → List Need → List Terminal → Bool
all_ok ok [] ts = true
all_ok ok (need ∷ needs) ts = ok need ts && all_ok ok needs ts

-- a variable is the module or the name of a `call`
abbrev pub has_operand : List Need → Bool
has_operand [] = false
has_operand (variable_operand ∷ needs) = true
has_operand (need ∷ needs) = has_operand needs

-- why there is no leave
abbrev pub why_not : List Need → Fault
why_not needs = if has_operand needs then Fault.NotInProfile else Fault.TooDeep

abbrev pub Answer : Type 0
Answer = Result Values (Fault × Place)

abbrev pub gone : Move → (List Need → Bool) → Kind → Place → (Symbols → Values → Answer) → Answer
gone (No wanted) may t p on = Err (why t wanted, p)
gone (Go ss vs needs) may t p on = if may needs then on ss vs else Err (why_not needs, p)

-- at the text's end, which stands at z
abbrev pub at_end : Place → Symbols → Values → Answer
at_end z [] vs = Ok vs
at_end z (s ∷ ss) vs = Err (Fault.Syntax, z)

abbrev pub run : Leave → Place → Symbols → Values → List Terminal → Answer
run ok z ss vs [] = at_end z ss vs
run ok z ss vs (t ∷ ts) = gone (move ss vs t.kind t.at) (λ needs. all_ok ok needs (t ∷ ts)) t.kind t.at (λ ss' vs'. run ok z ss' vs' ts)

-- where a module begins, and a call
abbrev pub module_start : Symbols
module_start = Symbol.Annotated Part.Module ∷ []

abbrev pub call_start : Symbols
call_start = Symbol.Bare Part.Atom ∷ Symbol.Wants Mark.OpenRound ∷ Symbol.Make (Maker.Empty (Element.Term (Term.Constant 1))) ∷ Symbol.ArgumentsFirst ∷ []

-- what the code says that a terminal did
abbrev pub moved : Moved → Symbols → Values → Move
moved Moved.Plain ss vs = Go ss vs []
moved (Moved.Begins k) ss vs = Go ss vs (part k ∷ [])
moved (Moved.Argument i k) ss vs = Go ss vs (argument i ∷ part k ∷ [])
moved Moved.Operand ss vs = Go ss vs (variable_operand ∷ [])
moved (Moved.Stuck wanted) ss vs = No wanted

-- a run as an answer

abbrev pub tree_read : (A : Type 0) → (Values → A) → Answer → Result A (Fault × Place)
tree_read A tree (Ok vs) = Ok (tree vs)
tree_read A tree (Err x) = Err x

-- the module, and the call, that stands on top
abbrev pub top_module : Values → Module
top_module vs = to_module (top vs)

abbrev pub top_call : Values → Call
top_call vs = to_call (top vs)

abbrev pub module_read : Answer → Result Module (Fault × Place)
module_read = tree_read Module top_module

abbrev pub call_read : Answer → Result Call (Fault × Place)
call_read = tree_read Call top_call
