-- Each symbol has a short end, and where a foreign terminal stops, an integer says why.
use Rattle.std.proofs.Common.{◌≡◌, ℕ, pos, suc, ◌+◌, ◌≤◌, List, [], ◌∷◌, length, Bool, true, false, not, if◌then◌else◌, refl, ap, sym, ◌∙◌, arith}
use Rattle.hipe_terms.specs.declared.place.Place.{Place}
use Rattle.hipe_terms.specs.declared.constant.Constant.TheOpen.{Constant-F}
use Rattle.core_ast.specs.declared.pattern.Var.{Var}
use Rattle.core_ast.specs.declared.pattern.Pattern.{Pattern}
use Rattle.core_ast.specs.declared.pattern.PatNode.TheOpen.{PatNode-F}
use Rattle.core_ast.specs.declared.tree.Clause.{Clause}
use Rattle.core_ast.specs.declared.tree.Expr.{Expr}
use Rattle.core_ast.specs.declared.tree.Node.TheOpen.{Node-F}
use Rattle.core_grammar.specs.declared.terminal.Kind.{Kind}
use Rattle.core_grammar.specs.declared.terminal.Mark.{Mark}
use Rattle.core_grammar.specs.declared.terminal.Terminal.{Terminal}
use Rattle.core_grammar.specs.Trees.{constant_of, fun_at, variable_at, pattern_at, expression_at, name_of, clause_at}
use Rattle.core_grammar.specs.Leave.{part, argument, Leave, token, mark}
use Rattle.core_grammar.specs.Grammar as G
use Rattle.core_grammar.specs.Marks.{same_mark}
use Rattle.core_parser.specs.declared.moved.Wanted.{Wanted}
use Rattle.core_parser.specs.declared.symbol.Closer.{Closer}
use Rattle.core_parser.specs.declared.symbol.Element.{Element}
use Rattle.core_parser.specs.declared.symbol.Maker.{Maker}
use Rattle.core_parser.specs.declared.symbol.Part.{Part}
use Rattle.core_parser.specs.declared.symbol.Symbol.{Symbol}
use Rattle.core_parser.specs.declared.symbol.Term.{Term}
use Rattle.core_parser.specs.Values.{Values, literal, variable_pattern, made}
use Rattle.core_parser.specs.Machine.{Symbols, Move, Go, No, wanted_by, has_operand, move, closes, deeper}
use Rattle.core_parser.specs.Machine as M
use Rattle.core_parser.proofs.Steps.{closing}
use Rattle.core_parser.proofs.Meaning.{Sat, wants, make, bare_module, bare_name, bare_atom, bare_operand, bare_variable, bare_constant, bare_fun, bare_expression, module', name, atom, operand, variable, constant, fun, expression, no_arity, arity, item_variable, item_export, item_attribute, item_expression, item_pattern, item_constant, first_none, rest_none, cells_none, cells_end, tail, expression_tail_inside, pattern_tail_inside, tail_first, variables, pattern', pattern_inside, pattern_inside_variable, alias_name, no_alias, clause, clause_inside, clause_inside_variable, clause_twice_inside, clause_twice_inside_variable, clause_twice_inside_annotated, clause_middle, clauses_none, definitions, module_end, arguments_first, argument', arguments_none, Holds, done, on, of_variable}

-- where a foreign terminal stops

-- a float, `receive`, `#` or `~`
pub data Foreign : Type 0 where
  float : Foreign
  receive : Foreign
  hash : Foreign
  tilde : Foreign

abbrev pub foreign_kind : Foreign → Kind
foreign_kind float = Kind.Float
foreign_kind receive = Kind.Mark Mark.Receive
foreign_kind hash = Kind.Mark Mark.Hash
foreign_kind tilde = Kind.Mark Mark.Tilde

bare_stops : (x : Part) (u : Foreign) (ss : Symbols) (vs : Values) (p : Place) → M.bare x (foreign_kind u) p ss vs ≡ No (wanted_by (M.bare x (Kind.Natural 0) p ss vs))
bare_stops Part.Module float ss vs p = refl
bare_stops Part.Module _ ss vs p = refl
bare_stops Part.Name float ss vs p = refl
bare_stops Part.Name _ ss vs p = refl
bare_stops Part.Atom float ss vs p = refl
bare_stops Part.Atom _ ss vs p = refl
bare_stops Part.Operand float ss vs p = refl
bare_stops Part.Operand _ ss vs p = refl
bare_stops Part.Variable float ss vs p = refl
bare_stops Part.Variable _ ss vs p = refl
bare_stops (Part.Constant k) float ss vs p = refl
bare_stops (Part.Constant k) _ ss vs p = refl
bare_stops (Part.Fun k) float ss vs p = refl
bare_stops (Part.Fun k) _ ss vs p = refl
bare_stops (Part.Expression k) float ss vs p = refl
bare_stops (Part.Expression k) _ ss vs p = refl

annotated_stops : (x : Part) (u : Foreign) (ss : Symbols) (vs : Values) (p : Place) → M.annotated x (foreign_kind u) p ss vs ≡ No (wanted_by (M.annotated x (Kind.Natural 0) p ss vs))
annotated_stops x float ss vs p = bare_stops x float ss vs p
annotated_stops x receive ss vs p = bare_stops x receive ss vs p
annotated_stops x hash ss vs p = bare_stops x hash ss vs p
annotated_stops x tilde ss vs p = bare_stops x tilde ss vs p

term_stops : (x : Term) (u : Foreign) (ss : Symbols) (vs : Values) (p : Place) → M.term x (foreign_kind u) p ss vs ≡ No (wanted_by (M.term x (Kind.Natural 0) p ss vs))
term_stops (Term.Expression k) float ss vs p = refl
term_stops (Term.Expression k) _ ss vs p = refl
term_stops (Term.Pattern k) float ss vs p = refl
term_stops (Term.Pattern k) _ ss vs p = refl
term_stops (Term.Constant k) float ss vs p = refl
term_stops (Term.Constant k) _ ss vs p = refl

item_stops : (x : Element) (u : Foreign) (ss : Symbols) (vs : Values) (p : Place) → M.item x (foreign_kind u) p ss vs ≡ No (wanted_by (M.item x (Kind.Natural 0) p ss vs))
item_stops Element.Variable float ss vs p = refl
item_stops Element.Variable _ ss vs p = refl
item_stops Element.Export float ss vs p = refl
item_stops Element.Export _ ss vs p = refl
item_stops Element.Attribute float ss vs p = refl
item_stops Element.Attribute _ ss vs p = refl
item_stops (Element.Term x) u ss vs p = term_stops x u ss vs p

foreign_closes_none : (c : Closer) (u : Foreign) → closes c (foreign_kind u) ≡ false
foreign_closes_none Closer.Round float = refl
foreign_closes_none Closer.Round _ = refl
foreign_closes_none Closer.Brace float = refl
foreign_closes_none Closer.Brace _ = refl
foreign_closes_none Closer.Square float = refl
foreign_closes_none Closer.Square _ = refl
foreign_closes_none Closer.Angle float = refl
foreign_closes_none Closer.Angle _ = refl

integer_closes_none : (c : Closer) → closes c (Kind.Natural 0) ≡ false
integer_closes_none Closer.Round = refl
integer_closes_none Closer.Brace = refl
integer_closes_none Closer.Square = refl
integer_closes_none Closer.Angle = refl

choice_stops : {a b : Bool} (x y : Move) (f g : Move) → a ≡ false → b ≡ false → f ≡ No (wanted_by g) → (if a then x else f) ≡ No (wanted_by (if b then y else g))
choice_stops x y f g is_a is_b h = ap (λ a. if a then x else f) is_a ∙ h ∙ sym (ap (λ b. No (wanted_by (if b then y else g))) is_b)

first_stops : (x : Element) (c : Closer) (u : Foreign) (ss : Symbols) (vs : Values) (p : Place) → M.first x c (foreign_kind u) p ss vs ≡ No (wanted_by (M.first x c (Kind.Natural 0) p ss vs))
first_stops x c u ss vs p = choice_stops (Go ss vs []) (Go ss vs []) _ _ (foreign_closes_none c u) (integer_closes_none c) (item_stops x u (Symbol.Make (Maker.Push x) ∷ Symbol.Rest x c ∷ ss) vs p)

comma_stops : (x : Element) (c : Closer) (u : Foreign) (ss : Symbols) (vs : Values) → M.comma x c (foreign_kind u) ss vs ≡ No Wanted.Other
comma_stops x c float ss vs = refl
comma_stops x c _ ss vs = refl

rest_stops : (x : Element) (c : Closer) (u : Foreign) (ss : Symbols) (vs : Values) → M.rest x c (foreign_kind u) ss vs ≡ No (wanted_by (M.rest x c (Kind.Natural 0) ss vs))
rest_stops x c u ss vs = choice_stops (Go ss vs []) (Go ss vs []) _ (No Wanted.Other) (foreign_closes_none c u) (integer_closes_none c) (comma_stops x c u ss vs)

cells_first_stops : (x : Term) (u : Foreign) (ss : Symbols) (vs : Values) (p : Place) → M.cells_first x (foreign_kind u) p ss vs ≡ No (wanted_by (M.cells_first x (Kind.Natural 0) p ss vs))
cells_first_stops x float ss vs p = term_stops (deeper x) float (Symbol.Make (Maker.Push (Element.Term (deeper x))) ∷ Symbol.CellsRest x ∷ ss) vs p
cells_first_stops x receive ss vs p = term_stops (deeper x) receive (Symbol.Make (Maker.Push (Element.Term (deeper x))) ∷ Symbol.CellsRest x ∷ ss) vs p
cells_first_stops x hash ss vs p = term_stops (deeper x) hash (Symbol.Make (Maker.Push (Element.Term (deeper x))) ∷ Symbol.CellsRest x ∷ ss) vs p
cells_first_stops x tilde ss vs p = term_stops (deeper x) tilde (Symbol.Make (Maker.Push (Element.Term (deeper x))) ∷ Symbol.CellsRest x ∷ ss) vs p

tail_first_stops : (x : Term) (u : Foreign) (ss : Symbols) (vs : Values) (p : Place) → M.tail_first x (foreign_kind u) p ss vs ≡ No (wanted_by (M.tail_first x (Kind.Natural 0) p ss vs))
tail_first_stops x float ss vs p = term_stops (deeper x) float (Symbol.Make (Maker.Push (Element.Term (deeper x))) ∷ Symbol.CellsRest x ∷ ss) vs p
tail_first_stops x receive ss vs p = term_stops (deeper x) receive (Symbol.Make (Maker.Push (Element.Term (deeper x))) ∷ Symbol.CellsRest x ∷ ss) vs p
tail_first_stops x hash ss vs p = term_stops (deeper x) hash (Symbol.Make (Maker.Push (Element.Term (deeper x))) ∷ Symbol.CellsRest x ∷ ss) vs p
tail_first_stops x tilde ss vs p = term_stops (deeper x) tilde (Symbol.Make (Maker.Push (Element.Term (deeper x))) ∷ Symbol.CellsRest x ∷ ss) vs p

tail_stops : (x : Term) (u : Foreign) (ss : Symbols) (vs : Values) (p : Place) → M.tail x (foreign_kind u) p ss vs ≡ No (wanted_by (M.tail x (Kind.Natural 0) p ss vs))
tail_stops (Term.Expression k) float ss vs p = refl
tail_stops (Term.Expression k) _ ss vs p = refl
tail_stops (Term.Pattern k) float ss vs p = refl
tail_stops (Term.Pattern k) _ ss vs p = refl
tail_stops (Term.Constant k) float ss vs p = refl
tail_stops (Term.Constant k) _ ss vs p = refl

-- a symbol that takes a foreign terminal doesn't stop there
wants_stops : (m : Mark) (u : Foreign) (ss : Symbols) (vs : Values) (wanted : Wanted) → M.wants m (foreign_kind u) ss vs ≡ No wanted → Wanted.Other ≡ wanted
wants_stops m float ss vs wanted h = cc
wants_stops m receive ss vs wanted h = tested (same_mark m Mark.Receive) h
  where
    tested : (b : Bool) → (if b then Go ss vs [] else No Wanted.Other) ≡ No wanted → Wanted.Other ≡ wanted
    tested true h = cc
    tested false h = cc
wants_stops m hash ss vs wanted h = tested (same_mark m Mark.Hash) h
  where
    tested : (b : Bool) → (if b then Go ss vs [] else No Wanted.Other) ≡ No wanted → Wanted.Other ≡ wanted
    tested true h = cc
    tested false h = cc
wants_stops m tilde ss vs wanted h = tested (same_mark m Mark.Tilde) h
  where
    tested : (b : Bool) → (if b then Go ss vs [] else No Wanted.Other) ≡ No wanted → Wanted.Other ≡ wanted
    tested true h = cc
    tested false h = cc

says : {a b : Wanted} {m : Move} → m ≡ No a → m ≡ No b → a ≡ b
says h g = let e : No _ ≡ No _ = sym h ∙ g in cc

atom_skips : (u : Foreign) (ss : Symbols) (vs : Values) (m : Move) → M.after_atom (foreign_kind u) ss vs m ≡ m
atom_skips float ss vs m = refl
atom_skips _ ss vs m = refl

variable_skips : (k : ℕ) (u : Foreign) (ss : Symbols) (vs : Values) (m : Move) → M.after_variable k (foreign_kind u) ss vs m ≡ m
variable_skips k float ss vs m = refl
variable_skips k _ ss vs m = refl

definitions_skip : (k : ℕ) (u : Foreign) (p : Place) (ss : Symbols) (vs : Values) (m : Move) → M.definitions k (foreign_kind u) p ss vs m ≡ m
definitions_skip k float p ss vs m = refl
definitions_skip k _ p ss vs m = refl

-- one symbol, which isn't optional and wants no word or sign

arity_stops : (u : Foreign) (ss : Symbols) (vs : Values) (p : Place) → move (Symbol.Arity ∷ ss) vs (foreign_kind u) p ≡ No (wanted_by (move (Symbol.Arity ∷ ss) vs (Kind.Natural 0) p))
arity_stops float ss vs p = refl
arity_stops _ ss vs p = refl

cells_rest_stops : (x : Term) (u : Foreign) (ss : Symbols) (vs : Values) (p : Place) → move (Symbol.CellsRest x ∷ ss) vs (foreign_kind u) p ≡ No (wanted_by (move (Symbol.CellsRest x ∷ ss) vs (Kind.Natural 0) p))
cells_rest_stops x float ss vs p = refl
cells_rest_stops x _ ss vs p = refl

expression_tail_inside_stops : (k : ℕ) (u : Foreign) (ss : Symbols) (vs : Values) (p : Place) → move (Symbol.ExpressionTailInside k ∷ ss) vs (foreign_kind u) p ≡ No (wanted_by (move (Symbol.ExpressionTailInside k ∷ ss) vs (Kind.Natural 0) p))
expression_tail_inside_stops k float ss vs p = refl
expression_tail_inside_stops k _ ss vs p = refl

pattern_tail_inside_stops : (k : ℕ) (u : Foreign) (ss : Symbols) (vs : Values) (p : Place) → move (Symbol.PatternTailInside k ∷ ss) vs (foreign_kind u) p ≡ No (wanted_by (move (Symbol.PatternTailInside k ∷ ss) vs (Kind.Natural 0) p))
pattern_tail_inside_stops k float ss vs p = refl
pattern_tail_inside_stops k _ ss vs p = refl

variables_stops : (u : Foreign) (ss : Symbols) (vs : Values) (p : Place) → move (Symbol.Variables ∷ ss) vs (foreign_kind u) p ≡ No (wanted_by (move (Symbol.Variables ∷ ss) vs (Kind.Natural 0) p))
variables_stops float ss vs p = refl
variables_stops _ ss vs p = refl

pattern_stops : (k : ℕ) (u : Foreign) (ss : Symbols) (vs : Values) (p : Place) → move (Symbol.Pattern k ∷ ss) vs (foreign_kind u) p ≡ No (wanted_by (move (Symbol.Pattern k ∷ ss) vs (Kind.Natural 0) p))
pattern_stops k float ss vs p = refl
pattern_stops k _ ss vs p = refl

pattern_inside_stops : (k : ℕ) (u : Foreign) (ss : Symbols) (vs : Values) (p : Place) → move (Symbol.PatternInside k ∷ ss) vs (foreign_kind u) p ≡ No (wanted_by (move (Symbol.PatternInside k ∷ ss) vs (Kind.Natural 0) p))
pattern_inside_stops k float ss vs p = refl
pattern_inside_stops k _ ss vs p = refl

pattern_inside_variable_stops : (k : ℕ) (u : Foreign) (ss : Symbols) (vs : Values) (p : Place) → move (Symbol.PatternInsideVariable k ∷ ss) vs (foreign_kind u) p ≡ No (wanted_by (move (Symbol.PatternInsideVariable k ∷ ss) vs (Kind.Natural 0) p))
pattern_inside_variable_stops k float ss vs p = refl
pattern_inside_variable_stops k _ ss vs p = refl

alias_name_stops : (k : ℕ) (u : Foreign) (ss : Symbols) (vs : Values) (p : Place) → move (Symbol.AliasName k ∷ ss) vs (foreign_kind u) p ≡ No (wanted_by (move (Symbol.AliasName k ∷ ss) vs (Kind.Natural 0) p))
alias_name_stops k float ss vs p = refl
alias_name_stops k _ ss vs p = refl

clause_stops : (k : ℕ) (u : Foreign) (ss : Symbols) (vs : Values) (p : Place) → move (Symbol.Clause k ∷ ss) vs (foreign_kind u) p ≡ No (wanted_by (move (Symbol.Clause k ∷ ss) vs (Kind.Natural 0) p))
clause_stops k float ss vs p = refl
clause_stops k _ ss vs p = refl

clause_inside_stops : (k : ℕ) (u : Foreign) (ss : Symbols) (vs : Values) (p : Place) → move (Symbol.ClauseInside k ∷ ss) vs (foreign_kind u) p ≡ No (wanted_by (move (Symbol.ClauseInside k ∷ ss) vs (Kind.Natural 0) p))
clause_inside_stops k float ss vs p = refl
clause_inside_stops k _ ss vs p = refl

clause_inside_variable_stops : (k : ℕ) (u : Foreign) (ss : Symbols) (vs : Values) (p : Place) → move (Symbol.ClauseInsideVariable k ∷ ss) vs (foreign_kind u) p ≡ No (wanted_by (move (Symbol.ClauseInsideVariable k ∷ ss) vs (Kind.Natural 0) p))
clause_inside_variable_stops k float ss vs p = refl
clause_inside_variable_stops k _ ss vs p = refl

clause_twice_inside_stops : (k : ℕ) (u : Foreign) (ss : Symbols) (vs : Values) (p : Place) → move (Symbol.ClauseTwiceInside k ∷ ss) vs (foreign_kind u) p ≡ No (wanted_by (move (Symbol.ClauseTwiceInside k ∷ ss) vs (Kind.Natural 0) p))
clause_twice_inside_stops k float ss vs p = refl
clause_twice_inside_stops k _ ss vs p = refl

clause_twice_inside_variable_stops : (k : ℕ) (u : Foreign) (ss : Symbols) (vs : Values) (p : Place) → move (Symbol.ClauseTwiceInsideVariable k ∷ ss) vs (foreign_kind u) p ≡ No (wanted_by (move (Symbol.ClauseTwiceInsideVariable k ∷ ss) vs (Kind.Natural 0) p))
clause_twice_inside_variable_stops k float ss vs p = refl
clause_twice_inside_variable_stops k _ ss vs p = refl

clause_twice_inside_annotated_stops : (k : ℕ) (u : Foreign) (ss : Symbols) (vs : Values) (p : Place) → move (Symbol.ClauseTwiceInsideAnnotated k ∷ ss) vs (foreign_kind u) p ≡ No (wanted_by (move (Symbol.ClauseTwiceInsideAnnotated k ∷ ss) vs (Kind.Natural 0) p))
clause_twice_inside_annotated_stops k float ss vs p = refl
clause_twice_inside_annotated_stops k _ ss vs p = refl

clause_middle_stops : (k : ℕ) (u : Foreign) (ss : Symbols) (vs : Values) (p : Place) → move (Symbol.ClauseMiddle k ∷ ss) vs (foreign_kind u) p ≡ No (wanted_by (move (Symbol.ClauseMiddle k ∷ ss) vs (Kind.Natural 0) p))
clause_middle_stops k float ss vs p = refl
clause_middle_stops k _ ss vs p = refl

clauses_rest_stops : (k : ℕ) (u : Foreign) (ss : Symbols) (vs : Values) (p : Place) → move (Symbol.ClausesRest k ∷ ss) vs (foreign_kind u) p ≡ No (wanted_by (move (Symbol.ClausesRest k ∷ ss) vs (Kind.Natural 0) p))
clauses_rest_stops k float ss vs p = refl
clauses_rest_stops k _ ss vs p = refl

module_end_stops : (u : Foreign) (ss : Symbols) (vs : Values) (p : Place) → move (Symbol.ModuleEnd ∷ ss) vs (foreign_kind u) p ≡ No (wanted_by (move (Symbol.ModuleEnd ∷ ss) vs (Kind.Natural 0) p))
module_end_stops float ss vs p = refl
module_end_stops _ ss vs p = refl

arguments_first_stops : (u : Foreign) (ss : Symbols) (vs : Values) (p : Place) → move (Symbol.ArgumentsFirst ∷ ss) vs (foreign_kind u) p ≡ No (wanted_by (move (Symbol.ArgumentsFirst ∷ ss) vs (Kind.Natural 0) p))
arguments_first_stops float ss vs p = refl
arguments_first_stops _ ss vs p = refl

argument_stops : (i : ℕ) (u : Foreign) (ss : Symbols) (vs : Values) (p : Place) → move (Symbol.Argument i ∷ ss) vs (foreign_kind u) p ≡ No (wanted_by (move (Symbol.Argument i ∷ ss) vs (Kind.Natural 0) p))
argument_stops i float ss vs p = refl
argument_stops i _ ss vs p = refl

arguments_rest_stops : (i : ℕ) (u : Foreign) (ss : Symbols) (vs : Values) (p : Place) → move (Symbol.ArgumentsRest i ∷ ss) vs (foreign_kind u) p ≡ No (wanted_by (move (Symbol.ArgumentsRest i ∷ ss) vs (Kind.Natural 0) p))
arguments_rest_stops i float ss vs p = refl
arguments_rest_stops i _ ss vs p = refl

-- where a foreign terminal has no move, an integer has one or none
pub foreign_stops : (u : Foreign) (ss : Symbols) (vs : Values) (p : Place) (wanted : Wanted) → move ss vs (foreign_kind u) p ≡ No wanted → wanted_by (move ss vs (Kind.Natural 0) p) ≡ wanted
foreign_stops u [] vs p wanted h = says refl h
foreign_stops u (Symbol.Wants m ∷ ss) vs p wanted h = wants_stops m u ss vs wanted h
foreign_stops u (Symbol.Annotated x ∷ ss) vs p wanted h = says (annotated_stops x u ss vs p) h
foreign_stops u (Symbol.Bare x ∷ ss) vs p wanted h = says (bare_stops x u ss vs p) h
foreign_stops u (Symbol.AfterAtom ∷ ss) vs p wanted h = foreign_stops u ss (literal vs) p wanted (sym (atom_skips u ss vs _) ∙ h)
foreign_stops u (Symbol.Item x ∷ ss) vs p wanted h = says (item_stops x u ss vs p) h
foreign_stops u (Symbol.First x c ∷ ss) vs p wanted h = says (first_stops x c u ss vs p) h
foreign_stops u (Symbol.Rest x c ∷ ss) vs p wanted h = says (rest_stops x c u ss vs) h
foreign_stops u (Symbol.CellsFirst x ∷ ss) vs p wanted h = says (cells_first_stops x u ss vs p) h
foreign_stops u (Symbol.TailFirst x ∷ ss) vs p wanted h = says (tail_first_stops x u ss vs p) h
foreign_stops u (Symbol.Tail x ∷ ss) vs p wanted h = says (tail_stops x u ss vs p) h
foreign_stops u (Symbol.AfterVariable k ∷ ss) vs p wanted h = foreign_stops u ss (variable_pattern vs) p wanted (sym (variable_skips k u ss vs _) ∙ h)
foreign_stops u (Symbol.Definitions k ∷ ss) vs p wanted h = foreign_stops u ss vs p wanted (sym (definitions_skip k u p ss vs _) ∙ h)
foreign_stops u (Symbol.Make maker ∷ ss) vs p wanted h = foreign_stops u ss (made maker vs) p wanted h
foreign_stops u (Symbol.Arity ∷ ss) vs p wanted h = says (arity_stops u ss vs p) h
foreign_stops u (Symbol.CellsRest x ∷ ss) vs p wanted h = says (cells_rest_stops x u ss vs p) h
foreign_stops u (Symbol.ExpressionTailInside k ∷ ss) vs p wanted h = says (expression_tail_inside_stops k u ss vs p) h
foreign_stops u (Symbol.PatternTailInside k ∷ ss) vs p wanted h = says (pattern_tail_inside_stops k u ss vs p) h
foreign_stops u (Symbol.Variables ∷ ss) vs p wanted h = says (variables_stops u ss vs p) h
foreign_stops u (Symbol.Pattern k ∷ ss) vs p wanted h = says (pattern_stops k u ss vs p) h
foreign_stops u (Symbol.PatternInside k ∷ ss) vs p wanted h = says (pattern_inside_stops k u ss vs p) h
foreign_stops u (Symbol.PatternInsideVariable k ∷ ss) vs p wanted h = says (pattern_inside_variable_stops k u ss vs p) h
foreign_stops u (Symbol.AliasName k ∷ ss) vs p wanted h = says (alias_name_stops k u ss vs p) h
foreign_stops u (Symbol.Clause k ∷ ss) vs p wanted h = says (clause_stops k u ss vs p) h
foreign_stops u (Symbol.ClauseInside k ∷ ss) vs p wanted h = says (clause_inside_stops k u ss vs p) h
foreign_stops u (Symbol.ClauseInsideVariable k ∷ ss) vs p wanted h = says (clause_inside_variable_stops k u ss vs p) h
foreign_stops u (Symbol.ClauseTwiceInside k ∷ ss) vs p wanted h = says (clause_twice_inside_stops k u ss vs p) h
foreign_stops u (Symbol.ClauseTwiceInsideVariable k ∷ ss) vs p wanted h = says (clause_twice_inside_variable_stops k u ss vs p) h
foreign_stops u (Symbol.ClauseTwiceInsideAnnotated k ∷ ss) vs p wanted h = says (clause_twice_inside_annotated_stops k u ss vs p) h
foreign_stops u (Symbol.ClauseMiddle k ∷ ss) vs p wanted h = says (clause_middle_stops k u ss vs p) h
foreign_stops u (Symbol.ClausesRest k ∷ ss) vs p wanted h = says (clauses_rest_stops k u ss vs p) h
foreign_stops u (Symbol.ModuleEnd ∷ ss) vs p wanted h = says (module_end_stops u ss vs p) h
foreign_stops u (Symbol.ArgumentsFirst ∷ ss) vs p wanted h = says (arguments_first_stops u ss vs p) h
foreign_stops u (Symbol.Argument i ∷ ss) vs p wanted h = says (argument_stops i u ss vs p) h
foreign_stops u (Symbol.ArgumentsRest i ∷ ss) vs p wanted h = says (arguments_rest_stops i u ss vs p) h

-- an integer is no operand of a `call`

abbrev pub operand_free : Move → Bool
operand_free (No wanted) = true
operand_free (Go ss vs needs) = not (has_operand needs)

bare_is_free : (x : Part) (ss : Symbols) (vs : Values) (p : Place) → operand_free (M.bare x (Kind.Natural 0) p ss vs) ≡ true
bare_is_free Part.Module ss vs p = refl
bare_is_free Part.Name ss vs p = refl
bare_is_free Part.Atom ss vs p = refl
bare_is_free Part.Operand ss vs p = refl
bare_is_free Part.Variable ss vs p = refl
bare_is_free (Part.Constant k) ss vs p = refl
bare_is_free (Part.Fun k) ss vs p = refl
bare_is_free (Part.Expression k) ss vs p = refl

term_is_free : (x : Term) (ss : Symbols) (vs : Values) (p : Place) → operand_free (M.term x (Kind.Natural 0) p ss vs) ≡ true
term_is_free (Term.Expression k) ss vs p = refl
term_is_free (Term.Pattern k) ss vs p = refl
term_is_free (Term.Constant k) ss vs p = refl

item_is_free : (x : Element) (ss : Symbols) (vs : Values) (p : Place) → operand_free (M.item x (Kind.Natural 0) p ss vs) ≡ true
item_is_free Element.Variable ss vs p = refl
item_is_free Element.Export ss vs p = refl
item_is_free Element.Attribute ss vs p = refl
item_is_free (Element.Term x) ss vs p = term_is_free x ss vs p

other_tail_is_free : (x : Term) (ss : Symbols) (vs : Values) (p : Place) → operand_free (M.other_tail x (Kind.Natural 0) p ss vs) ≡ true
other_tail_is_free (Term.Expression k) ss vs p = refl
other_tail_is_free (Term.Pattern k) ss vs p = refl
other_tail_is_free (Term.Constant k) ss vs p = refl

choice_is_free : {a : Bool} (x f : Move) → a ≡ false → operand_free f ≡ true → operand_free (if a then x else f) ≡ true
choice_is_free x f is h = ap (λ a. operand_free (if a then x else f)) is ∙ h

pub integer_is_free : (ss : Symbols) (vs : Values) (p : Place) → operand_free (move ss vs (Kind.Natural 0) p) ≡ true
integer_is_free [] vs p = refl
integer_is_free (Symbol.Annotated x ∷ ss) vs p = bare_is_free x ss vs p
integer_is_free (Symbol.Bare x ∷ ss) vs p = bare_is_free x ss vs p
integer_is_free (Symbol.AfterAtom ∷ ss) vs p = integer_is_free ss (literal vs) p
integer_is_free (Symbol.Item x ∷ ss) vs p = item_is_free x ss vs p
integer_is_free (Symbol.First x c ∷ ss) vs p = choice_is_free (Go ss vs []) _ (integer_closes_none c) (item_is_free x (Symbol.Make (Maker.Push x) ∷ Symbol.Rest x c ∷ ss) vs p)
integer_is_free (Symbol.Rest x c ∷ ss) vs p = choice_is_free (Go ss vs []) (No Wanted.Other) (integer_closes_none c) refl
integer_is_free (Symbol.CellsFirst x ∷ ss) vs p = term_is_free (deeper x) (Symbol.Make (Maker.Push (Element.Term (deeper x))) ∷ Symbol.CellsRest x ∷ ss) vs p
integer_is_free (Symbol.TailFirst x ∷ ss) vs p = term_is_free (deeper x) (Symbol.Make (Maker.Push (Element.Term (deeper x))) ∷ Symbol.CellsRest x ∷ ss) vs p
integer_is_free (Symbol.Tail x ∷ ss) vs p = other_tail_is_free x (Symbol.Make (Maker.Join x) ∷ ss) vs p
integer_is_free (Symbol.AfterVariable k ∷ ss) vs p = integer_is_free ss (variable_pattern vs) p
integer_is_free (Symbol.Definitions k ∷ ss) vs p = integer_is_free ss vs p
integer_is_free (Symbol.Make maker ∷ ss) vs p = integer_is_free ss (made maker vs) p
integer_is_free (s ∷ ss) vs p = refl

-- ends

module _ (z : Place) where
  abbrev zero : Terminal
  zero = token (Kind.Natural 0) z

  abbrev zero_expression : Expr
  zero_expression = expression_at z (Node-F.Int (pos 0))

  abbrev zero_pattern : Pattern
  zero_pattern = pattern_at z (PatNode-F.Int (pos 0))

  -- `when 0 -> 0`
  abbrev clause_end : List Terminal → List Terminal
  clause_end us = mark Mark.When z ∷ zero ∷ mark Mark.Arrow z ∷ zero ∷ us

  -- `-| [] )`
  abbrev notes_end : List Terminal → List Terminal
  notes_end us = mark Mark.Dash z ∷ mark Mark.OpenSquare z ∷ mark Mark.CloseSquare z ∷ mark Mark.CloseRound z ∷ us

  abbrev part_end : Part → List Terminal → List Terminal
  part_end Part.Module us =
      mark Mark.Module z ∷ token (Kind.Atom []) z ∷ mark Mark.OpenSquare z ∷ mark Mark.CloseSquare z ∷ mark Mark.Attributes z ∷ mark Mark.OpenSquare z
      ∷ mark Mark.CloseSquare z ∷ mark Mark.End z ∷ us
  part_end Part.Name us = token (Kind.Atom []) z ∷ mark Mark.Slash z ∷ zero ∷ us
  part_end Part.Atom us = token (Kind.Atom []) z ∷ us
  part_end Part.Operand us = token (Kind.Atom []) z ∷ us
  part_end Part.Variable us = token (Kind.Variable []) z ∷ us
  part_end (Part.Constant k) us = zero ∷ us
  part_end (Part.Fun k) us = mark Mark.Fun z ∷ mark Mark.OpenRound z ∷ mark Mark.CloseRound z ∷ mark Mark.Arrow z ∷ zero ∷ us
  part_end (Part.Expression k) us = zero ∷ us

  abbrev item_end : Element → List Terminal → List Terminal
  item_end Element.Variable us = token (Kind.Variable []) z ∷ us
  item_end Element.Export us = token (Kind.Atom []) z ∷ mark Mark.Slash z ∷ zero ∷ us
  item_end Element.Attribute us = token (Kind.Atom []) z ∷ mark Mark.Equals z ∷ zero ∷ us
  item_end (Element.Term x) us = zero ∷ us

  abbrev end_of : Symbol → List Terminal → List Terminal
  end_of (Symbol.Wants m) us = mark m z ∷ us
  end_of (Symbol.Annotated x) us = part_end x us
  end_of (Symbol.Bare x) us = part_end x us
  end_of Symbol.AfterAtom us = us
  end_of Symbol.Arity us = zero ∷ us
  end_of (Symbol.Item x) us = item_end x us
  end_of (Symbol.First x c) us = mark (closing c) z ∷ us
  end_of (Symbol.Rest x c) us = mark (closing c) z ∷ us
  end_of (Symbol.CellsFirst x) us = mark Mark.CloseSquare z ∷ us
  end_of (Symbol.CellsRest x) us = mark Mark.CloseSquare z ∷ us
  end_of (Symbol.Tail x) us = zero ∷ us
  end_of (Symbol.ExpressionTailInside k) us = zero ∷ notes_end us
  end_of (Symbol.PatternTailInside k) us = zero ∷ notes_end us
  end_of (Symbol.TailFirst x) us = mark Mark.CloseSquare z ∷ us
  end_of Symbol.Variables us = token (Kind.Variable []) z ∷ us
  end_of (Symbol.Pattern k) us = zero ∷ us
  end_of (Symbol.PatternInside k) us = zero ∷ notes_end us
  end_of (Symbol.PatternInsideVariable k) us = notes_end us
  end_of (Symbol.AliasName k) us = token (Kind.Variable []) z ∷ us
  end_of (Symbol.AfterVariable k) us = us
  end_of (Symbol.Clause k) us = zero ∷ clause_end us
  end_of (Symbol.ClauseInside k) us = zero ∷ clause_end (notes_end us)
  end_of (Symbol.ClauseInsideVariable k) us = clause_end (notes_end us)
  end_of (Symbol.ClauseTwiceInside k) us = zero ∷ notes_end (clause_end (notes_end us))
  end_of (Symbol.ClauseTwiceInsideVariable k) us = notes_end (clause_end (notes_end us))
  end_of (Symbol.ClauseTwiceInsideAnnotated k) us = clause_end (notes_end us)
  end_of (Symbol.ClauseMiddle k) us = clause_end (notes_end us)
  end_of (Symbol.ClausesRest k) us = mark Mark.End z ∷ us
  end_of (Symbol.Definitions k) us = us
  end_of Symbol.ModuleEnd us = mark Mark.End z ∷ us
  end_of Symbol.ArgumentsFirst us = mark Mark.CloseRound z ∷ us
  end_of (Symbol.Argument i) us = zero ∷ us
  end_of (Symbol.ArgumentsRest i) us = mark Mark.CloseRound z ∷ us
  end_of (Symbol.Make m) us = us

  abbrev pub ending : Symbols → List Terminal
  ending [] = []
  ending (s ∷ ss) = end_of s (ending ss)

  part_longer : (x : Part) (us : List Terminal) → length us ≤ length (part_end x us)
  part_longer Part.Module us = omega arith
  part_longer Part.Name us = omega arith
  part_longer Part.Atom us = omega arith
  part_longer Part.Operand us = omega arith
  part_longer Part.Variable us = omega arith
  part_longer (Part.Constant k) us = omega arith
  part_longer (Part.Fun k) us = omega arith
  part_longer (Part.Expression k) us = omega arith

  item_longer : (x : Element) (us : List Terminal) → length us ≤ length (item_end x us)
  item_longer Element.Variable us = omega arith
  item_longer Element.Export us = omega arith
  item_longer Element.Attribute us = omega arith
  item_longer (Element.Term x) us = omega arith

  longer : (s : Symbol) (us : List Terminal) → length us ≤ length (end_of s us)
  longer (Symbol.Annotated x) us = part_longer x us
  longer (Symbol.Bare x) us = part_longer x us
  longer (Symbol.Item x) us = item_longer x us
  longer _ us = omega arith

  module _ (ok : Leave) (n : ℕ) (may : (k : ℕ) (us : List Terminal) → length us ≤ n → ok (part k) us ≡ true) (may_argument : (i : ℕ) (us : List Terminal) → length us ≤ n → ok (argument i) us ≡ true) where
    bare_integer : (k : ℕ) (us : List Terminal) → suc (length us) ≤ n → G.BareExpression ok k zero_expression (zero ∷ us) us
    bare_integer k us le = G.integer z (G.digits 0) (may k (zero ∷ us) le)

    integer_ends : (k : ℕ) (us : List Terminal) → suc (length us) ≤ n → G.ExpressionOf ok k zero_expression (zero ∷ us) us
    integer_ends k us le = G.expression_bare (bare_integer k us le)

    constant_ends : (k : ℕ) (us : List Terminal) → suc (length us) ≤ n → G.ConstantOf ok k (constant_of (Constant-F.Int (pos 0))) (zero ∷ us) us
    constant_ends k us le = G.constant_integer z (G.digits 0) (may k (zero ∷ us) le)

    notes_ends : (us : List Terminal) → G.Annotation ok (notes_end us) us
    notes_ends us = G.annotation z z z z G.no_constants

    bare_pattern_ends : (k : ℕ) (us : List Terminal) → suc (length us) ≤ n → G.BarePattern ok k zero_pattern (zero ∷ us) us
    bare_pattern_ends k us le = G.pattern_integer z (G.digits 0) (may k (zero ∷ us) le)

    name_ends : (us : List Terminal) → G.NameOf (name_of [] 0) z (token (Kind.Atom []) z ∷ mark Mark.Slash z ∷ zero ∷ us) us
    name_ends us = G.function_name z z

    fun_ends : (k : ℕ) (us : List Terminal) → length (part_end (Part.Fun k) us) ≤ n → G.BareFun ok k z (fun_at z [] zero_expression) (part_end (Part.Fun k) us) us
    fun_ends k us le = G.«fun» z z z z (may k (part_end (Part.Fun k) us) le) G.none_of (integer_ends (k + 1) us (omega arith))

    module_ends : (us : List Terminal) → G.BareModule ok (G.module_at [] [] [] []) (part_end Part.Module us) us
    module_ends us = G.«module» [] z z z z z z z z G.none_of G.none_of G.no_definitions

    -- `when 0 -> 0` behind a pattern
    clause_ends : (k : ℕ) (f : Pattern) (ts us : List Terminal) → length (clause_end us) ≤ n → G.PatternOf ok (k + 1) f ts (clause_end us) → G.BareClause ok k (clause_at f.at (f ∷ []) zero_expression zero_expression) ts us
    clause_ends k f ts us le d = G.clause z z (G.one_pattern d) (integer_ends (k + 1) (mark Mark.Arrow z ∷ zero ∷ us) (omega arith)) (integer_ends (k + 1) us (omega arith))

    abbrev clause_with : Pattern → Clause
    clause_with f = clause_at f.at (f ∷ []) zero_expression zero_expression

    abbrev of_name : Var → Pattern
    of_name x = pattern_at x.at (PatNode-F.Var x.name)

    bare_ends : (x : Part) (us : List Terminal) → length (part_end x us) ≤ n → Sat ok (Symbol.Bare x) (part_end x us) us
    bare_ends Part.Module us le = bare_module (module_ends us)
    bare_ends Part.Name us le = bare_name (name_ends us)
    bare_ends Part.Atom us le = bare_atom (G.atom z)
    bare_ends Part.Operand us le = bare_operand (G.atom_operand (G.atom z))
    bare_ends Part.Variable us le = bare_variable {x = variable_at z []} G.variable
    bare_ends (Part.Constant k) us le = bare_constant (constant_ends k us le)
    bare_ends (Part.Fun k) us le = bare_fun (fun_ends k us le)
    bare_ends (Part.Expression k) us le = bare_expression (bare_integer k us le)

    annotated_ends : (x : Part) (us : List Terminal) → length (part_end x us) ≤ n → Sat ok (Symbol.Annotated x) (part_end x us) us
    annotated_ends Part.Module us le = module' (G.bare (module_ends us))
    annotated_ends Part.Name us le = name (G.bare (name_ends us))
    annotated_ends Part.Atom us le = atom (G.bare (G.atom z))
    annotated_ends Part.Operand us le = operand (G.bare (G.atom_operand (G.atom z)))
    annotated_ends Part.Variable us le = variable {x = variable_at z []} (G.bare G.variable)
    annotated_ends (Part.Constant k) us le = constant (G.bare (constant_ends k us le))
    annotated_ends (Part.Fun k) us le = fun (G.fun_bare (fun_ends k us le))
    annotated_ends (Part.Expression k) us le = expression (integer_ends k us le)

    term_ends : (x : Term) (us : List Terminal) → suc (length us) ≤ n → Sat ok (Symbol.Item (Element.Term x)) (zero ∷ us) us
    term_ends (Term.Expression k) us le = item_expression (integer_ends k us le)
    term_ends (Term.Pattern k) us le = item_pattern (G.pattern_bare (bare_pattern_ends k us le))
    term_ends (Term.Constant k) us le = item_constant (constant_ends k us le)

    item_ends : (x : Element) (us : List Terminal) → length (item_end x us) ≤ n → Sat ok (Symbol.Item x) (item_end x us) us
    item_ends Element.Variable us le = item_variable {x = variable_at z []} (G.bare G.variable)
    item_ends Element.Export us le = item_export {e = (name_of [] 0, z)} (G.bare (name_ends us))
    item_ends Element.Attribute us le = item_attribute (G.attribute z (G.bare (G.atom z)) (G.bare (constant_ends 1 us (omega arith))))
    item_ends (Element.Term x) us le = term_ends x us le

    symbol_ends : (s : Symbol) (us : List Terminal) → length (end_of s us) ≤ n → Sat ok s (end_of s us) us
    symbol_ends (Symbol.Wants m) us le = wants m z
    symbol_ends (Symbol.Annotated x) us le = annotated_ends x us le
    symbol_ends (Symbol.Bare x) us le = bare_ends x us le
    symbol_ends Symbol.AfterAtom us le = no_arity
    symbol_ends Symbol.Arity us le = arity 0 z
    symbol_ends (Symbol.Item x) us le = item_ends x us le
    symbol_ends (Symbol.First x c) us le = first_none z
    symbol_ends (Symbol.Rest x c) us le = rest_none z
    symbol_ends (Symbol.CellsFirst x) us le = cells_none z
    symbol_ends (Symbol.CellsRest x) us le = cells_end z
    symbol_ends (Symbol.Tail x) us le = tail (term_ends x us le)
    symbol_ends (Symbol.ExpressionTailInside k) us le = expression_tail_inside (λ o. G.expression_annotated o (bare_integer k (notes_end us) le) (notes_ends us))
    symbol_ends (Symbol.PatternTailInside k) us le = pattern_tail_inside (λ o. G.pattern_annotated o (bare_pattern_ends k (notes_end us) le) (notes_ends us))
    symbol_ends (Symbol.TailFirst x) us le = tail_first (cells_none z)
    symbol_ends Symbol.Variables us le = variables (G.one_variable {x = variable_at z []} (G.bare G.variable))
    symbol_ends (Symbol.Pattern k) us le = pattern' (G.pattern_bare (bare_pattern_ends k us le))
    symbol_ends (Symbol.PatternInside k) us le = pattern_inside (λ o. G.pattern_annotated o (bare_pattern_ends k (notes_end us) le) (notes_ends us))
    symbol_ends (Symbol.PatternInsideVariable k) us le = pattern_inside_variable of_name (λ o x h. G.pattern_annotated o (G.pattern_variable x.name x.at h) (notes_ends us))
    symbol_ends (Symbol.AliasName k) us le = alias_name (variable_at z []) (may k (token (Kind.Variable []) z ∷ us) le)
    symbol_ends (Symbol.AfterVariable k) us le = no_alias
    symbol_ends (Symbol.Clause k) us le = clause (G.clause_bare (clause_ends k zero_pattern (zero ∷ clause_end us) us (omega arith) (G.pattern_bare (bare_pattern_ends (k + 1) (clause_end us) le))))
    symbol_ends (Symbol.ClauseInside k) us le = clause_inside (λ o. G.clause_annotated o (clause_ends k zero_pattern (zero ∷ clause_end (notes_end us)) (notes_end us) (omega arith) (G.pattern_bare (bare_pattern_ends (k + 1) (clause_end (notes_end us)) le))) (notes_ends us))
    symbol_ends (Symbol.ClauseInsideVariable k) us le = clause_inside_variable (λ x. clause_with (of_name x)) (λ o x h. G.clause_annotated o (clause_ends k (of_name x) (of_variable x ∷ clause_end (notes_end us)) (notes_end us) le (G.pattern_bare (G.pattern_variable x.name x.at h))) (notes_ends us))
    symbol_ends (Symbol.ClauseTwiceInside k) us le = clause_twice_inside (λ o q. G.clause_annotated o (clause_ends k zero_pattern (mark Mark.OpenRound q ∷ zero ∷ notes_end (clause_end (notes_end us))) (notes_end us) (omega arith) (G.pattern_annotated q (bare_pattern_ends (k + 1) (notes_end (clause_end (notes_end us))) le) (notes_ends (clause_end (notes_end us))))) (notes_ends us))
    symbol_ends (Symbol.ClauseTwiceInsideVariable k) us le = clause_twice_inside_variable (λ x. clause_with (of_name x)) (λ o q x h. G.clause_annotated o (clause_ends k (of_name x) (mark Mark.OpenRound q ∷ of_variable x ∷ notes_end (clause_end (notes_end us))) (notes_end us) (omega arith) (G.pattern_annotated q (G.pattern_variable x.name x.at h) (notes_ends (clause_end (notes_end us))))) (notes_ends us))
    symbol_ends (Symbol.ClauseTwiceInsideAnnotated k) us le = clause_twice_inside_annotated (λ x. clause_with (of_name x)) (λ o q x vs h m. G.clause_annotated o (clause_ends k (of_name x) (mark Mark.OpenRound q ∷ of_variable x ∷ vs) (notes_end us) le (G.pattern_annotated q (G.pattern_variable x.name x.at h) m)) (notes_ends us))
    symbol_ends (Symbol.ClauseMiddle k) us le = clause_middle clause_with (λ f o ws d. G.clause_annotated o (clause_ends k f ws (notes_end us) le (G.pattern_bare d)) (notes_ends us))
    symbol_ends (Symbol.ClausesRest k) us le = clauses_none z
    symbol_ends (Symbol.Definitions k) us le = definitions G.no_definitions
    symbol_ends Symbol.ModuleEnd us le = module_end z
    symbol_ends Symbol.ArgumentsFirst us le = arguments_first z G.no_arguments
    symbol_ends (Symbol.Argument i) us le = argument' (may_argument i (zero ∷ us) le) (constant_ends 1 us le)
    symbol_ends (Symbol.ArgumentsRest i) us le = arguments_none z
    symbol_ends (Symbol.Make m) us le = make

    pub ends : (ss : Symbols) → length (ending ss) ≤ n → Holds ok ss (ending ss)
    ends [] le = done
    ends (s ∷ ss) le = on (symbol_ends s (ending ss) le) (ends ss (let a : length (ending ss) ≤ length (end_of s (ending ss)) = longer s (ending ss) in omega arith))
