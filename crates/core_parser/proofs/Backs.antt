-- Where the moves of parts, patterns, elements and lists lead, the grammar leads.
use Rattle.std.proofs.Common.{◌≡◌, ℕ, ◌+◌, List, [], ◌∷◌, Bool, true, false, ◌&&◌, if◌then◌else◌, refl, sym, subst}
use Rattle.hipe_terms.specs.declared.place.Place.{Place}
use Rattle.core_ast.specs.declared.pattern.Var.{Var}
use Rattle.core_ast.specs.declared.pattern.Pattern.{Pattern}
use Rattle.core_ast.specs.declared.pattern.PatNode.TheOpen.{PatNode-F}
use Rattle.core_ast.specs.declared.tree.Expr.{Expr}
use Rattle.core_grammar.specs.declared.terminal.Kind.{Kind}
use Rattle.core_grammar.specs.declared.terminal.Mark.{Mark}
use Rattle.core_grammar.specs.declared.terminal.Terminal.{Terminal}
use Rattle.core_grammar.specs.Trees.{variable_at, pattern_at, name_of}
use Rattle.core_grammar.specs.Leave.{part, Leave, token, mark}
use Rattle.core_grammar.specs.Grammar as G
use Rattle.core_parser.specs.declared.symbol.Closer.{Closer}
use Rattle.core_parser.specs.declared.symbol.Element.{Element}
use Rattle.core_parser.specs.declared.symbol.Maker.{Maker}
use Rattle.core_parser.specs.declared.symbol.Part.{Part}
use Rattle.core_parser.specs.declared.symbol.Symbol.{Symbol}
use Rattle.core_parser.specs.declared.symbol.Term.{Term}
use Rattle.core_parser.specs.Values.{Values}
use Rattle.core_parser.specs.Machine.{Symbols, Move, Go, No, move, all_ok, closes, deeper, annotation, annotation_list, alias_of, arguments}
use Rattle.core_parser.specs.Machine as M
use Rattle.core_parser.proofs.Steps.{closing}
use Rattle.core_parser.proofs.Meaning.{wants, make, bare_module, bare_name, bare_atom, bare_operand, bare_variable, bare_constant, bare_fun, bare_expression, module', name, atom, operand, variable, constant, fun, expression, no_arity, slash, arity, item_variable, item_export, item_attribute, item_expression, item_pattern, item_constant, first_none, first_some, rest_none, rest_more, cells_none, cells_some, cells_end, cells_more, cells_tail, tail, expression_tail_inside, pattern_tail_inside, tail_first, variables, pattern', pattern_inside, pattern_inside_variable, alias_name, no_alias, equals, clause, clauses_none, clauses_some, definitions, module_end, Holds, on, of_variable, expressions_of, all_expressions, patterns_of, all_patterns, constants_of, all_constants, variables_of, all_variables, exports_of, all_exports, attributes_of, all_attributes, expression_list, found_expression, pattern_list, found_pattern, constant_list, found_constant, annotation_list_of, annotation_of, held_annotation, arguments_of, HeldArguments, held_arguments}

-- what closes is what closes
closes_is : (c : Closer) (t : Kind) → closes c t ≡ true → t ≡ Kind.Mark (closing c)
closes_is Closer.Round (Kind.Mark Mark.CloseRound) h = refl
closes_is Closer.Brace (Kind.Mark Mark.CloseBrace) h = refl
closes_is Closer.Square (Kind.Mark Mark.CloseSquare) h = refl
closes_is Closer.Angle (Kind.Mark Mark.Greater) h = refl
closes_is Closer.Round _ h = cc
closes_is Closer.Brace _ h = cc
closes_is Closer.Square _ h = cc
closes_is Closer.Angle _ h = cc

module _ (ok : Leave) where
  -- where a move leads, X held before
  abbrev pub Backs : Move → Terminal → List Terminal → Type 0 → Type 0
  Backs (No wanted) t ts X = Unit {0}
  Backs (Go ss vs needs) t ts X = all_ok ok needs (t ∷ ts) ≡ true → Holds ok ss ts → X

  pub widen : {X Y : Type 0} (m : Move) (t : Terminal) (ts : List Terminal) → (X → Y) → Backs m t ts X → Backs m t ts Y
  widen (No wanted) t ts f b = tt
  widen (Go ss vs needs) t ts f b = λ o h. f (b o h)

  pub alone : (b : Bool) → (b && true) ≡ true → b ≡ true
  alone true h = refl
  alone false h = h

  pub and_parts : (a b : Bool) → (a && b) ≡ true → (a ≡ true) × (b ≡ true)
  and_parts true b h = (refl, h)
  and_parts false b h = (h, absurd (let f : ⊥ = cc in f))

  -- names

  pub atom_back : (t : Kind) (p : Place) (ss : Symbols) (vs : Values) (ts : List Terminal) → Backs (M.bare_atom t ss vs) (token t p) ts (Holds ok (Symbol.Bare Part.Atom ∷ ss) (token t p ∷ ts))
  atom_back (Kind.Atom a) p ss vs ts = λ o h. on (bare_atom (G.atom p)) h
  atom_back _ p ss vs ts = tt

  operand_back : (t : Kind) (p : Place) (ss : Symbols) (vs : Values) (ts : List Terminal) → Backs (M.bare_operand t ss vs) (token t p) ts (Holds ok (Symbol.Bare Part.Operand ∷ ss) (token t p ∷ ts))
  operand_back (Kind.Atom a) p ss vs ts = λ o h. on (bare_operand (G.atom_operand (G.atom p))) h
  operand_back (Kind.Variable x) p ss vs ts = λ o h. on (bare_operand (G.operand_variable x p (alone _ o))) h
  operand_back _ p ss vs ts = tt

  variable_back : (t : Kind) (p : Place) (ss : Symbols) (vs : Values) (ts : List Terminal) → Backs (M.bare_variable t p ss vs) (token t p) ts (Holds ok (Symbol.Bare Part.Variable ∷ ss) (token t p ∷ ts))
  variable_back (Kind.Variable x) p ss vs ts = λ o h. on (bare_variable {x = variable_at p x} G.variable) h
  variable_back _ p ss vs ts = tt

  pub name_symbols_back : (a : List ℕ) (p : Place) (ss : Symbols) (ts : List Terminal) → Holds ok (Symbol.Wants Mark.Slash ∷ Symbol.Arity ∷ ss) ts → Holds ok (Symbol.Bare Part.Name ∷ ss) (token (Kind.Atom a) p ∷ ts)
  name_symbols_back a p ss ts (on (wants _ q) (on (arity n r) h)) = on (bare_name {f = name_of a n} {p = p} (G.function_name q r)) h

  name_back : (t : Kind) (p : Place) (ss : Symbols) (vs : Values) (ts : List Terminal) → Backs (M.bare_name t p ss vs) (token t p) ts (Holds ok (Symbol.Bare Part.Name ∷ ss) (token t p ∷ ts))
  name_back (Kind.Atom a) p ss vs ts = λ o h. name_symbols_back a p ss ts h
  name_back _ p ss vs ts = tt

  slash_back : (p : Place) (ss : Symbols) (ts : List Terminal) → Holds ok (Symbol.Arity ∷ Symbol.Make Maker.Name ∷ ss) ts → Holds ok (Symbol.AfterAtom ∷ ss) (mark Mark.Slash p ∷ ts)
  slash_back p ss ts (on (arity n q) (on make h)) = on (slash n p q) h

  pub after_atom_back : (t : Kind) (p : Place) (ss : Symbols) (vs : Values) (ts : List Terminal) (m : Move) → Backs m (token t p) ts (Holds ok ss (token t p ∷ ts)) → Backs (M.after_atom t ss vs m) (token t p) ts (Holds ok (Symbol.AfterAtom ∷ ss) (token t p ∷ ts))
  after_atom_back (Kind.Mark Mark.Slash) p ss vs ts m b = λ o h. slash_back p ss ts h
  after_atom_back t p ss vs ts m b = widen m (token t p) ts (λ (h : Holds ok ss (token t p ∷ ts)). on no_arity h) b

  pub arity_back : (t : Kind) (p : Place) (ss : Symbols) (vs : Values) (ts : List Terminal) → Backs (M.arity t ss vs) (token t p) ts (Holds ok (Symbol.Arity ∷ ss) (token t p ∷ ts))
  arity_back (Kind.Natural n) p ss vs ts = λ o h. on (arity n p) h
  arity_back _ p ss vs ts = tt

  -- constants

  constant_square : (k : ℕ) (p : Place) (ss : Symbols) (ts : List Terminal) → Holds ok (Symbol.CellsFirst (Term.Constant k) ∷ ss) ts → ok (part k) (mark Mark.OpenSquare p ∷ ts) ≡ true → Holds ok (Symbol.Bare (Part.Constant k) ∷ ss) (mark Mark.OpenSquare p ∷ ts)
  constant_square k p ss ts (on {us = us} d h) o = elim (constant_list ok k p ts us o d) [ found_constant c ↦ on (bare_constant c) h ]

  constant_brace : (k : ℕ) (p : Place) (ss : Symbols) (ts : List Terminal) → Holds ok (Symbol.First (Element.Term (Term.Constant (k + 1))) Closer.Brace ∷ Symbol.Make (Maker.Tuple (Term.Constant k)) ∷ ss) ts → ok (part k) (mark Mark.OpenBrace p ∷ ts) ≡ true → Holds ok (Symbol.Bare (Part.Constant k) ∷ ss) (mark Mark.OpenBrace p ∷ ts)
  constant_brace k p ss ts (on {us = us} d (on make h)) o = elim (constants_of ok (k + 1) Closer.Brace ts us d) [ all_constants q cs ↦ on (bare_constant (G.constant_tuple p q o cs)) h ]

  pub constant_back : (k : ℕ) (t : Kind) (p : Place) (ss : Symbols) (vs : Values) (ts : List Terminal) → Backs (M.constant k t p ss vs) (token t p) ts (Holds ok (Symbol.Bare (Part.Constant k) ∷ ss) (token t p ∷ ts))
  constant_back k (Kind.Natural n) p ss vs ts = λ o h. on (bare_constant (G.constant_integer p (G.digits n) (alone _ o))) h
  constant_back k (Kind.Integer n) p ss vs ts = λ o h. on (bare_constant (G.constant_integer p (G.signed_or_character n) (alone _ o))) h
  constant_back k (Kind.Text s) p ss vs ts = λ o h. on (bare_constant (G.constant_characters s p (alone _ o))) h
  constant_back k (Kind.Atom a) p ss vs ts = λ o h. on (bare_constant (G.constant_atom a p (alone _ o))) h
  constant_back k (Kind.Mark Mark.OpenSquare) p ss vs ts = λ o h. constant_square k p ss ts h (alone _ o)
  constant_back k (Kind.Mark Mark.OpenBrace) p ss vs ts = λ o h. constant_brace k p ss ts h (alone _ o)
  constant_back k _ p ss vs ts = tt

  -- expressions

  fun_symbols_back : (k : ℕ) (p : Place) (ss : Symbols) (ts : List Terminal) → Holds ok (Symbol.Wants Mark.OpenRound ∷ Symbol.First Element.Variable Closer.Round ∷ Symbol.Wants Mark.Arrow ∷ M.expression (k + 1) (Symbol.Make Maker.Fun ∷ ss)) ts → ok (part k) (mark Mark.Fun p ∷ ts) ≡ true → Holds ok (Symbol.Bare (Part.Fun k) ∷ ss) (mark Mark.Fun p ∷ ts)
  fun_symbols_back k p ss ts (on (wants _ q) (on {ts = xs} {us = ys} d (on (wants _ s) (on (expression e) (on make h))))) o = elim (variables_of ok Closer.Round xs ys d) [ all_variables r vs ↦ on (bare_fun (G.«fun» p q r s o vs e)) h ]

  fun_back : (k : ℕ) (t : Kind) (p : Place) (ss : Symbols) (vs : Values) (ts : List Terminal) → Backs (M.bare_fun k t p ss vs) (token t p) ts (Holds ok (Symbol.Bare (Part.Fun k) ∷ ss) (token t p ∷ ts))
  fun_back k (Kind.Mark Mark.Fun) p ss vs ts = λ o h. fun_symbols_back k p ss ts h (alone _ o)
  fun_back k _ p ss vs ts = tt

  expression_atom : (k : ℕ) (a : List ℕ) (p : Place) (ss : Symbols) (ts : List Terminal) → Holds ok (Symbol.AfterAtom ∷ ss) ts → ok (part k) (token (Kind.Atom a) p ∷ ts) ≡ true → Holds ok (Symbol.Bare (Part.Expression k) ∷ ss) (token (Kind.Atom a) p ∷ ts)
  expression_atom k a p ss ts (on no_arity h) o = on (bare_expression (G.literal a p o)) h
  expression_atom k a p ss ts (on (slash n q r) h) o = on (bare_expression (G.function {f = name_of a n} {p = p} o (G.function_name q r))) h

  expression_square : (k : ℕ) (p : Place) (ss : Symbols) (ts : List Terminal) → Holds ok (Symbol.CellsFirst (Term.Expression k) ∷ ss) ts → ok (part k) (mark Mark.OpenSquare p ∷ ts) ≡ true → Holds ok (Symbol.Bare (Part.Expression k) ∷ ss) (mark Mark.OpenSquare p ∷ ts)
  expression_square k p ss ts (on {us = us} d h) o = elim (expression_list ok k p ts us o d) [ found_expression e ↦ on (bare_expression e) h ]

  expression_brace : (k : ℕ) (p : Place) (ss : Symbols) (ts : List Terminal) → Holds ok (Symbol.First (Element.Term (Term.Expression (k + 1))) Closer.Brace ∷ Symbol.Make (Maker.Tuple (Term.Expression k)) ∷ ss) ts → ok (part k) (mark Mark.OpenBrace p ∷ ts) ≡ true → Holds ok (Symbol.Bare (Part.Expression k) ∷ ss) (mark Mark.OpenBrace p ∷ ts)
  expression_brace k p ss ts (on {us = us} d (on make h)) o = elim (expressions_of ok (k + 1) Closer.Brace ts us d) [ all_expressions q es ↦ on (bare_expression (G.tuple p q o es)) h ]

  expression_less : (k : ℕ) (p : Place) (ss : Symbols) (ts : List Terminal) → Holds ok (Symbol.First (Element.Term (Term.Expression (k + 1))) Closer.Angle ∷ Symbol.Make Maker.Values ∷ ss) ts → ok (part k) (mark Mark.Less p ∷ ts) ≡ true → Holds ok (Symbol.Bare (Part.Expression k) ∷ ss) (mark Mark.Less p ∷ ts)
  expression_less k p ss ts (on {us = us} d (on make h)) o = elim (expressions_of ok (k + 1) Closer.Angle ts us d) [ all_expressions q es ↦ on (bare_expression (G.values p q o es)) h ]

  expression_let : (k : ℕ) (p : Place) (ss : Symbols) (ts : List Terminal) → Holds ok (Symbol.Variables ∷ Symbol.Wants Mark.Equals ∷ M.expression (k + 1) (Symbol.Wants Mark.In ∷ M.expression (k + 1) (Symbol.Make Maker.Let ∷ ss))) ts → ok (part k) (mark Mark.Let p ∷ ts) ≡ true → Holds ok (Symbol.Bare (Part.Expression k) ∷ ss) (mark Mark.Let p ∷ ts)
  expression_let k p ss ts (on (variables xs) (on (wants _ q) (on (expression d) (on (wants _ r) (on (expression e) (on make h)))))) o = on (bare_expression (G.«let» p q r o xs d e)) h

  expression_case : (k : ℕ) (p : Place) (ss : Symbols) (ts : List Terminal) → Holds ok (M.expression (k + 1) (Symbol.Wants Mark.Of ∷ Symbol.Make Maker.NoClauses ∷ Symbol.Clause (k + 1) ∷ Symbol.ClausesRest (k + 1) ∷ ss)) ts → ok (part k) (mark Mark.Case p ∷ ts) ≡ true → Holds ok (Symbol.Bare (Part.Expression k) ∷ ss) (mark Mark.Case p ∷ ts)
  expression_case k p ss ts (on (expression d) (on (wants _ q) (on make (on (clause c) (on (clauses_none r) h))))) o = on (bare_expression (G.case p q r o d (G.last_clause c))) h
  expression_case k p ss ts (on (expression d) (on (wants _ q) (on make (on (clause c) (on (clauses_some r cs) h))))) o = on (bare_expression (G.case p q r o d (G.more_clauses c cs))) h

  expression_lambda : (k : ℕ) (ss : Symbols) (ts : List Terminal) → Holds ok (Symbol.Bare (Part.Fun k) ∷ Symbol.Make Maker.Lambda ∷ ss) ts → Holds ok (Symbol.Bare (Part.Expression k) ∷ ss) ts
  expression_lambda k ss ts (on (bare_fun d) (on make h)) = on (bare_expression (G.lambda d)) h

  expression_letrec : (k : ℕ) (p : Place) (ss : Symbols) (ts : List Terminal) → Holds ok (Symbol.Make Maker.NoDefinitions ∷ Symbol.Definitions (k + 1) ∷ Symbol.Wants Mark.In ∷ M.expression (k + 1) (Symbol.Make Maker.Letrec ∷ ss)) ts → ok (part k) (mark Mark.Letrec p ∷ ts) ≡ true → Holds ok (Symbol.Bare (Part.Expression k) ∷ ss) (mark Mark.Letrec p ∷ ts)
  expression_letrec k p ss ts (on make (on (definitions ds) (on (wants _ q) (on (expression e) (on make h))))) o = on (bare_expression (G.letrec p q o ds e)) h

  apply_arguments : (k : ℕ) (p : Place) (e : Expr) (ss : Symbols) (ts us : List Terminal) → G.ExpressionOf ok (k + 1) e ts us → HeldArguments ok (k + 1) ss us → ok (part k) (mark Mark.Apply p ∷ ts) ≡ true → Holds ok (Symbol.Bare (Part.Expression k) ∷ ss) (mark Mark.Apply p ∷ ts)
  apply_arguments k p e ss ts us d (held_arguments q r es h) o = on (bare_expression (G.apply p q r o d es)) h

  expression_apply : (k : ℕ) (p : Place) (ss : Symbols) (ts : List Terminal) → Holds ok (M.expression (k + 1) (arguments (k + 1) Maker.Apply ss)) ts → ok (part k) (mark Mark.Apply p ∷ ts) ≡ true → Holds ok (Symbol.Bare (Part.Expression k) ∷ ss) (mark Mark.Apply p ∷ ts)
  expression_apply k p ss ts (on {us = us} (expression {e = e} d) h) o = apply_arguments k p e ss ts us d (arguments_of ok (k + 1) Maker.Apply ss us h) o

  call_arguments : (k : ℕ) (p q : Place) (m f : List ℕ) (ss : Symbols) (ts us ws : List Terminal) → G.Annotated ok (G.Operand ok m) ts (mark Mark.Colon q ∷ us) → G.Annotated ok (G.Operand ok f) us ws → HeldArguments ok (k + 1) ss ws → ok (part k) (mark Mark.Call p ∷ ts) ≡ true → Holds ok (Symbol.Bare (Part.Expression k) ∷ ss) (mark Mark.Call p ∷ ts)
  call_arguments k p q m f ss ts us ws a b (held_arguments r s es h) o = on (bare_expression (G.call p q r s o a b es)) h

  expression_call : (k : ℕ) (p : Place) (ss : Symbols) (ts : List Terminal) → Holds ok (Symbol.Annotated Part.Operand ∷ Symbol.Wants Mark.Colon ∷ Symbol.Annotated Part.Operand ∷ arguments (k + 1) Maker.Call ss) ts → ok (part k) (mark Mark.Call p ∷ ts) ≡ true → Holds ok (Symbol.Bare (Part.Expression k) ∷ ss) (mark Mark.Call p ∷ ts)
  expression_call k p ss ts (on (operand {a = m} a) (on (wants _ q) (on {ts = us} {us = ws} (operand {a = f} b) h))) o = call_arguments k p q m f ss ts us ws a b (arguments_of ok (k + 1) Maker.Call ss ws h) o

  primop_arguments : (k : ℕ) (p : Place) (f : List ℕ) (ss : Symbols) (ts us : List Terminal) → G.Annotated ok (G.AtomOf f) ts us → HeldArguments ok (k + 1) ss us → ok (part k) (mark Mark.Primop p ∷ ts) ≡ true → Holds ok (Symbol.Bare (Part.Expression k) ∷ ss) (mark Mark.Primop p ∷ ts)
  primop_arguments k p f ss ts us a (held_arguments q r es h) o = on (bare_expression (G.primop p q r o a es)) h

  expression_primop : (k : ℕ) (p : Place) (ss : Symbols) (ts : List Terminal) → Holds ok (Symbol.Annotated Part.Atom ∷ arguments (k + 1) Maker.Primop ss) ts → ok (part k) (mark Mark.Primop p ∷ ts) ≡ true → Holds ok (Symbol.Bare (Part.Expression k) ∷ ss) (mark Mark.Primop p ∷ ts)
  expression_primop k p ss ts (on {us = us} (atom {a = f} a) h) o = primop_arguments k p f ss ts us a (arguments_of ok (k + 1) Maker.Primop ss us h) o

  expression_try : (k : ℕ) (p : Place) (ss : Symbols) (ts : List Terminal) → Holds ok (M.expression (k + 1) (Symbol.Wants Mark.Of ∷ Symbol.Variables ∷ Symbol.Wants Mark.Arrow ∷ M.expression (k + 1) (Symbol.Wants Mark.Catch ∷ Symbol.Variables ∷ Symbol.Wants Mark.Arrow ∷ M.expression (k + 1) (Symbol.Make Maker.Try ∷ ss)))) ts → ok (part k) (mark Mark.Try p ∷ ts) ≡ true → Holds ok (Symbol.Bare (Part.Expression k) ∷ ss) (mark Mark.Try p ∷ ts)
  expression_try k p ss ts (on (expression d) (on (wants _ q) (on (variables xs) (on (wants _ r) (on (expression e) (on (wants _ s) (on (variables ys) (on (wants _ t) (on (expression f) (on make h)))))))))) o = on (bare_expression (G.try p q r s t o d xs e ys f)) h

  expression_do : (k : ℕ) (p : Place) (ss : Symbols) (ts : List Terminal) → Holds ok (M.expression (k + 1) (M.expression (k + 1) (Symbol.Make Maker.Do ∷ ss))) ts → ok (part k) (mark Mark.Do p ∷ ts) ≡ true → Holds ok (Symbol.Bare (Part.Expression k) ∷ ss) (mark Mark.Do p ∷ ts)
  expression_do k p ss ts (on (expression d) (on (expression e) (on make h))) o = on (bare_expression (G.do_both p o d e)) h

  expression_catch : (k : ℕ) (p : Place) (ss : Symbols) (ts : List Terminal) → Holds ok (M.expression (k + 1) (Symbol.Make Maker.Catch ∷ ss)) ts → ok (part k) (mark Mark.Catch p ∷ ts) ≡ true → Holds ok (Symbol.Bare (Part.Expression k) ∷ ss) (mark Mark.Catch p ∷ ts)
  expression_catch k p ss ts (on (expression d) (on make h)) o = on (bare_expression (G.catch p o d)) h

  expression_back : (k : ℕ) (t : Kind) (p : Place) (ss : Symbols) (vs : Values) (ts : List Terminal) → Backs (M.bare_expression k t p ss vs) (token t p) ts (Holds ok (Symbol.Bare (Part.Expression k) ∷ ss) (token t p ∷ ts))
  expression_back k (Kind.Natural n) p ss vs ts = λ o h. on (bare_expression (G.integer p (G.digits n) (alone _ o))) h
  expression_back k (Kind.Integer n) p ss vs ts = λ o h. on (bare_expression (G.integer p (G.signed_or_character n) (alone _ o))) h
  expression_back k (Kind.Text s) p ss vs ts = λ o h. on (bare_expression (G.characters s p (alone _ o))) h
  expression_back k (Kind.Atom a) p ss vs ts = λ o h. expression_atom k a p ss ts h (alone _ o)
  expression_back k (Kind.Variable x) p ss vs ts = λ o h. on (bare_expression (G.variable_name x p (alone _ o))) h
  expression_back k (Kind.Mark Mark.OpenSquare) p ss vs ts = λ o h. expression_square k p ss ts h (alone _ o)
  expression_back k (Kind.Mark Mark.OpenBrace) p ss vs ts = λ o h. expression_brace k p ss ts h (alone _ o)
  expression_back k (Kind.Mark Mark.Less) p ss vs ts = λ o h. expression_less k p ss ts h (alone _ o)
  expression_back k (Kind.Mark Mark.Let) p ss vs ts = λ o h. expression_let k p ss ts h (alone _ o)
  expression_back k (Kind.Mark Mark.Case) p ss vs ts = λ o h. expression_case k p ss ts h (alone _ o)
  expression_back k (Kind.Mark Mark.Fun) p ss vs ts = λ o h. expression_lambda k ss (mark Mark.Fun p ∷ ts) (fun_symbols_back k p (Symbol.Make Maker.Lambda ∷ ss) ts h (alone _ o))
  expression_back k (Kind.Mark Mark.Letrec) p ss vs ts = λ o h. expression_letrec k p ss ts h (alone _ o)
  expression_back k (Kind.Mark Mark.Apply) p ss vs ts = λ o h. expression_apply k p ss ts h (alone _ o)
  expression_back k (Kind.Mark Mark.Call) p ss vs ts = λ o h. expression_call k p ss ts h (alone _ o)
  expression_back k (Kind.Mark Mark.Primop) p ss vs ts = λ o h. expression_primop k p ss ts h (alone _ o)
  expression_back k (Kind.Mark Mark.Try) p ss vs ts = λ o h. expression_try k p ss ts h (alone _ o)
  expression_back k (Kind.Mark Mark.Do) p ss vs ts = λ o h. expression_do k p ss ts h (alone _ o)
  expression_back k (Kind.Mark Mark.Catch) p ss vs ts = λ o h. expression_catch k p ss ts h (alone _ o)
  expression_back k _ p ss vs ts = tt

  -- modules

  module_symbols_back : (p : Place) (ss : Symbols) (ts : List Terminal) → Holds ok (Symbol.Bare Part.Atom ∷ Symbol.Wants Mark.OpenSquare ∷ Symbol.Make (Maker.Empty Element.Export) ∷ Symbol.First Element.Export Closer.Square ∷ Symbol.Wants Mark.Attributes ∷ Symbol.Wants Mark.OpenSquare ∷ Symbol.Make (Maker.Empty Element.Attribute) ∷ Symbol.First Element.Attribute Closer.Square ∷ Symbol.Make Maker.NoDefinitions ∷ Symbol.Definitions 1 ∷ Symbol.ModuleEnd ∷ ss) ts → Holds ok (Symbol.Bare Part.Module ∷ ss) (mark Mark.Module p ∷ ts)
  module_symbols_back p ss ts (on (bare_atom {a = a} (G.atom q)) (on (wants _ r) (on make (on {ts = xs} {us = xs'} e (on (wants _ t) (on (wants _ u) (on make (on {ts = ys} {us = ys'} f (on make (on (definitions ds) (on (module_end w) h))))))))))) =
      elim (exports_of ok Closer.Square xs xs' e) [ all_exports s es ↦ elim (attributes_of ok Closer.Square ys ys' f) [ all_attributes v as' ↦ on (bare_module (G.«module» a p q r s t u v w es as' ds)) h ] ]

  module_back : (t : Kind) (p : Place) (ss : Symbols) (vs : Values) (ts : List Terminal) → Backs (M.bare_module t ss vs) (token t p) ts (Holds ok (Symbol.Bare Part.Module ∷ ss) (token t p ∷ ts))
  module_back (Kind.Mark Mark.Module) p ss vs ts = λ o h. module_symbols_back p ss ts h
  module_back _ p ss vs ts = tt

  pub module_end_back : (t : Kind) (p : Place) (ss : Symbols) (vs : Values) (ts : List Terminal) → Backs (M.module_end t ss vs) (token t p) ts (Holds ok (Symbol.ModuleEnd ∷ ss) (token t p ∷ ts))
  module_end_back (Kind.Mark Mark.End) p ss vs ts = λ o h. on (module_end p) h
  module_end_back _ p ss vs ts = tt

  -- parts, annotated or not

  pub bare_back : (x : Part) (t : Kind) (p : Place) (ss : Symbols) (vs : Values) (ts : List Terminal) → Backs (M.bare x t p ss vs) (token t p) ts (Holds ok (Symbol.Bare x ∷ ss) (token t p ∷ ts))
  bare_back Part.Module t p ss vs ts = module_back t p ss vs ts
  bare_back Part.Name t p ss vs ts = name_back t p ss vs ts
  bare_back Part.Atom t p ss vs ts = atom_back t p ss vs ts
  bare_back Part.Operand t p ss vs ts = operand_back t p ss vs ts
  bare_back Part.Variable t p ss vs ts = variable_back t p ss vs ts
  bare_back (Part.Constant k) t p ss vs ts = constant_back k t p ss vs ts
  bare_back (Part.Fun k) t p ss vs ts = fun_back k t p ss vs ts
  bare_back (Part.Expression k) t p ss vs ts = expression_back k t p ss vs ts

  not_noted : (x : Part) (ss : Symbols) (ts : List Terminal) → Holds ok (Symbol.Bare x ∷ ss) ts → Holds ok (Symbol.Annotated x ∷ ss) ts
  not_noted Part.Module ss ts (on (bare_module d) h) = on (module' (G.bare d)) h
  not_noted Part.Name ss ts (on (bare_name d) h) = on (name (G.bare d)) h
  not_noted Part.Atom ss ts (on (bare_atom d) h) = on (atom (G.bare d)) h
  not_noted Part.Operand ss ts (on (bare_operand d) h) = on (operand (G.bare d)) h
  not_noted Part.Variable ss ts (on (bare_variable d) h) = on (variable (G.bare d)) h
  not_noted (Part.Constant k) ss ts (on (bare_constant d) h) = on (constant (G.bare d)) h
  not_noted (Part.Fun k) ss ts (on (bare_fun d) h) = on (fun (G.fun_bare d)) h
  not_noted (Part.Expression k) ss ts (on (bare_expression d) h) = on (expression (G.expression_bare d)) h

  noted : (x : Part) (o : Place) (ss : Symbols) (ts : List Terminal) → Holds ok (Symbol.Bare x ∷ annotation ss) ts → Holds ok (Symbol.Annotated x ∷ ss) (mark Mark.OpenRound o ∷ ts)
  noted Part.Module o ss ts (on {us = us} (bare_module d) h) = elim (annotation_of ok ss us h) [ held_annotation n i ↦ on (module' (G.annotated o d n)) i ]
  noted Part.Name o ss ts (on {us = us} (bare_name d) h) = elim (annotation_of ok ss us h) [ held_annotation n i ↦ on (name (G.annotated o d n)) i ]
  noted Part.Atom o ss ts (on {us = us} (bare_atom d) h) = elim (annotation_of ok ss us h) [ held_annotation n i ↦ on (atom (G.annotated o d n)) i ]
  noted Part.Operand o ss ts (on {us = us} (bare_operand d) h) = elim (annotation_of ok ss us h) [ held_annotation n i ↦ on (operand (G.annotated o d n)) i ]
  noted Part.Variable o ss ts (on {us = us} (bare_variable d) h) = elim (annotation_of ok ss us h) [ held_annotation n i ↦ on (variable (G.annotated o d n)) i ]
  noted (Part.Constant k) o ss ts (on {us = us} (bare_constant d) h) = elim (annotation_of ok ss us h) [ held_annotation n i ↦ on (constant (G.annotated o d n)) i ]
  noted (Part.Fun k) o ss ts (on {us = us} (bare_fun d) h) = elim (annotation_of ok ss us h) [ held_annotation n i ↦ on (fun (G.fun_annotated o d n)) i ]
  noted (Part.Expression k) o ss ts (on {us = us} (bare_expression d) h) = elim (annotation_of ok ss us h) [ held_annotation n i ↦ on (expression (G.expression_annotated o d n)) i ]

  pub annotated_back : (x : Part) (t : Kind) (p : Place) (ss : Symbols) (vs : Values) (ts : List Terminal) → Backs (M.annotated x t p ss vs) (token t p) ts (Holds ok (Symbol.Annotated x ∷ ss) (token t p ∷ ts))
  annotated_back x (Kind.Mark Mark.OpenRound) p ss vs ts = λ o h. noted x p ss ts h
  annotated_back x t p ss vs ts = widen (M.bare x t p ss vs) (token t p) ts (not_noted x ss (token t p ∷ ts)) (bare_back x t p ss vs ts)

  -- patterns

  pub data HeldPattern : ℕ → Symbols → List Terminal → Type 0 where
    held_pattern : {k : ℕ} {f : Pattern} {ss : Symbols} {ts us : List Terminal} → G.BarePattern ok k f ts us → Holds ok ss us → HeldPattern k ss ts

  pattern_square : (k : ℕ) (p : Place) (ss : Symbols) (ts : List Terminal) → Holds ok (Symbol.CellsFirst (Term.Pattern k) ∷ ss) ts → ok (part k) (mark Mark.OpenSquare p ∷ ts) ≡ true → HeldPattern k ss (mark Mark.OpenSquare p ∷ ts)
  pattern_square k p ss ts (on {us = us} d h) o = elim (pattern_list ok k p ts us o d) [ found_pattern f ↦ held_pattern f h ]

  pattern_brace : (k : ℕ) (p : Place) (ss : Symbols) (ts : List Terminal) → Holds ok (Symbol.First (Element.Term (Term.Pattern (k + 1))) Closer.Brace ∷ Symbol.Make (Maker.Tuple (Term.Pattern k)) ∷ ss) ts → ok (part k) (mark Mark.OpenBrace p ∷ ts) ≡ true → HeldPattern k ss (mark Mark.OpenBrace p ∷ ts)
  pattern_brace k p ss ts (on {us = us} d (on make h)) o = elim (patterns_of ok (k + 1) Closer.Brace ts us d) [ all_patterns q fs ↦ held_pattern (G.pattern_tuple p q o fs) h ]

  pub plain_back : (k : ℕ) (t : Kind) (p : Place) (ss : Symbols) (vs : Values) (ts : List Terminal) → Backs (M.plain_pattern k t p ss vs) (token t p) ts (HeldPattern k ss (token t p ∷ ts))
  plain_back k (Kind.Natural n) p ss vs ts = λ o h. held_pattern (G.pattern_integer p (G.digits n) (alone _ o)) h
  plain_back k (Kind.Integer n) p ss vs ts = λ o h. held_pattern (G.pattern_integer p (G.signed_or_character n) (alone _ o)) h
  plain_back k (Kind.Text s) p ss vs ts = λ o h. held_pattern (G.pattern_characters s p (alone _ o)) h
  plain_back k (Kind.Atom a) p ss vs ts = λ o h. held_pattern (G.pattern_atom a p (alone _ o)) h
  plain_back k (Kind.Mark Mark.OpenSquare) p ss vs ts = λ o h. pattern_square k p ss ts h (alone _ o)
  plain_back k (Kind.Mark Mark.OpenBrace) p ss vs ts = λ o h. pattern_brace k p ss ts h (alone _ o)
  plain_back k _ p ss vs ts = tt

  bare_variable_back : (k : ℕ) (x : Var) (ss : Symbols) (ts : List Terminal) → Holds ok (Symbol.AfterVariable k ∷ ss) ts → ok (part k) (of_variable x ∷ ts) ≡ true → HeldPattern k ss (of_variable x ∷ ts)
  bare_variable_back k x ss ts (on no_alias h) o = held_pattern (G.pattern_variable x.name x.at o) h
  bare_variable_back k x ss ts (on (equals q d) h) o = held_pattern (G.pattern_alias {x = x} q o (G.bare G.variable) d) h

  pub bare_pattern_back : (k : ℕ) (t : Kind) (p : Place) (ss : Symbols) (vs : Values) (ts : List Terminal) → Backs (M.bare_pattern k t p ss vs) (token t p) ts (HeldPattern k ss (token t p ∷ ts))
  bare_pattern_back k (Kind.Variable x) p ss vs ts = λ o h. bare_variable_back k (variable_at p x) ss ts h (alone _ o)
  bare_pattern_back k t p ss vs ts = plain_back k t p ss vs ts

  pattern_open : (k : ℕ) (p : Place) (ss : Symbols) (ts : List Terminal) → Holds ok (Symbol.PatternInside k ∷ ss) ts → Holds ok (Symbol.Pattern k ∷ ss) (mark Mark.OpenRound p ∷ ts)
  pattern_open k p ss ts (on (pattern_inside g) h) = on (pattern' (g p)) h

  bare_is_pattern : (k : ℕ) (ss : Symbols) (ts : List Terminal) → HeldPattern k ss ts → Holds ok (Symbol.Pattern k ∷ ss) ts
  bare_is_pattern k ss ts (held_pattern d h) = on (pattern' (G.pattern_bare d)) h

  pub pattern_back : (k : ℕ) (t : Kind) (p : Place) (ss : Symbols) (vs : Values) (ts : List Terminal) → Backs (M.pattern k t p ss vs) (token t p) ts (Holds ok (Symbol.Pattern k ∷ ss) (token t p ∷ ts))
  pattern_back k (Kind.Mark Mark.OpenRound) p ss vs ts = λ o h. pattern_open k p ss ts h
  pattern_back k t p ss vs ts = widen (M.bare_pattern k t p ss vs) (token t p) ts (bare_is_pattern k ss (token t p ∷ ts)) (bare_pattern_back k t p ss vs ts)

  inside_variable : (k : ℕ) (x : Var) (ss : Symbols) (ts : List Terminal) → Holds ok (Symbol.PatternInsideVariable k ∷ ss) ts → ok (part k) (of_variable x ∷ ts) ≡ true → Holds ok (Symbol.PatternInside k ∷ ss) (of_variable x ∷ ts)
  inside_variable k x ss ts (on (pattern_inside_variable f g) h) o = on (pattern_inside (λ q. g q x o)) h

  inside_open : (k : ℕ) (p : Place) (ss : Symbols) (ts : List Terminal) → Holds ok (Symbol.AliasName k ∷ annotation (Symbol.Wants Mark.Equals ∷ alias_of k (annotation ss))) ts → Holds ok (Symbol.PatternInside k ∷ ss) (mark Mark.OpenRound p ∷ ts)
  inside_open k p ss ts (on {us = us} (alias_name x o) h) = elim (annotation_of ok (Symbol.Wants Mark.Equals ∷ alias_of k (annotation ss)) us h) [ held_annotation m (on (wants _ q) (on (pattern' d) (on {ts = ws} make i))) ↦ elim (annotation_of ok ss ws i) [ held_annotation n j ↦ on (pattern_inside (λ r. G.pattern_annotated r (G.pattern_alias {x = x} q o (G.annotated p G.variable m) d) n)) j ] ]

  inside_plain : (k : ℕ) (ss : Symbols) (ts : List Terminal) → HeldPattern k (annotation ss) ts → Holds ok (Symbol.PatternInside k ∷ ss) ts
  inside_plain k ss ts (held_pattern {us = us} d h) = elim (annotation_of ok ss us h) [ held_annotation n i ↦ on (pattern_inside (λ q. G.pattern_annotated q d n)) i ]

  pub pattern_inside_back : (k : ℕ) (t : Kind) (p : Place) (ss : Symbols) (vs : Values) (ts : List Terminal) → Backs (M.pattern_inside k t p ss vs) (token t p) ts (Holds ok (Symbol.PatternInside k ∷ ss) (token t p ∷ ts))
  pattern_inside_back k (Kind.Variable x) p ss vs ts = λ o h. inside_variable k (variable_at p x) ss ts h (alone _ o)
  pattern_inside_back k (Kind.Mark Mark.OpenRound) p ss vs ts = λ o h. inside_open k p ss ts h
  pattern_inside_back k t p ss vs ts = widen (M.plain_pattern k t p (annotation ss) vs) (token t p) ts (inside_plain k ss (token t p ∷ ts)) (plain_back k t p (annotation ss) vs ts)

  pub alias_name_back : (k : ℕ) (t : Kind) (p : Place) (ss : Symbols) (vs : Values) (ts : List Terminal) → Backs (M.alias_name k t p ss vs) (token t p) ts (Holds ok (Symbol.AliasName k ∷ ss) (token t p ∷ ts))
  alias_name_back k (Kind.Variable x) p ss vs ts = λ o h. on (alias_name (variable_at p x) (alone _ o)) h
  alias_name_back k _ p ss vs ts = tt

  inside_equals : (k : ℕ) (p : Place) (ss : Symbols) (ts : List Terminal) → Holds ok (alias_of k (annotation ss)) ts → Holds ok (Symbol.PatternInsideVariable k ∷ ss) (mark Mark.Equals p ∷ ts)
  inside_equals k p ss ts (on (pattern' {f = f} d) (on {ts = us} make h)) = elim (annotation_of ok ss us h) [ held_annotation n i ↦ on (pattern_inside_variable (λ x. pattern_at x.at (PatNode-F.Alias x f)) (λ r x o. G.pattern_annotated r (G.pattern_alias {x = x} p o (G.bare G.variable) d) n)) i ]

  inside_dash : (k : ℕ) (p : Place) (ss : Symbols) (ts : List Terminal) → Holds ok (annotation_list (Symbol.AfterVariable k ∷ ss)) ts → Holds ok (Symbol.PatternInsideVariable k ∷ ss) (mark Mark.Dash p ∷ ts)
  inside_dash k p ss ts h = elim (annotation_list_of ok p (Symbol.AfterVariable k ∷ ss) ts h) [
    | held_annotation n (on no_alias i) ↦ on (pattern_inside_variable (λ x. pattern_at x.at (PatNode-F.Var x.name)) (λ r x o. G.pattern_annotated r (G.pattern_variable x.name x.at o) n)) i
    | held_annotation n (on (equals {f = f} q d) i) ↦ on (pattern_inside_variable (λ x. pattern_at x.at (PatNode-F.Alias x f)) (λ r x o. G.pattern_bare (G.pattern_alias {x = x} q o (G.annotated r G.variable n) d))) i
  ]

  pub pattern_inside_variable_back : (k : ℕ) (t : Kind) (p : Place) (ss : Symbols) (vs : Values) (ts : List Terminal) → Backs (M.pattern_inside_variable k t ss vs) (token t p) ts (Holds ok (Symbol.PatternInsideVariable k ∷ ss) (token t p ∷ ts))
  pattern_inside_variable_back k (Kind.Mark Mark.Equals) p ss vs ts = λ o h. inside_equals k p ss ts h
  pattern_inside_variable_back k (Kind.Mark Mark.Dash) p ss vs ts = λ o h. inside_dash k p ss ts h
  pattern_inside_variable_back k _ p ss vs ts = tt

  equals_back : (k : ℕ) (p : Place) (ss : Symbols) (ts : List Terminal) → Holds ok (alias_of k ss) ts → Holds ok (Symbol.AfterVariable k ∷ ss) (mark Mark.Equals p ∷ ts)
  equals_back k p ss ts (on (pattern' d) (on make h)) = on (equals p d) h

  pub after_variable_back : (k : ℕ) (t : Kind) (p : Place) (ss : Symbols) (vs : Values) (ts : List Terminal) (m : Move) → Backs m (token t p) ts (Holds ok ss (token t p ∷ ts)) → Backs (M.after_variable k t ss vs m) (token t p) ts (Holds ok (Symbol.AfterVariable k ∷ ss) (token t p ∷ ts))
  after_variable_back k (Kind.Mark Mark.Equals) p ss vs ts m b = λ o h. equals_back k p ss ts h
  after_variable_back k t p ss vs ts m b = widen m (token t p) ts (λ (h : Holds ok ss (token t p ∷ ts)). on no_alias h) b

  -- elements

  term_pattern : (k : ℕ) (ss : Symbols) (ts : List Terminal) → Holds ok (Symbol.Pattern k ∷ ss) ts → Holds ok (Symbol.Item (Element.Term (Term.Pattern k)) ∷ ss) ts
  term_pattern k ss ts (on (pattern' d) h) = on (item_pattern d) h

  term_expression : (k : ℕ) (ss : Symbols) (ts : List Terminal) → Holds ok (Symbol.Annotated (Part.Expression k) ∷ ss) ts → Holds ok (Symbol.Item (Element.Term (Term.Expression k)) ∷ ss) ts
  term_expression k ss ts (on (expression d) h) = on (item_expression d) h

  term_constant : (k : ℕ) (ss : Symbols) (ts : List Terminal) → Holds ok (Symbol.Bare (Part.Constant k) ∷ ss) ts → Holds ok (Symbol.Item (Element.Term (Term.Constant k)) ∷ ss) ts
  term_constant k ss ts (on (bare_constant d) h) = on (item_constant d) h

  term_back : (x : Term) (t : Kind) (p : Place) (ss : Symbols) (vs : Values) (ts : List Terminal) → Backs (M.term x t p ss vs) (token t p) ts (Holds ok (Symbol.Item (Element.Term x) ∷ ss) (token t p ∷ ts))
  term_back (Term.Expression k) t p ss vs ts = widen (M.annotated (Part.Expression k) t p ss vs) (token t p) ts (term_expression k ss (token t p ∷ ts)) (annotated_back (Part.Expression k) t p ss vs ts)
  term_back (Term.Pattern k) t p ss vs ts = widen (M.pattern k t p ss vs) (token t p) ts (term_pattern k ss (token t p ∷ ts)) (pattern_back k t p ss vs ts)
  term_back (Term.Constant k) t p ss vs ts = widen (M.constant k t p ss vs) (token t p) ts (term_constant k ss (token t p ∷ ts)) (constant_back k t p ss vs ts)

  variable_item_of : (ss : Symbols) (ts : List Terminal) → Holds ok (Symbol.Annotated Part.Variable ∷ ss) ts → Holds ok (Symbol.Item Element.Variable ∷ ss) ts
  variable_item_of ss ts (on (variable d) h) = on (item_variable d) h

  export_item_of : (ss : Symbols) (ts : List Terminal) → Holds ok (Symbol.Annotated Part.Name ∷ ss) ts → Holds ok (Symbol.Item Element.Export ∷ ss) ts
  export_item_of ss ts (on (name {f = f} {p = p} d) h) = on (item_export {e = (f, p)} d) h

  attribute_item_of : (ss : Symbols) (ts : List Terminal) → Holds ok (Symbol.Annotated Part.Atom ∷ Symbol.Wants Mark.Equals ∷ Symbol.Annotated (Part.Constant 1) ∷ ss) ts → Holds ok (Symbol.Item Element.Attribute ∷ ss) ts
  attribute_item_of ss ts (on (atom a) (on (wants _ q) (on (constant d) h))) = on (item_attribute (G.attribute q a d)) h

  pub item_back : (x : Element) (t : Kind) (p : Place) (ss : Symbols) (vs : Values) (ts : List Terminal) → Backs (M.item x t p ss vs) (token t p) ts (Holds ok (Symbol.Item x ∷ ss) (token t p ∷ ts))
  item_back Element.Variable t p ss vs ts = widen (M.annotated Part.Variable t p ss vs) (token t p) ts (variable_item_of ss (token t p ∷ ts)) (annotated_back Part.Variable t p ss vs ts)
  item_back Element.Export t p ss vs ts = widen (M.annotated Part.Name t p ss vs) (token t p) ts (export_item_of ss (token t p ∷ ts)) (annotated_back Part.Name t p ss vs ts)
  item_back Element.Attribute t p ss vs ts = widen (M.annotated Part.Atom t p (Symbol.Wants Mark.Equals ∷ Symbol.Annotated (Part.Constant 1) ∷ ss) vs) (token t p) ts (attribute_item_of ss (token t p ∷ ts)) (annotated_back Part.Atom t p (Symbol.Wants Mark.Equals ∷ Symbol.Annotated (Part.Constant 1) ∷ ss) vs ts)
  item_back (Element.Term x) t p ss vs ts = term_back x t p ss vs ts

  first_of_item : (x : Element) (c : Closer) (ss : Symbols) (ts : List Terminal) → Holds ok (Symbol.Item x ∷ Symbol.Make (Maker.Push x) ∷ Symbol.Rest x c ∷ ss) ts → Holds ok (Symbol.First x c ∷ ss) ts
  first_of_item x c ss ts (on d (on make (on r h))) = on (first_some d r) h

  pub first_back : (x : Element) (c : Closer) (t : Kind) (p : Place) (ss : Symbols) (vs : Values) (ts : List Terminal) → Backs (M.first x c t p ss vs) (token t p) ts (Holds ok (Symbol.First x c ∷ ss) (token t p ∷ ts))
  first_back x c t p ss vs ts = tested (closes c t) (λ is. closes_is c t is)
    where
      tested : (b : Bool) → (b ≡ true → t ≡ Kind.Mark (closing c)) → Backs (if b then Go ss vs [] else M.item x t p (Symbol.Make (Maker.Push x) ∷ Symbol.Rest x c ∷ ss) vs) (token t p) ts (Holds ok (Symbol.First x c ∷ ss) (token t p ∷ ts))
      tested true is = λ o h. subst (λ (u : Kind). Holds ok (Symbol.First x c ∷ ss) (token u p ∷ ts)) (sym (is refl)) (on (first_none p) h)
      tested false is = widen (M.item x t p (Symbol.Make (Maker.Push x) ∷ Symbol.Rest x c ∷ ss) vs) (token t p) ts (first_of_item x c ss (token t p ∷ ts)) (item_back x t p (Symbol.Make (Maker.Push x) ∷ Symbol.Rest x c ∷ ss) vs ts)

  comma_item : (x : Element) (c : Closer) (p : Place) (ss : Symbols) (ts : List Terminal) → Holds ok (Symbol.Item x ∷ Symbol.Make (Maker.Push x) ∷ Symbol.Rest x c ∷ ss) ts → Holds ok (Symbol.Rest x c ∷ ss) (mark Mark.Comma p ∷ ts)
  comma_item x c p ss ts (on d (on make (on r h))) = on (rest_more p d r) h

  comma_back : (x : Element) (c : Closer) (t : Kind) (p : Place) (ss : Symbols) (vs : Values) (ts : List Terminal) → Backs (M.comma x c t ss vs) (token t p) ts (Holds ok (Symbol.Rest x c ∷ ss) (token t p ∷ ts))
  comma_back x c (Kind.Mark Mark.Comma) p ss vs ts = λ o h. comma_item x c p ss ts h
  comma_back x c _ p ss vs ts = tt

  pub rest_back : (x : Element) (c : Closer) (t : Kind) (p : Place) (ss : Symbols) (vs : Values) (ts : List Terminal) → Backs (M.rest x c t ss vs) (token t p) ts (Holds ok (Symbol.Rest x c ∷ ss) (token t p ∷ ts))
  rest_back x c t p ss vs ts = tested (closes c t) (λ is. closes_is c t is)
    where
      tested : (b : Bool) → (b ≡ true → t ≡ Kind.Mark (closing c)) → Backs (if b then Go ss vs [] else M.comma x c t ss vs) (token t p) ts (Holds ok (Symbol.Rest x c ∷ ss) (token t p ∷ ts))
      tested true is = λ o h. subst (λ (u : Kind). Holds ok (Symbol.Rest x c ∷ ss) (token u p ∷ ts)) (sym (is refl)) (on (rest_none p) h)
      tested false is = comma_back x c t p ss vs ts

  -- lists

  first_of_cells : (x : Term) (ss : Symbols) (ts : List Terminal) → Holds ok (Symbol.Item (Element.Term (deeper x)) ∷ Symbol.Make (Maker.Push (Element.Term (deeper x))) ∷ Symbol.CellsRest x ∷ ss) ts → Holds ok (Symbol.CellsFirst x ∷ ss) ts
  first_of_cells x ss ts (on d (on make (on r h))) = on (cells_some d r) h

  pub cells_first_back : (x : Term) (t : Kind) (p : Place) (ss : Symbols) (vs : Values) (ts : List Terminal) → Backs (M.cells_first x t p ss vs) (token t p) ts (Holds ok (Symbol.CellsFirst x ∷ ss) (token t p ∷ ts))
  cells_first_back x (Kind.Mark Mark.CloseSquare) p ss vs ts = λ o h. on (cells_none p) h
  cells_first_back x t p ss vs ts = widen (M.term (deeper x) t p (Symbol.Make (Maker.Push (Element.Term (deeper x))) ∷ Symbol.CellsRest x ∷ ss) vs) (token t p) ts (first_of_cells x ss (token t p ∷ ts)) (term_back (deeper x) t p (Symbol.Make (Maker.Push (Element.Term (deeper x))) ∷ Symbol.CellsRest x ∷ ss) vs ts)

  tail_first_of_cells : (x : Term) (ss : Symbols) (ts : List Terminal) → Holds ok (Symbol.Item (Element.Term (deeper x)) ∷ Symbol.Make (Maker.Push (Element.Term (deeper x))) ∷ Symbol.CellsRest x ∷ ss) ts → Holds ok (Symbol.TailFirst x ∷ ss) ts
  tail_first_of_cells x ss ts (on d (on make (on r h))) = on (tail_first (cells_some d r)) h

  pub tail_first_back : (x : Term) (t : Kind) (p : Place) (ss : Symbols) (vs : Values) (ts : List Terminal) → Backs (M.tail_first x t p ss vs) (token t p) ts (Holds ok (Symbol.TailFirst x ∷ ss) (token t p ∷ ts))
  tail_first_back x (Kind.Mark Mark.CloseSquare) p ss vs ts = λ o h. on (tail_first (cells_none p)) h
  tail_first_back x t p ss vs ts = widen (M.term (deeper x) t p (Symbol.Make (Maker.Push (Element.Term (deeper x))) ∷ Symbol.CellsRest x ∷ ss) vs) (token t p) ts (tail_first_of_cells x ss (token t p ∷ ts)) (term_back (deeper x) t p (Symbol.Make (Maker.Push (Element.Term (deeper x))) ∷ Symbol.CellsRest x ∷ ss) vs ts)

  cells_comma : (x : Term) (p : Place) (ss : Symbols) (ts : List Terminal) → Holds ok (Symbol.Item (Element.Term (deeper x)) ∷ Symbol.Make (Maker.Push (Element.Term (deeper x))) ∷ Symbol.CellsRest x ∷ ss) ts → Holds ok (Symbol.CellsRest x ∷ ss) (mark Mark.Comma p ∷ ts)
  cells_comma x p ss ts (on d (on make (on r h))) = on (cells_more p d r) h

  cells_bar : (x : Term) (p : Place) (ss : Symbols) (ts : List Terminal) → Holds ok (Symbol.Tail x ∷ Symbol.Wants Mark.CloseSquare ∷ ss) ts → Holds ok (Symbol.CellsRest x ∷ ss) (mark Mark.Bar p ∷ ts)
  cells_bar x p ss ts (on (tail d) (on (wants _ q) h)) = on (cells_tail p q d) h

  pub cells_rest_back : (x : Term) (t : Kind) (p : Place) (ss : Symbols) (vs : Values) (ts : List Terminal) → Backs (M.cells_rest x t ss vs) (token t p) ts (Holds ok (Symbol.CellsRest x ∷ ss) (token t p ∷ ts))
  cells_rest_back x (Kind.Mark Mark.Comma) p ss vs ts = λ o h. cells_comma x p ss ts h
  cells_rest_back x (Kind.Mark Mark.Bar) p ss vs ts = λ o h. cells_bar x p ss ts h
  cells_rest_back x (Kind.Mark Mark.CloseSquare) p ss vs ts = λ o h. on (cells_end p) h
  cells_rest_back x _ p ss vs ts = tt

  tail_square : (x : Term) (p : Place) (ss : Symbols) (ts : List Terminal) → Holds ok (Symbol.TailFirst x ∷ ss) ts → ok (part (M.level_of x)) (mark Mark.OpenSquare p ∷ ts) ≡ true → Holds ok (Symbol.Tail x ∷ ss) (mark Mark.OpenSquare p ∷ ts)
  tail_square (Term.Expression k) p ss ts (on {us = us} (tail_first d) h) o = elim (expression_list ok k p ts us o d) [ found_expression e ↦ on (tail (item_expression (G.expression_bare e))) h ]
  tail_square (Term.Pattern k) p ss ts (on {us = us} (tail_first d) h) o = elim (pattern_list ok k p ts us o d) [ found_pattern f ↦ on (tail (item_pattern (G.pattern_bare f))) h ]
  tail_square (Term.Constant k) p ss ts (on {us = us} (tail_first d) h) o = elim (constant_list ok k p ts us o d) [ found_constant c ↦ on (tail (item_constant c)) h ]

  tail_open_back : (x : Term) (p : Place) (ss : Symbols) (vs : Values) (ts : List Terminal) → Backs (M.tail_open x ss vs) (mark Mark.OpenRound p) ts (Holds ok (Symbol.Tail x ∷ ss) (mark Mark.OpenRound p ∷ ts))
  tail_open_back (Term.Expression k) p ss vs ts = λ o h. expression_tail_open h
    where
      expression_tail_open : Holds ok (Symbol.ExpressionTailInside k ∷ ss) ts → Holds ok (Symbol.Tail (Term.Expression k) ∷ ss) (mark Mark.OpenRound p ∷ ts)
      expression_tail_open (on (expression_tail_inside g) h) = on (tail (item_expression (g p))) h
  tail_open_back (Term.Pattern k) p ss vs ts = λ o h. pattern_tail_open h
    where
      pattern_tail_open : Holds ok (Symbol.PatternTailInside k ∷ ss) ts → Holds ok (Symbol.Tail (Term.Pattern k) ∷ ss) (mark Mark.OpenRound p ∷ ts)
      pattern_tail_open (on (pattern_tail_inside g) h) = on (tail (item_pattern (g p))) h
  tail_open_back (Term.Constant k) p ss vs ts = tt

  tail_of_expression : (k : ℕ) (ss : Symbols) (ts : List Terminal) → Holds ok (Symbol.Bare (Part.Expression k) ∷ Symbol.Make (Maker.Join (Term.Expression k)) ∷ ss) ts → Holds ok (Symbol.Tail (Term.Expression k) ∷ ss) ts
  tail_of_expression k ss ts (on (bare_expression d) (on make h)) = on (tail (item_expression (G.expression_bare d))) h

  tail_of_pattern : (k : ℕ) (ss : Symbols) (ts : List Terminal) → HeldPattern k (Symbol.Make (Maker.Join (Term.Pattern k)) ∷ ss) ts → Holds ok (Symbol.Tail (Term.Pattern k) ∷ ss) ts
  tail_of_pattern k ss ts (held_pattern d (on make h)) = on (tail (item_pattern (G.pattern_bare d))) h

  tail_of_constant : (k : ℕ) (ss : Symbols) (ts : List Terminal) → Holds ok (Symbol.Bare (Part.Constant k) ∷ Symbol.Make (Maker.Join (Term.Constant k)) ∷ ss) ts → Holds ok (Symbol.Tail (Term.Constant k) ∷ ss) ts
  tail_of_constant k ss ts (on (bare_constant d) (on make h)) = on (tail (item_constant d)) h

  other_tail_back : (x : Term) (t : Kind) (p : Place) (ss : Symbols) (vs : Values) (ts : List Terminal) → Backs (M.other_tail x t p (Symbol.Make (Maker.Join x) ∷ ss) vs) (token t p) ts (Holds ok (Symbol.Tail x ∷ ss) (token t p ∷ ts))
  other_tail_back (Term.Expression k) t p ss vs ts = widen (M.bare_expression k t p (Symbol.Make (Maker.Join (Term.Expression k)) ∷ ss) vs) (token t p) ts (tail_of_expression k ss (token t p ∷ ts)) (expression_back k t p (Symbol.Make (Maker.Join (Term.Expression k)) ∷ ss) vs ts)
  other_tail_back (Term.Pattern k) t p ss vs ts = widen (M.bare_pattern k t p (Symbol.Make (Maker.Join (Term.Pattern k)) ∷ ss) vs) (token t p) ts (tail_of_pattern k ss (token t p ∷ ts)) (bare_pattern_back k t p (Symbol.Make (Maker.Join (Term.Pattern k)) ∷ ss) vs ts)
  other_tail_back (Term.Constant k) t p ss vs ts = widen (M.constant k t p (Symbol.Make (Maker.Join (Term.Constant k)) ∷ ss) vs) (token t p) ts (tail_of_constant k ss (token t p ∷ ts)) (constant_back k t p (Symbol.Make (Maker.Join (Term.Constant k)) ∷ ss) vs ts)

  pub tail_back : (x : Term) (t : Kind) (p : Place) (ss : Symbols) (vs : Values) (ts : List Terminal) → Backs (M.tail x t p ss vs) (token t p) ts (Holds ok (Symbol.Tail x ∷ ss) (token t p ∷ ts))
  tail_back x (Kind.Mark Mark.OpenSquare) p ss vs ts = λ o h. tail_square x p ss ts h (alone _ o)
  tail_back x (Kind.Mark Mark.OpenRound) p ss vs ts = tail_open_back x p ss vs ts
  tail_back x t p ss vs ts = other_tail_back x t p ss vs ts

  expression_inside_square : (k : ℕ) (p : Place) (ss : Symbols) (ts : List Terminal) → Holds ok (Symbol.TailFirst (Term.Expression k) ∷ annotation ss) ts → ok (part k) (mark Mark.OpenSquare p ∷ ts) ≡ true → Holds ok (Symbol.ExpressionTailInside k ∷ ss) (mark Mark.OpenSquare p ∷ ts)
  expression_inside_square k p ss ts (on {us = us} (tail_first d) h) o = elim (expression_list ok k p ts us o d) [ found_expression e ↦ elim (annotation_of ok ss us h) [ held_annotation n i ↦ on (expression_tail_inside (λ q. G.expression_annotated q e n)) i ] ]

  expression_inside : (k : ℕ) (ss : Symbols) (ts : List Terminal) → Holds ok (Symbol.Bare (Part.Expression k) ∷ Symbol.Make (Maker.Join (Term.Expression k)) ∷ annotation ss) ts → Holds ok (Symbol.ExpressionTailInside k ∷ ss) ts
  expression_inside k ss ts (on (bare_expression d) (on {ts = us} make h)) = elim (annotation_of ok ss us h) [ held_annotation n i ↦ on (expression_tail_inside (λ q. G.expression_annotated q d n)) i ]

  pub expression_tail_inside_back : (k : ℕ) (t : Kind) (p : Place) (ss : Symbols) (vs : Values) (ts : List Terminal) → Backs (M.expression_tail_inside k t p ss vs) (token t p) ts (Holds ok (Symbol.ExpressionTailInside k ∷ ss) (token t p ∷ ts))
  expression_tail_inside_back k (Kind.Mark Mark.OpenSquare) p ss vs ts = λ o h. expression_inside_square k p ss ts h (alone _ o)
  expression_tail_inside_back k t p ss vs ts = widen (M.bare_expression k t p (Symbol.Make (Maker.Join (Term.Expression k)) ∷ annotation ss) vs) (token t p) ts (expression_inside k ss (token t p ∷ ts)) (expression_back k t p (Symbol.Make (Maker.Join (Term.Expression k)) ∷ annotation ss) vs ts)

  pattern_inside_square : (k : ℕ) (p : Place) (ss : Symbols) (ts : List Terminal) → Holds ok (Symbol.TailFirst (Term.Pattern k) ∷ annotation ss) ts → ok (part k) (mark Mark.OpenSquare p ∷ ts) ≡ true → Holds ok (Symbol.PatternTailInside k ∷ ss) (mark Mark.OpenSquare p ∷ ts)
  pattern_inside_square k p ss ts (on {us = us} (tail_first d) h) o = elim (pattern_list ok k p ts us o d) [ found_pattern f ↦ elim (annotation_of ok ss us h) [ held_annotation n i ↦ on (pattern_tail_inside (λ q. G.pattern_annotated q f n)) i ] ]

  pattern_inside_other : (k : ℕ) (ss : Symbols) (ts : List Terminal) → Holds ok (Symbol.PatternInside k ∷ Symbol.Make (Maker.Join (Term.Pattern k)) ∷ ss) ts → Holds ok (Symbol.PatternTailInside k ∷ ss) ts
  pattern_inside_other k ss ts (on (pattern_inside g) (on make h)) = on (pattern_tail_inside g) h

  pattern_inside_plain : (k : ℕ) (ss : Symbols) (ts : List Terminal) → HeldPattern k (Symbol.Make (Maker.Join (Term.Pattern k)) ∷ annotation ss) ts → Holds ok (Symbol.PatternTailInside k ∷ ss) ts
  pattern_inside_plain k ss ts (held_pattern d (on {ts = us} make h)) = elim (annotation_of ok ss us h) [ held_annotation n i ↦ on (pattern_tail_inside (λ q. G.pattern_annotated q d n)) i ]

  pub pattern_tail_inside_back : (k : ℕ) (t : Kind) (p : Place) (ss : Symbols) (vs : Values) (ts : List Terminal) → Backs (M.pattern_tail_inside k t p ss vs) (token t p) ts (Holds ok (Symbol.PatternTailInside k ∷ ss) (token t p ∷ ts))
  pattern_tail_inside_back k (Kind.Mark Mark.OpenSquare) p ss vs ts = λ o h. pattern_inside_square k p ss ts h (alone _ o)
  pattern_tail_inside_back k (Kind.Variable x) p ss vs ts = λ o h. pattern_inside_other k ss (token (Kind.Variable x) p ∷ ts) (pattern_inside_back k (Kind.Variable x) p (Symbol.Make (Maker.Join (Term.Pattern k)) ∷ ss) vs ts o h)
  pattern_tail_inside_back k (Kind.Mark Mark.OpenRound) p ss vs ts = λ o h. pattern_inside_other k ss (mark Mark.OpenRound p ∷ ts) (pattern_inside_back k (Kind.Mark Mark.OpenRound) p (Symbol.Make (Maker.Join (Term.Pattern k)) ∷ ss) vs ts o h)
  pattern_tail_inside_back k t p ss vs ts = widen (M.plain_pattern k t p (Symbol.Make (Maker.Join (Term.Pattern k)) ∷ annotation ss) vs) (token t p) ts (pattern_inside_plain k ss (token t p ∷ ts)) (plain_back k t p (Symbol.Make (Maker.Join (Term.Pattern k)) ∷ annotation ss) vs ts)

  -- variables

  variables_less : (p : Place) (ss : Symbols) (ts : List Terminal) → Holds ok (Symbol.First Element.Variable Closer.Angle ∷ ss) ts → Holds ok (Symbol.Variables ∷ ss) (mark Mark.Less p ∷ ts)
  variables_less p ss ts (on {us = us} d h) = elim (variables_of ok Closer.Angle ts us d) [ all_variables q xs ↦ on (variables (G.value_variables p q xs)) h ]

  variables_one : (ss : Symbols) (ts : List Terminal) → Holds ok (Symbol.Annotated Part.Variable ∷ Symbol.Make Maker.OneVariable ∷ ss) ts → Holds ok (Symbol.Variables ∷ ss) ts
  variables_one ss ts (on (variable d) (on make h)) = on (variables (G.one_variable d)) h

  pub variables_back : (t : Kind) (p : Place) (ss : Symbols) (vs : Values) (ts : List Terminal) → Backs (M.variables t p ss vs) (token t p) ts (Holds ok (Symbol.Variables ∷ ss) (token t p ∷ ts))
  variables_back (Kind.Mark Mark.Less) p ss vs ts = λ o h. variables_less p ss ts h
  variables_back t p ss vs ts = widen (M.annotated Part.Variable t p (Symbol.Make Maker.OneVariable ∷ ss) vs) (token t p) ts (variables_one ss (token t p ∷ ts)) (annotated_back Part.Variable t p (Symbol.Make Maker.OneVariable ∷ ss) vs ts)
