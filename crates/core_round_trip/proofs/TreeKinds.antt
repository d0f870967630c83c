-- The kinds of the terminals that a plain tree is printed as, in their order. Each function takes the kinds behind those of
-- its part.
use Rattle.std.specs.Prelude.{ℕ, ℤ, pos, negsuc, List, [], ◌∷◌, Bool, true, false}
use Rattle.hipe_terms.specs.declared.constant.Constant as RustConstant
use Rattle.hipe_terms.specs.declared.place.Place.{Place}
use Rattle.hipe_terms.specs.Terms.{Term, Terms, integer, atom, nil, cons, tuple, fun, none, more, term_of}
use Rattle.core_ast.specs.declared.pattern.Var.{Var}
use Rattle.core_ast.specs.declared.tree.FunName.{FunName}
use Rattle.core_ast.specs.Trees.{Pattern, Patterns, no_pattern, and_pattern, Expression, Expressions, no_expression, and_expression, Clauses, no_clause, and_clause, Definitions, no_definition, and_definition, Module}
use Rattle.core_grammar.specs.declared.terminal.Kind.{Kind}
use Rattle.core_grammar.specs.declared.terminal.Mark.{Mark}
use Rattle.core_grammar.specs.declared.terminal.Terminal.{Terminal}
use Rattle.core_grammar.specs.Leave.{token}
use Rattle.core_print.specs.Printed.{is_nil_pattern, is_nil}

-- terminals of these kinds, wherever they stand
pub data Kinds : List Kind → List Terminal → Type 0 where
  nothing : Kinds [] []
  next : {k : Kind} {ks : List Kind} {ts : List Terminal} (p : Place) → Kinds ks ts → Kinds (k ∷ ks) (token k p ∷ ts)

-- an integer has a sign only where it is less than 0
abbrev pub integer_kind : ℤ → Kind
integer_kind (pos n) = Kind.Natural n
integer_kind (negsuc n) = Kind.Integer (negsuc n)

-- ---- constants

-- a list is printed with the elements of its tail
abbrev mutual
  pub term_kinds : Term → List Kind → List Kind
  term_kinds (integer n) ks = integer_kind n ∷ ks
  term_kinds (atom a) ks = Kind.Atom a ∷ ks
  term_kinds nil ks = Kind.Mark Mark.OpenSquare ∷ Kind.Mark Mark.CloseSquare ∷ ks
  term_kinds (cons a b) ks = Kind.Mark Mark.OpenSquare ∷ term_kinds a (tail_kinds b ks)
  term_kinds (tuple ts) ks = Kind.Mark Mark.OpenBrace ∷ terms_kinds ts (Kind.Mark Mark.CloseBrace ∷ ks)
  term_kinds (fun f ts) ks = ks

  -- what comes behind an element, where this is the rest of the list
  pub tail_kinds : Term → List Kind → List Kind
  tail_kinds (integer n) ks = Kind.Mark Mark.Bar ∷ integer_kind n ∷ Kind.Mark Mark.CloseSquare ∷ ks
  tail_kinds (atom a) ks = Kind.Mark Mark.Bar ∷ Kind.Atom a ∷ Kind.Mark Mark.CloseSquare ∷ ks
  tail_kinds nil ks = Kind.Mark Mark.CloseSquare ∷ ks
  tail_kinds (cons a b) ks = Kind.Mark Mark.Comma ∷ term_kinds a (tail_kinds b ks)
  tail_kinds (tuple ts) ks = Kind.Mark Mark.Bar ∷ Kind.Mark Mark.OpenBrace ∷ terms_kinds ts (Kind.Mark Mark.CloseBrace ∷ Kind.Mark Mark.CloseSquare ∷ ks)
  tail_kinds (fun f ts) ks = ks

  pub terms_kinds : Terms → List Kind → List Kind
  terms_kinds none ks = ks
  terms_kinds (more t ts) ks = term_kinds t (terms_behind ts ks)

  -- each behind a comma
  pub terms_behind : Terms → List Kind → List Kind
  terms_behind none ks = ks
  terms_behind (more t ts) ks = Kind.Mark Mark.Comma ∷ term_kinds t (terms_behind ts ks)

-- ---- names and variables

abbrev pub name_kinds : FunName → List Kind → List Kind
name_kinds f ks = Kind.Atom f.name ∷ Kind.Mark Mark.Slash ∷ Kind.Natural f.arity ∷ ks

-- each behind a comma
abbrev pub variables_behind : List Var → List Kind → List Kind
variables_behind [] ks = ks
variables_behind (x ∷ xs) ks = Kind.Mark Mark.Comma ∷ Kind.Variable x.name ∷ variables_behind xs ks

abbrev pub variables_kinds : List Var → List Kind → List Kind
variables_kinds [] ks = ks
variables_kinds (x ∷ xs) ks = Kind.Variable x.name ∷ variables_behind xs ks

-- the variables that a `let` or a `try` binds
abbrev pub binders_kinds : List Var → List Kind → List Kind
binders_kinds xs ks = Kind.Mark Mark.Less ∷ variables_kinds xs (Kind.Mark Mark.Greater ∷ ks)

-- what stands behind the elements of a list, by whether its tail is the empty list; first what a tail would give
abbrev pub list_end : Bool → List Kind → List Kind → List Kind
list_end true inner ks = Kind.Mark Mark.CloseSquare ∷ ks
list_end false inner ks = Kind.Mark Mark.Bar ∷ inner

-- ---- patterns

abbrev mutual
  pub pattern_kinds : Pattern → List Kind → List Kind
  pattern_kinds (Pattern.Variable p x) ks = Kind.Variable x ∷ ks
  pattern_kinds (Pattern.Int p n) ks = integer_kind n ∷ ks
  pattern_kinds (Pattern.Atom p a) ks = Kind.Atom a ∷ ks
  pattern_kinds (Pattern.Nil p) ks = Kind.Mark Mark.OpenSquare ∷ Kind.Mark Mark.CloseSquare ∷ ks
  pattern_kinds (Pattern.Tuple p fs) ks = Kind.Mark Mark.OpenBrace ∷ patterns_kinds fs (Kind.Mark Mark.CloseBrace ∷ ks)
  pattern_kinds (Pattern.Cons p fs tail) ks = Kind.Mark Mark.OpenSquare ∷ patterns_kinds fs (list_end (is_nil_pattern tail) (pattern_kinds tail (Kind.Mark Mark.CloseSquare ∷ ks)) ks)
  pattern_kinds (Pattern.Alias p x f) ks = Kind.Variable x.name ∷ Kind.Mark Mark.Equals ∷ pattern_kinds f ks

  pub patterns_kinds : Patterns → List Kind → List Kind
  patterns_kinds no_pattern ks = ks
  patterns_kinds (and_pattern f fs) ks = pattern_kinds f (patterns_behind fs ks)

  -- each behind a comma
  pub patterns_behind : Patterns → List Kind → List Kind
  patterns_behind no_pattern ks = ks
  patterns_behind (and_pattern f fs) ks = Kind.Mark Mark.Comma ∷ pattern_kinds f (patterns_behind fs ks)

-- ---- expressions

abbrev mutual
  pub kinds : Expression → List Kind → List Kind
  kinds (Expression.Int p n) ks = integer_kind n ∷ ks
  kinds (Expression.Atom p a) ks = Kind.Atom a ∷ ks
  kinds (Expression.Nil p) ks = Kind.Mark Mark.OpenSquare ∷ Kind.Mark Mark.CloseSquare ∷ ks
  kinds (Expression.Variable p x) ks = Kind.Variable x ∷ ks
  kinds (Expression.Name p f) ks = name_kinds f ks
  kinds (Expression.Tuple p es) ks = Kind.Mark Mark.OpenBrace ∷ kinds_of_all es (Kind.Mark Mark.CloseBrace ∷ ks)
  kinds (Expression.Cons p es tail) ks = Kind.Mark Mark.OpenSquare ∷ kinds_of_all es (list_end (is_nil tail) (kinds tail (Kind.Mark Mark.CloseSquare ∷ ks)) ks)
  kinds (Expression.Values p es) ks = Kind.Mark Mark.Less ∷ kinds_of_all es (Kind.Mark Mark.Greater ∷ ks)
  kinds (Expression.Let p xs values body) ks = Kind.Mark Mark.Let ∷ binders_kinds xs (Kind.Mark Mark.Equals ∷ kinds values (Kind.Mark Mark.In ∷ kinds body ks))
  kinds (Expression.Case p values cs) ks = Kind.Mark Mark.Case ∷ kinds values (Kind.Mark Mark.Of ∷ clauses_kinds cs (Kind.Mark Mark.End ∷ ks))
  kinds (Expression.Lambda p q xs body) ks = Kind.Mark Mark.Fun ∷ Kind.Mark Mark.OpenRound ∷ variables_kinds xs (Kind.Mark Mark.CloseRound ∷ Kind.Mark Mark.Arrow ∷ kinds body ks)
  kinds (Expression.Letrec p ds body) ks = Kind.Mark Mark.Letrec ∷ definitions_kinds ds (Kind.Mark Mark.In ∷ kinds body ks)
  kinds (Expression.Apply p f args) ks = Kind.Mark Mark.Apply ∷ kinds f (Kind.Mark Mark.OpenRound ∷ kinds_of_all args (Kind.Mark Mark.CloseRound ∷ ks))
  kinds (Expression.Call p m f args) ks = Kind.Mark Mark.Call ∷ Kind.Atom m ∷ Kind.Mark Mark.Colon ∷ Kind.Atom f ∷ Kind.Mark Mark.OpenRound ∷ kinds_of_all args (Kind.Mark Mark.CloseRound ∷ ks)
  kinds (Expression.Primop p f args) ks = Kind.Mark Mark.Primop ∷ Kind.Atom f ∷ Kind.Mark Mark.OpenRound ∷ kinds_of_all args (Kind.Mark Mark.CloseRound ∷ ks)
  kinds (Expression.Try p part xs body ys handler) ks =
      Kind.Mark Mark.Try ∷ kinds part (Kind.Mark Mark.Of ∷ binders_kinds xs (Kind.Mark Mark.Arrow ∷ kinds body (Kind.Mark Mark.Catch ∷ binders_kinds ys (Kind.Mark Mark.Arrow ∷ kinds handler ks))))
  kinds (Expression.Do p first second) ks = Kind.Mark Mark.Do ∷ kinds first (kinds second ks)
  kinds (Expression.Catch p part) ks = Kind.Mark Mark.Catch ∷ kinds part ks

  pub kinds_of_all : Expressions → List Kind → List Kind
  kinds_of_all no_expression ks = ks
  kinds_of_all (and_expression e es) ks = kinds e (kinds_behind es ks)

  -- each behind a comma
  pub kinds_behind : Expressions → List Kind → List Kind
  kinds_behind no_expression ks = ks
  kinds_behind (and_expression e es) ks = Kind.Mark Mark.Comma ∷ kinds e (kinds_behind es ks)

  pub clauses_kinds : Clauses → List Kind → List Kind
  clauses_kinds no_clause ks = ks
  clauses_kinds (and_clause p fs guard body cs) ks =
      Kind.Mark Mark.Less ∷ patterns_kinds fs (Kind.Mark Mark.Greater ∷ Kind.Mark Mark.When ∷ kinds guard (Kind.Mark Mark.Arrow ∷ kinds body (clauses_kinds cs ks)))

  pub definitions_kinds : Definitions → List Kind → List Kind
  definitions_kinds no_definition ks = ks
  definitions_kinds (and_definition p f q xs body ds) ks =
      name_kinds f (Kind.Mark Mark.Equals ∷ Kind.Mark Mark.Fun ∷ Kind.Mark Mark.OpenRound ∷ variables_kinds xs (Kind.Mark Mark.CloseRound ∷ Kind.Mark Mark.Arrow ∷ kinds body (definitions_kinds ds ks)))

-- ---- modules

-- each behind a comma
abbrev pub exports_behind : List (FunName × Place) → List Kind → List Kind
exports_behind [] ks = ks
exports_behind (e ∷ es) ks = Kind.Mark Mark.Comma ∷ name_kinds e.0 (exports_behind es ks)

abbrev pub exports_kinds : List (FunName × Place) → List Kind → List Kind
exports_kinds [] ks = ks
exports_kinds (e ∷ es) ks = name_kinds e.0 (exports_behind es ks)

abbrev pub attribute_kinds : List ℕ × RustConstant.Constant → List Kind → List Kind
attribute_kinds a ks = Kind.Atom a.0 ∷ Kind.Mark Mark.Equals ∷ term_kinds (term_of a.1) ks

-- each behind a comma
abbrev pub attributes_behind : List (List ℕ × RustConstant.Constant) → List Kind → List Kind
attributes_behind [] ks = ks
attributes_behind (a ∷ as') ks = Kind.Mark Mark.Comma ∷ attribute_kinds a (attributes_behind as' ks)

abbrev pub attributes_kinds : List (List ℕ × RustConstant.Constant) → List Kind → List Kind
attributes_kinds [] ks = ks
attributes_kinds (a ∷ as') ks = attribute_kinds a (attributes_behind as' ks)

abbrev pub module_kinds : Module → List Kind
module_kinds m =
    Kind.Mark Mark.Module
    ∷ Kind.Atom m.name
    ∷ Kind.Mark Mark.OpenSquare
    ∷ exports_kinds m.exports
    (Kind.Mark Mark.CloseSquare
    ∷ Kind.Mark Mark.Attributes
    ∷ Kind.Mark Mark.OpenSquare
    ∷ attributes_kinds m.attributes (Kind.Mark Mark.CloseSquare ∷ definitions_kinds m.definitions (Kind.Mark Mark.End ∷ [])))
