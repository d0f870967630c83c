-- The text of a module.
--
-- A module is printed as a list of pieces: tokens, constants, spaces and ends of lines. Reading its text gives the same pieces
-- back, since no token goes on into the piece behind it:
--   behind a keyword stands a space or a line, or behind `end` a sign;
--   behind a variable or an integer stands a sign, a space or a line, and no sign here begins with `.`, `#` or `-` but the
--   arrow, which has a space before it;
--   an atom ends at its closing quote, and no atom stands directly behind another;
--   the signs that stand directly before a `-` are `(`, `[`, `{`, `<`, `,` and `|`, and it begins an integer there: the
--   tokens `->` and `-|` begin with the `-` and don't end with it.
-- Nothing is annotated, so each `(` opens parameters or arguments.
use Rattle.std.specs.Prelude.{ℕ, zero, suc, ◌+◌, ℤ, pos, Bool, true, false, nat_lt, if◌then◌else◌, List, [], ◌∷◌, ◌++◌, map, flat_map, codes}
use Rattle.std.specs.Fmt.{signed_decimal}
use Rattle.std.specs.List.{repeat}
use Rattle.hipe_terms.specs.declared.constant.Constant as RustConstant
use Rattle.hipe_terms.specs.declared.place.Place.{Place}
use Rattle.hipe_terms.specs.Shown.{quoted, shown}
use Rattle.hipe_terms.specs.Terms.{Term, term_of}
use Rattle.core_ast.specs.declared.pattern.Var.{Var}
use Rattle.core_print.specs.declared.piece.TheConstants.{INDENTATION_LIMIT}
use Rattle.core_ast.specs.declared.tree.FunName.{FunName}
use Rattle.core_ast.specs.Trees.{Pattern, Patterns, no_pattern, and_pattern, Expression, Expressions, no_expression, and_expression, Clauses, no_clause, and_clause, Definitions, no_definition, and_definition, Function, Module}

-- ---- pieces and their text

-- An atom is its code points. `Line` ends a line, and indents the next one by so many levels.
pub data Piece : Type 0 where
  Atom : List ℕ → Piece
  Variable : List ℕ → Piece
  Integer : ℤ → Piece
  Constant : Term → Piece
  Keyword : List ℕ → Piece
  Sign : List ℕ → Piece
  Space : Piece
  Line : ℕ → Piece

-- two spaces for each level
abbrev pub indentation : ℕ → List ℕ
indentation d = repeat d (codes "  ")

abbrev pub spelled : Piece → List ℕ
spelled (Piece.Atom a) = quoted a
spelled (Piece.Variable x) = x
spelled (Piece.Integer n) = signed_decimal n
spelled (Piece.Constant t) = shown [] t
spelled (Piece.Keyword w) = w
spelled (Piece.Sign s) = s
spelled Piece.Space = codes " "
spelled (Piece.Line d) = 10 ∷ indentation d

abbrev pub text_of : List Piece → List ℕ
text_of ps = flat_map spelled ps

-- ---- lists of pieces

abbrev pub atom : List ℕ → List Piece
atom a = Piece.Atom a ∷ []

abbrev pub variable : List ℕ → List Piece
variable x = Piece.Variable x ∷ []

abbrev pub integer : ℤ → List Piece
integer n = Piece.Integer n ∷ []

abbrev pub keyword : List ℕ → List Piece
keyword w = Piece.Keyword w ∷ []

abbrev pub sign : List ℕ → List Piece
sign s = Piece.Sign s ∷ []

abbrev pub space : List Piece
space = Piece.Space ∷ []

abbrev pub line : ℕ → List Piece
line d = Piece.Line d ∷ []

-- The next level. From the limit on lines aren't indented further, so that the text of a deep tree isn't much longer than
-- the tree.
unfoldable pub deeper : ℕ → ℕ
deeper d = if nat_lt d INDENTATION_LIMIT then d + 1 else d

-- each with a comma before it
abbrev pub after_comma : List (List Piece) → List Piece
after_comma [] = []
after_comma (x ∷ xs) = sign (codes ",") ++ x ++ after_comma xs

abbrev pub with_commas : List (List Piece) → List Piece
with_commas [] = []
with_commas (x ∷ xs) = x ++ after_comma xs

-- what opens some parts, and the parts with commas between them
unfoldable pub opened : List ℕ → List (List Piece) → List Piece
opened opening parts = sign opening ++ with_commas parts

-- the same, with what closes them
abbrev pub enclosed : List ℕ → List (List Piece) → List ℕ → List Piece
enclosed opening parts closing = opened opening parts ++ sign closing

-- ---- one construct, by the pieces of its parts

-- an arrow, and the line behind it
unfoldable pub arrow : ℕ → List Piece
arrow d = space ++ sign (codes "->") ++ line (deeper d)

-- an equals sign, and the line behind it
unfoldable pub equals : ℕ → List Piece
equals d = space ++ sign (codes "=") ++ line (deeper d)

-- 'f'/1
unfoldable pub name_pieces : FunName → List Piece
name_pieces f = atom f.name ++ sign (codes "/") ++ integer (pos f.arity)

-- the empty list
abbrev pub nil_pieces : List Piece
nil_pieces = sign (codes "[") ++ sign (codes "]")

-- what stands behind the elements of a list: ] where its tail is the empty list, else |t]
unfoldable pub tail_pieces : Bool → List Piece → List Piece
tail_pieces true tail = sign (codes "]")
tail_pieces false tail = sign (codes "|") ++ tail ++ sign (codes "]")

abbrev pub variable_pieces : Var → List Piece
variable_pieces x = variable x.name

-- V = P
unfoldable pub alias_pieces : Var → List Piece → List Piece
alias_pieces x part = variable_pieces x ++ space ++ sign (codes "=") ++ space ++ part

-- the variables that a `let` or a `try` binds
abbrev pub binders : List Var → List Piece
binders xs = enclosed (codes "<") (map variable_pieces xs) (codes ">")

-- apply F, catch E, case E and when E
unfoldable pub spaced_pieces : List ℕ → List Piece → List Piece
spaced_pieces w part = keyword w ++ space ++ part

-- try, do
--   E
unfoldable pub block_pieces : ℕ → List ℕ → List Piece → List Piece
block_pieces d w part = keyword w ++ line (deeper d) ++ part

-- the second expression of a `do`, on a line of its own
unfoldable pub next_pieces : ℕ → List Piece → List Piece
next_pieces d part = line d ++ part

-- let <X,Y> =
--   E
unfoldable pub let_pieces : ℕ → List Var → List Piece → List Piece
let_pieces d xs values = keyword (codes "let") ++ space ++ binders xs ++ equals d ++ values

-- in
-- E
unfoldable pub in_pieces : ℕ → List Piece → List Piece
in_pieces d body = line d ++ keyword (codes "in") ++ line d ++ body

-- of, clauses and end
unfoldable pub of_pieces : ℕ → List Piece → List Piece
of_pieces d clauses = space ++ keyword (codes "of") ++ clauses ++ line d ++ keyword (codes "end")

-- <P,Q> when G ->
--   E
unfoldable pub clause_pieces : ℕ → List (List Piece) → List Piece → List Piece → List Piece
clause_pieces d patterns guard body = line d ++ enclosed (codes "<") patterns (codes ">") ++ space ++ spaced_pieces (codes "when") guard ++ arrow d ++ body

-- fun (X,Y) ->
--   E
unfoldable pub fun_pieces : ℕ → List Var → List Piece → List Piece
fun_pieces d xs body = keyword (codes "fun") ++ space ++ enclosed (codes "(") (map variable_pieces xs) (codes ")") ++ arrow d ++ body

-- 'f'/1 =
--   fun ..
unfoldable pub definition_pieces : ℕ → FunName → List Piece → List Piece
definition_pieces d f function = line d ++ name_pieces f ++ equals d ++ function

-- call 'm':'f'(A,B)
unfoldable pub call_pieces : List ℕ → List ℕ → List (List Piece) → List Piece
call_pieces of name arguments = keyword (codes "call") ++ space ++ atom of ++ sign (codes ":") ++ atom name ++ enclosed (codes "(") arguments (codes ")")

-- primop 'f'(A,B)
unfoldable pub primop_pieces : List ℕ → List (List Piece) → List Piece
primop_pieces name arguments = keyword (codes "primop") ++ space ++ atom name ++ enclosed (codes "(") arguments (codes ")")

-- of <X,Y> ->
--   E
-- and the same with `catch`
unfoldable pub branch_pieces : ℕ → List ℕ → List Var → List Piece → List Piece
branch_pieces d w xs body = line d ++ keyword w ++ space ++ binders xs ++ arrow d ++ body

-- ---- patterns and expressions; d is the level of the line on which they begin

abbrev pub is_nil_pattern : Pattern → Bool
is_nil_pattern (Pattern.Nil p) = true
is_nil_pattern _ = false

abbrev mutual
  pub pattern_pieces : Pattern → List Piece
  pattern_pieces (Pattern.Variable p x) = variable x
  pattern_pieces (Pattern.Int p n) = integer n
  pattern_pieces (Pattern.Atom p a) = atom a
  pattern_pieces (Pattern.Nil p) = nil_pieces
  pattern_pieces (Pattern.Tuple p parts) = enclosed (codes "{") (each_pattern parts) (codes "}")
  pattern_pieces (Pattern.Cons p parts tail) = opened (codes "[") (each_pattern parts) ++ tail_pieces (is_nil_pattern tail) (pattern_pieces tail)
  pattern_pieces (Pattern.Alias p x part) = alias_pieces x (pattern_pieces part)

  pub each_pattern : Patterns → List (List Piece)
  each_pattern no_pattern = []
  each_pattern (and_pattern p ps) = pattern_pieces p ∷ each_pattern ps

abbrev pub is_nil : Expression → Bool
is_nil (Expression.Nil p) = true
is_nil _ = false

abbrev mutual
  pub pieces : ℕ → Expression → List Piece
  pieces d (Expression.Int p n) = integer n
  pieces d (Expression.Atom p a) = atom a
  pieces d (Expression.Nil p) = nil_pieces
  pieces d (Expression.Variable p x) = variable x
  pieces d (Expression.Name p f) = name_pieces f
  pieces d (Expression.Tuple p es) = enclosed (codes "{") (each d es) (codes "}")
  pieces d (Expression.Cons p es tail) = opened (codes "[") (each d es) ++ tail_pieces (is_nil tail) (pieces d tail)
  pieces d (Expression.Values p es) = enclosed (codes "<") (each d es) (codes ">")
  pieces d (Expression.Let p xs values body) = let_pieces d xs (pieces (deeper d) values) ++ in_pieces d (pieces d body)
  pieces d (Expression.Case p values cs) = spaced_pieces (codes "case") (pieces d values) ++ of_pieces d (clauses_pieces (deeper d) cs)
  pieces d (Expression.Lambda p q xs body) = fun_pieces d xs (pieces (deeper d) body)
  pieces d (Expression.Letrec p ds body) = keyword (codes "letrec") ++ definitions_pieces (deeper d) ds ++ in_pieces d (pieces d body)
  pieces d (Expression.Apply p f args) = spaced_pieces (codes "apply") (pieces d f) ++ enclosed (codes "(") (each d args) (codes ")")
  pieces d (Expression.Call p m f args) = call_pieces m f (each d args)
  pieces d (Expression.Primop p f args) = primop_pieces f (each d args)
  pieces d (Expression.Try p part xs body ys handler) = block_pieces d (codes "try") (pieces (deeper d) part) ++ branch_pieces d (codes "of") xs (pieces (deeper d) body) ++ branch_pieces d (codes "catch") ys (pieces (deeper d) handler)
  pieces d (Expression.Do p first second) = block_pieces d (codes "do") (pieces (deeper d) first) ++ next_pieces d (pieces d second)
  pieces d (Expression.Catch p part) = spaced_pieces (codes "catch") (pieces d part)

  pub each : ℕ → Expressions → List (List Piece)
  each d no_expression = []
  each d (and_expression e es) = pieces d e ∷ each d es

  pub clauses_pieces : ℕ → Clauses → List Piece
  clauses_pieces d no_clause = []
  clauses_pieces d (and_clause p ps guard body cs) = clause_pieces d (each_pattern ps) (pieces d guard) (pieces (deeper d) body) ++ clauses_pieces d cs

  pub definitions_pieces : ℕ → Definitions → List Piece
  definitions_pieces d no_definition = []
  definitions_pieces d (and_definition p f q xs body ds) = definition_pieces d f (fun_pieces (deeper d) xs (pieces (deeper (deeper d)) body)) ++ definitions_pieces d ds

-- a fun with its parameters and body
abbrev pub function_pieces : ℕ → Function → List Piece
function_pieces d f = fun_pieces d f.parameters (pieces (deeper d) f.body)

-- ---- modules

abbrev pub export_pieces : FunName × Place → List Piece
export_pieces e = name_pieces e.0

-- 'a' = constant
unfoldable pub attribute_pieces : List ℕ × RustConstant.Constant → List Piece
attribute_pieces a = atom a.0 ++ space ++ sign (codes "=") ++ space ++ (Piece.Constant (term_of a.1) ∷ [])

-- module 'm' ['f'/1,..]
unfoldable pub head_pieces : List ℕ → List (FunName × Place) → List Piece
head_pieces name exports = keyword (codes "module") ++ space ++ atom name ++ space ++ enclosed (codes "[") (map export_pieces exports) (codes "]")

--   attributes ['a' = constant,..]
unfoldable pub attributes_pieces : List (List ℕ × RustConstant.Constant) → List Piece
attributes_pieces attributes = line (deeper 0) ++ keyword (codes "attributes") ++ space ++ enclosed (codes "[") (map attribute_pieces attributes) (codes "]")

-- the definitions, `end`, and the end of the last line
abbrev pub module_pieces : Module → List Piece
module_pieces m = head_pieces m.name m.exports ++ attributes_pieces m.attributes ++ definitions_pieces 0 m.definitions ++ line 0 ++ keyword (codes "end") ++ line 0

-- the text of a module
abbrev pub printed : Module → List ℕ
printed m = text_of (module_pieces m)

-- ---- texts that pieces are appended to, and parts from one of them on

-- a text with this piece behind it
unfoldable pub put : Piece → List ℕ → List ℕ
put p text = text ++ spelled p

-- a text with these pieces behind it
abbrev pub followed_by : List Piece → List ℕ → List ℕ
followed_by [] text = text
followed_by (p ∷ ps) text = followed_by ps (put p text)

-- a comma, but for the first of some parts
abbrev pub comma_before : ℕ → List Piece
comma_before zero = []
comma_before (suc i) = sign (codes ",")

-- the parts from the one with this number on, where 0 is the first, with a comma before each but the first
unfoldable pub commas_from : ℕ → List (List Piece) → List Piece
commas_from zero xs = with_commas xs
commas_from (suc i) xs = after_comma xs
