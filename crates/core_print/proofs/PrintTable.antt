-- The text of each construct and of a module, by hand. Each line is checked by computing its left side.
use Rattle.std.proofs.Common.{◌≡◌, ℕ, pos, negsuc, List, [], ◌∷◌, refl, codes}
use Rattle.std.specs.Fmt.{digits}
use lib.Utf8.{encode}
use Rattle.core_ast.specs.declared.pattern.Var.{Var}
use Rattle.core_ast.specs.declared.tree.FunName.{FunName}
use Rattle.core_ast.specs.SameTree.{start}
use Rattle.core_ast.specs.Trees.{Pattern, no_pattern, and_pattern, Expression, Expressions, no_expression, and_expression, no_clause, and_clause, no_definition, and_definition}
use Rattle.core_print.specs.Printed.{deeper, text_of, pattern_pieces, pieces, printed, opened, tail_pieces, name_pieces, alias_pieces, spaced_pieces, block_pieces, next_pieces, let_pieces, in_pieces, of_pieces, clause_pieces, fun_pieces, definition_pieces, call_pieces, primop_pieces, branch_pieces, arrow, equals, head_pieces, attributes_pieces}

-- ---- trees

abbrev x : List ℕ → Expression
x name = Expression.Variable start name

abbrev one : Expression
one = Expression.Int start (pos 1)

abbrev both : Expression → Expression → Expressions
both a b = and_expression a (and_expression b no_expression)

abbrev bound : List ℕ → Var
bound name = record { name = name; at = start }

abbrev f : FunName
f = record { name = codes "f"; arity = 1 }

abbrev yes : Expression
yes = Expression.Atom start (codes "true")

abbrev text : ℕ → Expression → List ℕ
text d e = text_of (pieces d e)

-- ---- what stands on one line

text-integer : text 0 (Expression.Int start (negsuc 4)) ≡ codes "-5"
unfolding digits
text-integer = refl

text-atom : text 0 (Expression.Atom start (codes "it's")) ≡ codes "'it\\'s'"
unfolding encode
text-atom = refl

text-nil : text 0 (Expression.Nil start) ≡ codes "[]"
text-nil = refl

text-name : text 0 (Expression.Name start f) ≡ codes "'f'/1"
unfolding name_pieces digits encode
text-name = refl

text-no_tuple : text 0 (Expression.Tuple start no_expression) ≡ codes "{}"
unfolding opened
text-no_tuple = refl

text-tuple : text 0 (Expression.Tuple start (both (x (codes "X")) (Expression.Int start (negsuc 0)))) ≡ codes "{X,-1}"
unfolding opened digits
text-tuple = refl

text-list : text 0 (Expression.Cons start (both (x (codes "X")) (x (codes "Y"))) (Expression.Nil start)) ≡ codes "[X,Y]"
unfolding opened tail_pieces
text-list = refl

text-list_with_tail : text 0 (Expression.Cons start (both (x (codes "X")) (x (codes "Y"))) (Expression.Int start (negsuc 0))) ≡ codes "[X,Y|-1]"
unfolding opened tail_pieces digits
text-list_with_tail = refl

text-values : text 0 (Expression.Values start (both one one)) ≡ codes "<1,1>"
unfolding opened digits
text-values = refl

text-apply : text 0 (Expression.Apply start (Expression.Name start f) (and_expression one no_expression)) ≡ codes "apply 'f'/1(1)"
unfolding opened spaced_pieces name_pieces digits encode
text-apply = refl

text-call : text 0 (Expression.Call start (codes "m") (codes "f") (both one (x (codes "X")))) ≡ codes "call 'm':'f'(1,X)"
unfolding opened call_pieces digits encode
text-call = refl

text-primop : text 0 (Expression.Primop start (codes "raise") (both (x (codes "T")) (x (codes "R")))) ≡ codes "primop 'raise'(T,R)"
unfolding opened primop_pieces encode
text-primop = refl

text-catch : text 0 (Expression.Catch start one) ≡ codes "catch 1"
unfolding spaced_pieces digits
text-catch = refl

text-alias : text_of (pattern_pieces (Pattern.Alias start (bound (codes "V")) (Pattern.Cons start (and_pattern (Pattern.Variable start (codes "H")) no_pattern) (Pattern.Variable start (codes "T"))))) ≡ codes "V = [H|T]"
unfolding opened tail_pieces alias_pieces
text-alias = refl

-- ---- what stands on more lines

text-let : text 1 (Expression.Let start (bound (codes "X") ∷ bound (codes "Y") ∷ []) (Expression.Values start (both one one)) (x (codes "X")))
    ≡ codes "let <X,Y> =\n    <1,1>\n  in\n  X"
unfolding opened let_pieces equals in_pieces deeper digits
text-let = refl

text-case : text 0 (Expression.Case start (x (codes "X")) (and_clause start (and_pattern (Pattern.Int start (pos 1)) no_pattern) yes one no_clause)) ≡ codes "case X of\n  <1> when 'true' ->\n    1\nend"
unfolding opened spaced_pieces of_pieces clause_pieces arrow deeper digits encode
text-case = refl

text-fun : text 0 (Expression.Lambda start start (bound (codes "X") ∷ bound (codes "Y") ∷ []) (x (codes "X"))) ≡ codes "fun (X,Y) ->\n  X"
unfolding opened fun_pieces arrow deeper
text-fun = refl

text-letrec : text 0 (Expression.Letrec start (and_definition start f start (bound (codes "X") ∷ []) (x (codes "X")) no_definition) one)
    ≡ codes "letrec\n  'f'/1 =\n    fun (X) ->\n      X\nin\n1"
unfolding opened definition_pieces name_pieces equals fun_pieces arrow in_pieces deeper digits encode
text-letrec = refl

text-try : text 0 (Expression.Try start one (bound (codes "V") ∷ []) (x (codes "V")) (bound (codes "C") ∷ bound (codes "R") ∷ []) (x (codes "R")))
    ≡ codes "try\n  1\nof <V> ->\n  V\ncatch <C,R> ->\n  R"
unfolding opened block_pieces branch_pieces arrow deeper digits
text-try = refl

text-do : text 0 (Expression.Do start one (x (codes "X"))) ≡ codes "do\n  1\nX"
unfolding block_pieces next_pieces deeper digits
text-do = refl

-- ---- the limit of indentation

not-deeper : deeper 20 ≡ 20
unfolding deeper
not-deeper = refl

-- ---- a module

text-module : printed (record { name = codes "m"; exports = (f, start) ∷ []; attributes = []; definitions = and_definition start f start (bound (codes "X") ∷ []) (x (codes "X")) no_definition })
    ≡ codes "module 'm' ['f'/1]\n  attributes []\n'f'/1 =\n  fun (X) ->\n    X\nend\n"
unfolding opened head_pieces attributes_pieces definition_pieces name_pieces equals fun_pieces arrow deeper digits encode
text-module = refl
