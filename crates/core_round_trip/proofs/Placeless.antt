-- What is printed of a tree, and whether it is well formed, doesn't depend on its places.
use Rattle.std.proofs.Common.{◌≡◌, ℕ, Bool, not, ◌&&◌, List, [], ◌∷◌, ◌++◌, map, codes, refl, ap, ap₂, sym, ◌∙◌}
use Rattle.hipe_terms.specs.declared.place.Place.{Place}
use Rattle.core_ast.specs.declared.pattern.Var.{Var}
use Rattle.core_ast.specs.declared.tree.FunName.{FunName}
use Rattle.core_ast.specs.declared.tree.Module as RustModule
use Rattle.core_ast.specs.Trees.{Pattern, Patterns, no_pattern, and_pattern, Expression, Expressions, no_expression, and_expression, Clauses, no_clause, and_clause, Definitions, no_definition, and_definition, Module, module_of}
use Rattle.core_ast.specs.SameTree.{placeless_variable, placeless_variables, placeless_pattern, placeless_patterns, placeless, placeless_expressions, placeless_clauses, placeless_definitions, placeless_export, placeless_module, SameTree}
use Rattle.core_ast.specs.WellFormed.{well_formed_pattern, well_formed_patterns, well_formed, well_formed_expressions, well_formed_clauses, well_formed_definitions, well_formed_attributes, well_formed_module, IsWellFormed}
use Rattle.core_print.specs.Printed.{Piece, text_of, keyword, space, line, deeper, opened, enclosed, arrow, equals, tail_pieces, variable_pieces, alias_pieces, spaced_pieces, block_pieces, next_pieces, let_pieces, in_pieces, of_pieces, clause_pieces, fun_pieces, definition_pieces, call_pieces, primop_pieces, branch_pieces, is_nil_pattern, pattern_pieces, each_pattern, is_nil, pieces, each, clauses_pieces, definitions_pieces, export_pieces, head_pieces, attributes_pieces, printed}
use Rattle.core_round_trip.proofs.Made.{placeless_list_pattern, placeless_list}

ap₃ : {A B C D : Type 0} (f : A → B → C → D) {a a' : A} {b b' : B} {c c' : C} → a ≡ a' → b ≡ b' → c ≡ c' → f a b c ≡ f a' b' c'
ap₃ f p q r = λ i. f (p i) (q i) (r i)

-- ---- variables

names_printed : (xs : List Var) → map variable_pieces (placeless_variables xs) ≡ map variable_pieces xs
names_printed [] = refl
names_printed (x ∷ xs) = ap (λ ps. variable_pieces x ∷ ps) (names_printed xs)

alias_printed : (x : Var) (part : List Piece) → alias_pieces (placeless_variable x) part ≡ alias_pieces x part
unfolding alias_pieces
alias_printed x part = refl

let_printed : (d : ℕ) (xs : List Var) (values : List Piece) → let_pieces d (placeless_variables xs) values ≡ let_pieces d xs values
unfolding let_pieces
let_printed d xs values = ap (λ ns. keyword (codes "let") ++ space ++ enclosed (codes "<") ns (codes ">") ++ equals d ++ values) (names_printed xs)

fun_printed : (d : ℕ) (xs : List Var) (body : List Piece) → fun_pieces d (placeless_variables xs) body ≡ fun_pieces d xs body
unfolding fun_pieces
fun_printed d xs body = ap (λ ns. keyword (codes "fun") ++ space ++ enclosed (codes "(") ns (codes ")") ++ arrow d ++ body) (names_printed xs)

branch_printed : (d : ℕ) (w : List ℕ) (xs : List Var) (body : List Piece) → branch_pieces d w (placeless_variables xs) body ≡ branch_pieces d w xs body
unfolding branch_pieces
branch_printed d w xs body = ap (λ ns. line d ++ keyword w ++ space ++ enclosed (codes "<") ns (codes ">") ++ arrow d ++ body) (names_printed xs)

-- ---- what is printed of patterns

nil_pattern : (f : Pattern) → is_nil_pattern (placeless_pattern f) ≡ is_nil_pattern f
nil_pattern (Pattern.Variable p x) = refl
nil_pattern (Pattern.Int p n) = refl
nil_pattern (Pattern.Atom p a) = refl
nil_pattern (Pattern.Nil p) = refl
nil_pattern (Pattern.Tuple p fs) = refl
nil_pattern (Pattern.Cons p fs f) = refl
nil_pattern (Pattern.Alias p x f) = refl

mutual
  pattern_printed : (f : Pattern) → pattern_pieces (placeless_pattern f) ≡ pattern_pieces f
  pattern_printed (Pattern.Variable p x) = refl
  pattern_printed (Pattern.Int p n) = refl
  pattern_printed (Pattern.Atom p a) = refl
  pattern_printed (Pattern.Nil p) = refl
  pattern_printed (Pattern.Tuple p fs) = ap (λ ps. enclosed (codes "{") ps (codes "}")) (patterns_printed fs)
  pattern_printed (Pattern.Cons p fs f) = ap₃ (λ ps b t. opened (codes "[") ps ++ tail_pieces b t) (patterns_printed fs) (nil_pattern f) (pattern_printed f)
  pattern_printed (Pattern.Alias p x f) = alias_printed x (pattern_pieces (placeless_pattern f)) ∙ ap (alias_pieces x) (pattern_printed f)

  patterns_printed : (fs : Patterns) → each_pattern (placeless_patterns fs) ≡ each_pattern fs
  patterns_printed no_pattern = refl
  patterns_printed (and_pattern f fs) = ap₂ (λ p ps. p ∷ ps) (pattern_printed f) (patterns_printed fs)

-- ---- what is printed of expressions

nil_expression : (e : Expression) → is_nil (placeless e) ≡ is_nil e
nil_expression (Expression.Int p n) = refl
nil_expression (Expression.Atom p a) = refl
nil_expression (Expression.Nil p) = refl
nil_expression (Expression.Variable p x) = refl
nil_expression (Expression.Name p f) = refl
nil_expression (Expression.Tuple p es) = refl
nil_expression (Expression.Cons p es e) = refl
nil_expression (Expression.Values p es) = refl
nil_expression (Expression.Let p xs e f) = refl
nil_expression (Expression.Case p e cs) = refl
nil_expression (Expression.Lambda p q xs e) = refl
nil_expression (Expression.Letrec p ds e) = refl
nil_expression (Expression.Apply p e es) = refl
nil_expression (Expression.Call p m f es) = refl
nil_expression (Expression.Primop p f es) = refl
nil_expression (Expression.Try p e xs f ys g) = refl
nil_expression (Expression.Do p e f) = refl
nil_expression (Expression.Catch p e) = refl

mutual
  expression_printed : (d : ℕ) (e : Expression) → pieces d (placeless e) ≡ pieces d e
  expression_printed d (Expression.Int p n) = refl
  expression_printed d (Expression.Atom p a) = refl
  expression_printed d (Expression.Nil p) = refl
  expression_printed d (Expression.Variable p x) = refl
  expression_printed d (Expression.Name p f) = refl
  expression_printed d (Expression.Tuple p es) = ap (λ ps. enclosed (codes "{") ps (codes "}")) (expressions_printed d es)
  expression_printed d (Expression.Cons p es tail) = ap₃ (λ ps b t. opened (codes "[") ps ++ tail_pieces b t) (expressions_printed d es) (nil_expression tail) (expression_printed d tail)
  expression_printed d (Expression.Values p es) = ap (λ ps. enclosed (codes "<") ps (codes ">")) (expressions_printed d es)
  expression_printed d (Expression.Let p xs values body) =
      ap₂ (λ v b. v ++ in_pieces d b) (let_printed d xs (pieces (deeper d) (placeless values)) ∙ ap (let_pieces d xs) (expression_printed (deeper d) values)) (expression_printed d body)
  expression_printed d (Expression.Case p values cs) = ap₂ (λ v c. spaced_pieces (codes "case") v ++ of_pieces d c) (expression_printed d values) (clauses_printed (deeper d) cs)
  expression_printed d (Expression.Lambda p q xs body) = fun_printed d xs (pieces (deeper d) (placeless body)) ∙ ap (fun_pieces d xs) (expression_printed (deeper d) body)
  expression_printed d (Expression.Letrec p ds body) = ap₂ (λ f b. keyword (codes "letrec") ++ f ++ in_pieces d b) (definitions_printed (deeper d) ds) (expression_printed d body)
  expression_printed d (Expression.Apply p f args) = ap₂ (λ g ps. spaced_pieces (codes "apply") g ++ enclosed (codes "(") ps (codes ")")) (expression_printed d f) (expressions_printed d args)
  expression_printed d (Expression.Call p m f args) = ap (call_pieces m f) (expressions_printed d args)
  expression_printed d (Expression.Primop p f args) = ap (primop_pieces f) (expressions_printed d args)
  expression_printed d (Expression.Try p part xs body ys handler) =
      ap₃ (λ a b c. block_pieces d (codes "try") a ++ b ++ c) (expression_printed (deeper d) part)
      (branch_printed d (codes "of") xs (pieces (deeper d) (placeless body)) ∙ ap (branch_pieces d (codes "of") xs) (expression_printed (deeper d) body))
      (branch_printed d (codes "catch") ys (pieces (deeper d) (placeless handler)) ∙ ap (branch_pieces d (codes "catch") ys) (expression_printed (deeper d) handler))
  expression_printed d (Expression.Do p first second) = ap₂ (λ a b. block_pieces d (codes "do") a ++ next_pieces d b) (expression_printed (deeper d) first) (expression_printed d second)
  expression_printed d (Expression.Catch p part) = ap (spaced_pieces (codes "catch")) (expression_printed d part)

  expressions_printed : (d : ℕ) (es : Expressions) → each d (placeless_expressions es) ≡ each d es
  expressions_printed d no_expression = refl
  expressions_printed d (and_expression e es) = ap₂ (λ p ps. p ∷ ps) (expression_printed d e) (expressions_printed d es)

  clauses_printed : (d : ℕ) (cs : Clauses) → clauses_pieces d (placeless_clauses cs) ≡ clauses_pieces d cs
  clauses_printed d no_clause = refl
  clauses_printed d (and_clause p fs guard body cs) = ap₂ (λ c r. c ++ r) (ap₃ (clause_pieces d) (patterns_printed fs) (expression_printed d guard) (expression_printed (deeper d) body)) (clauses_printed d cs)

  definitions_printed : (d : ℕ) (ds : Definitions) → definitions_pieces d (placeless_definitions ds) ≡ definitions_pieces d ds
  definitions_printed d no_definition = refl
  definitions_printed d (and_definition p f q xs body ds) =
      ap₂ (λ b r. definition_pieces d f b ++ r)
      (fun_printed (deeper d) xs (pieces (deeper (deeper d)) (placeless body)) ∙ ap (fun_pieces (deeper d) xs) (expression_printed (deeper (deeper d)) body))
      (definitions_printed d ds)

-- ---- what is printed of modules

exports_printed : (es : List (FunName × Place)) → map export_pieces (map placeless_export es) ≡ map export_pieces es
exports_printed [] = refl
exports_printed (e ∷ es) = ap (λ ps. export_pieces e ∷ ps) (exports_printed es)

head_printed : (name : List ℕ) (es : List (FunName × Place)) → head_pieces name (map placeless_export es) ≡ head_pieces name es
unfolding head_pieces
head_printed name es = ap (λ ps. keyword (codes "module") ++ space ++ (Piece.Atom name ∷ []) ++ space ++ enclosed (codes "[") ps (codes "]")) (exports_printed es)

module_printed : (m : Module) → printed (placeless_module m) ≡ printed m
module_printed m = ap₂ (λ h ds. text_of (h ++ attributes_pieces m.attributes ++ ds ++ line 0 ++ keyword (codes "end") ++ line 0)) (head_printed m.name m.exports) (definitions_printed 0 m.definitions)

pub same_printed : (m n : RustModule.Module) → SameTree m n → printed (module_of m) ≡ printed (module_of n)
same_printed m n e = sym (module_printed (module_of m)) ∙ ap printed e ∙ module_printed (module_of n)

-- ---- well-formed trees

mutual
  pattern_formed : (f : Pattern) → well_formed_pattern (placeless_pattern f) ≡ well_formed_pattern f
  pattern_formed (Pattern.Variable p x) = refl
  pattern_formed (Pattern.Int p n) = refl
  pattern_formed (Pattern.Atom p a) = refl
  pattern_formed (Pattern.Nil p) = refl
  pattern_formed (Pattern.Tuple p fs) = patterns_formed fs
  pattern_formed (Pattern.Cons p fs f) = ap₃ (λ a b c. a && b && not c) (patterns_formed fs) (pattern_formed f) (placeless_list_pattern f)
  pattern_formed (Pattern.Alias p x f) = pattern_formed f

  patterns_formed : (fs : Patterns) → well_formed_patterns (placeless_patterns fs) ≡ well_formed_patterns fs
  patterns_formed no_pattern = refl
  patterns_formed (and_pattern f fs) = ap₂ (λ a b. a && b) (pattern_formed f) (patterns_formed fs)

mutual
  expression_formed : (e : Expression) → well_formed (placeless e) ≡ well_formed e
  expression_formed (Expression.Int p n) = refl
  expression_formed (Expression.Atom p a) = refl
  expression_formed (Expression.Nil p) = refl
  expression_formed (Expression.Variable p x) = refl
  expression_formed (Expression.Name p f) = refl
  expression_formed (Expression.Tuple p es) = expressions_formed es
  expression_formed (Expression.Cons p es tail) = ap₃ (λ a b c. a && b && not c) (expressions_formed es) (expression_formed tail) (placeless_list tail)
  expression_formed (Expression.Values p es) = expressions_formed es
  expression_formed (Expression.Let p xs values body) = ap₂ (λ a b. a && b) (expression_formed values) (expression_formed body)
  expression_formed (Expression.Case p values cs) = ap₂ (λ a b. a && b) (expression_formed values) (clauses_formed cs)
  expression_formed (Expression.Lambda p q xs body) = expression_formed body
  expression_formed (Expression.Letrec p ds body) = ap₂ (λ a b. a && b) (definitions_formed ds) (expression_formed body)
  expression_formed (Expression.Apply p f args) = ap₂ (λ a b. a && b) (expression_formed f) (expressions_formed args)
  expression_formed (Expression.Call p m f args) = expressions_formed args
  expression_formed (Expression.Primop p f args) = expressions_formed args
  expression_formed (Expression.Try p part xs body ys handler) = ap₃ (λ a b c. a && b && c) (expression_formed part) (expression_formed body) (expression_formed handler)
  expression_formed (Expression.Do p first second) = ap₂ (λ a b. a && b) (expression_formed first) (expression_formed second)
  expression_formed (Expression.Catch p part) = expression_formed part

  expressions_formed : (es : Expressions) → well_formed_expressions (placeless_expressions es) ≡ well_formed_expressions es
  expressions_formed no_expression = refl
  expressions_formed (and_expression e es) = ap₂ (λ a b. a && b) (expression_formed e) (expressions_formed es)

  clauses_formed : (cs : Clauses) → well_formed_clauses (placeless_clauses cs) ≡ well_formed_clauses cs
  clauses_formed no_clause = refl
  clauses_formed (and_clause p fs guard body cs) = ap₂ (λ (f : Bool → Bool) (b : Bool). f b) (ap₃ (λ a b c d. a && b && c && d) (patterns_formed fs) (expression_formed guard) (expression_formed body)) (clauses_formed cs)

  definitions_formed : (ds : Definitions) → well_formed_definitions (placeless_definitions ds) ≡ well_formed_definitions ds
  definitions_formed no_definition = refl
  definitions_formed (and_definition p f q xs body ds) = ap₂ (λ a b. a && b) (expression_formed body) (definitions_formed ds)

module_formed : (m : Module) → well_formed_module (placeless_module m) ≡ well_formed_module m
module_formed m = ap (λ b. b && well_formed_attributes m.attributes) (definitions_formed m.definitions)

pub same_formed : (m n : RustModule.Module) → SameTree m n → IsWellFormed (module_of m) → IsWellFormed (module_of n)
same_formed m n e h = sym (sym (module_formed (module_of m)) ∙ ap well_formed_module e ∙ module_formed (module_of n)) ∙ h
