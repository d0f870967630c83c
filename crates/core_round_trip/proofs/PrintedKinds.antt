-- The text of a tree has the tokens of its kinds.
use Rattle.std.proofs.Common.{ℕ, ◌+◌, List, [], ◌∷◌, map, codes, refl, subst, append-nil}
use Rattle.hipe_terms.specs.declared.constant.Constant as RustConstant
use Rattle.hipe_terms.specs.declared.place.Place.{Place}
use Rattle.hipe_terms.specs.Terms.{term_of}
use Rattle.core_ast.specs.declared.tree.FunName.{FunName}
use Rattle.core_ast.specs.Trees as T
use Rattle.core_grammar.specs.declared.terminal.Kind.{Kind}
use Rattle.core_grammar.specs.declared.terminal.Mark.{Mark}
use Rattle.core_print.specs.Printed.{deeper, after_comma, with_commas, is_nil_pattern, pattern_pieces, each_pattern, is_nil, pieces, each, clause_pieces, clauses_pieces, definition_pieces, definitions_pieces, export_pieces, attribute_pieces, head_pieces, attributes_pieces, module_pieces, printed}
use Rattle.core_round_trip.proofs.TreeKinds.{pattern_kinds, patterns_kinds, patterns_behind, kinds, kinds_of_all, kinds_behind, clauses_kinds, definitions_kinds, exports_behind, exports_kinds, attribute_kinds, attributes_behind, attributes_kinds, module_kinds}
use Rattle.core_round_trip.specs.Fits.{PatternFits, PatternsFit, Fits, AllFit, ClausesFit, DefinitionsFit, ExportsFit, AttributesFit, ModuleFits}
use Rattle.core_round_trip.proofs.Tokens.{HasKinds, at_end}
use Rattle.core_round_trip.proofs.PieceKinds.{Closed, Open, Keeps, as_open, closed_closed, closed_open, open_closed, open_open, none, none_keeps, a_space, space_starts, a_line, line_starts, an_atom, an_integer, a_variable, a_name, apply_keyword, attributes_keyword, case_keyword, catch_keyword, do_keyword, end_keyword, letrec_keyword, module_keyword, of_keyword, try_keyword, open_brace, close_brace, open_square, close_square, less, greater, comma, equals_sign}
use Rattle.core_round_trip.proofs.TermKinds.{a_constant}
use Rattle.core_round_trip.proofs.ConstructKinds.{commas_keep, opened_reads, enclosed_ends, tail_ends, tail_starts, alias_reads, spaced_reads, block_reads, next_reads, next_keeps, let_reads, in_reads, in_keeps, of_reads, of_keeps, fun_reads, definition_reads, branch_reads, branch_keeps, arguments_end, arguments_start, call_ends, primop_ends, clause_reads}

module _ (n : ℕ) where
  -- ---- patterns

  mutual
    pattern_reads : (k : ℕ) (q : T.Pattern) → PatternFits n k q → Open (pattern_pieces q) (pattern_kinds q)
    pattern_reads k (T.Pattern.Variable p x) f = a_variable x f.1
    pattern_reads k (T.Pattern.Int p i) f = an_integer i f.1
    pattern_reads k (T.Pattern.Atom p a) f = as_open (an_atom a f.1)
    pattern_reads k (T.Pattern.Nil p) f = as_open (closed_closed open_square close_square)
    pattern_reads k (T.Pattern.Tuple p qs) f = as_open (enclosed_ends (codes "{") (codes "}") (each_pattern qs) open_brace (patterns_read (k + 1) qs f.1) (record { apart = λ us. refl }) close_brace)
    pattern_reads k (T.Pattern.Cons p qs tail) f =
        as_open (open_closed (opened_reads (codes "[") (each_pattern qs) open_square (patterns_read (k + 1) qs f.2)) (tail_starts (pattern_pieces tail) (is_nil_pattern tail)) (tail_ends (pattern_pieces tail) (is_nil_pattern tail) (pattern_reads k tail f.3)))
    pattern_reads k (T.Pattern.Alias p x q) f = alias_reads (pattern_pieces q) (pattern_reads (k + 1) q f.2) x f.1

    -- each behind a comma
    patterns_after : (k : ℕ) (qs : T.Patterns) → PatternsFit n k qs → Open (after_comma (each_pattern qs)) (patterns_behind qs)
    patterns_after k T.no_pattern f = as_open none
    patterns_after k (T.and_pattern q qs) f = open_open (closed_open comma (pattern_reads k q f.0)) (commas_keep (each_pattern qs)) (patterns_after k qs f.1)

    patterns_read : (k : ℕ) (qs : T.Patterns) → PatternsFit n k qs → Open (with_commas (each_pattern qs)) (patterns_kinds qs)
    patterns_read k T.no_pattern f = as_open none
    patterns_read k (T.and_pattern q qs) f = open_open (pattern_reads k q f.0) (commas_keep (each_pattern qs)) (patterns_after k qs f.1)

  -- ---- expressions

  clauses_keep : (d : ℕ) (cs : T.Clauses) → Keeps (clauses_pieces d cs)
  unfolding clause_pieces
  clauses_keep d T.no_clause = none_keeps
  clauses_keep d (T.and_clause p fs g e cs) = record { apart = λ us h. refl }

  definitions_keep : (d : ℕ) (ds : T.Definitions) → Keeps (definitions_pieces d ds)
  unfolding definition_pieces
  definitions_keep d T.no_definition = none_keeps
  definitions_keep d (T.and_definition p f q xs e ds) = record { apart = λ us h. refl }

  mutual
    expression_reads : (k d : ℕ) (e : T.Expression) → Fits n k e → Open (pieces d e) (kinds e)
    expression_reads k d (T.Expression.Int p i) f = an_integer i f.1
    expression_reads k d (T.Expression.Atom p a) f = as_open (an_atom a f.1)
    expression_reads k d (T.Expression.Nil p) f = as_open (closed_closed open_square close_square)
    expression_reads k d (T.Expression.Variable p x) f = a_variable x f.1
    expression_reads k d (T.Expression.Name p g) f = a_name g f.1
    expression_reads k d (T.Expression.Tuple p es) f = as_open (enclosed_ends (codes "{") (codes "}") (each d es) open_brace (all_read (k + 1) d es f.1) (record { apart = λ us. refl }) close_brace)
    expression_reads k d (T.Expression.Cons p es tail) f =
        as_open (open_closed (opened_reads (codes "[") (each d es) open_square (all_read (k + 1) d es f.2)) (tail_starts (pieces d tail) (is_nil tail)) (tail_ends (pieces d tail) (is_nil tail) (expression_reads k d tail f.3)))
    expression_reads k d (T.Expression.Values p es) f = as_open (enclosed_ends (codes "<") (codes ">") (each d es) less (all_read (k + 1) d es f.1) (record { apart = λ us. refl }) greater)
    expression_reads k d (T.Expression.Let p xs v e) f =
        let body = expression_reads (k + 1) d e f.3 in
        open_open (let_reads (pieces (deeper d) v) (expression_reads (k + 1) (deeper d) v f.2) d xs f.1) (in_keeps (pieces d e) body d) (in_reads (pieces d e) body d)
    expression_reads k d (T.Expression.Case p v cs) f =
        let cases = clauses_read (k + 1) (deeper d) cs f.3 in
        open_open (spaced_reads (pieces d v) (expression_reads (k + 1) d v f.1) (codes "case") Mark.Case case_keyword) (of_keeps (clauses_pieces (deeper d) cs) cases d) (of_reads (clauses_pieces (deeper d) cs) cases d (clauses_keep (deeper d) cs))
    expression_reads k d (T.Expression.Lambda p q xs e) f = fun_reads (pieces (deeper d) e) (expression_reads (k + 1) (deeper d) e f.2) d xs f.1
    expression_reads k d (T.Expression.Letrec p ds e) f =
        let body = expression_reads (k + 1) d e f.2 in
        open_open (open_open letrec_keyword (definitions_keep (deeper d) ds) (definitions_read (k + 1) (deeper d) ds f.1)) (in_keeps (pieces d e) body d) (in_reads (pieces d e) body d)
    expression_reads k d (T.Expression.Apply p g es) f =
        let args = all_read (k + 1) d es f.2 in
        as_open (open_closed (spaced_reads (pieces d g) (expression_reads (k + 1) d g f.1) (codes "apply") Mark.Apply apply_keyword) (arguments_start (each d es) args) (arguments_end (each d es) args))
    expression_reads k d (T.Expression.Call p m g es) f = as_open (call_ends (each d es) (all_read (k + 1) d es f.3) m g f.1 f.2)
    expression_reads k d (T.Expression.Primop p g es) f = as_open (primop_ends (each d es) (all_read (k + 1) d es f.2) g f.1)
    expression_reads k d (T.Expression.Try p v xs e ys g) f =
        let body = expression_reads (k + 1) (deeper d) e f.3 in
        let handler = expression_reads (k + 1) (deeper d) g f.5 in
        open_open
        (open_open (block_reads (pieces (deeper d) v) (expression_reads (k + 1) (deeper d) v f.1) d (codes "try") Mark.Try try_keyword)
        (branch_keeps (pieces (deeper d) e) body d (codes "of") xs)
        (branch_reads (pieces (deeper d) e) body d (codes "of") Mark.Of xs of_keyword f.2))
        (branch_keeps (pieces (deeper d) g) handler d (codes "catch") ys)
        (branch_reads (pieces (deeper d) g) handler d (codes "catch") Mark.Catch ys catch_keyword f.4)
    expression_reads k d (T.Expression.Do p e g) f =
        let second = expression_reads (k + 1) d g f.2 in
        open_open (block_reads (pieces (deeper d) e) (expression_reads (k + 1) (deeper d) e f.1) d (codes "do") Mark.Do do_keyword) (next_keeps (pieces d g) second d) (next_reads (pieces d g) second d)
    expression_reads k d (T.Expression.Catch p e) f = spaced_reads (pieces d e) (expression_reads (k + 1) d e f.1) (codes "catch") Mark.Catch catch_keyword

    -- each behind a comma
    all_after : (k d : ℕ) (es : T.Expressions) → AllFit n k es → Open (after_comma (each d es)) (kinds_behind es)
    all_after k d T.no_expression f = as_open none
    all_after k d (T.and_expression e es) f = open_open (closed_open comma (expression_reads k d e f.0)) (commas_keep (each d es)) (all_after k d es f.1)

    all_read : (k d : ℕ) (es : T.Expressions) → AllFit n k es → Open (with_commas (each d es)) (kinds_of_all es)
    all_read k d T.no_expression f = as_open none
    all_read k d (T.and_expression e es) f = open_open (expression_reads k d e f.0) (commas_keep (each d es)) (all_after k d es f.1)

    clauses_read : (k d : ℕ) (cs : T.Clauses) → ClausesFit n k cs → Open (clauses_pieces d cs) (clauses_kinds cs)
    clauses_read k d T.no_clause f = as_open none
    clauses_read k d (T.and_clause p fs g e cs) f =
        open_open
        (clause_reads d (each_pattern fs) (pieces d g) (pieces (deeper d) e) (patterns_read (k + 1) fs f.1) (expression_reads (k + 1) d g f.2) (expression_reads (k + 1) (deeper d) e f.3))
        (clauses_keep d cs)
        (clauses_read k d cs f.4)

    definitions_read : (k d : ℕ) (ds : T.Definitions) → DefinitionsFit n k ds → Open (definitions_pieces d ds) (definitions_kinds ds)
    definitions_read k d T.no_definition f = as_open none
    definitions_read k d (T.and_definition p g q xs e ds) f =
        let body = expression_reads (k + 1) (deeper (deeper d)) e f.3 in
        open_open (definition_reads _ (fun_reads (pieces (deeper (deeper d)) e) body (deeper d) xs f.2) d g f.1) (definitions_keep d ds) (definitions_read k d ds f.4)

  -- ---- modules

  exports_after : (es : List (FunName × Place)) → ExportsFit es → Open (after_comma (map export_pieces es)) (exports_behind es)
  exports_after [] f = as_open none
  exports_after (e ∷ es) f = open_open (closed_open comma (a_name e.0 f.0)) (commas_keep (map export_pieces es)) (exports_after es f.1)

  exports_read : (es : List (FunName × Place)) → ExportsFit es → Open (with_commas (map export_pieces es)) (exports_kinds es)
  exports_read [] f = as_open none
  exports_read (e ∷ es) f = open_open (a_name e.0 f.0) (commas_keep (map export_pieces es)) (exports_after es f.1)

  abbrev Attribute : Type 0
  Attribute = List ℕ × RustConstant.Constant

  attribute_reads : (a : Attribute) (as' : List Attribute) → AttributesFit n (a ∷ as') → Open (attribute_pieces a) (attribute_kinds a)
  unfolding attribute_pieces
  attribute_reads a as' f = closed_open (closed_closed (closed_closed (closed_closed (an_atom a.0 f.0) a_space) equals_sign) a_space) (a_constant n 1 (term_of a.1) f.1)

  attributes_after : (as' : List Attribute) → AttributesFit n as' → Open (after_comma (map attribute_pieces as')) (attributes_behind as')
  attributes_after [] f = as_open none
  attributes_after (a ∷ as') f = open_open (closed_open comma (attribute_reads a as' f)) (commas_keep (map attribute_pieces as')) (attributes_after as' f.2)

  attributes_read : (as' : List Attribute) → AttributesFit n as' → Open (with_commas (map attribute_pieces as')) (attributes_kinds as')
  attributes_read [] f = as_open none
  attributes_read (a ∷ as') f = open_open (attribute_reads a as' f) (commas_keep (map attribute_pieces as')) (attributes_after as' f.2)

  head_ends : (a : List ℕ) (es : List (FunName × Place)) → ModuleFits n (record { name = a; exports = es; attributes = []; definitions = T.no_definition })
      → Closed (head_pieces a es) (λ ks. Kind.Mark Mark.Module ∷ Kind.Atom a ∷ Kind.Mark Mark.OpenSquare ∷ exports_kinds es (Kind.Mark Mark.CloseSquare ∷ ks))
  unfolding head_pieces
  head_ends a es f =
      closed_closed (closed_closed (closed_closed (open_closed module_keyword space_starts a_space) (an_atom a f.0)) a_space) (enclosed_ends (codes "[") (codes "]") (map export_pieces es) open_square (exports_read es f.1) (record { apart = λ us. refl }) close_square)

  attributes_end : (as' : List Attribute) → AttributesFit n as' → Closed (attributes_pieces as') (λ ks. Kind.Mark Mark.Attributes ∷ Kind.Mark Mark.OpenSquare ∷ attributes_kinds as' (Kind.Mark Mark.CloseSquare ∷ ks))
  unfolding attributes_pieces
  attributes_end as' f =
      closed_closed (open_closed (closed_open (a_line _) attributes_keyword) space_starts a_space) (enclosed_ends (codes "[") (codes "]") (map attribute_pieces as') open_square (attributes_read as' f) (record { apart = λ us. refl }) close_square)

  -- what a module is printed as, and then terminals of the kinds ks
  abbrev then_kinds : T.Module → List Kind → List Kind
  then_kinds m ks =
      Kind.Mark Mark.Module
      ∷ Kind.Atom m.name
      ∷ Kind.Mark Mark.OpenSquare
      ∷ exports_kinds m.exports
      (Kind.Mark Mark.CloseSquare
      ∷ Kind.Mark Mark.Attributes
      ∷ Kind.Mark Mark.OpenSquare
      ∷ attributes_kinds m.attributes (Kind.Mark Mark.CloseSquare ∷ definitions_kinds m.definitions (Kind.Mark Mark.End ∷ ks)))

  module_ends : (m : T.Module) → ModuleFits n m → Closed (module_pieces m) (then_kinds m)
  module_ends m f =
      let prefix = closed_closed (head_ends m.name m.exports (f.0, f.1, tt, tt)) (attributes_end m.attributes f.2) in
      open_closed (closed_open (open_closed (closed_open prefix (definitions_read 1 0 m.definitions f.3)) (line_starts 0) (a_line 0)) end_keyword) (line_starts 0) (a_line 0)

  pub printed_kinds : (m : T.Module) → ModuleFits n m → HasKinds (printed m) (module_kinds m)
  printed_kinds m f = subst (λ t. HasKinds t (module_kinds m)) (append-nil (printed m)) ((module_ends m f).read [] [] at_end)
