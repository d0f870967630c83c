-- What is derived fits, where the terminals are what tokens can be.
use Rattle.std.proofs.Common.{◌≡◌, ℕ, pos, ◌+◌, List, [], ◌∷◌, ◌++◌, map, true, false, refl, ap, sym, ◌∙◌, subst, arith}
use Rattle.hipe_terms.specs.declared.place.Place.{Place}
use Rattle.hipe_terms.specs.declared.constant.Constant.{Constant, out-Constant, out-roll-Constant}
use Rattle.hipe_terms.specs.declared.constant.Constant.TheOpen.{Constant-F}
use Rattle.hipe_terms.specs.Terms as S
use Rattle.hipe_terms.specs.Terms.{term_of}
use Rattle.hipe_terms.specs.Range.{is_in_range}
use Rattle.hipe_terms.proofs.Levels.{level_term, term_is}
use Rattle.hipe_terms.proofs.Parts.{and_first, and_second}
use Rattle.core_ast.specs.declared.pattern.Var.{Var}
use Rattle.core_ast.specs.declared.pattern.Pattern.{Pattern}
use Rattle.core_ast.specs.declared.pattern.PatNode.{PatNode, out-PatNode}
use Rattle.core_ast.specs.declared.pattern.PatNode.TheOpen.{PatNode-F}
use Rattle.core_ast.specs.declared.tree.Clause.{Clause}
use Rattle.core_ast.specs.declared.tree.Expr.{Expr}
use Rattle.core_ast.specs.declared.tree.Fun.{Fun}
use Rattle.core_ast.specs.declared.tree.FunDef.{FunDef}
use Rattle.core_ast.specs.declared.tree.FunName.{FunName}
use Rattle.core_ast.specs.declared.tree.Module.{Module}
use Rattle.core_ast.specs.declared.tree.Node.{Node, out-Node}
use Rattle.core_ast.specs.declared.tree.Node.TheOpen.{Node-F}
use Rattle.core_ast.specs.Trees as T
use Rattle.core_ast.specs.WellFormed.{is_list_pattern, is_list}
use Rattle.core_ast.proofs.Levels.{level_pattern, pattern_is, level, expression_is}
use Rattle.core_grammar.specs.declared.terminal.Terminal.{Terminal}
use Rattle.core_grammar.specs.Leave.{Leave, text_level}
use Rattle.core_grammar.specs.Trees.{constant_of, constant_cells_before, constant_nil, constant_text, constant_character, pattern_at, pattern_cells_before, pattern_nil, pattern_text, pattern_character, expression_at, cells_before, nil_at, text_at, character_at, definition_at}
use Rattle.core_grammar.specs.Ranges.{code_points_in_range}
use Rattle.core_grammar.specs.Language.{limit, Derives}
use Rattle.core_grammar.specs.Grammar as G
use Rattle.core_round_trip.specs.Fits.{IsAtomName, IsVariableName, IsName, AreVariables, At, TermFits, TermsFit, HasPattern, PatternFits, PatternsFit, HasExpression, HasClause, Fits, AllFit, ClausesFit, DefinitionsFit, ExportsFit, AttributesFit, ModuleFits}
use Rattle.core_round_trip.proofs.GoodKinds.{AreGood}
use Rattle.core_round_trip.proofs.Made.{pattern_made, plain_patterns, expression_made, plain_expressions, clause_made, fun_made, definition_made, plain_clauses, plain_definitions}

-- a lesser level
lower : (n k : ℕ) → At n (k + 1) → At n k
lower n k h = grind arith

term_made : (form : Constant-F Constant) → term_of (constant_of form) ≡ level_term form
unfolding constant_of
term_made form = term_is (constant_of form) ∙ ap level_term (out-roll-Constant form)

-- elements before a tail

abbrev terms : List Constant → List S.Term
terms cs = map term_of cs

term_cells : (cs ds : List Constant) (t : S.Term) → S.cells (terms (cs ++ ds)) t ≡ S.cells (terms cs) (S.cells (terms ds) t)
term_cells [] ds t = refl
term_cells (c ∷ cs) ds t = ap (S.cons (term_of c)) (term_cells cs ds t)

cells_term : (cs : List Constant) (c : Constant) (form : Constant-F Constant) → out-Constant c ≡ form → term_of (constant_cells_before cs c form) ≡ S.cells (terms cs) (term_of c)
cells_term cs c (Constant-F.List ds d) is = term_made (Constant-F.List (cs ++ ds) d) ∙ term_cells cs ds (term_of d) ∙ ap (S.cells (terms cs)) (sym (term_is c ∙ ap level_term is))
cells_term cs c (Constant-F.Int n) is = term_made (Constant-F.List cs c)
cells_term cs c _ is = term_made (Constant-F.List cs c)

module _ (n : ℕ) where
  abbrev ok : Leave
  ok = limit n

  -- ---- constants

  abbrev Good : ℕ → Constant → Type 0
  Good k c = TermFits n k (term_of c)

  abbrev AllGood : ℕ → List Constant → Type 0
  AllGood k [] = Unit {0}
  AllGood k (c ∷ cs) = Good k c × AllGood k cs

  made_good : (k : ℕ) (form : Constant-F Constant) → TermFits n k (level_term form) → Good k (constant_of form)
  made_good k form h = subst (TermFits n k) (sym (term_made form)) h

  terms_good : (k : ℕ) (cs : List Constant) → AllGood k cs → TermsFit n k (S.terms (terms cs))
  terms_good k [] h = tt
  terms_good k (c ∷ cs) h = (h.0, terms_good k cs h.1)

  cells_good : (k : ℕ) (cs : List Constant) (t : S.Term) → At n k → AllGood (k + 1) cs → TermFits n k t → TermFits n k (S.cells (terms cs) t)
  cells_good k [] t l h f = f
  cells_good k (c ∷ cs) t l h f = (l, h.0, cells_good k cs t l h.1 f)

  list_good : (k : ℕ) (cs : List Constant) (c : Constant) → At n k → AllGood (k + 1) cs → Good k c → Good k (constant_of (Constant-F.List cs c))
  list_good k cs c l h f = made_good k (Constant-F.List cs c) (cells_good k cs (term_of c) l h f)

  nil_good : (k : ℕ) → At n k → Good k constant_nil
  nil_good k l = made_good k Constant-F.Nil l

  characters_good : (k : ℕ) (s : List ℕ) → At n k → code_points_in_range s ≡ true → AllGood k (map constant_character s)
  characters_good k [] l h = tt
  characters_good k (c ∷ s) l h = (made_good k (Constant-F.Int (pos c)) (l, and_first (is_in_range (pos c)) (code_points_in_range s) h), characters_good k s l (and_second (is_in_range (pos c)) (code_points_in_range s) h))

  text_good : (k : ℕ) (s : List ℕ) → At n (text_level k s) → code_points_in_range s ≡ true → Good k (constant_text s)
  text_good k [] l h = nil_good k l
  text_good k (c ∷ s) l h = list_good k (map constant_character (c ∷ s)) constant_nil (lower n k l) (characters_good (k + 1) (c ∷ s) l h) (nil_good k (lower n k l))

  mutual
    constant_fits : (k : ℕ) (c : Constant) (ts us : List Terminal) → G.ConstantOf ok k c ts us → AreGood ts → Good k c × AreGood us
    constant_fits k c ts us (G.constant_integer p (G.digits i) l) f = (made_good k (Constant-F.Int (pos i)) (l, f.0), f.1)
    constant_fits k c ts us (G.constant_integer p (G.signed_or_character i) l) f = (made_good k (Constant-F.Int i) (l, f.0), f.1)
    constant_fits k c ts us (G.constant_characters s p l) f = (text_good k s l f.0, f.1)
    constant_fits k c ts us (G.constant_atom a p l) f = (made_good k (Constant-F.Atom a) (l, f.0), f.1)
    constant_fits k c ts us (G.constant_empty p q l) f = (nil_good k l, f.1.1)
    constant_fits k c ts us (G.constant_tuple {cs = cs} {ts = xs} p q l d) f = let r = constants_fit (k + 1) cs xs _ d f.1 in (made_good k (Constant-F.Tuple cs) (l, terms_good (k + 1) cs r.0), r.1.1)
    constant_fits k c ts us (G.constant_list {cs = cs} {ts = xs} p q l d) f = let r = some_constants_fit (k + 1) cs xs _ d f.1 in (list_good k cs constant_nil l r.0 (nil_good k l), r.1.1)
    constant_fits k c ts us (G.constant_list_before {cs = cs} {c = e} {ts = xs} {us = ys} p q r l d g) f =
        let x = some_constants_fit (k + 1) cs xs _ d f.1 in
        let y = constant_fits k e ys _ g x.1.1 in
        (subst (TermFits n k) (sym (cells_term cs e (out-Constant e) refl)) (cells_good k cs (term_of e) l x.0 y.0), y.1.1)

    some_constants_fit : (k : ℕ) (cs : List Constant) (ts us : List Terminal) → G.SomeConstants ok k cs ts us → AreGood ts → AllGood k cs × AreGood us
    some_constants_fit k cs ts us (G.last_constant {c = c} d) f = let r = constant_fits k c ts us d f in ((r.0, tt), r.1)
    some_constants_fit k cs ts us (G.more_constants {c = c} {cs = ds} {us = xs} p d e) f =
        let r = constant_fits k c ts _ d f in
        let s = some_constants_fit k ds xs us e r.1.1 in
        ((r.0, s.0), s.1)

    constants_fit : (k : ℕ) (cs : List Constant) (ts us : List Terminal) → G.ConstantsOf ok k cs ts us → AreGood ts → AllGood k cs × AreGood us
    constants_fit k cs ts us G.no_constants f = (tt, f)
    constants_fit k cs ts us (G.some_constants d) f = some_constants_fit k cs ts us d f

  -- ---- annotations, names and variables

  annotation_fits : (ts us : List Terminal) → G.Annotation ok ts us → AreGood ts → AreGood us
  annotation_fits ts us (G.annotation {cs = cs} {ts = xs} p q r s d) f = (constants_fit 1 cs xs _ d f.1.1).1.1.1

  -- what holds of a part that may be annotated
  annotated_fits : (P : Type 0) (X : List Terminal → List Terminal → Type 0) → ((ts us : List Terminal) → X ts us → AreGood ts → P × AreGood us) → (ts us : List Terminal) → G.Annotated ok X ts us → AreGood ts → P × AreGood us
  annotated_fits P X read ts us (G.bare d) f = read ts us d f
  annotated_fits P X read ts us (G.annotated {ts = xs} {us = ys} o d a) f = let r = read xs ys d f.1 in (r.0, annotation_fits ys us a r.1)

  atom_fits : (a : List ℕ) (ts us : List Terminal) → G.AtomOf a ts us → AreGood ts → IsAtomName a × AreGood us
  atom_fits a ts us (G.atom p) f = f

  operand_fits : (a : List ℕ) (ts us : List Terminal) → G.Operand ok a ts us → AreGood ts → IsAtomName a × AreGood us
  operand_fits a ts us (G.atom_operand (G.atom p)) f = f
  operand_fits a ts us (G.operand_variable x p h) f = cc

  variable_fits : (x : Var) (ts us : List Terminal) → G.VariableOf x ts us → AreGood ts → IsVariableName x.name × AreGood us
  variable_fits x ts us G.variable f = f

  name_fits : (g : FunName) (p : Place) (ts us : List Terminal) → G.NameOf g p ts us → AreGood ts → IsName g × AreGood us
  name_fits g p ts us (G.function_name q r) f = ((f.0, f.1.1.0), f.1.1.1)

  annotated_variable_fits : (x : Var) (ts us : List Terminal) → G.AnnotatedVariable ok x ts us → AreGood ts → IsVariableName x.name × AreGood us
  annotated_variable_fits x = annotated_fits (IsVariableName x.name) (G.VariableOf x) (variable_fits x)

  some_variables_fit : (xs : List Var) (ts us : List Terminal) → G.SomeOf Var (G.AnnotatedVariable ok) xs ts us → AreGood ts → AreVariables xs × AreGood us
  some_variables_fit xs ts us (G.last_of {a = x} d) f = let r = annotated_variable_fits x ts us d f in ((r.0, tt), r.1)
  some_variables_fit xs ts us (G.more_of {a = x} {as' = ys} {us = vs} p d e) f =
      let r = annotated_variable_fits x ts _ d f in
      let s = some_variables_fit ys vs us e r.1.1 in
      ((r.0, s.0), s.1)

  list_of_variables_fits : (xs : List Var) (ts us : List Terminal) → G.ListOf Var (G.AnnotatedVariable ok) xs ts us → AreGood ts → AreVariables xs × AreGood us
  list_of_variables_fits xs ts us G.none_of f = (tt, f)
  list_of_variables_fits xs ts us (G.some_of d) f = some_variables_fit xs ts us d f

  variables_fit : (xs : List Var) (ts us : List Terminal) → G.VariablesOf ok xs ts us → AreGood ts → AreVariables xs × AreGood us
  variables_fit xs ts us (G.one_variable {x = x} d) f = let r = annotated_variable_fits x ts us d f in ((r.0, tt), r.1)
  variables_fit xs ts us (G.value_variables {ts = ys} p q d) f = let r = list_of_variables_fits xs ys _ d f.1 in (r.0, r.1.1)

  -- ---- patterns

  abbrev FinePattern : ℕ → Pattern → Type 0
  FinePattern k f = PatternFits n k (T.pattern_of f)

  abbrev FinePatterns : ℕ → List Pattern → Type 0
  FinePatterns k fs = PatternsFit n k (plain_patterns fs)

  made_pattern : (k : ℕ) (p : Place) (form : PatNode-F PatNode Pattern) → PatternFits n k (level_pattern form p) → FinePattern k (pattern_at p form)
  made_pattern k p form h = subst (PatternFits n k) (sym (pattern_made p form)) h

  pattern_nil_fine : (k : ℕ) (p : Place) → At n k → FinePattern k (pattern_nil p)
  pattern_nil_fine k p l = made_pattern k p PatNode-F.Nil l

  pattern_nil_ends : (p : Place) → is_list_pattern (T.pattern_of (pattern_nil p)) ≡ false
  pattern_nil_ends p = ap is_list_pattern (pattern_made p PatNode-F.Nil)

  -- some patterns, and each of them fits
  abbrev SomePatternsFit : ℕ → List Pattern → Type 0
  SomePatternsFit k fs = HasPattern (plain_patterns fs) × FinePatterns k fs

  pattern_list_fine : (k : ℕ) (p : Place) (fs : List Pattern) (f : Pattern) → At n k → SomePatternsFit (k + 1) fs → FinePattern k f → is_list_pattern (T.pattern_of f) ≡ false → FinePattern k (pattern_at p (PatNode-F.List fs f))
  pattern_list_fine k p fs f l h g e = made_pattern k p (PatNode-F.List fs f) (l, h.0, h.1, g, e)

  patterns_before : (k : ℕ) (fs gs : List Pattern) → FinePatterns k fs → FinePatterns k gs → FinePatterns k (fs ++ gs)
  patterns_before k [] gs h i = i
  patterns_before k (f ∷ fs) gs h i = (h.0, patterns_before k fs gs h.1 i)

  some_patterns_before : (fs gs : List Pattern) → HasPattern (plain_patterns fs) → HasPattern (plain_patterns (fs ++ gs))
  some_patterns_before [] gs h = absurd h
  some_patterns_before (f ∷ fs) gs h = tt

  pattern_cells_by : (k : ℕ) (p : Place) (fs : List Pattern) (f : Pattern) (form : PatNode-F PatNode Pattern) → out-PatNode f.node ≡ form → At n k → SomePatternsFit (k + 1) fs → FinePattern k f → FinePattern k (pattern_cells_before p fs f form)
  pattern_cells_by k p fs f (PatNode-F.List gs g) is l h i =
      let e : PatternFits n k (T.Pattern.Cons f.at (plain_patterns gs) (T.pattern_of g)) = subst (PatternFits n k) (pattern_is f ∙ ap (λ m. level_pattern m f.at) is) i in
      pattern_list_fine k p (fs ++ gs) g l (some_patterns_before fs gs h.0, patterns_before (k + 1) fs gs h.1 e.2) e.3 e.4
  pattern_cells_by k p fs f (PatNode-F.Var x) is l h i = pattern_list_fine k p fs f l h i (ap is_list_pattern (pattern_is f ∙ ap (λ m. level_pattern m f.at) is))
  pattern_cells_by k p fs f _ is l h i = pattern_list_fine k p fs f l h i (ap is_list_pattern (pattern_is f ∙ ap (λ m. level_pattern m f.at) is))

  pattern_characters_fine : (k : ℕ) (p : Place) (s : List ℕ) → At n k → code_points_in_range s ≡ true → FinePatterns k (map (pattern_character p) s)
  pattern_characters_fine k p [] l h = tt
  pattern_characters_fine k p (c ∷ s) l h = (made_pattern k p (PatNode-F.Int (pos c)) (l, and_first (is_in_range (pos c)) (code_points_in_range s) h), pattern_characters_fine k p s l (and_second (is_in_range (pos c)) (code_points_in_range s) h))

  pattern_text_fine : (k : ℕ) (p : Place) (s : List ℕ) → At n (text_level k s) → code_points_in_range s ≡ true → FinePattern k (pattern_text p s)
  pattern_text_fine k p [] l h = pattern_nil_fine k p l
  pattern_text_fine k p (c ∷ s) l h = pattern_list_fine k p (map (pattern_character p) (c ∷ s)) (pattern_nil p) (lower n k l) (tt, pattern_characters_fine (k + 1) p (c ∷ s) l h) (pattern_nil_fine k p (lower n k l)) (pattern_nil_ends p)

  mutual
    pattern_fits : (k : ℕ) (f : Pattern) (ts us : List Terminal) → G.PatternOf ok k f ts us → AreGood ts → FinePattern k f × AreGood us
    pattern_fits k f ts us (G.pattern_bare d) h = bare_pattern_fits k f ts us d h
    pattern_fits k f ts us (G.pattern_annotated {ts = xs} {us = ys} o d a) h = let r = bare_pattern_fits k f xs ys d h.1 in (r.0, annotation_fits ys us a r.1)
    pattern_fits k f ts us (G.pattern_aliased {x = x} {f = g} {us = ys} q l v d) h =
        let y = annotated_variable_fits x ts _ v h in
        let r = pattern_fits (k + 1) g ys us d y.1.1 in
        (made_pattern k x.at (PatNode-F.Alias x g) (l, y.0, r.0), r.1)

    bare_pattern_fits : (k : ℕ) (f : Pattern) (ts us : List Terminal) → G.BarePattern ok k f ts us → AreGood ts → FinePattern k f × AreGood us
    bare_pattern_fits k f ts us (G.pattern_variable x p l) h = (made_pattern k p (PatNode-F.Var x) (l, h.0), h.1)
    bare_pattern_fits k f ts us (G.pattern_integer p (G.digits i) l) h = (made_pattern k p (PatNode-F.Int (pos i)) (l, h.0), h.1)
    bare_pattern_fits k f ts us (G.pattern_integer p (G.signed_or_character i) l) h = (made_pattern k p (PatNode-F.Int i) (l, h.0), h.1)
    bare_pattern_fits k f ts us (G.pattern_characters s p l) h = (pattern_text_fine k p s l h.0, h.1)
    bare_pattern_fits k f ts us (G.pattern_atom a p l) h = (made_pattern k p (PatNode-F.Atom a) (l, h.0), h.1)
    bare_pattern_fits k f ts us (G.pattern_empty p q l) h = (pattern_nil_fine k p l, h.1.1)
    bare_pattern_fits k f ts us (G.pattern_tuple {fs = fs} {ts = xs} p q l d) h = let r = patterns_fit (k + 1) fs xs _ d h.1 in (made_pattern k p (PatNode-F.Tuple fs) (l, r.0), r.1.1)
    bare_pattern_fits k f ts us (G.pattern_list {fs = fs} {ts = xs} p q l d) h = let r = some_patterns_fit (k + 1) fs xs _ d h.1 in (pattern_list_fine k p fs (pattern_nil p) l r.0 (pattern_nil_fine k p l) (pattern_nil_ends p), r.1.1)
    bare_pattern_fits k f ts us (G.pattern_list_before {fs = fs} {f = e} {ts = xs} {us = ys} p q r l d g) h =
        let x = some_patterns_fit (k + 1) fs xs _ d h.1 in
        let y = pattern_fits k e ys _ g x.1.1 in
        (pattern_cells_by k p fs e (out-PatNode e.node) refl l x.0 y.0, y.1.1)
    bare_pattern_fits k f ts us (G.pattern_alias {x = x} {f = g} {us = ys} q l v d) h =
        let y = annotated_variable_fits x ts _ v h in
        let r = pattern_fits (k + 1) g ys us d y.1.1 in
        (made_pattern k x.at (PatNode-F.Alias x g) (l, y.0, r.0), r.1)

    some_patterns_fit : (k : ℕ) (fs : List Pattern) (ts us : List Terminal) → G.SomePatterns ok k fs ts us → AreGood ts → SomePatternsFit k fs × AreGood us
    some_patterns_fit k fs ts us (G.last_pattern {f = f} d) h = let r = pattern_fits k f ts us d h in ((tt, (r.0, tt)), r.1)
    some_patterns_fit k fs ts us (G.more_patterns {f = f} {fs = gs} {us = xs} p d e) h =
        let r = pattern_fits k f ts _ d h in
        let s = some_patterns_fit k gs xs us e r.1.1 in
        ((tt, (r.0, s.0.1)), s.1)

    patterns_fit : (k : ℕ) (fs : List Pattern) (ts us : List Terminal) → G.PatternsOf ok k fs ts us → AreGood ts → FinePatterns k fs × AreGood us
    patterns_fit k fs ts us G.no_patterns h = (tt, h)
    patterns_fit k fs ts us (G.some_patterns d) h = let r = some_patterns_fit k fs ts us d h in (r.0.1, r.1)

  pattern_level : (k : ℕ) (q : T.Pattern) → PatternFits n k q → At n k
  pattern_level k (T.Pattern.Variable p x) h = h.0
  pattern_level k (T.Pattern.Int p i) h = h.0
  pattern_level k (T.Pattern.Atom p a) h = h.0
  pattern_level k (T.Pattern.Nil p) h = h
  pattern_level k (T.Pattern.Tuple p fs) h = h.0
  pattern_level k (T.Pattern.Cons p fs f) h = h.0
  pattern_level k (T.Pattern.Alias p x f) h = h.0

  -- the patterns of a clause, and its level
  clause_patterns_fit : (k : ℕ) (p : Place) (fs : List Pattern) (ts us : List Terminal) → G.ClausePatterns ok k p fs ts us → AreGood ts → (At n k × FinePatterns (k + 1) fs) × AreGood us
  clause_patterns_fit k p fs ts us (G.one_pattern {f = f} d) h = let r = pattern_fits (k + 1) f ts us d h in ((lower n k (pattern_level (k + 1) (T.pattern_of f) r.0), (r.0, tt)), r.1)
  clause_patterns_fit k p fs ts us (G.value_patterns {ts = xs} a b l d) h = let r = patterns_fit (k + 1) fs xs _ d h.1 in ((l, r.0), r.1.1)

  -- ---- expressions

  abbrev Fine : ℕ → Expr → Type 0
  Fine k e = Fits n k (T.expression_of e)

  abbrev AllFine : ℕ → List Expr → Type 0
  AllFine k es = AllFit n k (plain_expressions es)

  made_fine : (k : ℕ) (p : Place) (form : Node-F Node Clause Expr Fun FunDef) → Fits n k (level form p) → Fine k (expression_at p form)
  made_fine k p form h = subst (Fits n k) (sym (expression_made p form)) h

  nil_fine : (k : ℕ) (p : Place) → At n k → Fine k (nil_at p)
  nil_fine k p l = made_fine k p Node-F.Nil l

  list_nil_ends : (p : Place) → is_list (T.expression_of (nil_at p)) ≡ false
  list_nil_ends p = ap is_list (expression_made p Node-F.Nil)

  -- some expressions, and each of them fits
  abbrev SomeFine : ℕ → List Expr → Type 0
  SomeFine k es = HasExpression (plain_expressions es) × AllFine k es

  list_fine : (k : ℕ) (p : Place) (es : List Expr) (e : Expr) → At n k → SomeFine (k + 1) es → Fine k e → is_list (T.expression_of e) ≡ false → Fine k (expression_at p (Node-F.List es e))
  list_fine k p es e l h g i = made_fine k p (Node-F.List es e) (l, h.0, h.1, g, i)

  all_before : (k : ℕ) (es fs : List Expr) → AllFine k es → AllFine k fs → AllFine k (es ++ fs)
  all_before k [] fs h i = i
  all_before k (e ∷ es) fs h i = (h.0, all_before k es fs h.1 i)

  some_before : (es fs : List Expr) → HasExpression (plain_expressions es) → HasExpression (plain_expressions (es ++ fs))
  some_before [] fs h = absurd h
  some_before (e ∷ es) fs h = tt

  cells_by : (k : ℕ) (p : Place) (es : List Expr) (e : Expr) (form : Node-F Node Clause Expr Fun FunDef) → out-Node e.node ≡ form → At n k → SomeFine (k + 1) es → Fine k e → Fine k (cells_before p es e form)
  cells_by k p es e (Node-F.List fs f) is l h i =
      let g : Fits n k (T.Expression.Cons e.at (plain_expressions fs) (T.expression_of f)) = subst (Fits n k) (expression_is e ∙ ap (λ m. level m e.at) is) i in
      list_fine k p (es ++ fs) f l (some_before es fs h.0, all_before (k + 1) es fs h.1 g.2) g.3 g.4
  cells_by k p es e _ is l h i = list_fine k p es e l h i (ap is_list (expression_is e ∙ ap (λ m. level m e.at) is))

  characters_fine : (k : ℕ) (p : Place) (s : List ℕ) → At n k → code_points_in_range s ≡ true → AllFine k (map (character_at p) s)
  characters_fine k p [] l h = tt
  characters_fine k p (c ∷ s) l h = (made_fine k p (Node-F.Int (pos c)) (l, and_first (is_in_range (pos c)) (code_points_in_range s) h), characters_fine k p s l (and_second (is_in_range (pos c)) (code_points_in_range s) h))

  text_fine : (k : ℕ) (p : Place) (s : List ℕ) → At n (text_level k s) → code_points_in_range s ≡ true → Fine k (text_at p s)
  text_fine k p [] l h = nil_fine k p l
  text_fine k p (c ∷ s) l h = list_fine k p (map (character_at p) (c ∷ s)) (nil_at p) (lower n k l) (tt, characters_fine (k + 1) p (c ∷ s) l h) (nil_fine k p (lower n k l)) (list_nil_ends p)

  -- ---- clauses and functions

  abbrev FineClause : ℕ → T.Clause → Type 0
  FineClause k c = At n k × PatternsFit n (k + 1) c.patterns × Fits n (k + 1) c.guard × Fits n (k + 1) c.body

  abbrev FineClauses : ℕ → List Clause → Type 0
  FineClauses k cs = HasClause (plain_clauses cs) × ClausesFit n k (plain_clauses cs)

  abbrev FineFun : ℕ → T.Function → Type 0
  FineFun k f = At n k × AreVariables f.parameters × Fits n (k + 1) f.body

  abbrev FineDefinition : ℕ → T.Definition → Type 0
  FineDefinition k d = IsName d.name × FineFun k d.function

  abbrev FineDefinitions : ℕ → List FunDef → Type 0
  FineDefinitions k ds = DefinitionsFit n k (plain_definitions ds)

  more_clauses : (k : ℕ) (c : Clause) (cs : List Clause) → FineClause k (T.clause_of c) → ClausesFit n k (plain_clauses cs) → FineClauses k (c ∷ cs)
  more_clauses k c cs h i = (tt, (h.0, h.1, h.2, h.3, i))

  more_definitions : (k : ℕ) (d : FunDef) (ds : List FunDef) → FineDefinition k (T.definition_of d) → FineDefinitions k ds → FineDefinitions k (d ∷ ds)
  more_definitions k d ds h i = (h.1.0, h.0, h.1.1, h.1.2, i)

  mutual
    expression_fits : (k : ℕ) (e : Expr) (ts us : List Terminal) → G.ExpressionOf ok k e ts us → AreGood ts → Fine k e × AreGood us
    expression_fits k e ts us (G.expression_bare d) h = bare_expression_fits k e ts us d h
    expression_fits k e ts us (G.expression_annotated {ts = xs} {us = ys} o d a) h = let r = bare_expression_fits k e xs ys d h.1 in (r.0, annotation_fits ys us a r.1)

    bare_expression_fits : (k : ℕ) (e : Expr) (ts us : List Terminal) → G.BareExpression ok k e ts us → AreGood ts → Fine k e × AreGood us
    bare_expression_fits k e ts us (G.integer p (G.digits i) l) h = (made_fine k p (Node-F.Int (pos i)) (l, h.0), h.1)
    bare_expression_fits k e ts us (G.integer p (G.signed_or_character i) l) h = (made_fine k p (Node-F.Int i) (l, h.0), h.1)
    bare_expression_fits k e ts us (G.characters s p l) h = (text_fine k p s l h.0, h.1)
    bare_expression_fits k e ts us (G.literal a p l) h = (made_fine k p (Node-F.Atom a) (l, h.0), h.1)
    bare_expression_fits k e ts us (G.variable_name x p l) h = (made_fine k p (Node-F.Var x) (l, h.0), h.1)
    bare_expression_fits k e ts us (G.function {f = f} {p = p} l d) h = let r = name_fits f p ts us d h in (made_fine k p (Node-F.Name f) (l, r.0), r.1)
    bare_expression_fits k e ts us (G.empty p q l) h = (nil_fine k p l, h.1.1)
    bare_expression_fits k e ts us (G.tuple {es = es} {ts = xs} p q l d) h = let r = expressions_fit (k + 1) es xs _ d h.1 in (made_fine k p (Node-F.Tuple es) (l, r.0), r.1.1)
    bare_expression_fits k e ts us (G.list {es = es} {ts = xs} p q l d) h = let r = some_expressions_fit (k + 1) es xs _ d h.1 in (list_fine k p es (nil_at p) l r.0 (nil_fine k p l) (list_nil_ends p), r.1.1)
    bare_expression_fits k e ts us (G.list_before {es = es} {e = f} {ts = xs} {us = ys} p q r l d g) h =
        let x = some_expressions_fit (k + 1) es xs _ d h.1 in
        let y = expression_fits k f ys _ g x.1.1 in
        (cells_by k p es f (out-Node f.node) refl l x.0 y.0, y.1.1)
    bare_expression_fits k e ts us (G.values {es = es} {ts = xs} p q l d) h = let r = expressions_fit (k + 1) es xs _ d h.1 in (made_fine k p (Node-F.Values es) (l, r.0), r.1.1)
    bare_expression_fits k e ts us (G.«let» {xs = xs} {e = f} {f = g} {ts = as'} {us = bs} {vs = cs} p q r l v d t) h =
        let w = variables_fit xs as' _ v h.1 in
        let x = expression_fits (k + 1) f bs _ d w.1.1 in
        let y = expression_fits (k + 1) g cs us t x.1.1 in
        (made_fine k p (Node-F.Let xs f g) (l, w.0, x.0, y.0), y.1)
    bare_expression_fits k e ts us (G.case {e = f} {cs = cs} {ts = as'} {us = bs} p q r l d t) h =
        let x = expression_fits (k + 1) f as' _ d h.1 in
        let y = clauses_fit (k + 1) cs bs _ t x.1.1 in
        (made_fine k p (Node-F.Case f cs) (l, x.0, y.0.0, y.0.1), y.1.1)
    bare_expression_fits k e ts us (G.lambda {f = f} {p = p} d) h = let r = bare_fun_fits k p f ts us d h in (made_fine k p (Node-F.Lambda f) r.0, r.1)
    bare_expression_fits k e ts us (G.letrec {ds = ds} {e = f} {ts = as'} {us = bs} p q l d t) h =
        let x = definitions_fit (k + 1) ds as' _ d h.1 in
        let y = expression_fits (k + 1) f bs us t x.1.1 in
        (made_fine k p (Node-F.Letrec ds f) (l, x.0, y.0), y.1)
    bare_expression_fits k e ts us (G.apply {e = f} {es = es} {ts = as'} {us = bs} p q r l d t) h =
        let x = expression_fits (k + 1) f as' _ d h.1 in
        let y = expressions_fit (k + 1) es bs _ t x.1.1 in
        (made_fine k p (Node-F.Apply f es) (l, x.0, y.0), y.1.1)
    bare_expression_fits k e ts us (G.call {m = m} {f = f} {es = es} {ts = as'} {us = bs} {vs = cs} p q r s l a b d) h =
        let x = annotated_fits (IsAtomName m) (G.Operand ok m) (operand_fits m) as' _ a h.1 in
        let w = annotated_fits (IsAtomName f) (G.Operand ok f) (operand_fits f) bs _ b x.1.1 in
        let y = expressions_fit (k + 1) es cs _ d w.1.1 in
        (made_fine k p (Node-F.Call m f es) (l, x.0, w.0, y.0), y.1.1)
    bare_expression_fits k e ts us (G.primop {f = f} {es = es} {ts = as'} {us = bs} p q r l a d) h =
        let w = annotated_fits (IsAtomName f) (G.AtomOf f) (atom_fits f) as' _ a h.1 in
        let y = expressions_fit (k + 1) es bs _ d w.1.1 in
        (made_fine k p (Node-F.Primop f es) (l, w.0, y.0), y.1.1)
    bare_expression_fits k e ts us (G.try {e = f} {f = g} {g = i} {xs = xs} {ys = ys} {t1 = t1} {t2 = t2} {t3 = t3} {t4 = t4} {t5 = t5} p q r s t l a u b v d) h =
        let x = expression_fits (k + 1) f t1 _ a h.1 in
        let xs' = variables_fit xs t2 _ u x.1.1 in
        let y = expression_fits (k + 1) g t3 _ b xs'.1.1 in
        let ys' = variables_fit ys t4 _ v y.1.1 in
        let w = expression_fits (k + 1) i t5 us d ys'.1.1 in
        (made_fine k p (Node-F.Try f xs g ys i) (l, x.0, xs'.0, y.0, ys'.0, w.0), w.1)
    bare_expression_fits k e ts us (G.do_both {e = f} {f = g} {ts = as'} {us = bs} p l d t) h =
        let x = expression_fits (k + 1) f as' bs d h.1 in
        let y = expression_fits (k + 1) g bs us t x.1 in
        (made_fine k p (Node-F.Do f g) (l, x.0, y.0), y.1)
    bare_expression_fits k e ts us (G.catch {e = f} {ts = as'} p l d) h = let r = expression_fits (k + 1) f as' us d h.1 in (made_fine k p (Node-F.Catch f) (l, r.0), r.1)

    some_expressions_fit : (k : ℕ) (es : List Expr) (ts us : List Terminal) → G.SomeExpressions ok k es ts us → AreGood ts → SomeFine k es × AreGood us
    some_expressions_fit k es ts us (G.last_expression {e = e} d) h = let r = expression_fits k e ts us d h in ((tt, (r.0, tt)), r.1)
    some_expressions_fit k es ts us (G.more_expressions {e = e} {es = fs} {us = xs} p d t) h =
        let r = expression_fits k e ts _ d h in
        let s = some_expressions_fit k fs xs us t r.1.1 in
        ((tt, (r.0, s.0.1)), s.1)

    expressions_fit : (k : ℕ) (es : List Expr) (ts us : List Terminal) → G.ExpressionsOf ok k es ts us → AreGood ts → AllFine k es × AreGood us
    expressions_fit k es ts us G.no_expressions h = (tt, h)
    expressions_fit k es ts us (G.some_expressions d) h = let r = some_expressions_fit k es ts us d h in (r.0.1, r.1)

    clauses_fit : (k : ℕ) (cs : List Clause) (ts us : List Terminal) → G.ClausesOf ok k cs ts us → AreGood ts → FineClauses k cs × AreGood us
    clauses_fit k cs ts us (G.last_clause {c = c} d) h = let r = clause_fits k c ts us d h in (more_clauses k c [] r.0 tt, r.1)
    clauses_fit k cs ts us (G.more_clauses {c = c} {cs = ds} {us = xs} d t) h =
        let r = clause_fits k c ts xs d h in
        let s = clauses_fit k ds xs us t r.1 in
        (more_clauses k c ds r.0 s.0.1, s.1)

    clause_fits : (k : ℕ) (c : Clause) (ts us : List Terminal) → G.ClauseOf ok k c ts us → AreGood ts → FineClause k (T.clause_of c) × AreGood us
    clause_fits k c ts us (G.clause_bare d) h = bare_clause_fits k c ts us d h
    clause_fits k c ts us (G.clause_annotated {ts = xs} {us = ys} o d a) h = let r = bare_clause_fits k c xs ys d h.1 in (r.0, annotation_fits ys us a r.1)

    bare_clause_fits : (k : ℕ) (c : Clause) (ts us : List Terminal) → G.BareClause ok k c ts us → AreGood ts → FineClause k (T.clause_of c) × AreGood us
    bare_clause_fits k c ts us (G.clause {p = p} {fs = fs} {g = g} {e = e} {us = as'} {vs = bs} q r d t f) h =
        let x = clause_patterns_fit k p fs ts _ d h in
        let y = expression_fits (k + 1) g as' _ t x.1.1 in
        let w = expression_fits (k + 1) e bs us f y.1.1 in
        (subst (FineClause k) (sym (clause_made p fs g e)) (x.0.0, x.0.1, y.0, w.0), w.1)

    bare_fun_fits : (k : ℕ) (p : Place) (f : Fun) (ts us : List Terminal) → G.BareFun ok k p f ts us → AreGood ts → FineFun k (T.function_of f) × AreGood us
    bare_fun_fits k p f ts us (G.«fun» {xs = xs} {e = e} {ts = as'} {us = bs} p' q r s l v d) h =
        let x = list_of_variables_fits xs as' _ v h.1.1 in
        let y = expression_fits (k + 1) e bs us d x.1.1.1 in
        (subst (FineFun k) (sym (fun_made p' xs e)) (l, x.0, y.0), y.1)

    fun_fits : (k : ℕ) (f : Fun) (ts us : List Terminal) → G.FunOf ok k f ts us → AreGood ts → FineFun k (T.function_of f) × AreGood us
    fun_fits k f ts us (G.fun_bare {p = p} d) h = bare_fun_fits k p f ts us d h
    fun_fits k f ts us (G.fun_annotated {p = p} {ts = xs} {us = ys} o d a) h = let r = bare_fun_fits k p f xs ys d h.1 in (r.0, annotation_fits ys us a r.1)

    definitions_fit : (k : ℕ) (ds : List FunDef) (ts us : List Terminal) → G.DefinitionsOf ok k ds ts us → AreGood ts → FineDefinitions k ds × AreGood us
    definitions_fit k ds ts us G.no_definitions h = (tt, h)
    definitions_fit k ds ts us (G.more_definitions {ds = es} {us = xs} (G.definition {f = f} {p = p} {g = g} {us = ys} q a e) t) h =
        let w = annotated_fits (IsName f) (G.NameOf f p) (name_fits f p) ts _ a h in
        let x = fun_fits k g ys xs e w.1.1 in
        let y = definitions_fit k es xs us t x.1 in
        (more_definitions k (definition_at p f g) es (subst (FineDefinition k) (sym (definition_made p f g)) (w.0, x.0)) y.0, y.1)

  -- ---- modules

  export_fits : (e : FunName × Place) (ts us : List Terminal) → G.ExportOf ok e ts us → AreGood ts → IsName e.0 × AreGood us
  export_fits e = annotated_fits (IsName e.0) (G.NameOf e.0 e.1) (name_fits e.0 e.1)

  some_exports_fit : (es : List (FunName × Place)) (ts us : List Terminal) → G.SomeOf (FunName × Place) (G.ExportOf ok) es ts us → AreGood ts → ExportsFit es × AreGood us
  some_exports_fit es ts us (G.last_of {a = e} d) f = let r = export_fits e ts us d f in ((r.0, tt), r.1)
  some_exports_fit es ts us (G.more_of {a = e} {as' = fs} {us = vs} p d g) f =
      let r = export_fits e ts _ d f in
      let s = some_exports_fit fs vs us g r.1.1 in
      ((r.0, s.0), s.1)

  exports_fit : (es : List (FunName × Place)) (ts us : List Terminal) → G.ListOf (FunName × Place) (G.ExportOf ok) es ts us → AreGood ts → ExportsFit es × AreGood us
  exports_fit es ts us G.none_of f = (tt, f)
  exports_fit es ts us (G.some_of d) f = some_exports_fit es ts us d f

  attribute_fits : (x : List ℕ × Constant) (ts us : List Terminal) → G.AttributeOf ok x ts us → AreGood ts → (IsAtomName x.0 × Good 1 x.1) × AreGood us
  attribute_fits x ts us (G.attribute {a = a} {c = c} {us = xs} q d e) f =
      let r = annotated_fits (IsAtomName a) (G.AtomOf a) (atom_fits a) ts _ d f in
      let s = annotated_fits (Good 1 c) (G.ConstantOf ok 1 c) (constant_fits 1 c) xs us e r.1.1 in
      ((r.0, s.0), s.1)

  some_attributes_fit : (xs : List (List ℕ × Constant)) (ts us : List Terminal) → G.SomeOf (List ℕ × Constant) (G.AttributeOf ok) xs ts us → AreGood ts → AttributesFit n xs × AreGood us
  some_attributes_fit xs ts us (G.last_of {a = x} d) f = let r = attribute_fits x ts us d f in ((r.0.0, r.0.1, tt), r.1)
  some_attributes_fit xs ts us (G.more_of {a = x} {as' = ys} {us = vs} p d e) f =
      let r = attribute_fits x ts _ d f in
      let s = some_attributes_fit ys vs us e r.1.1 in
      ((r.0.0, r.0.1, s.0), s.1)

  attributes_fit : (xs : List (List ℕ × Constant)) (ts us : List Terminal) → G.ListOf (List ℕ × Constant) (G.AttributeOf ok) xs ts us → AreGood ts → AttributesFit n xs × AreGood us
  attributes_fit xs ts us G.none_of f = (tt, f)
  attributes_fit xs ts us (G.some_of d) f = some_attributes_fit xs ts us d f

  bare_module_fits : (m : Module) (ts us : List Terminal) → G.BareModule ok m ts us → AreGood ts → ModuleFits n (T.module_of m) × AreGood us
  bare_module_fits m ts us (G.«module» {exports = exports} {attributes = as'} {ds = ds} {ts = xs} {us = ys} {vs = bs} a p q r s t u v w e f d) h =
      let x = exports_fit exports xs _ e h.1.1.1 in
      let y = attributes_fit as' ys _ f x.1.1.1.1 in
      let z = definitions_fit 1 ds bs _ d y.1.1 in
      ((h.1.0, x.0, y.0, z.0), z.1.1)

  pub module_fits : (m : Module) (ts : List Terminal) → Derives ok ts m → AreGood ts → ModuleFits n (T.module_of m)
  module_fits m ts d h = (annotated_fits (ModuleFits n (T.module_of m)) (G.BareModule ok m) (bare_module_fits m) ts [] d h).0
