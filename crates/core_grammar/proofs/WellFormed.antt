-- What is derived is well formed.
use Rattle.std.proofs.Common.{◌≡◌, ℕ, pos, ◌+◌, List, [], ◌∷◌, ◌++◌, map, Bool, true, not, ◌&&◌, refl, ap, sym, ◌∙◌}
use Rattle.std.specs.List.{list_all}
use Rattle.hipe_terms.specs.declared.place.Place.{Place}
use Rattle.hipe_terms.specs.declared.constant.Call.{Call}
use Rattle.hipe_terms.specs.declared.constant.Constant.{Constant, out-Constant, out-roll-Constant}
use Rattle.hipe_terms.specs.declared.constant.Constant.TheOpen.{Constant-F}
use Rattle.hipe_terms.specs.Constants.{form_of, are_all_good, has_parts, AreConstants}
use Rattle.hipe_terms.specs.Range.{is_in_range}
use Rattle.hipe_terms.proofs.Parts.{level_form, form_is, and_first, and_second, all_good}
use Rattle.core_ast.specs.declared.pattern.Var.{Var}
use Rattle.core_ast.specs.declared.pattern.Pattern.{Pattern}
use Rattle.core_ast.specs.declared.pattern.PatNode.{PatNode, out-PatNode, out-roll-PatNode}
use Rattle.core_ast.specs.declared.pattern.PatNode.TheOpen.{PatNode-F}
use Rattle.core_ast.specs.declared.tree.Clause.{Clause}
use Rattle.core_ast.specs.declared.tree.Expr.{Expr}
use Rattle.core_ast.specs.declared.tree.Fun.{Fun, out-roll-Fun}
use Rattle.core_ast.specs.declared.tree.FunDef.{FunDef, out-roll-FunDef}
use Rattle.core_ast.specs.declared.tree.FunName.{FunName}
use Rattle.core_ast.specs.declared.tree.Module.{Module}
use Rattle.core_ast.specs.declared.tree.Node.{Node, out-Node, out-roll-Node}
use Rattle.core_ast.specs.declared.tree.Node.TheOpen.{Node-F}
use Rattle.core_ast.specs.Trees as T
use Rattle.core_ast.specs.WellFormed.{is_list_pattern, well_formed_pattern, well_formed_patterns, is_list, well_formed, well_formed_expressions, well_formed_clauses, well_formed_definitions, IsWellFormed}
use Rattle.core_ast.proofs.Levels.{level_pattern, pattern_is, level, expression_is, clause_is, function_is, definition_is}
use Rattle.core_grammar.specs.declared.terminal.Mark.{Mark}
use Rattle.core_grammar.specs.declared.terminal.Terminal.{Terminal}
use Rattle.core_grammar.specs.Leave.{Leave, mark}
use Rattle.core_grammar.specs.Trees.{constant_of, constant_cells_before, constant_nil, constant_text, constant_character, pattern_at, pattern_cells_before, pattern_nil, pattern_text, pattern_character, expression_at, cells_before, nil_at, text_at, character_at, clause_at, fun_at, definition_at}
use Rattle.core_grammar.specs.Ranges.{code_points_in_range, terminals_in_range}
use Rattle.core_grammar.specs.Language.{Derives, DerivesCall}
use Rattle.core_grammar.specs.Grammar as G

both : (a b : Bool) → a ≡ true → b ≡ true → (a && b) ≡ true
both a b h k = ap (λ x. x && b) h ∙ k

all_three : (a b c : Bool) → a ≡ true → b ≡ true → c ≡ true → (a && b && c) ≡ true
all_three a b c h k l = both (a && b) c (both a b h k) l

-- of three
one_of_three : (a b c : Bool) → (a && b && c) ≡ true → a ≡ true
one_of_three a b c h = and_first a b (and_first (a && b) c h)

two_of_three : (a b c : Bool) → (a && b && c) ≡ true → b ≡ true
two_of_three a b c h = and_second a b (and_first (a && b) c h)

three_of_three : (a b c : Bool) → (a && b && c) ≡ true → c ≡ true
three_of_three a b c h = and_second (a && b) c h

abbrev Fits : List Terminal → Type 0
Fits ts = terminals_in_range ts ≡ true

-- constants

form_made : (form : Constant-F Constant) → form_of (constant_of form) ≡ level_form form
unfolding constant_of
form_made form = form_is (constant_of form) ∙ ap level_form (out-roll-Constant form)

abbrev good : Constant → Type 0
good c = (form_of c).good ≡ true

abbrev all : List Constant → Bool
all cs = are_all_good (map form_of cs)

made_good : (form : Constant-F Constant) → (level_form form).good ≡ true → good (constant_of form)
made_good form h = ap (λ f. f.good) (form_made form) ∙ h

nil_good : good constant_nil
nil_good = made_good Constant-F.Nil refl

nil_ends : not (form_of constant_nil).list ≡ true
nil_ends = ap (λ f. not f.list) (form_made Constant-F.Nil)

list_good : (cs : List Constant) (c : Constant) → has_parts (map form_of cs) ≡ true → all cs ≡ true → good c → not (form_of c).list ≡ true → good (constant_of (Constant-F.List cs c))
list_good cs c some are is ends = made_good (Constant-F.List cs c) (both (has_parts (map form_of cs)) (all cs && ((form_of c).good && not (form_of c).list)) some (both (all cs) ((form_of c).good && not (form_of c).list) are (both (form_of c).good (not (form_of c).list) is ends)))

all_before : (cs ds : List Constant) → all cs ≡ true → all ds ≡ true → all (cs ++ ds) ≡ true
all_before [] ds h k = k
all_before (c ∷ cs) ds h k = both (form_of c).good (all (cs ++ ds)) (and_first (form_of c).good (all cs) h) (all_before cs ds (and_second (form_of c).good (all cs) h) k)

some_before : (cs ds : List Constant) → has_parts (map form_of cs) ≡ true → has_parts (map form_of (cs ++ ds)) ≡ true
some_before [] ds h = cc
some_before (c ∷ cs) ds h = refl

constant_cells_by : (cs : List Constant) (c : Constant) (form : Constant-F Constant) → out-Constant c ≡ form → has_parts (map form_of cs) ≡ true → all cs ≡ true → good c → good (constant_cells_before cs c form)
constant_cells_by cs c (Constant-F.List ds d) is some are h =
    let g : (has_parts (map form_of ds) && (all ds && ((form_of d).good && not (form_of d).list))) ≡ true = sym (ap (λ f. f.good) (form_is c ∙ ap level_form is)) ∙ h in
    let rest = and_second (has_parts (map form_of ds)) (all ds && ((form_of d).good && not (form_of d).list)) g in
    let tail = and_second (all ds) ((form_of d).good && not (form_of d).list) rest in
    list_good (cs ++ ds) d (some_before cs ds some) (all_before cs ds are (and_first (all ds) ((form_of d).good && not (form_of d).list) rest)) (and_first (form_of d).good (not (form_of d).list) tail) (and_second (form_of d).good (not (form_of d).list) tail)
constant_cells_by cs c (Constant-F.Int n) is some are h = list_good cs c some are h (ap (λ f. not f.list) (form_is c ∙ ap level_form is))
constant_cells_by cs c (Constant-F.Atom a) is some are h = list_good cs c some are h (ap (λ f. not f.list) (form_is c ∙ ap level_form is))
constant_cells_by cs c Constant-F.Nil is some are h = list_good cs c some are h (ap (λ f. not f.list) (form_is c ∙ ap level_form is))
constant_cells_by cs c (Constant-F.Tuple ds) is some are h = list_good cs c some are h (ap (λ f. not f.list) (form_is c ∙ ap level_form is))

constant_characters_good : (s : List ℕ) → code_points_in_range s ≡ true → all (map constant_character s) ≡ true
constant_characters_good [] h = refl
constant_characters_good (c ∷ s) h = both (form_of (constant_character c)).good (all (map constant_character s)) (made_good (Constant-F.Int (pos c)) (and_first (is_in_range (pos c)) (code_points_in_range s) h)) (constant_characters_good s (and_second (is_in_range (pos c)) (code_points_in_range s) h))

constant_text_good : (s : List ℕ) → code_points_in_range s ≡ true → good (constant_text s)
constant_text_good [] h = nil_good
constant_text_good (c ∷ s) h = list_good (map constant_character (c ∷ s)) constant_nil refl (constant_characters_good (c ∷ s) h) nil_good nil_ends

-- patterns

pattern_made : (p : Place) (form : PatNode-F PatNode Pattern) → T.pattern_of (pattern_at p form) ≡ level_pattern form p
unfolding pattern_at
pattern_made p form = pattern_is (pattern_at p form) ∙ ap (λ f. level_pattern f p) (out-roll-PatNode form)

abbrev fine_pattern : Pattern → Type 0
fine_pattern f = well_formed_pattern (T.pattern_of f) ≡ true

abbrev patterns : List Pattern → Bool
patterns fs = well_formed_patterns (T.patterns (map T.pattern_of fs))

made_pattern : (p : Place) (form : PatNode-F PatNode Pattern) → well_formed_pattern (level_pattern form p) ≡ true → fine_pattern (pattern_at p form)
made_pattern p form h = ap well_formed_pattern (pattern_made p form) ∙ h

pattern_nil_fine : (p : Place) → fine_pattern (pattern_nil p)
pattern_nil_fine p = made_pattern p PatNode-F.Nil refl

pattern_nil_ends : (p : Place) → not (is_list_pattern (T.pattern_of (pattern_nil p))) ≡ true
pattern_nil_ends p = ap (λ f. not (is_list_pattern f)) (pattern_made p PatNode-F.Nil)

pattern_list_fine : (p : Place) (fs : List Pattern) (f : Pattern) → patterns fs ≡ true → fine_pattern f → not (is_list_pattern (T.pattern_of f)) ≡ true → fine_pattern (pattern_at p (PatNode-F.List fs f))
pattern_list_fine p fs f h k e = made_pattern p (PatNode-F.List fs f) (all_three (patterns fs) (well_formed_pattern (T.pattern_of f)) (not (is_list_pattern (T.pattern_of f))) h k e)

patterns_before : (fs gs : List Pattern) → patterns fs ≡ true → patterns gs ≡ true → patterns (fs ++ gs) ≡ true
patterns_before [] gs h k = k
patterns_before (f ∷ fs) gs h k = both (well_formed_pattern (T.pattern_of f)) (patterns (fs ++ gs)) (and_first (well_formed_pattern (T.pattern_of f)) (patterns fs) h) (patterns_before fs gs (and_second (well_formed_pattern (T.pattern_of f)) (patterns fs) h) k)

pattern_cells_by : (p : Place) (fs : List Pattern) (f : Pattern) (form : PatNode-F PatNode Pattern) → out-PatNode f.node ≡ form → patterns fs ≡ true → fine_pattern f → fine_pattern (pattern_cells_before p fs f form)
pattern_cells_by p fs f (PatNode-F.List gs g) is h k =
    let w = well_formed_pattern (T.pattern_of g) in
    let l = not (is_list_pattern (T.pattern_of g)) in
    let e : (patterns gs && w && l) ≡ true = sym (ap well_formed_pattern (pattern_is f ∙ ap (λ l. level_pattern l f.at) is)) ∙ k in
    pattern_list_fine p (fs ++ gs) g (patterns_before fs gs h (one_of_three (patterns gs) w l e)) (two_of_three (patterns gs) w l e) (three_of_three (patterns gs) w l e)
pattern_cells_by p fs f (PatNode-F.Var x) is h k = pattern_list_fine p fs f h k (ap (λ q. not (is_list_pattern q)) (pattern_is f ∙ ap (λ l. level_pattern l f.at) is))
pattern_cells_by p fs f _ is h k = pattern_list_fine p fs f h k (ap (λ q. not (is_list_pattern q)) (pattern_is f ∙ ap (λ l. level_pattern l f.at) is))

pattern_characters_fine : (p : Place) (s : List ℕ) → code_points_in_range s ≡ true → patterns (map (pattern_character p) s) ≡ true
pattern_characters_fine p [] h = refl
pattern_characters_fine p (c ∷ s) h = both (well_formed_pattern (T.pattern_of (pattern_character p c))) (patterns (map (pattern_character p) s)) (made_pattern p (PatNode-F.Int (pos c)) (and_first (is_in_range (pos c)) (code_points_in_range s) h)) (pattern_characters_fine p s (and_second (is_in_range (pos c)) (code_points_in_range s) h))

pattern_text_fine : (p : Place) (s : List ℕ) → code_points_in_range s ≡ true → fine_pattern (pattern_text p s)
pattern_text_fine p [] h = pattern_nil_fine p
pattern_text_fine p (c ∷ s) h = pattern_list_fine p (map (pattern_character p) (c ∷ s)) (pattern_nil p) (pattern_characters_fine p (c ∷ s) h) (pattern_nil_fine p) (pattern_nil_ends p)

-- expressions

expression_made : (p : Place) (form : Node-F Node Clause Expr Fun FunDef) → T.expression_of (expression_at p form) ≡ level form p
unfolding expression_at
expression_made p form = expression_is (expression_at p form) ∙ ap (λ f. level f p) (out-roll-Node form)

clause_made : (p : Place) (fs : List Pattern) (g e : Expr) → T.clause_of (clause_at p fs g e) ≡ record { patterns = T.patterns (map T.pattern_of fs); guard = T.expression_of g; body = T.expression_of e; at = p }
unfolding clause_at
clause_made p fs g e = clause_is (clause_at p fs g e)

fun_made : (p : Place) (xs : List Var) (e : Expr) → (T.function_of (fun_at p xs e)).body ≡ T.expression_of e
unfolding fun_at
fun_made p xs e = ap (λ f. f.body) (function_is (fun_at p xs e)) ∙ ap (λ f. T.expression_of f.body) (out-roll-Fun (record { params = xs; body = e; at = p }))

definition_made : (p : Place) (f : FunName) (g : Fun) → (T.definition_of (definition_at p f g)).function ≡ T.function_of g
unfolding definition_at
definition_made p f g = ap (λ d. d.function) (definition_is (definition_at p f g)) ∙ ap (λ d. T.function_of d.fun) (out-roll-FunDef (record { name = f; fun = g; at = p }))

abbrev wf : Expr → Bool
wf e = well_formed (T.expression_of e)

abbrev fine : Expr → Type 0
fine e = wf e ≡ true

abbrev expressions : List Expr → Bool
expressions es = well_formed_expressions (T.expressions (map T.expression_of es))

abbrev ends : Expr → Bool
ends e = not (is_list (T.expression_of e))

made_fine : (p : Place) (form : Node-F Node Clause Expr Fun FunDef) → well_formed (level form p) ≡ true → fine (expression_at p form)
made_fine p form h = ap well_formed (expression_made p form) ∙ h

nil_fine : (p : Place) → fine (nil_at p)
nil_fine p = made_fine p Node-F.Nil refl

list_nil_ends : (p : Place) → ends (nil_at p) ≡ true
list_nil_ends p = ap (λ e. not (is_list e)) (expression_made p Node-F.Nil)

list_fine : (p : Place) (es : List Expr) (e : Expr) → expressions es ≡ true → fine e → ends e ≡ true → fine (expression_at p (Node-F.List es e))
list_fine p es e h k l = made_fine p (Node-F.List es e) (all_three (expressions es) (wf e) (ends e) h k l)

expressions_before : (es fs : List Expr) → expressions es ≡ true → expressions fs ≡ true → expressions (es ++ fs) ≡ true
expressions_before [] fs h k = k
expressions_before (e ∷ es) fs h k = both (wf e) (expressions (es ++ fs)) (and_first (wf e) (expressions es) h) (expressions_before es fs (and_second (wf e) (expressions es) h) k)

cells_by : (p : Place) (es : List Expr) (e : Expr) (form : Node-F Node Clause Expr Fun FunDef) → out-Node e.node ≡ form → expressions es ≡ true → fine e → fine (cells_before p es e form)
cells_by p es e (Node-F.List fs f) is h k =
    let g : (expressions fs && wf f && ends f) ≡ true = sym (ap well_formed (expression_is e ∙ ap (λ l. level l e.at) is)) ∙ k in
    list_fine p (es ++ fs) f (expressions_before es fs h (one_of_three (expressions fs) (wf f) (ends f) g)) (two_of_three (expressions fs) (wf f) (ends f) g) (three_of_three (expressions fs) (wf f) (ends f) g)
cells_by p es e _ is h k = list_fine p es e h k (ap (λ q. not (is_list q)) (expression_is e ∙ ap (λ l. level l e.at) is))

characters_fine : (p : Place) (s : List ℕ) → code_points_in_range s ≡ true → expressions (map (character_at p) s) ≡ true
characters_fine p [] h = refl
characters_fine p (c ∷ s) h = both (wf (character_at p c)) (expressions (map (character_at p) s)) (made_fine p (Node-F.Int (pos c)) (and_first (is_in_range (pos c)) (code_points_in_range s) h)) (characters_fine p s (and_second (is_in_range (pos c)) (code_points_in_range s) h))

text_fine : (p : Place) (s : List ℕ) → code_points_in_range s ≡ true → fine (text_at p s)
text_fine p [] h = nil_fine p
text_fine p (c ∷ s) h = list_fine p (map (character_at p) (c ∷ s)) (nil_at p) (characters_fine p (c ∷ s) h) (nil_fine p) (list_nil_ends p)

-- clauses and definitions

abbrev clauses : List Clause → Bool
clauses cs = well_formed_clauses (T.clauses (map T.clause_of cs))

abbrev fine_clause : Clause → Type 0
fine_clause c = (well_formed_patterns (T.clause_of c).patterns ≡ true) × (well_formed (T.clause_of c).guard ≡ true) × (well_formed (T.clause_of c).body ≡ true)

made_clause : (p : Place) (fs : List Pattern) (g e : Expr) → patterns fs ≡ true → fine g → fine e → fine_clause (clause_at p fs g e)
made_clause p fs g e h k l = (ap (λ c. well_formed_patterns c.patterns) (clause_made p fs g e) ∙ h, ap (λ c. well_formed c.guard) (clause_made p fs g e) ∙ k, ap (λ c. well_formed c.body) (clause_made p fs g e) ∙ l)

more_clauses : (c : Clause) (cs : List Clause) → fine_clause c → clauses cs ≡ true → clauses (c ∷ cs) ≡ true
more_clauses c cs h k =
    let q = T.clause_of c in
    both (well_formed_patterns q.patterns && well_formed q.guard && well_formed q.body) (clauses cs) (all_three (well_formed_patterns q.patterns) (well_formed q.guard) (well_formed q.body) h.0 h.1 h.2) k

abbrev fine_fun : Fun → Type 0
fine_fun f = well_formed (T.function_of f).body ≡ true

made_fun : (p : Place) (xs : List Var) (e : Expr) → fine e → fine_fun (fun_at p xs e)
made_fun p xs e h = ap well_formed (fun_made p xs e) ∙ h

abbrev definitions : List FunDef → Bool
definitions ds = well_formed_definitions (T.definitions (map T.definition_of ds))

more_definitions : (p : Place) (f : FunName) (g : Fun) (ds : List FunDef) → fine_fun g → definitions ds ≡ true → definitions (definition_at p f g ∷ ds) ≡ true
more_definitions p f g ds h k = both (well_formed (T.definition_of (definition_at p f g)).function.body) (definitions ds) (ap (λ f. well_formed f.body) (definition_made p f g) ∙ h) k

module _ (ok : Leave) where
  mutual
    constant_fits : (k : ℕ) (c : Constant) (ts us : List Terminal) → G.ConstantOf ok k c ts us → Fits ts → good c × Fits us
    constant_fits k c ts us (G.constant_integer p (G.digits n) h) f = (made_good (Constant-F.Int (pos n)) (and_first (is_in_range (pos n)) (terminals_in_range us) f), and_second (is_in_range (pos n)) (terminals_in_range us) f)
    constant_fits k c ts us (G.constant_integer p (G.signed_or_character n) h) f = (made_good (Constant-F.Int n) (and_first (is_in_range n) (terminals_in_range us) f), and_second (is_in_range n) (terminals_in_range us) f)
    constant_fits k c ts us (G.constant_characters s p h) f = (constant_text_good s (and_first (code_points_in_range s) (terminals_in_range us) f), and_second (code_points_in_range s) (terminals_in_range us) f)
    constant_fits k c ts us (G.constant_atom a p h) f = (made_good (Constant-F.Atom a) refl, f)
    constant_fits k c ts us (G.constant_empty p q h) f = (nil_good, f)
    constant_fits k c ts us (G.constant_tuple {cs = cs} {ts = xs} p q h d) f = let r = constants_fit (k + 1) cs xs _ d f in (made_good (Constant-F.Tuple cs) r.0, r.1)
    constant_fits k c ts us (G.constant_list {cs = cs} {ts = xs} p q h d) f = let r = some_constants_fit (k + 1) cs xs _ d f in (list_good cs constant_nil r.0 r.1 nil_good nil_ends, r.2)
    constant_fits k c ts us (G.constant_list_before {cs = cs} {c = e} {ts = xs} {us = ys} p q r h d g) f =
        let x = some_constants_fit (k + 1) cs xs _ d f in
        let y = constant_fits k e ys _ g x.2 in
        (constant_cells_by cs e (out-Constant e) refl x.0 x.1 y.0, y.1)

    some_constants_fit : (k : ℕ) (cs : List Constant) (ts us : List Terminal) → G.SomeConstants ok k cs ts us → Fits ts → (has_parts (map form_of cs) ≡ true) × (all cs ≡ true) × Fits us
    some_constants_fit k cs ts us (G.last_constant {c = c} d) f = let r = constant_fits k c ts us d f in (refl, both (form_of c).good true r.0 refl, r.1)
    some_constants_fit k cs ts us (G.more_constants {c = c} {cs = ds} {us = xs} p d e) f =
        let r = constant_fits k c ts _ d f in
        let s = some_constants_fit k ds xs us e r.1 in
        (refl, both (form_of c).good (all ds) r.0 s.1, s.2)

    constants_fit : (k : ℕ) (cs : List Constant) (ts us : List Terminal) → G.ConstantsOf ok k cs ts us → Fits ts → (all cs ≡ true) × Fits us
    constants_fit k cs ts us G.no_constants f = (refl, f)
    constants_fit k cs ts us (G.some_constants d) f = let r = some_constants_fit k cs ts us d f in (r.1, r.2)

  -- annotations, names and variables

  annotation_fits : (ts us : List Terminal) → G.Annotation ok ts us → Fits ts → Fits us
  annotation_fits ts us (G.annotation {cs = cs} {ts = xs} p q r s d) f = (constants_fit 1 cs xs _ d f).1

  annotated_fits : (X : List Terminal → List Terminal → Type 0) → ((ts us : List Terminal) → X ts us → Fits ts → Fits us) → (ts us : List Terminal) → G.Annotated ok X ts us → Fits ts → Fits us
  annotated_fits X read ts us (G.bare d) f = read ts us d f
  annotated_fits X read ts us (G.annotated {ts = xs} {us = ys} o d n) f = annotation_fits ys us n (read xs ys d f)

  atom_fits : (a : List ℕ) (ts us : List Terminal) → G.AtomOf a ts us → Fits ts → Fits us
  atom_fits a ts us (G.atom p) f = f

  operand_fits : (a : List ℕ) (ts us : List Terminal) → G.Operand ok a ts us → Fits ts → Fits us
  operand_fits a ts us (G.atom_operand (G.atom p)) f = f
  operand_fits a ts us (G.operand_variable x p h) f = f

  variable_fits : (x : Var) (ts us : List Terminal) → G.VariableOf x ts us → Fits ts → Fits us
  variable_fits x ts us G.variable f = f

  name_fits : (g : FunName) (p : Place) (ts us : List Terminal) → G.NameOf g p ts us → Fits ts → Fits us
  name_fits g p ts us (G.function_name q r) f = and_second (is_in_range (pos g.arity)) (terminals_in_range us) f

  annotated_variable_fits : (x : Var) (ts us : List Terminal) → G.AnnotatedVariable ok x ts us → Fits ts → Fits us
  annotated_variable_fits x = annotated_fits (G.VariableOf x) (variable_fits x)

  some_of_fit : (A : Type 0) (X : A → List Terminal → List Terminal → Type 0) → ((a : A) (ts us : List Terminal) → X a ts us → Fits ts → Fits us) → (as' : List A) (ts us : List Terminal) → G.SomeOf A X as' ts us → Fits ts → Fits us
  some_of_fit A X read as' ts us (G.last_of {a = a} d) f = read a ts us d f
  some_of_fit A X read as' ts us (G.more_of {a = a} {as' = bs} {us = xs} p d e) f = some_of_fit A X read bs xs us e (read a ts (mark Mark.Comma p ∷ xs) d f)

  list_of_fits : (A : Type 0) (X : A → List Terminal → List Terminal → Type 0) → ((a : A) (ts us : List Terminal) → X a ts us → Fits ts → Fits us) → (as' : List A) (ts us : List Terminal) → G.ListOf A X as' ts us → Fits ts → Fits us
  list_of_fits A X read as' ts us G.none_of f = f
  list_of_fits A X read as' ts us (G.some_of d) f = some_of_fit A X read as' ts us d f

  variables_fit : (xs : List Var) (ts us : List Terminal) → G.VariablesOf ok xs ts us → Fits ts → Fits us
  variables_fit xs ts us (G.one_variable {x = x} d) f = annotated_variable_fits x ts us d f
  variables_fit xs ts us (G.value_variables {ts = ys} p q d) f = list_of_fits Var (G.AnnotatedVariable ok) annotated_variable_fits xs ys _ d f

  -- patterns

  mutual
    pattern_fits : (k : ℕ) (f : Pattern) (ts us : List Terminal) → G.PatternOf ok k f ts us → Fits ts → fine_pattern f × Fits us
    pattern_fits k f ts us (G.pattern_bare d) h = bare_pattern_fits k f ts us d h
    pattern_fits k f ts us (G.pattern_annotated {ts = xs} {us = ys} o d n) h = let r = bare_pattern_fits k f xs ys d h in (r.0, annotation_fits ys us n r.1)
    pattern_fits k f ts us (G.pattern_aliased {x = x} {f = g} {us = ys} q l v d) h = let r = pattern_fits (k + 1) g ys us d (annotated_variable_fits x ts _ v h) in (made_pattern x.at (PatNode-F.Alias x g) r.0, r.1)

    bare_pattern_fits : (k : ℕ) (f : Pattern) (ts us : List Terminal) → G.BarePattern ok k f ts us → Fits ts → fine_pattern f × Fits us
    bare_pattern_fits k f ts us (G.pattern_variable x p l) h = (made_pattern p (PatNode-F.Var x) refl, h)
    bare_pattern_fits k f ts us (G.pattern_integer p (G.digits n) l) h = (made_pattern p (PatNode-F.Int (pos n)) (and_first (is_in_range (pos n)) (terminals_in_range us) h), and_second (is_in_range (pos n)) (terminals_in_range us) h)
    bare_pattern_fits k f ts us (G.pattern_integer p (G.signed_or_character n) l) h = (made_pattern p (PatNode-F.Int n) (and_first (is_in_range n) (terminals_in_range us) h), and_second (is_in_range n) (terminals_in_range us) h)
    bare_pattern_fits k f ts us (G.pattern_characters s p l) h = (pattern_text_fine p s (and_first (code_points_in_range s) (terminals_in_range us) h), and_second (code_points_in_range s) (terminals_in_range us) h)
    bare_pattern_fits k f ts us (G.pattern_atom a p l) h = (made_pattern p (PatNode-F.Atom a) refl, h)
    bare_pattern_fits k f ts us (G.pattern_empty p q l) h = (pattern_nil_fine p, h)
    bare_pattern_fits k f ts us (G.pattern_tuple {fs = fs} {ts = xs} p q l d) h = let r = patterns_fit (k + 1) fs xs _ d h in (made_pattern p (PatNode-F.Tuple fs) r.0, r.1)
    bare_pattern_fits k f ts us (G.pattern_list {fs = fs} {ts = xs} p q l d) h = let r = some_patterns_fit (k + 1) fs xs _ d h in (pattern_list_fine p fs (pattern_nil p) r.0 (pattern_nil_fine p) (pattern_nil_ends p), r.1)
    bare_pattern_fits k f ts us (G.pattern_list_before {fs = fs} {f = e} {ts = xs} {us = ys} p q r l d g) h =
        let x = some_patterns_fit (k + 1) fs xs _ d h in
        let y = pattern_fits k e ys _ g x.1 in
        (pattern_cells_by p fs e (out-PatNode e.node) refl x.0 y.0, y.1)
    bare_pattern_fits k f ts us (G.pattern_alias {x = x} {f = g} {us = ys} q l v d) h = let r = pattern_fits (k + 1) g ys us d (annotated_variable_fits x ts _ v h) in (made_pattern x.at (PatNode-F.Alias x g) r.0, r.1)

    some_patterns_fit : (k : ℕ) (fs : List Pattern) (ts us : List Terminal) → G.SomePatterns ok k fs ts us → Fits ts → (patterns fs ≡ true) × Fits us
    some_patterns_fit k fs ts us (G.last_pattern {f = f} d) h = let r = pattern_fits k f ts us d h in (both (well_formed_pattern (T.pattern_of f)) true r.0 refl, r.1)
    some_patterns_fit k fs ts us (G.more_patterns {f = f} {fs = gs} {us = xs} p d e) h =
        let r = pattern_fits k f ts _ d h in
        let s = some_patterns_fit k gs xs us e r.1 in
        (both (well_formed_pattern (T.pattern_of f)) (patterns gs) r.0 s.0, s.1)

    patterns_fit : (k : ℕ) (fs : List Pattern) (ts us : List Terminal) → G.PatternsOf ok k fs ts us → Fits ts → (patterns fs ≡ true) × Fits us
    patterns_fit k fs ts us G.no_patterns h = (refl, h)
    patterns_fit k fs ts us (G.some_patterns d) h = some_patterns_fit k fs ts us d h

  clause_patterns_fit : (k : ℕ) (p : Place) (fs : List Pattern) (ts us : List Terminal) → G.ClausePatterns ok k p fs ts us → Fits ts → (patterns fs ≡ true) × Fits us
  clause_patterns_fit k p fs ts us (G.one_pattern {f = f} d) h = let r = pattern_fits (k + 1) f ts us d h in (both (well_formed_pattern (T.pattern_of f)) true r.0 refl, r.1)
  clause_patterns_fit k p fs ts us (G.value_patterns {ts = xs} a b l d) h = patterns_fit (k + 1) fs xs _ d h

  -- expressions

  mutual
    expression_fits : (k : ℕ) (e : Expr) (ts us : List Terminal) → G.ExpressionOf ok k e ts us → Fits ts → fine e × Fits us
    expression_fits k e ts us (G.expression_bare d) h = bare_expression_fits k e ts us d h
    expression_fits k e ts us (G.expression_annotated {ts = xs} {us = ys} o d n) h = let r = bare_expression_fits k e xs ys d h in (r.0, annotation_fits ys us n r.1)

    bare_expression_fits : (k : ℕ) (e : Expr) (ts us : List Terminal) → G.BareExpression ok k e ts us → Fits ts → fine e × Fits us
    bare_expression_fits k e ts us (G.integer p (G.digits n) l) h = (made_fine p (Node-F.Int (pos n)) (and_first (is_in_range (pos n)) (terminals_in_range us) h), and_second (is_in_range (pos n)) (terminals_in_range us) h)
    bare_expression_fits k e ts us (G.integer p (G.signed_or_character n) l) h = (made_fine p (Node-F.Int n) (and_first (is_in_range n) (terminals_in_range us) h), and_second (is_in_range n) (terminals_in_range us) h)
    bare_expression_fits k e ts us (G.characters s p l) h = (text_fine p s (and_first (code_points_in_range s) (terminals_in_range us) h), and_second (code_points_in_range s) (terminals_in_range us) h)
    bare_expression_fits k e ts us (G.literal a p l) h = (made_fine p (Node-F.Atom a) refl, h)
    bare_expression_fits k e ts us (G.variable_name x p l) h = (made_fine p (Node-F.Var x) refl, h)
    bare_expression_fits k e ts us (G.function {f = f} {p = p} l d) h = (made_fine p (Node-F.Name f) refl, name_fits f p ts us d h)
    bare_expression_fits k e ts us (G.empty p q l) h = (nil_fine p, h)
    bare_expression_fits k e ts us (G.tuple {es = es} {ts = xs} p q l d) h = let r = expressions_fit (k + 1) es xs _ d h in (made_fine p (Node-F.Tuple es) r.0, r.1)
    bare_expression_fits k e ts us (G.list {es = es} {ts = xs} p q l d) h = let r = some_expressions_fit (k + 1) es xs _ d h in (list_fine p es (nil_at p) r.0 (nil_fine p) (list_nil_ends p), r.1)
    bare_expression_fits k e ts us (G.list_before {es = es} {e = f} {ts = xs} {us = ys} p q r l d g) h =
        let x = some_expressions_fit (k + 1) es xs _ d h in
        let y = expression_fits k f ys _ g x.1 in
        (cells_by p es f (out-Node f.node) refl x.0 y.0, y.1)
    bare_expression_fits k e ts us (G.values {es = es} {ts = xs} p q l d) h = let r = expressions_fit (k + 1) es xs _ d h in (made_fine p (Node-F.Values es) r.0, r.1)
    bare_expression_fits k e ts us (G.«let» {xs = xs} {e = f} {f = g} {ts = as'} {us = bs} {vs = cs} p q r l v d t) h =
        let x = expression_fits (k + 1) f bs _ d (variables_fit xs as' _ v h) in
        let y = expression_fits (k + 1) g cs us t x.1 in
        (made_fine p (Node-F.Let xs f g) (both (wf f) (wf g) x.0 y.0), y.1)
    bare_expression_fits k e ts us (G.case {e = f} {cs = cs} {ts = as'} {us = bs} p q r l d t) h =
        let x = expression_fits (k + 1) f as' _ d h in
        let y = clauses_fit (k + 1) cs bs _ t x.1 in
        (made_fine p (Node-F.Case f cs) (both (wf f) (clauses cs) x.0 y.0), y.1)
    bare_expression_fits k e ts us (G.lambda {f = f} {p = p} d) h = let r = bare_fun_fits k p f ts us d h in (made_fine p (Node-F.Lambda f) r.0, r.1)
    bare_expression_fits k e ts us (G.letrec {ds = ds} {e = f} {ts = as'} {us = bs} p q l d t) h =
        let x = definitions_fit (k + 1) ds as' _ d h in
        let y = expression_fits (k + 1) f bs us t x.1 in
        (made_fine p (Node-F.Letrec ds f) (both (definitions ds) (wf f) x.0 y.0), y.1)
    bare_expression_fits k e ts us (G.apply {e = f} {es = es} {ts = as'} {us = bs} p q r l d t) h =
        let x = expression_fits (k + 1) f as' _ d h in
        let y = expressions_fit (k + 1) es bs _ t x.1 in
        (made_fine p (Node-F.Apply f es) (both (wf f) (expressions es) x.0 y.0), y.1)
    bare_expression_fits k e ts us (G.call {m = m} {f = f} {es = es} {ts = as'} {us = bs} {vs = cs} p q r s l a b d) h =
        let y = expressions_fit (k + 1) es cs _ d (annotated_fits (G.Operand ok f) (operand_fits f) bs _ b (annotated_fits (G.Operand ok m) (operand_fits m) as' _ a h)) in
        (made_fine p (Node-F.Call m f es) y.0, y.1)
    bare_expression_fits k e ts us (G.primop {f = f} {es = es} {ts = as'} {us = bs} p q r l a d) h =
        let y = expressions_fit (k + 1) es bs _ d (annotated_fits (G.AtomOf f) (atom_fits f) as' _ a h) in
        (made_fine p (Node-F.Primop f es) y.0, y.1)
    bare_expression_fits k e ts us (G.try {e = f} {f = g} {g = i} {xs = xs} {ys = ys} {t1 = t1} {t2 = t2} {t3 = t3} {t4 = t4} {t5 = t5} p q r s t l a u b v d) h =
        let x = expression_fits (k + 1) f t1 _ a h in
        let y = expression_fits (k + 1) g t3 _ b (variables_fit xs t2 _ u x.1) in
        let w = expression_fits (k + 1) i t5 us d (variables_fit ys t4 _ v y.1) in
        (made_fine p (Node-F.Try f xs g ys i) (all_three (wf f) (wf g) (wf i) x.0 y.0 w.0), w.1)
    bare_expression_fits k e ts us (G.do_both {e = f} {f = g} {ts = as'} {us = bs} p l d t) h =
        let x = expression_fits (k + 1) f as' bs d h in
        let y = expression_fits (k + 1) g bs us t x.1 in
        (made_fine p (Node-F.Do f g) (both (wf f) (wf g) x.0 y.0), y.1)
    bare_expression_fits k e ts us (G.catch {e = f} {ts = as'} p l d) h = let r = expression_fits (k + 1) f as' us d h in (made_fine p (Node-F.Catch f) r.0, r.1)

    some_expressions_fit : (k : ℕ) (es : List Expr) (ts us : List Terminal) → G.SomeExpressions ok k es ts us → Fits ts → (expressions es ≡ true) × Fits us
    some_expressions_fit k es ts us (G.last_expression {e = e} d) h = let r = expression_fits k e ts us d h in (both (wf e) true r.0 refl, r.1)
    some_expressions_fit k es ts us (G.more_expressions {e = e} {es = fs} {us = xs} p d t) h =
        let r = expression_fits k e ts _ d h in
        let s = some_expressions_fit k fs xs us t r.1 in
        (both (wf e) (expressions fs) r.0 s.0, s.1)

    expressions_fit : (k : ℕ) (es : List Expr) (ts us : List Terminal) → G.ExpressionsOf ok k es ts us → Fits ts → (expressions es ≡ true) × Fits us
    expressions_fit k es ts us G.no_expressions h = (refl, h)
    expressions_fit k es ts us (G.some_expressions d) h = some_expressions_fit k es ts us d h

    clauses_fit : (k : ℕ) (cs : List Clause) (ts us : List Terminal) → G.ClausesOf ok k cs ts us → Fits ts → (clauses cs ≡ true) × Fits us
    clauses_fit k cs ts us (G.last_clause {c = c} d) h = let r = clause_fits k c ts us d h in (more_clauses c [] r.0 refl, r.1)
    clauses_fit k cs ts us (G.more_clauses {c = c} {cs = ds} {us = xs} d t) h =
        let r = clause_fits k c ts xs d h in
        let s = clauses_fit k ds xs us t r.1 in
        (more_clauses c ds r.0 s.0, s.1)

    clause_fits : (k : ℕ) (c : Clause) (ts us : List Terminal) → G.ClauseOf ok k c ts us → Fits ts → fine_clause c × Fits us
    clause_fits k c ts us (G.clause_bare d) h = bare_clause_fits k c ts us d h
    clause_fits k c ts us (G.clause_annotated {ts = xs} {us = ys} o d n) h = let r = bare_clause_fits k c xs ys d h in (r.0, annotation_fits ys us n r.1)

    bare_clause_fits : (k : ℕ) (c : Clause) (ts us : List Terminal) → G.BareClause ok k c ts us → Fits ts → fine_clause c × Fits us
    bare_clause_fits k c ts us (G.clause {p = p} {fs = fs} {g = g} {e = e} {us = as'} {vs = bs} q r d t f) h =
        let x = clause_patterns_fit k p fs ts _ d h in
        let y = expression_fits (k + 1) g as' _ t x.1 in
        let w = expression_fits (k + 1) e bs us f y.1 in
        (made_clause p fs g e x.0 y.0 w.0, w.1)

    bare_fun_fits : (k : ℕ) (p : Place) (f : Fun) (ts us : List Terminal) → G.BareFun ok k p f ts us → Fits ts → fine_fun f × Fits us
    bare_fun_fits k p f ts us (G.«fun» {xs = xs} {e = e} {ts = as'} {us = bs} p' q r s l v d) h =
        let y = expression_fits (k + 1) e bs us d (list_of_fits Var (G.AnnotatedVariable ok) annotated_variable_fits xs as' _ v h) in
        (made_fun p' xs e y.0, y.1)

    fun_fits : (k : ℕ) (f : Fun) (ts us : List Terminal) → G.FunOf ok k f ts us → Fits ts → fine_fun f × Fits us
    fun_fits k f ts us (G.fun_bare {p = p} d) h = bare_fun_fits k p f ts us d h
    fun_fits k f ts us (G.fun_annotated {p = p} {ts = xs} {us = ys} o d n) h = let r = bare_fun_fits k p f xs ys d h in (r.0, annotation_fits ys us n r.1)

    definitions_fit : (k : ℕ) (ds : List FunDef) (ts us : List Terminal) → G.DefinitionsOf ok k ds ts us → Fits ts → (definitions ds ≡ true) × Fits us
    definitions_fit k ds ts us G.no_definitions h = (refl, h)
    definitions_fit k ds ts us (G.more_definitions {ds = es} {us = xs} (G.definition {f = f} {p = p} {g = g} {us = ys} q n e) t) h =
        let x = fun_fits k g ys xs e (annotated_fits (G.NameOf f p) (name_fits f p) ts _ n h) in
        let y = definitions_fit k es xs us t x.1 in
        (more_definitions p f g es x.0 y.0, y.1)

  -- modules

  export_fits : (e : FunName × Place) (ts us : List Terminal) → G.ExportOf ok e ts us → Fits ts → Fits us
  export_fits e = annotated_fits (G.NameOf e.0 e.1) (name_fits e.0 e.1)

  annotated_constant_fits : (c : Constant) (ts us : List Terminal) → G.Annotated ok (G.ConstantOf ok 1 c) ts us → Fits ts → good c × Fits us
  annotated_constant_fits c ts us (G.bare d) h = constant_fits 1 c ts us d h
  annotated_constant_fits c ts us (G.annotated {ts = xs} {us = ys} o d n) h = let r = constant_fits 1 c xs ys d h in (r.0, annotation_fits ys us n r.1)

  abbrev attributes : List (List ℕ × Constant) → Bool
  attributes xs = list_all (λ a. (form_of a.1).good) xs

  attribute_fits : (x : List ℕ × Constant) (ts us : List Terminal) → G.AttributeOf ok x ts us → Fits ts → good x.1 × Fits us
  attribute_fits x ts us (G.attribute {a = a} {c = c} {us = xs} q n d) h = annotated_constant_fits c xs us d (annotated_fits (G.AtomOf a) (atom_fits a) ts _ n h)

  some_attributes_fit : (xs : List (List ℕ × Constant)) (ts us : List Terminal) → G.SomeOf (List ℕ × Constant) (G.AttributeOf ok) xs ts us → Fits ts → (attributes xs ≡ true) × Fits us
  some_attributes_fit xs ts us (G.last_of {a = x} d) h = let r = attribute_fits x ts us d h in (both (form_of x.1).good true r.0 refl, r.1)
  some_attributes_fit xs ts us (G.more_of {a = x} {as' = ys} {us = bs} p d e) h =
      let r = attribute_fits x ts _ d h in
      let s = some_attributes_fit ys bs us e r.1 in
      (both (form_of x.1).good (attributes ys) r.0 s.0, s.1)

  attributes_fit : (xs : List (List ℕ × Constant)) (ts us : List Terminal) → G.ListOf (List ℕ × Constant) (G.AttributeOf ok) xs ts us → Fits ts → (attributes xs ≡ true) × Fits us
  attributes_fit xs ts us G.none_of h = (refl, h)
  attributes_fit xs ts us (G.some_of d) h = some_attributes_fit xs ts us d h

  bare_module_fits : (m : Module) (ts us : List Terminal) → G.BareModule ok m ts us → Fits ts → IsWellFormed (T.module_of m)
  bare_module_fits m ts us (G.«module» {exports = exports} {attributes = as'} {ds = ds} {ts = xs} {us = ys} {vs = bs} a p q r s t u v w e f d) h =
      let x = attributes_fit as' ys _ f (list_of_fits (FunName × Place) (G.ExportOf ok) export_fits exports xs _ e h) in
      let y = definitions_fit 1 ds bs _ d x.1 in
      both (definitions ds) (attributes as') y.0 x.0

  module_fits : (m : Module) (ts us : List Terminal) → G.ModuleOf ok m ts us → Fits ts → IsWellFormed (T.module_of m)
  module_fits m ts us (G.bare d) h = bare_module_fits m ts us d h
  module_fits m ts us (G.annotated {ts = xs} {us = ys} o d n) h = bare_module_fits m xs ys d h

  -- calls

  some_arguments_fit : (i : ℕ) (cs : List Constant) (ts us : List Terminal) → G.SomeArguments ok i cs ts us → Fits ts → all cs ≡ true
  some_arguments_fit i cs ts us (G.last_argument {c = c} l d) h = both (form_of c).good true (constant_fits 1 c ts us d h).0 refl
  some_arguments_fit i cs ts us (G.more_arguments {c = c} {cs = ds} {us = xs} p l d e) h = let r = constant_fits 1 c ts _ d h in both (form_of c).good (all ds) r.0 (some_arguments_fit (i + 1) ds xs us e r.1)

  arguments_fit : (cs : List Constant) (ts us : List Terminal) → G.ArgumentsOf ok cs ts us → Fits ts → all cs ≡ true
  arguments_fit cs ts us G.no_arguments h = refl
  arguments_fit cs ts us (G.some_arguments d) h = some_arguments_fit 1 cs ts us d h

  call_fits : (c : Call) (ts us : List Terminal) → G.CallOf ok c ts us → Fits ts → AreConstants c.args
  call_fits c ts us (G.call_of {cs = cs} {ts = xs} a p q r d) h = all_good cs (arguments_fit cs xs _ d h)

pub derived_are_well_formed : (ok : Leave) (ts : List Terminal) (m : Module) → terminals_in_range ts ≡ true → Derives ok ts m → IsWellFormed (T.module_of m)
derived_are_well_formed ok ts m h d = module_fits ok m ts [] d h

pub derived_arguments_are_constants : (ok : Leave) (ts : List Terminal) (c : Call) → terminals_in_range ts ≡ true → DerivesCall ok ts c → AreConstants c.args
derived_arguments_are_constants ok ts c h d = call_fits ok c ts [] d h
