-- Texts that pieces are appended to, construct by construct.
use Rattle.std.proofs.Common.{◌≡◌, ℕ, zero, suc, ◌+◌, Bool, true, false, List, [], ◌∷◌, ◌++◌, map, refl, sym, ap, ◌∙◌, append_assoc, append-nil, add-one, length, ◌<◌, ◌≤◌, get_or, drop, drop-cons, codes}
use Rattle.std.proofs.lemmas.List.{drop_all}
use Rattle.std.specs.List.{repeat}
use Rattle.hipe_terms.specs.declared.constant.Constant.{Constant}
use Rattle.hipe_terms.specs.declared.place.Place.{Place}
use Rattle.hipe_terms.specs.Terms.{term_of}
use Rattle.core_ast.specs.declared.pattern.Var.{Var}
use Rattle.core_ast.specs.declared.tree.FunName.{FunName}
use Rattle.core_print.specs.Printed.{Piece, spelled, text_of, put, followed_by, deeper, after_comma, comma_before, commas_from, indentation, opened, arrow, equals, name_pieces, tail_pieces, variable_pieces, alias_pieces, binders, spaced_pieces, block_pieces, next_pieces, let_pieces, in_pieces, of_pieces, clause_pieces, fun_pieces, definition_pieces, call_pieces, primop_pieces, branch_pieces, each_pattern, pieces, clauses_pieces, definitions_pieces, export_pieces, head_pieces, attribute_pieces, attributes_pieces, module_pieces, printed}
use Rattle.core_ast.specs.Trees.{Module, Clause, Definition, clauses, definitions}
use Rattle.core_ast.proofs.Levels.{levels, pattern_levels}

-- ---- pieces in general

pub followed_append : (a b : List Piece) (t : List ℕ) → followed_by (a ++ b) t ≡ followed_by b (followed_by a t)
followed_append [] b t = refl
followed_append (p ∷ a) b t = followed_append a b (put p t)

pub followed_is : (ps : List Piece) (t : List ℕ) → followed_by ps t ≡ t ++ text_of ps
unfolding put
followed_is [] t = sym (append-nil t)
followed_is (p ∷ ps) t = followed_is ps (t ++ spelled p) ∙ append_assoc t (spelled p) (text_of ps)

-- ---- a new line, indented level by level

pub line_is : (d : ℕ) (t : List ℕ) → put (Piece.Line d) t ≡ (t ++ codes "\n") ++ indentation d
unfolding put
line_is d t = sym (append_assoc t (codes "\n") (indentation d))

repeat_more : (n : ℕ) (xs : List ℕ) → repeat n xs ++ xs ≡ xs ++ repeat n xs
repeat_more zero xs = sym (append-nil xs)
repeat_more (suc n) xs = append_assoc xs (repeat n xs) xs ∙ ap (λ ys. xs ++ ys) (repeat_more n xs)

pub indented_more : (d : ℕ) (t : List ℕ) → (t ++ indentation d) ++ codes "  " ≡ t ++ indentation (d + 1)
indented_more d t = append_assoc t (indentation d) (codes "  ") ∙ ap (λ ys. t ++ ys) (repeat_more d (codes "  ") ∙ ap (λ n. indentation n) (sym (add-one d)))

pub not_indented : (t : List ℕ) → t ++ indentation 0 ≡ t
not_indented t = append-nil t

pub ruleset lines = (line_is, indented_more, not_indented)

-- ---- parts with commas between them

pub opened_is : (o : List ℕ) (xs : List (List Piece)) (t : List ℕ) → followed_by (opened o xs) t ≡ followed_by (commas_from 0 xs) (put (Piece.Sign o) t)
unfolding opened commas_from
opened_is o xs t = refl

pub commas_end : (i : ℕ) (t : List ℕ) → followed_by (commas_from i []) t ≡ t
unfolding commas_from
commas_end zero t = refl
commas_end (suc i) t = refl

commas_next : (i : ℕ) (xs : List (List Piece)) → commas_from (i + 1) xs ≡ after_comma xs
unfolding commas_from
commas_next i xs = rw add-one

pub commas_more : (i : ℕ) (x : List Piece) (xs : List (List Piece)) (t : List ℕ) → followed_by (commas_from i (x ∷ xs)) t ≡ followed_by (commas_from (i + 1) xs) (followed_by x (followed_by (comma_before i) t))
unfolding commas_from
commas_more zero x xs t = followed_append x (after_comma xs) t ∙ ap (λ ys. followed_by ys (followed_by x t)) (sym (commas_next 0 xs))
commas_more (suc i) x xs t = followed_append x (after_comma xs) (put (Piece.Sign (codes ",")) t) ∙ ap (λ ys. followed_by ys (followed_by x (put (Piece.Sign (codes ",")) t))) (sym (commas_next (suc i) xs))

-- One step of a loop over parts, where `text` is what a part is printed as, and `all` what all of them are.
pub commas_step : {A : Type 0} (text : A → List Piece) (all : List A → List (List Piece)) → ((x : A) (xs : List A) → all (x ∷ xs) ≡ text x ∷ all xs)
    → (xs : List A) (i : ℕ) (x : A) (t : List ℕ) {s u v : List ℕ} → i < length xs → x ≡ get_or xs i x → u ≡ followed_by (comma_before i) t → v ≡ followed_by (text x) u
    → followed_by (commas_from i (all (drop i xs))) t ≡ s → followed_by (commas_from (i + 1) (all (drop (i + 1) xs))) v ≡ s
commas_step text all more xs i x t within is comma part before =
    ap (followed_by (commas_from (i + 1) (all (drop (i + 1) xs)))) (part ∙ ap (followed_by (text x)) comma)
    ∙ sym (commas_more i (text x) (all (drop (i + 1) xs)) t)
    ∙ ap (λ ys. followed_by (commas_from i ys) t) (sym (more x (drop (i + 1) xs)))
    ∙ ap (λ ys. followed_by (commas_from i (all ys)) t) (sym (rw (drop-cons xs i x, ← is, add-one)))
    ∙ before

-- The end of such a loop.
pub commas_done : {A : Type 0} (all : List A → List (List Piece)) → all [] ≡ [] → (xs : List A) (i : ℕ) (o t : List ℕ) {u v : List ℕ} → length xs ≤ i → u ≡ put (Piece.Sign o) t
    → followed_by (commas_from i (all (drop i xs))) v ≡ followed_by (commas_from 0 (all xs)) u → v ≡ followed_by (opened o (all xs)) t
commas_done all none xs i o t {v = v} past sign at_end =
    sym (ap (λ ys. followed_by (commas_from i (all ys)) v) (drop_all i xs past) ∙ ap (λ ys. followed_by (commas_from i ys) v) none ∙ commas_end i v)
    ∙ at_end
    ∙ ap (followed_by (commas_from 0 (all xs))) sign
    ∙ sym (opened_is o (all xs) t)

-- ---- parts one behind the other

-- One step of a loop over such parts.
pub each_step : {A : Type 0} (text : A → List Piece) (all : List A → List Piece) → ((x : A) (xs : List A) → all (x ∷ xs) ≡ text x ++ all xs)
    → (xs : List A) (i : ℕ) (x : A) (t : List ℕ) {s u : List ℕ} → i < length xs → x ≡ get_or xs i x → u ≡ followed_by (text x) t
    → followed_by (all (drop i xs)) t ≡ s → followed_by (all (drop (i + 1) xs)) u ≡ s
each_step text all more xs i x t within is part before =
    ap (followed_by (all (drop (i + 1) xs))) part
    ∙ sym (followed_append (text x) (all (drop (i + 1) xs)) t)
    ∙ ap (λ ys. followed_by ys t) (sym (more x (drop (i + 1) xs)))
    ∙ ap (λ ys. followed_by (all ys) t) (sym (rw (drop-cons xs i x, ← is, add-one)))
    ∙ before

pub clauses_more : (d : ℕ) (c : Clause) (cs : List Clause) → clauses_pieces d (clauses (c ∷ cs)) ≡ clauses_pieces d (clauses (c ∷ [])) ++ clauses_pieces d (clauses cs)
clauses_more d c cs = ap (λ w. w ++ clauses_pieces d (clauses cs)) (sym (append-nil (clause_pieces d (each_pattern c.patterns) (pieces d c.guard) (pieces (deeper d) c.body))))

pub definitions_more : (d : ℕ) (f : Definition) (fs : List Definition) → definitions_pieces d (definitions (f ∷ fs)) ≡ definitions_pieces d (definitions (f ∷ [])) ++ definitions_pieces d (definitions fs)
definitions_more d f fs = ap (λ w. w ++ definitions_pieces d (definitions fs)) (sym (append-nil (definition_pieces d f.name (fun_pieces (deeper d) f.function.parameters (pieces (deeper (deeper d)) f.function.body)))))

pub ruleset parts = followed_append

-- ---- constructs

pub tail_nil : (b : Bool) (tail : List Piece) (t : List ℕ) → b ≡ true → followed_by (tail_pieces b tail) t ≡ put (Piece.Sign (codes "]")) t
unfolding tail_pieces
tail_nil true tail t e = refl
tail_nil false tail t e = cc

pub tail_other : (b : Bool) (tail : List Piece) (t : List ℕ) → b ≡ false → followed_by (tail_pieces b tail) t ≡ put (Piece.Sign (codes "]")) (followed_by tail (put (Piece.Sign (codes "|")) t))
unfolding tail_pieces
tail_other true tail t e = cc
tail_other false tail t e = simp followed_append

pub alias_is : (x : Var) (part : List Piece) (t : List ℕ) → followed_by (alias_pieces x part) t ≡ followed_by part (put Piece.Space (put (Piece.Sign (codes "=")) (put Piece.Space (put (Piece.Variable x.name) t))))
unfolding alias_pieces
alias_is x part t = refl

pub spaced_is : (w : List ℕ) (part : List Piece) (t : List ℕ) → followed_by (spaced_pieces w part) t ≡ followed_by part (put Piece.Space (put (Piece.Keyword w) t))
unfolding spaced_pieces
spaced_is w part t = refl

pub block_is : (d : ℕ) (w : List ℕ) (part : List Piece) (t : List ℕ) → followed_by (block_pieces d w part) t ≡ followed_by part (put (Piece.Line (deeper d)) (put (Piece.Keyword w) t))
unfolding block_pieces
block_is d w part t = refl

pub next_is : (d : ℕ) (part : List Piece) (t : List ℕ) → followed_by (next_pieces d part) t ≡ followed_by part (put (Piece.Line d) t)
unfolding next_pieces
next_is d part t = refl

pub let_is : (d : ℕ) (xs : List Var) (values : List Piece) (t : List ℕ) → followed_by (let_pieces d xs values) t ≡ followed_by values (followed_by (equals d) (followed_by (binders xs) (put Piece.Space (put (Piece.Keyword (codes "let")) t))))
unfolding let_pieces
let_is d xs values t = simp followed_append

pub in_is : (d : ℕ) (body : List Piece) (t : List ℕ) → followed_by (in_pieces d body) t ≡ followed_by body (put (Piece.Line d) (put (Piece.Keyword (codes "in")) (put (Piece.Line d) t)))
unfolding in_pieces
in_is d body t = refl

pub of_is : (d : ℕ) (clauses : List Piece) (t : List ℕ) → followed_by (of_pieces d clauses) t ≡ put (Piece.Keyword (codes "end")) (put (Piece.Line d) (followed_by clauses (put (Piece.Keyword (codes "of")) (put Piece.Space t))))
unfolding of_pieces
of_is d clauses t = simp followed_append

pub clause_is : (d : ℕ) (patterns : List (List Piece)) (guard body : List Piece) (t : List ℕ)
    → followed_by (clause_pieces d patterns guard body) t
    ≡ followed_by body (followed_by (arrow d) (followed_by (spaced_pieces (codes "when") guard) (put Piece.Space (put (Piece.Sign (codes ">")) (followed_by (opened (codes "<") patterns) (put (Piece.Line d) t))))))
unfolding clause_pieces
clause_is d patterns guard body t = simp followed_append

pub fun_is : (d : ℕ) (xs : List Var) (body : List Piece) (t : List ℕ)
    → followed_by (fun_pieces d xs body) t ≡ followed_by body (followed_by (arrow d) (put (Piece.Sign (codes ")")) (followed_by (opened (codes "(") (map variable_pieces xs)) (put Piece.Space (put (Piece.Keyword (codes "fun")) t)))))
unfolding fun_pieces
fun_is d xs body t = simp followed_append

pub definition_is : (d : ℕ) (f : FunName) (function : List Piece) (t : List ℕ) → followed_by (definition_pieces d f function) t ≡ followed_by function (followed_by (equals d) (followed_by (name_pieces f) (put (Piece.Line d) t)))
unfolding definition_pieces
definition_is d f function t = simp followed_append

pub call_is : (of name : List ℕ) (arguments : List (List Piece)) (t : List ℕ)
    → followed_by (call_pieces of name arguments) t ≡ put (Piece.Sign (codes ")")) (followed_by (opened (codes "(") arguments) (put (Piece.Atom name) (put (Piece.Sign (codes ":")) (put (Piece.Atom of) (put Piece.Space (put (Piece.Keyword (codes "call")) t))))))
unfolding call_pieces
call_is of name arguments t = simp followed_append

pub primop_is : (name : List ℕ) (arguments : List (List Piece)) (t : List ℕ)
    → followed_by (primop_pieces name arguments) t ≡ put (Piece.Sign (codes ")")) (followed_by (opened (codes "(") arguments) (put (Piece.Atom name) (put Piece.Space (put (Piece.Keyword (codes "primop")) t))))
unfolding primop_pieces
primop_is name arguments t = simp followed_append

pub branch_is : (d : ℕ) (w : List ℕ) (xs : List Var) (body : List Piece) (t : List ℕ)
    → followed_by (branch_pieces d w xs body) t ≡ followed_by body (followed_by (arrow d) (followed_by (binders xs) (put Piece.Space (put (Piece.Keyword w) (put (Piece.Line d) t)))))
unfolding branch_pieces
branch_is d w xs body t = simp followed_append

pub ruleset pattern_prints = (pattern_levels, parts, tail_nil, tail_other, alias_is)

pub ruleset prints = (levels, parts, tail_nil, tail_other, spaced_is, block_is, next_is, let_is, in_is, of_is, clause_is, fun_is, definition_is, call_is, primop_is, branch_is)

-- ---- modules

pub head_is : (name : List ℕ) (exports : List (FunName × Place)) (t : List ℕ)
    → followed_by (head_pieces name exports) t ≡ put (Piece.Sign (codes "]")) (followed_by (opened (codes "[") (map export_pieces exports)) (put Piece.Space (put (Piece.Atom name) (put Piece.Space (put (Piece.Keyword (codes "module")) t)))))
unfolding head_pieces
head_is name exports t = simp followed_append

pub attribute_is : (a : List ℕ × Constant) (t : List ℕ) → followed_by (attribute_pieces a) t ≡ put (Piece.Constant (term_of a.1)) (put Piece.Space (put (Piece.Sign (codes "=")) (put Piece.Space (put (Piece.Atom a.0) t))))
unfolding attribute_pieces
attribute_is a t = refl

pub attributes_is : (attributes : List (List ℕ × Constant)) (t : List ℕ)
    → followed_by (attributes_pieces attributes) t ≡ put (Piece.Sign (codes "]")) (followed_by (opened (codes "[") (map attribute_pieces attributes)) (put Piece.Space (put (Piece.Keyword (codes "attributes")) (put (Piece.Line (deeper 0)) t))))
unfolding attributes_pieces
attributes_is attributes t = simp followed_append

pub printed_is : (m : Module) → printed m ≡ put (Piece.Line 0) (put (Piece.Keyword (codes "end")) (put (Piece.Line 0) (followed_by (definitions_pieces 0 m.definitions) (followed_by (attributes_pieces m.attributes) (followed_by (head_pieces m.name m.exports) [])))))
printed_is m = sym (followed_is (module_pieces m) []) ∙ simp followed_append

pub ruleset module_prints = (parts, head_is, attribute_is, attributes_is, printed_is)
