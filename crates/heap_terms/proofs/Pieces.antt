-- Texts in pieces.
use Rattle.std.proofs.Common.{◌≡◌, ◌<◌, ℕ, ℤ, ◌+◌, true, false, List, [], ◌∷◌, ◌++◌, length, Option, Some, None, codes, refl, sym, ap, ◌∙◌, append_assoc, append-nil, add_assoc, arith}
use Rattle.hipe_terms.specs.Terms.{Term, integer, atom, tuple, Terms}
use Rattle.hipe_terms.specs.Shown.{Names, fun_text, shown, shown_tail, shown_all, shown_more}
use Rattle.heap_terms.specs.declared.piece.Piece.{Piece}
use Rattle.heap_terms.specs.Shapes.{Symbols, Reference, Integer, Atom, shape_at, option_map}
use Rattle.heap_terms.specs.Terms.{both, joined, term_step, term_below, tuple_term, fun_term, HasShown}
use Rattle.heap_terms.specs.Following.{are_some, terms_below}
use Rattle.heap_terms.specs.Pieces.{Text, followed_by, text_of, rest_text, all_text, more_text, bar_text, tuple_written, piece_text, text_last, piece_size, size_last}
use Rattle.heap_terms.proofs.Levels.{term_is, size_is}

-- ---- one text behind another

pub then_nothing : (t : Text) → followed_by t (Some []) ≡ t
unfolding followed_by
then_nothing None = refl
then_nothing (Some t) = ap (λ s. Some s) (append-nil t)

pub after_nothing : (t : Text) → followed_by (Some []) t ≡ t
unfolding followed_by
after_nothing None = refl
after_nothing (Some t) = refl

pub no_text : (t : Text) → followed_by None t ≡ None
unfolding followed_by
no_text t = refl

pub no_text_behind : (t : Text) → followed_by t None ≡ None
unfolding followed_by
no_text_behind None = refl
no_text_behind (Some t) = refl

pub in_order : (t u v : Text) → followed_by (followed_by t u) v ≡ followed_by t (followed_by u v)
unfolding followed_by
in_order None u v = refl
in_order (Some t) None v = refl
in_order (Some t) (Some u) None = refl
in_order (Some t) (Some u) (Some v) = ap (λ s. Some s) (append_assoc t u v)

pub appended : (s t : List ℕ) (u : Text) → followed_by (Some (s ++ t)) u ≡ followed_by (Some s) (followed_by (Some t) u)
unfolding followed_by
appended s t u = in_order (Some s) (Some t) u

-- ---- the texts of terms

pub list_text : (names : Names) (t u : Option Term) → text_of names (both t u) ≡ followed_by (Some (codes "[")) (followed_by (text_of names t) (rest_text names u))
unfolding followed_by
list_text names (Some t) (Some u) = ap (λ s. Some s) (append_assoc (codes "[") (shown names t) (shown_tail names u))
list_text names (Some t) None = refl
list_text names None u = refl

pub list_rest : (names : Names) (t u : Option Term) → rest_text names (both t u) ≡ followed_by (Some (codes ",")) (followed_by (text_of names t) (rest_text names u))
unfolding followed_by
list_rest names (Some t) (Some u) = ap (λ s. Some s) (append_assoc (codes ",") (shown names t) (shown_tail names u))
list_rest names (Some t) None = refl
list_rest names None u = refl

pub tuple_text : (names : Names) (ts : Option Terms) → text_of names (tuple_term ts) ≡ tuple_written (all_text names ts)
unfolding followed_by
tuple_text names (Some ts) = ap (λ s. Some s) (append_assoc (codes "{") (shown_all names ts) (codes "}"))
tuple_text names None = refl

pub tuple_rest : (names : Names) (ts : Option Terms) → rest_text names (tuple_term ts) ≡ bar_text (text_of names (tuple_term ts))
unfolding followed_by
tuple_rest names (Some ts) = ap (λ s. Some s) (append_assoc (codes "|") (shown names (tuple ts)) (codes "]"))
tuple_rest names None = refl

pub fun_rest : (names : Names) (n : ℕ) (ts : Option Terms) → rest_text names (fun_term n ts) ≡ bar_text (text_of names (fun_term n ts))
unfolding followed_by
fun_rest names n (Some ts) = ap (λ s. Some s) (append_assoc (codes "|") (fun_text names n) (codes "]"))
fun_rest names n None = refl

integer_rest : (names : Names) (n : ℤ) → rest_text names (Some (integer n)) ≡ bar_text (text_of names (Some (integer n)))
unfolding followed_by
integer_rest names n = ap (λ s. Some s) (append_assoc (codes "|") (shown names (integer n)) (codes "]"))

atom_rest : (names : Names) (a : List ℕ) → rest_text names (Some (atom a)) ≡ bar_text (text_of names (Some (atom a)))
unfolding followed_by
atom_rest names a = ap (λ s. Some s) (append_assoc (codes "|") (shown names (atom a)) (codes "]"))

-- where the rest of a list is an integer or an atom
pub integer_bar : (names : Names) (symbols : Symbols) (heap : List ℕ) (at : Reference) (n : ℤ) → Some (Integer n) ≡ shape_at symbols heap at
    → rest_text names (term_below symbols heap at) ≡ bar_text (text_of names (term_below symbols heap at))
integer_bar names symbols heap at n e =
    let t : term_below symbols heap at ≡ Some (integer n) = term_is symbols heap at ∙ ap (λ s. term_step at (option_map Reference (Option Term) (term_below symbols heap) s)) (sym e) in
    rw t (integer_rest names n)

pub atom_bar : (names : Names) (symbols : Symbols) (heap : List ℕ) (at : Reference) (a : List ℕ) → Some (Atom a) ≡ shape_at symbols heap at
    → rest_text names (term_below symbols heap at) ≡ bar_text (text_of names (term_below symbols heap at))
atom_bar names symbols heap at a e =
    let t : term_below symbols heap at ≡ Some (atom a) = term_is symbols heap at ∙ ap (λ s. term_step at (option_map Reference (Option Term) (term_below symbols heap) s)) (sym e) in
    rw t (atom_rest names a)

pub fun_shown : (names : Names) (n : ℕ) (ts : Option Terms) → are_some ts ≡ true → text_of names (fun_term n ts) ≡ Some (fun_text names n)
fun_shown names n (Some ts) e = refl
fun_shown names n None e = cc

pub no_fun : (names : Names) (n : ℕ) (ts : Option Terms) → are_some ts ≡ false → text_of names (fun_term n ts) ≡ None
no_fun names n (Some ts) e = cc
no_fun names n None e = refl

pub first_text : (names : Names) (t : Option Term) (ts : Option Terms) → all_text names (joined t ts) ≡ followed_by (text_of names t) (more_text names ts)
unfolding followed_by
first_text names (Some t) (Some ts) = refl
first_text names (Some t) None = refl
first_text names None ts = refl

pub next_text : (names : Names) (t : Option Term) (ts : Option Terms) → more_text names (joined t ts) ≡ followed_by (Some (codes ",")) (followed_by (text_of names t) (more_text names ts))
unfolding followed_by
next_text names (Some t) (Some ts) = ap (λ s. Some s) (append_assoc (codes ",") (shown names t) (shown_more names ts))
next_text names (Some t) None = refl
next_text names None ts = refl

-- ---- pieces

pub last_pushed : (symbols : Symbols) (heap : List ℕ) (ps : List Piece) (p : Piece) → text_last symbols heap (ps ++ p ∷ []) ≡ followed_by (piece_text symbols heap p) (text_last symbols heap ps)
last_pushed symbols heap [] p = after_nothing (piece_text symbols heap p) ∙ sym (then_nothing (piece_text symbols heap p))
last_pushed symbols heap (q ∷ ps) p =
    ap (λ t. followed_by t (piece_text symbols heap q)) (last_pushed symbols heap ps p)
    ∙ in_order (piece_text symbols heap p) (text_last symbols heap ps) (piece_text symbols heap q)

pub size_pushed : (symbols : Symbols) (heap : List ℕ) (ps : List Piece) (p : Piece) → size_last symbols heap (ps ++ p ∷ []) ≡ piece_size symbols heap p + size_last symbols heap ps
size_pushed symbols heap [] p = omega arith
size_pushed symbols heap (q ∷ ps) p = ap (λ n. n + piece_size symbols heap q) (size_pushed symbols heap ps p) ∙ add_assoc (piece_size symbols heap p) (size_last symbols heap ps) (piece_size symbols heap q)

-- no elements
pub empty_text : (symbols : Symbols) (heap : List ℕ) (names : Names) (below : ℕ) (ws : List ℕ) → length ws ≡ 0 → all_text names (terms_below symbols heap below ws) ≡ Some []
empty_text symbols heap names below [] e = refl
empty_text symbols heap names below (w ∷ ws) e = absurd (omega arith)

pub empty_more : (symbols : Symbols) (heap : List ℕ) (names : Names) (below : ℕ) (ws : List ℕ) → length ws ≡ 0 → more_text names (terms_below symbols heap below ws) ≡ Some []
empty_more symbols heap names below [] e = refl
empty_more symbols heap names below (w ∷ ws) e = absurd (omega arith)

pub more_elements : (symbols : Symbols) (heap : List ℕ) (names : Names) (below : ℕ) (ws : List ℕ) → 0 < length ws
    → more_text names (terms_below symbols heap below ws) ≡ followed_by (Some (codes ",")) (all_text names (terms_below symbols heap below ws))
more_elements symbols heap names below [] h = absurd (omega arith)
more_elements symbols heap names below (w ∷ ws) h =
    let t : Option Term = term_below symbols heap (record { below = below; word = w }) in
    next_text names t (terms_below symbols heap below ws) ∙ ap (followed_by (Some (codes ","))) (sym (first_text names t (terms_below symbols heap below ws)))

-- ---- a whole text

pub whole_text : (names : Names) (before after : List ℕ) (t : Option Term) → followed_by (Some after) (Some []) ≡ followed_by (Some before) (text_of names t) → HasShown names before t true after
unfolding followed_by
whole_text names before after (Some t) e = (refl, cc (append-nil after))
whole_text names before after None e = cc

pub not_a_term : (names : Names) (before after : List ℕ) (t : Option Term) → None ≡ followed_by (Some before) (text_of names t) → HasShown names before t false after
unfolding followed_by
not_a_term names before after (Some t) e = cc
not_a_term names before after None e = refl

pub ruleset pieces = (term_is, size_is, last_pushed, size_pushed, no_text, no_text_behind, then_nothing, after_nothing, in_order, appended, list_text, list_rest, tuple_text, tuple_rest, fun_rest, fun_shown, no_fun, first_text, next_text, integer_bar, atom_bar, empty_text, empty_more, more_elements)
