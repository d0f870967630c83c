-- What the readers' constants are made of.
use Rattle.std.proofs.Common.{◌≡◌, ◌<◌, ◌≢◌, Bool, true, false, not, ◌&&◌, List, [], ◌∷◌, map, length, refl, sym, ap, ◌∙◌, subst, lit<, nat_cmp}
use Rattle.std.proofs.lemmas.List.{length-map}
use Rattle.std.specs.Ordering.{ordering_then}
use Rattle.std.proofs.lemmas.List.Elements.{All-nil, All-cons}
use Rattle.std.specs.declared.cmp.Ordering.{Ordering}
use Rattle.std.specs.declared.cmp.Ordering.TheVariants.{Less, Equal, Greater}
use Rattle.hipe_terms.specs.declared.constant.Constant.{Constant, out-Constant, roll-Constant}
use Rattle.hipe_terms.specs.declared.constant.Constant.TheViews.{the_lemmas, roll-out-Constant, rolls-List, List as Made-List}
use Rattle.hipe_terms.specs.declared.constant.Constant.TheOpen.{Constant-F}
use Rattle.hipe_terms.specs.declared.constant.Constant.TheFolds.{fold_out-Constant, fold-Constant, map-Constant}
use Rattle.hipe_terms.specs.Constants.{Form, form_at, form_of, are_all_good, has_parts, is_list, IsConstant, AreConstants}
use Rattle.hipe_terms.specs.Range.{is_in_range}
use Rattle.hipe_terms.specs.Terms.{Term, tuple, terms, cells, term_of}
use Rattle.hipe_terms.specs.Order.{order, order_common, rank}
use Rattle.hipe_terms.proofs.Ordering.{kinds_less, kinds_greater, lists_order, tuples_order, then_assoc}
use Rattle.hipe_terms.proofs.Levels.{level_term, term_is}

abbrev pub level_form : Constant-F Constant → Form
level_form (Constant-F.Int n) = record { good = is_in_range n; list = false }
level_form (Constant-F.Atom a) = record { good = true; list = false }
level_form Constant-F.Nil = record { good = true; list = false }
level_form (Constant-F.List cs c) = record { good = has_parts (map form_of cs) && (are_all_good (map form_of cs) && ((form_of c).good && not (form_of c).list)); list = true }
level_form (Constant-F.Tuple cs) = record { good = are_all_good (map form_of cs); list = false }

form_level : (l : Constant-F Constant) → form_at (map-Constant Constant Form (fold-Constant Form form_at) l) ≡ level_form l
unfolding form_of
form_level (Constant-F.Int n) = refl
form_level (Constant-F.Atom a) = refl
form_level Constant-F.Nil = refl
form_level (Constant-F.List cs c) = refl
form_level (Constant-F.Tuple cs) = refl

pub form_is : (c : Constant) → form_of c ≡ level_form (out-Constant c)
unfolding form_of
form_is c = fold_out-Constant Form form_at c ∙ form_level (out-Constant c)

pub ruleset form_levels = (the_lemmas, form_is)

-- ---- tests

pub and_first : (p q : Bool) → (p && q) ≡ true → p ≡ true
and_first true q e = refl
and_first false q e = e

pub and_second : (p q : Bool) → (p && q) ≡ true → q ≡ true
and_second true q e = e
and_second false q e = cc

pub not_true : (p : Bool) → not p ≡ true → p ≡ false
not_true true e = cc
not_true false e = refl

pub all_good : (cs : List Constant) → are_all_good (map form_of cs) ≡ true → AreConstants cs
all_good [] e = All-nil IsConstant
all_good (c ∷ cs) e = All-cons IsConstant c cs (and_first _ (are_all_good (map form_of cs)) e) (all_good cs (and_second (form_of c).good _ e))

-- ---- the parts of a tuple and of a list

good_here : (c : Constant) (l : Constant-F Constant) → out-Constant c ≡ l → IsConstant c → (level_form l).good ≡ true
good_here c l e g = ap (λ m. (level_form m).good) (sym e) ∙ ap (λ f. f.good) (sym (form_is c)) ∙ g

pub tuple_parts : (c : Constant) (cs : List Constant) → out-Constant c ≡ Constant-F.Tuple cs → IsConstant c → AreConstants cs
tuple_parts c cs e g = all_good cs (good_here c (Constant-F.Tuple cs) e g)

abbrev rest_good : List Constant → Constant → Bool
rest_good cs d = are_all_good (map form_of cs) && ((form_of d).good && not (form_of d).list)

list_rest : (c : Constant) (cs : List Constant) (d : Constant) → out-Constant c ≡ Constant-F.List cs d → IsConstant c → rest_good cs d ≡ true
list_rest c cs d e g = and_second (has_parts (map form_of cs)) (rest_good cs d) (good_here c (Constant-F.List cs d) e g)

pub list_parts : (c : Constant) (cs : List Constant) (d : Constant) → out-Constant c ≡ Constant-F.List cs d → IsConstant c → AreConstants cs
list_parts c cs d e g = all_good cs (and_first _ ((form_of d).good && not (form_of d).list) (list_rest c cs d e g))

tail_both : (c : Constant) (cs : List Constant) (d : Constant) → out-Constant c ≡ Constant-F.List cs d → IsConstant c → ((form_of d).good && not (form_of d).list) ≡ true
tail_both c cs d e g = and_second (are_all_good (map form_of cs)) _ (list_rest c cs d e g)

pub tail_good : (c : Constant) (cs : List Constant) (d : Constant) → out-Constant c ≡ Constant-F.List cs d → IsConstant c → IsConstant d
tail_good c cs d e g = and_first _ (not (form_of d).list) (tail_both c cs d e g)

pub tail_ends : (c : Constant) (cs : List Constant) (d : Constant) → out-Constant c ≡ Constant-F.List cs d → IsConstant c → is_list d ≡ false
tail_ends c cs d e g = not_true _ (and_second (form_of d).good _ (tail_both c cs d e g))

pub some_parts : (c : Constant) (cs : List Constant) (d : Constant) → out-Constant c ≡ Constant-F.List cs d → IsConstant c → has_parts (map form_of cs) ≡ true
some_parts c cs d e g = and_first _ (rest_good cs d) (good_here c (Constant-F.List cs d) e g)

-- ---- the kinds of terms

parts_rank : (cs : List Constant) (t : Term) → has_parts (map form_of cs) ≡ true → rank (cells (map term_of cs) t) ≡ 5
parts_rank [] t e = cc
parts_rank (c ∷ cs) t e = refl

-- a list's term is a cons
pub list_rank : (c : Constant) (cs : List Constant) (d : Constant) → out-Constant c ≡ Constant-F.List cs d → IsConstant c → rank (term_of c) ≡ 5
list_rank c cs d e g =
    ap rank (term_is c ∙ ap level_term e) ∙ parts_rank cs (term_of d) (some_parts c cs d e g)

level_rank : (l : Constant-F Constant) → (level_form l).list ≡ false → rank (level_term l) < 5
level_rank (Constant-F.Int n) e = lit< tt
level_rank (Constant-F.Atom a) e = lit< tt
level_rank Constant-F.Nil e = lit< tt
level_rank (Constant-F.List cs c) e = cc
level_rank (Constant-F.Tuple cs) e = lit< tt

-- no other constant's term is
pub other_rank : (c : Constant) → is_list c ≡ false → rank (term_of c) < 5
other_rank c e = subst (λ t. rank t < 5) (sym (term_is c)) (level_rank (out-Constant c) (ap (λ f. f.list) (sym (form_is c)) ∙ e))

-- ---- a list beside another constant

pub list_is : (c : Constant) (l : Constant-F Constant) → out-Constant c ≡ l → is_list c ≡ (level_form l).list
list_is c l e = ap (λ f. f.list) (form_is c) ∙ ap (λ m. (level_form m).list) e

pub below_list : (a b : Constant) (cs : List Constant) (d : Constant) → is_list a ≡ false → out-Constant b ≡ Constant-F.List cs d → IsConstant b → Less ≡ order (term_of a) (term_of b)
below_list a b cs d n e g = sym (kinds_less (term_of a) (term_of b) (subst (λ r. rank (term_of a) < r) (sym (list_rank b cs d e g)) (other_rank a n)))

pub above_list : (a b : Constant) (cs : List Constant) (d : Constant) → is_list b ≡ false → out-Constant a ≡ Constant-F.List cs d → IsConstant a → Greater ≡ order (term_of a) (term_of b)
above_list a b cs d n e g = sym (kinds_greater (term_of a) (term_of b) (subst (λ r. rank (term_of b) < r) (sym (list_rank a cs d e g)) (other_rank b n)))

-- ---- lists and tuples of constants

constant_lists : (cs ds : List Constant) (c d : Constant) → is_list c ≡ false → is_list d ≡ false
    → order (cells (map term_of cs) (term_of c)) (cells (map term_of ds) (term_of d)) ≡ ordering_then (order_common (map term_of cs) (map term_of ds)) (ordering_then (nat_cmp (length cs) (length ds)) (order (term_of c) (term_of d)))
constant_lists cs ds c d m n =
    lists_order (map term_of cs) (map term_of ds) (term_of c) (term_of d) (other_rank c m) (other_rank d n)
    ∙ ap (λ k. ordering_then (order_common (map term_of cs) (map term_of ds)) (ordering_then (nat_cmp k (length (map term_of ds))) (order (term_of c) (term_of d)))) (length-map cs term_of)
    ∙ ap (λ k. ordering_then (order_common (map term_of cs) (map term_of ds)) (ordering_then (nat_cmp (length cs) k) (order (term_of c) (term_of d)))) (length-map ds term_of)

-- two lists as the readers give them
pub list_order : (a b : Constant) (cs ds : List Constant) (c d : Constant) → out-Constant a ≡ Constant-F.List cs c → out-Constant b ≡ Constant-F.List ds d → IsConstant a → IsConstant b
    → order (term_of a) (term_of b) ≡ ordering_then (ordering_then (order_common (map term_of cs) (map term_of ds)) (nat_cmp (length cs) (length ds))) (order (term_of c) (term_of d))
list_order a b cs ds c d e f g h =
    ap (λ t. order t (term_of b)) (term_is a ∙ ap level_term e)
    ∙ ap (order (cells (map term_of cs) (term_of c))) (term_is b ∙ ap level_term f)
    ∙ constant_lists cs ds c d (tail_ends a cs c e g) (tail_ends b ds d f h)
    ∙ sym (then_assoc (order_common (map term_of cs) (map term_of ds)) (nat_cmp (length cs) (length ds)) (order (term_of c) (term_of d)))

pub constant_tuples : (cs ds : List Constant) → order (tuple (terms (map term_of cs))) (tuple (terms (map term_of ds))) ≡ ordering_then (nat_cmp (length cs) (length ds)) (order_common (map term_of cs) (map term_of ds))
constant_tuples cs ds =
    tuples_order (map term_of cs) (map term_of ds)
    ∙ ap (λ m. ordering_then (nat_cmp m (length (map term_of ds))) (order_common (map term_of cs) (map term_of ds))) (length-map cs term_of)
    ∙ ap (λ n. ordering_then (nat_cmp (length cs) n) (order_common (map term_of cs) (map term_of ds))) (length-map ds term_of)

pub then_equal : (r s : Ordering) → r ≡ Equal → s ≡ ordering_then r s
then_equal r s e = sym (ap (λ q. ordering_then q s) e)

pub then_other : (r s : Ordering) → (r ≢ Equal) → r ≡ ordering_then r s
then_other Less s n = refl
then_other Equal s n = absurd (n refl)
then_other Greater s n = refl

-- ---- a constant that no list is

no_list_at : (l : Constant-F Constant) → ((cs : List Constant) (d : Constant) → l ≡ Constant-F.List cs d → ⊥) → (level_form l).list ≡ false
no_list_at (Constant-F.Int n) h = refl
no_list_at (Constant-F.Atom a) h = refl
no_list_at Constant-F.Nil h = refl
no_list_at (Constant-F.List cs c) h = absurd (h cs c refl)
no_list_at (Constant-F.Tuple cs) h = refl

pub no_list : (c : Constant) → ((cs : List Constant) (d : Constant) → c ≡ Made-List cs d → ⊥) → is_list c ≡ false
no_list c h = list_is c (out-Constant c) refl ∙ no_list_at (out-Constant c) (λ cs d e. h cs d (sym (roll-out-Constant c) ∙ ap roll-Constant e ∙ rolls-List cs d))

pub is_constant_of : (c d : Constant) → c ≡ d → IsConstant d → IsConstant c
is_constant_of c d e g = subst IsConstant (sym e) g

-- ---- a list that is as the readers give it where its tail is

all_but : (p q r s : Bool) → p ≡ true → q ≡ true → s ≡ false → (p && (q && (r && not s))) ≡ r
all_but true true true false e f g = refl
all_but true true false false e f g = refl
all_but true true r true e f g = cc
all_but true false r s e f g = cc
all_but false q r s e f g = cc

pub parts_here : (cs : List Constant) → (cs ≡ [] → ⊥) → has_parts (map form_of cs) ≡ true
parts_here [] h = absurd (h refl)
parts_here (c ∷ cs) h = refl

pub good_tail : (c : Constant) (cs : List Constant) (d : Constant) → out-Constant c ≡ Constant-F.List cs d → has_parts (map form_of cs) ≡ true → are_all_good (map form_of cs) ≡ true → is_list d ≡ false → (form_of d).good ≡ (form_of c).good
good_tail c cs d e p q n =
    sym (all_but _ _ (form_of d).good (form_of d).list p q n) ∙ ap (λ l. (level_form l).good) (sym e) ∙ ap (λ f. f.good) (sym (form_is c))
