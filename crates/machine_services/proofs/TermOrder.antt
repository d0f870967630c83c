-- Words are in the order of the terms for which they stand.
use Rattle.std.proofs.Common.{◌≡◌, ℕ, zero, suc, ◌<◌, List, [], ◌∷◌, map, length, Option, Some, None, refl, sym, ap, ap₂, ◌∙◌, arith}
use Rattle.std.proofs.lemmas.List.{length-map}
use Rattle.std.specs.Ordering.{nat_cmp, ordering_then}
use Rattle.std.specs.declared.cmp.Ordering.{Ordering}
use Rattle.std.specs.declared.cmp.Ordering.TheVariants.{Less, Equal, Greater}
use Rattle.hipe_terms.specs.Order.{order, order_all}
use Rattle.hipe_terms.specs.Terms.{Term, integer, atom, nil, cons, tuple, fun, Terms, none, more, count}
use Rattle.heap_terms.proofs.Levels.{AllBelow, Falls, shape_falls, term_is}
use Rattle.heap_terms.specs.Shapes.{Symbols, Reference, Shape, Integer, Atom, Nil, Cons, Tuple, Fun, shape_at, shape_map, option_map, from_outside}
use Rattle.heap_terms.specs.Terms.{both, joined, all_terms, tuple_term, fun_term, term_step, term_below}
use Rattle.machine_services.proofs.Comparing.{seen_order}
use Rattle.machine_services.specs.Comparing.{Comparer, then_on, all_compared, shapes_compared, compared_to, compare_step, compared_below}
use Rattle.machine_services.specs.Laws.{WordsCompare}

-- ---- the terms of parts

then_some : (r s : Ordering) → then_on (Some r) (Some s) ≡ Some (ordering_then r s)
then_some Less s = refl
then_some Equal s = refl
then_some Greater s = refl

inner : (X : Type 0) → X → Option X → X
inner X d None = d
inner X d (Some x) = x

one : (X : Type 0) (x y : X) → Some x ≡ Some y → x ≡ y
unfolding inner
one X x y e = ap (inner X x) e

at_terms : (t u x y : Term) (r : Option Ordering) → Some t ≡ Some x → Some u ≡ Some y → r ≡ Some (order t u) → r ≡ Some (order x y)
at_terms t u x y r e g h = h ∙ ap₂ (λ a b. Some (order a b)) (one Term t x e) (one Term u y g)

cons_of : (t u : Option Term) (x : Term) → both t u ≡ Some x → (a : Term) × (b : Term) × (t ≡ Some a) × (u ≡ Some b) × (Some (cons a b) ≡ Some x)
cons_of None u x e = absurd (cc)
cons_of (Some a) None x e = absurd (cc)
cons_of (Some a) (Some b) x e = (a, b, refl, refl, e)

tuple_of : (o : Option Terms) (x : Term) → tuple_term o ≡ Some x → (ts : Terms) × (o ≡ Some ts) × (Some (tuple ts) ≡ Some x)
tuple_of None x e = absurd (cc)
tuple_of (Some ts) x e = (ts, refl, e)

fun_of : (f : ℕ) (o : Option Terms) (x : Term) → fun_term f o ≡ Some x → (ts : Terms) × (o ≡ Some ts) × (Some (fun f ts) ≡ Some x)
fun_of f None x e = absurd (cc)
fun_of f (Some ts) x e = (ts, refl, e)

joined_of : (t : Option Term) (o : Option Terms) (xs : Terms) → joined t o ≡ Some xs → (a : Term) × (rest : Terms) × (t ≡ Some a) × (o ≡ Some rest) × (Some (more a rest) ≡ Some xs)
joined_of None o xs e = absurd (cc)
joined_of (Some a) None xs e = absurd (cc)
joined_of (Some a) (Some rest) xs e = (a, rest, refl, refl, e)

counted : (term : Reference → Option Term) (ts : List Reference) (xs : Terms) → all_terms (map term ts) ≡ Some xs → length ts ≡ count xs
counted term [] xs e = ap count (one Terms none xs e)
counted term (t ∷ ts) xs e =
    let p = joined_of (term t) (all_terms (map term ts)) xs e in
    ap suc (counted term ts p.1 p.3) ∙ ap count (one Terms (more p.0 p.1) xs p.4)

-- ---- the order of parts

abbrev Agrees : ℕ → (Reference → Comparer) → (Reference → Option Term) → Type 0
Agrees n c term = (p q : Reference) (x y : Term) → p.below < n → term p ≡ Some x → term q ≡ Some y → c p q ≡ Some (order x y)

at_all : (ts us xs ys : Terms) (r : Option Ordering) → Some ts ≡ Some xs → Some us ≡ Some ys → r ≡ Some (order_all ts us) → r ≡ Some (order_all xs ys)
at_all ts us xs ys r e g h = h ∙ ap₂ (λ a b. Some (order_all a b)) (one Terms ts xs e) (one Terms us ys g)

parts_agree : (n : ℕ) (c : Reference → Comparer) (term : Reference → Option Term) (ts us : List Reference) (xs ys : Terms) → AllBelow n ts → Agrees n c term
    → all_terms (map term ts) ≡ Some xs → all_terms (map term us) ≡ Some ys → all_compared (map c ts) us ≡ Some (order_all xs ys)
parts_agree n c term [] [] xs ys f agree e g = at_all none none xs ys (Some Equal) e g refl
parts_agree n c term [] (u ∷ us) xs ys f agree e g =
    let q = joined_of (term u) (all_terms (map term us)) ys g in
    at_all none (more q.0 q.1) xs ys (Some Less) e q.4 refl
parts_agree n c term (t ∷ ts) [] xs ys f agree e g =
    let p = joined_of (term t) (all_terms (map term ts)) xs e in
    at_all (more p.0 p.1) none xs ys (Some Greater) p.4 g refl
parts_agree n c term (t ∷ ts) (u ∷ us) xs ys f agree e g =
    let p = joined_of (term t) (all_terms (map term ts)) xs e in
    let q = joined_of (term u) (all_terms (map term us)) ys g in
    at_all (more p.0 p.1) (more q.0 q.1) xs ys (then_on (c t u) (all_compared (map c ts) us)) p.4 q.4
    (ap₂ then_on (agree t u p.0 q.0 f.0 p.2 q.2) (parts_agree n c term ts us p.1 q.1 f.1 agree p.3 q.3) ∙ then_some (order p.0 q.0) (order_all p.1 q.1))

-- ---- the order of shapes

shapes_agree : (n : ℕ) (c : Reference → Comparer) (term : Reference → Option Term) (a b : Reference) (s t : Shape Reference) (x y : Term) → Falls n (Some s) → Agrees n c term
    → term_step a (Some (shape_map Reference (Option Term) term s)) ≡ Some x → term_step b (Some (shape_map Reference (Option Term) term t)) ≡ Some y
    → shapes_compared (shape_map Reference Comparer c s) t ≡ Some (order x y)
shapes_agree n c term a b (Integer k) (Integer l) x y f agree e g = at_terms (integer k) (integer l) x y _ e g refl
shapes_agree n c term a b (Integer k) (Atom h) x y f agree e g = at_terms (integer k) (atom h) x y _ e g refl
shapes_agree n c term a b (Integer k) Nil x y f agree e g = at_terms (integer k) nil x y _ e g refl
shapes_agree n c term a b (Integer k) (Cons q1 q2) x y f agree e g =
    let q = cons_of (term q1) (term q2) y g in
    at_terms (integer k) (cons q.0 q.1) x y _ e q.4 refl
shapes_agree n c term a b (Integer k) (Tuple us) x y f agree e g =
    let q = tuple_of (all_terms (map term us)) y g in
    at_terms (integer k) (tuple q.0) x y _ e q.2 refl
shapes_agree n c term a b (Integer k) (Fun l us) x y f agree e g =
    let q = fun_of l (all_terms (map term us)) y g in
    at_terms (integer k) (fun l q.0) x y _ e q.2 refl
shapes_agree n c term a b (Atom d) (Integer l) x y f agree e g = at_terms (atom d) (integer l) x y _ e g refl
shapes_agree n c term a b (Atom d) (Atom h) x y f agree e g = at_terms (atom d) (atom h) x y _ e g refl
shapes_agree n c term a b (Atom d) Nil x y f agree e g = at_terms (atom d) nil x y _ e g refl
shapes_agree n c term a b (Atom d) (Cons q1 q2) x y f agree e g =
    let q = cons_of (term q1) (term q2) y g in
    at_terms (atom d) (cons q.0 q.1) x y _ e q.4 refl
shapes_agree n c term a b (Atom d) (Tuple us) x y f agree e g =
    let q = tuple_of (all_terms (map term us)) y g in
    at_terms (atom d) (tuple q.0) x y _ e q.2 refl
shapes_agree n c term a b (Atom d) (Fun l us) x y f agree e g =
    let q = fun_of l (all_terms (map term us)) y g in
    at_terms (atom d) (fun l q.0) x y _ e q.2 refl
shapes_agree n c term a b Nil (Integer l) x y f agree e g = at_terms nil (integer l) x y _ e g refl
shapes_agree n c term a b Nil (Atom h) x y f agree e g = at_terms nil (atom h) x y _ e g refl
shapes_agree n c term a b Nil Nil x y f agree e g = at_terms nil nil x y _ e g refl
shapes_agree n c term a b Nil (Cons q1 q2) x y f agree e g =
    let q = cons_of (term q1) (term q2) y g in
    at_terms nil (cons q.0 q.1) x y _ e q.4 refl
shapes_agree n c term a b Nil (Tuple us) x y f agree e g =
    let q = tuple_of (all_terms (map term us)) y g in
    at_terms nil (tuple q.0) x y _ e q.2 refl
shapes_agree n c term a b Nil (Fun l us) x y f agree e g =
    let q = fun_of l (all_terms (map term us)) y g in
    at_terms nil (fun l q.0) x y _ e q.2 refl
shapes_agree n c term a b (Cons p1 p2) (Integer l) x y f agree e g =
    let p = cons_of (term p1) (term p2) x e in
    at_terms (cons p.0 p.1) (integer l) x y _ p.4 g refl
shapes_agree n c term a b (Cons p1 p2) (Atom h) x y f agree e g =
    let p = cons_of (term p1) (term p2) x e in
    at_terms (cons p.0 p.1) (atom h) x y _ p.4 g refl
shapes_agree n c term a b (Cons p1 p2) Nil x y f agree e g =
    let p = cons_of (term p1) (term p2) x e in
    at_terms (cons p.0 p.1) nil x y _ p.4 g refl
shapes_agree n c term a b (Cons p1 p2) (Cons q1 q2) x y f agree e g =
    let p = cons_of (term p1) (term p2) x e in
    let q = cons_of (term q1) (term q2) y g in
    at_terms (cons p.0 p.1) (cons q.0 q.1) x y _ p.4 q.4 (ap₂ then_on (agree p1 q1 p.0 q.0 f.0 p.2 q.2) (agree p2 q2 p.1 q.1 f.1.0 p.3 q.3) ∙ then_some (order p.0 q.0) (order p.1 q.1))
shapes_agree n c term a b (Cons p1 p2) (Tuple us) x y f agree e g =
    let p = cons_of (term p1) (term p2) x e in
    let q = tuple_of (all_terms (map term us)) y g in
    at_terms (cons p.0 p.1) (tuple q.0) x y _ p.4 q.2 refl
shapes_agree n c term a b (Cons p1 p2) (Fun l us) x y f agree e g =
    let p = cons_of (term p1) (term p2) x e in
    let q = fun_of l (all_terms (map term us)) y g in
    at_terms (cons p.0 p.1) (fun l q.0) x y _ p.4 q.2 refl
shapes_agree n c term a b (Tuple ts) (Integer l) x y f agree e g =
    let p = tuple_of (all_terms (map term ts)) x e in
    at_terms (tuple p.0) (integer l) x y _ p.2 g refl
shapes_agree n c term a b (Tuple ts) (Atom h) x y f agree e g =
    let p = tuple_of (all_terms (map term ts)) x e in
    at_terms (tuple p.0) (atom h) x y _ p.2 g refl
shapes_agree n c term a b (Tuple ts) Nil x y f agree e g =
    let p = tuple_of (all_terms (map term ts)) x e in
    at_terms (tuple p.0) nil x y _ p.2 g refl
shapes_agree n c term a b (Tuple ts) (Cons q1 q2) x y f agree e g =
    let p = tuple_of (all_terms (map term ts)) x e in
    let q = cons_of (term q1) (term q2) y g in
    at_terms (tuple p.0) (cons q.0 q.1) x y _ p.2 q.4 refl
shapes_agree n c term a b (Tuple ts) (Tuple us) x y f agree e g =
    let p = tuple_of (all_terms (map term ts)) x e in
    let q = tuple_of (all_terms (map term us)) y g in
    at_terms (tuple p.0) (tuple q.0) x y _ p.2 q.2 (ap₂ (λ m o. then_on (Some m) o) (ap₂ nat_cmp (length-map ts c ∙ counted term ts p.0 p.1) (counted term us q.0 q.1)) (parts_agree n c term ts us p.0 q.0 f agree p.1 q.1) ∙ then_some (nat_cmp (count p.0) (count q.0)) (order_all p.0 q.0))
shapes_agree n c term a b (Tuple ts) (Fun l us) x y f agree e g =
    let p = tuple_of (all_terms (map term ts)) x e in
    let q = fun_of l (all_terms (map term us)) y g in
    at_terms (tuple p.0) (fun l q.0) x y _ p.2 q.2 refl
shapes_agree n c term a b (Fun k ts) (Integer l) x y f agree e g =
    let p = fun_of k (all_terms (map term ts)) x e in
    at_terms (fun k p.0) (integer l) x y _ p.2 g refl
shapes_agree n c term a b (Fun k ts) (Atom h) x y f agree e g =
    let p = fun_of k (all_terms (map term ts)) x e in
    at_terms (fun k p.0) (atom h) x y _ p.2 g refl
shapes_agree n c term a b (Fun k ts) Nil x y f agree e g =
    let p = fun_of k (all_terms (map term ts)) x e in
    at_terms (fun k p.0) nil x y _ p.2 g refl
shapes_agree n c term a b (Fun k ts) (Cons q1 q2) x y f agree e g =
    let p = fun_of k (all_terms (map term ts)) x e in
    let q = cons_of (term q1) (term q2) y g in
    at_terms (fun k p.0) (cons q.0 q.1) x y _ p.2 q.4 refl
shapes_agree n c term a b (Fun k ts) (Tuple us) x y f agree e g =
    let p = fun_of k (all_terms (map term ts)) x e in
    let q = tuple_of (all_terms (map term us)) y g in
    at_terms (fun k p.0) (tuple q.0) x y _ p.2 q.2 refl
shapes_agree n c term a b (Fun k ts) (Fun l us) x y f agree e g =
    let p = fun_of k (all_terms (map term ts)) x e in
    let q = fun_of l (all_terms (map term us)) y g in
    at_terms (fun k p.0) (fun l q.0) x y _ p.2 q.2 (ap (then_on (Some (nat_cmp k l))) (parts_agree n c term ts us p.0 q.0 f agree p.1 q.1) ∙ then_some (nat_cmp k l) (order_all p.0 q.0))

seen_agree : (n : ℕ) (c : Reference → Comparer) (term : Reference → Option Term) (see : Reference → Option (Shape Reference)) (a b : Reference) (s t : Option (Shape Reference)) (x y : Term)
    → see b ≡ t → Falls n s → Agrees n c term → term_step a (option_map Reference (Option Term) term s) ≡ Some x → term_step b (option_map Reference (Option Term) term t) ≡ Some y
    → compare_step see a (option_map Reference Comparer c s) b ≡ Some (order x y)
seen_agree n c term see a b None t x y is f agree e g = absurd (cc)
seen_agree n c term see a b (Some s) None x y is f agree e g = absurd (cc)
seen_agree n c term see a b (Some s) (Some t) x y is f agree e g = ap (compared_to (shape_map Reference Comparer c s)) is ∙ shapes_agree n c term a b s t x y f agree e g

below_agrees : (symbols : Symbols) (heap : List ℕ) (n : ℕ) → Agrees n (compared_below symbols heap) (term_below symbols heap)
below_agrees symbols heap zero a b x y l e g = absurd (omega arith)
below_agrees symbols heap (suc n) a b x y l e g =
    seen_order symbols heap a b
    ∙ seen_agree a.below (compared_below symbols heap) (term_below symbols heap) (shape_at symbols heap) a b (shape_at symbols heap a) (shape_at symbols heap b) x y refl (shape_falls symbols heap a)
    (λ p q v w k h i. below_agrees symbols heap n p q v w (omega arith) h i)
    (sym (term_is symbols heap a) ∙ e) (sym (term_is symbols heap b) ∙ g)

pub words_compare : WordsCompare
words_compare = λ symbols heap v w t u e g. below_agrees symbols heap (suc (length heap)) (from_outside heap v) (from_outside heap w) t u (omega arith) e g
