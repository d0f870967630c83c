-- The order of words in steps.
use Rattle.std.proofs.Common.{◌≡◌, ℕ, ◌+◌, ◌<◌, List, [], ◌∷◌, ◌++◌, map, length, true, false, Option, Some, None, refl, sym, ap, ◌∙◌, subst, arith}
use Rattle.std.proofs.lemmas.List.{length-map, map-append}
use Rattle.std.specs.Ordering.{nat_cmp}
use Rattle.std.specs.declared.cmp.Ordering.{Ordering}
use Rattle.std.specs.declared.cmp.Ordering.TheVariants.{Less, Equal, Greater}
use Rattle.heap_terms.proofs.Levels.{made_is, size_is}
use Rattle.heap_terms.specs.Seen.{shape_seen}
use Rattle.heap_terms.specs.declared.shape.Shape.{Shape as AShape}
use Rattle.heap_terms.specs.Parts.{size_of_all, size_step, size_below}
use Rattle.heap_terms.specs.Shapes.{Symbols, Reference, Shape, Integer, Atom, Nil, Cons, Tuple, Fun, shape_at, shape_map, option_map}
use Rattle.machine_services.specs.Comparing.{Comparer, then_on, all_compared, shapes_compared, compared_to, compare_step, compared_below}
use Rattle.machine_services.specs.declared.compare.Pending.{Pending as PendingWords}
use Rattle.machine_services.specs.Pending.{Pending, pending_order, order_last, decides, pending_seen, pending_size, size_last, first_order, kind_order, opened, ends_order, parted}

-- ---- one after the other

then_assoc : (r s t : Option Ordering) → then_on (then_on r s) t ≡ then_on r (then_on s t)
then_assoc None s t = refl
then_assoc (Some Less) s t = refl
then_assoc (Some Equal) s t = refl
then_assoc (Some Greater) s t = refl

then_same : (r : Option Ordering) → then_on r (Some Equal) ≡ r
then_same None = refl
then_same (Some Less) = refl
then_same (Some Equal) = refl
then_same (Some Greater) = refl

pub decided : (r all now before : Option Ordering) → decides r ≡ true → then_on r now ≡ before → before ≡ all → r ≡ all
decided None all now before d e h = e ∙ h
decided (Some Less) all now before d e h = e ∙ h
decided (Some Equal) all now before d e h = absurd (cc)
decided (Some Greater) all now before d e h = e ∙ h

pub undecided : (r all now before : Option Ordering) → decides r ≡ false → then_on r now ≡ before → before ≡ all → now ≡ all
undecided None all now before d e h = absurd (cc)
undecided (Some Less) all now before d e h = absurd (cc)
undecided (Some Equal) all now before d e h = e ∙ h
undecided (Some Greater) all now before d e h = absurd (cc)

-- ---- the level of an order

-- the order of two references where they have shapes: what shows without their parts, and then what the parts add
parts_order : (Reference → Comparer) → Shape Reference → Shape Reference → Option Ordering
parts_order c (Cons a b) (Cons d e) = then_on (c a d) (c b e)
parts_order c (Fun f ts) (Fun g us) = all_compared (map c ts) us
parts_order c (Tuple ts) (Tuple us) = all_compared (map c ts) us
parts_order c s t = Some Equal

shapes_split : (c : Reference → Comparer) (s t : Shape Reference)
    → shapes_compared (shape_map Reference Comparer c s) t ≡ then_on (Some (first_order s t)) (parts_order c s t)
unfolding parts_order
shapes_split c (Integer m) (Integer n) = sym (then_same (Some (kind_order (Integer m) (Integer n))))
shapes_split c (Integer m) (Atom y) = refl
shapes_split c (Integer m) Nil = refl
shapes_split c (Integer m) (Cons d e) = refl
shapes_split c (Integer m) (Tuple us) = refl
shapes_split c (Integer m) (Fun g us) = refl
shapes_split c (Atom x) (Integer n) = refl
shapes_split c (Atom x) (Atom y) = sym (then_same (Some (kind_order (Atom x) (Atom y))))
shapes_split c (Atom x) Nil = refl
shapes_split c (Atom x) (Cons d e) = refl
shapes_split c (Atom x) (Tuple us) = refl
shapes_split c (Atom x) (Fun g us) = refl
shapes_split c Nil (Integer n) = refl
shapes_split c Nil (Atom y) = refl
shapes_split c Nil Nil = refl
shapes_split c Nil (Cons d e) = refl
shapes_split c Nil (Tuple us) = refl
shapes_split c Nil (Fun g us) = refl
shapes_split c (Cons a b) (Integer n) = refl
shapes_split c (Cons a b) (Atom y) = refl
shapes_split c (Cons a b) Nil = refl
shapes_split c (Cons a b) (Cons d e) = refl
shapes_split c (Cons a b) (Tuple us) = refl
shapes_split c (Cons a b) (Fun g us) = refl
shapes_split c (Tuple ts) (Integer n) = refl
shapes_split c (Tuple ts) (Atom y) = refl
shapes_split c (Tuple ts) Nil = refl
shapes_split c (Tuple ts) (Cons d e) = refl
shapes_split c (Tuple ts) (Tuple us) = ap (λ n. then_on (Some (nat_cmp n (length us))) (all_compared (map c ts) us)) (length-map ts c)
shapes_split c (Tuple ts) (Fun g us) = refl
shapes_split c (Fun f ts) (Integer n) = refl
shapes_split c (Fun f ts) (Atom y) = refl
shapes_split c (Fun f ts) Nil = refl
shapes_split c (Fun f ts) (Cons d e) = refl
shapes_split c (Fun f ts) (Tuple us) = refl
shapes_split c (Fun f ts) (Fun g us) = refl

opened_order : (c : Reference → Comparer) (s t : Shape Reference) → order_last c (opened s t) ≡ parts_order c s t
unfolding parts_order
opened_order c (Integer m) (Integer n) = refl
opened_order c (Integer m) (Atom y) = refl
opened_order c (Integer m) Nil = refl
opened_order c (Integer m) (Cons d e) = refl
opened_order c (Integer m) (Tuple us) = refl
opened_order c (Integer m) (Fun g us) = refl
opened_order c (Atom x) (Integer n) = refl
opened_order c (Atom x) (Atom y) = refl
opened_order c (Atom x) Nil = refl
opened_order c (Atom x) (Cons d e) = refl
opened_order c (Atom x) (Tuple us) = refl
opened_order c (Atom x) (Fun g us) = refl
opened_order c Nil (Integer n) = refl
opened_order c Nil (Atom y) = refl
opened_order c Nil Nil = refl
opened_order c Nil (Cons d e) = refl
opened_order c Nil (Tuple us) = refl
opened_order c Nil (Fun g us) = refl
opened_order c (Cons a b) (Integer n) = refl
opened_order c (Cons a b) (Atom y) = refl
opened_order c (Cons a b) Nil = refl
opened_order c (Cons a b) (Cons d e) = refl
opened_order c (Cons a b) (Tuple us) = refl
opened_order c (Cons a b) (Fun g us) = refl
opened_order c (Tuple ts) (Integer n) = refl
opened_order c (Tuple ts) (Atom y) = refl
opened_order c (Tuple ts) Nil = refl
opened_order c (Tuple ts) (Cons d e) = refl
opened_order c (Tuple ts) (Tuple us) = refl
opened_order c (Tuple ts) (Fun g us) = refl
opened_order c (Fun f ts) (Integer n) = refl
opened_order c (Fun f ts) (Atom y) = refl
opened_order c (Fun f ts) Nil = refl
opened_order c (Fun f ts) (Cons d e) = refl
opened_order c (Fun f ts) (Tuple us) = refl
opened_order c (Fun f ts) (Fun g us) = refl

-- ---- two references

pub seen_order : (symbols : Symbols) (heap : List ℕ) (a b : Reference)
    → compared_below symbols heap a b ≡ compare_step (shape_at symbols heap) a (option_map Reference Comparer (compared_below symbols heap) (shape_at symbols heap a)) b
unfolding compared_below
seen_order symbols heap a b = ap (λ f. f b) (made_is Comparer (compare_step (shape_at symbols heap)) symbols heap a)

pub no_left : (symbols : Symbols) (heap : List ℕ) (a b : Reference) → shape_at symbols heap a ≡ None → compared_below symbols heap a b ≡ None
no_left symbols heap a b e =
    seen_order symbols heap a b
    ∙ ap (λ s. compare_step (shape_at symbols heap) a (option_map Reference Comparer (compared_below symbols heap) s) b) e

pub no_right : (symbols : Symbols) (heap : List ℕ) (a b : Reference) (s : Shape Reference) → shape_at symbols heap a ≡ Some s → shape_at symbols heap b ≡ None
    → compared_below symbols heap a b ≡ None
no_right symbols heap a b s e g =
    seen_order symbols heap a b
    ∙ ap (λ o. compare_step (shape_at symbols heap) a (option_map Reference Comparer (compared_below symbols heap) o) b) e
    ∙ ap (compared_to (shape_map Reference Comparer (compared_below symbols heap) s)) g

pub both_seen : (symbols : Symbols) (heap : List ℕ) (a b : Reference) (s t : Shape Reference) → shape_at symbols heap a ≡ Some s → shape_at symbols heap b ≡ Some t
    → compared_below symbols heap a b ≡ then_on (Some (first_order s t)) (order_last (compared_below symbols heap) (opened s t))
both_seen symbols heap a b s t e g =
    let c : Reference → Comparer = compared_below symbols heap in
    seen_order symbols heap a b
    ∙ ap (λ o. compare_step (shape_at symbols heap) a (option_map Reference Comparer c o) b) e
    ∙ ap (compared_to (shape_map Reference Comparer c s)) g
    ∙ shapes_split c s t
    ∙ ap (then_on (Some (first_order s t))) (sym (opened_order c s t))

-- ---- two lists of parts

pub parts_split : (c : Reference → Comparer) (ps qs : List Reference)
    → all_compared (map c ps) qs ≡ then_on (Some (ends_order ps qs)) (order_last c (parted ps qs))
parts_split c [] [] = refl
parts_split c [] (q ∷ qs) = refl
parts_split c (p ∷ ps) [] = refl
parts_split c (p ∷ ps) (q ∷ qs) = refl

-- ---- what is pending

order_append : (c : Reference → Comparer) (ps qs : List Pending) → order_last c (ps ++ qs) ≡ then_on (order_last c qs) (order_last c ps)
order_append c [] qs = sym (then_same (order_last c qs))
order_append c (p ∷ ps) qs =
    ap (λ r. then_on r (pending_order c p)) (order_append c ps qs) ∙ then_assoc (order_last c qs) (order_last c ps) (pending_order c p)

pub size_append : (size : Reference → ℕ) (ps qs : List Pending) → size_last size (ps ++ qs) ≡ size_last size ps + size_last size qs
size_append size [] qs = omega arith
size_append size (p ∷ ps) qs = omega (arith, size_append size ps qs)

-- what shows first, and then what is put behind the others
pub goes_on : (c : Reference → Comparer) (found : Ordering) (all : Option Ordering) (ps qs new : List Pending)
    → all ≡ then_on (Some found) (order_last c qs) → new ≡ ps ++ qs
    → then_on (Some found) (order_last c new) ≡ then_on all (order_last c ps)
goes_on c found all ps qs new e n =
    ap (λ l. then_on (Some found) (order_last c l)) n
    ∙ ap (then_on (Some found)) (order_append c ps qs)
    ∙ sym (then_assoc (Some found) (order_last c qs) (order_last c ps))
    ∙ ap (λ r. then_on r (order_last c ps)) (sym e)

-- what decides without its parts
pub found_first : (found : Ordering) (all more after : Option Ordering) → all ≡ then_on (Some found) more → (found ≡ Equal → ⊥)
    → then_on (Some found) after ≡ then_on all after
found_first Less all more after e n = ap (λ r. then_on r after) (sym e)
found_first Equal all more after e n = absurd (n refl)
found_first Greater all more after e n = ap (λ r. then_on r after) (sym e)

-- what was taken from behind the others
pub taken : (c : Reference → Comparer) (ps : List PendingWords) (p : PendingWords) (all : List PendingWords) (whole : Option Ordering)
    → all ≡ ps ++ p ∷ [] → order_last c (map pending_seen all) ≡ whole → then_on (pending_order c (pending_seen p)) (order_last c (map pending_seen ps)) ≡ whole
taken c ps p all whole e h =
    sym (order_append c (map pending_seen ps) (pending_seen p ∷ []))
    ∙ ap (order_last c) (sym (map-append pending_seen ps (p ∷ [])))
    ∙ ap (λ l. order_last c (map pending_seen l)) (sym e)
    ∙ h

-- ---- how much there is to follow

pub size_positive : (symbols : Symbols) (heap : List ℕ) (at : Reference) → 0 < size_below symbols heap at
size_positive symbols heap at = let e = size_is symbols heap at in subst (λ n. 0 < n) (sym e) (omega arith)

opened_less : (size : Reference → ℕ) (at : Reference) (s t : Shape Reference) → size_last size (opened s t) < size_step at (Some (shape_map Reference ℕ size s))
opened_less size at (Cons a b) (Cons d e) = omega arith
opened_less size at (Tuple ts) (Tuple us) = omega arith
opened_less size at (Fun f ts) (Fun g us) = omega arith
opened_less size at s t = omega arith

pub opened_size : (symbols : Symbols) (heap : List ℕ) (at : Reference) (s t : Shape Reference) → shape_at symbols heap at ≡ Some s
    → size_last (size_below symbols heap) (opened s t) < size_below symbols heap at
opened_size symbols heap at s t e =
    subst (λ n. size_last (size_below symbols heap) (opened s t) < n)
    (sym (size_is symbols heap at ∙ ap (λ o. size_step at (option_map Reference ℕ (size_below symbols heap) o)) e))
    (opened_less (size_below symbols heap) at s t)

pub parted_size : (size : Reference → ℕ) (ps qs : List Reference) → size_last size (parted ps qs) < size_of_all (map size ps)
parted_size size [] [] = omega arith
parted_size size [] (q ∷ qs) = omega arith
parted_size size (p ∷ ps) [] = omega arith
parted_size size (p ∷ ps) (q ∷ qs) = omega arith

pub pushed_size : (size : Reference → ℕ) (ps qs new : List Pending) (n : ℕ) → new ≡ ps ++ qs → size_last size qs < n → size_last size new < n + size_last size ps
pushed_size size ps qs new n e h =
    subst (λ l. size_last size l < n + size_last size ps) (sym e)
    (subst (λ k. k < n + size_last size ps) (sym (size_append size ps qs)) (omega arith))

pub taken_size : (size : Reference → ℕ) (ps : List PendingWords) (p : PendingWords) (all : List PendingWords)
    → all ≡ ps ++ p ∷ [] → pending_size size (pending_seen p) + size_last size (map pending_seen ps) ≡ size_last size (map pending_seen all)
taken_size size ps p all e =
    let d : size_last size (map pending_seen ps ++ pending_seen p ∷ []) ≡ size_last size (map pending_seen ps) + size_last size (pending_seen p ∷ []) = size_append size (map pending_seen ps) (pending_seen p ∷ []) in
    let f : size_last size (map pending_seen all) ≡ size_last size (map pending_seen ps ++ pending_seen p ∷ []) = ap (λ l. size_last size (map pending_seen l)) e ∙ ap (size_last size) (map-append pending_seen ps (p ∷ [])) in
    omega (arith, d, f)

-- ---- the code's shapes

pub unseen : (o : Option AShape) → ((s : AShape) → o ≡ Some s → ⊥) → shape_seen o ≡ None
unseen None n = refl
unseen (Some s) n = absurd (n s refl)
