-- The order of terms is total, and equal only at equal terms.
use Rattle.std.proofs.Common.{◌≡◌, ℕ, ℤ, ◌<◌, Bool, false, ◌&&◌, nat_eq, List, [], ◌∷◌, refl, sym, ap, ◌∙◌, subst, arith, nat_cmp, inl, inr, ◌⊎◌}
use Rattle.std.proofs.lemmas.Bool.Decides.{nat_tests}
use Rattle.std.proofs.lemmas.Int.{ints}
use Rattle.std.specs.Ordering.{ordering_then, ordering_reverse, int_cmp}
use Rattle.std.specs.Cmp.{nat_cmp_total, int_cmp_total, then_flip}
use Rattle.std.proofs.lemmas.Cmp.{nat_list_cmp_total}
use Rattle.std.specs.Cmp.Lexicographic.{slice_cmp}
use Rattle.std.specs.declared.cmp.Ordering.{Ordering}
use Rattle.std.specs.declared.cmp.Ordering.TheVariants.{Less, Equal, Greater}
use Rattle.hipe_terms.specs.Terms.{Term, integer, atom, nil, cons, tuple, fun, Terms, none, more, count}
use Rattle.hipe_terms.specs.Order.{order, order_all, rank}
use Rattle.hipe_terms.specs.Laws.{OrderIsTotal, OrderTellsApart}
use Rattle.hipe_terms.proofs.Ordering.{nat_equal, kinds_less}

-- ---- equal only at equal terms

both_equal : (r s : Ordering) → ordering_then r s ≡ Equal → (r ≡ Equal) × (s ≡ Equal)
both_equal Less s e = cc
both_equal Equal s e = (refl, e)
both_equal Greater s e = cc

int_equal : (m n : ℤ) → int_cmp m n ≡ Equal → m ≡ n
int_equal m n e = grind (arith, ints)

codes_equal : (a b : List ℕ) → slice_cmp nat_cmp a b ≡ Equal → a ≡ b
codes_equal [] [] e = refl
codes_equal [] (y ∷ b) e = cc
codes_equal (x ∷ a) [] e = cc
codes_equal (x ∷ a) (y ∷ b) e =
    let p : (nat_cmp x y ≡ Equal) × (slice_cmp nat_cmp a b ≡ Equal) = both_equal (nat_cmp x y) (slice_cmp nat_cmp a b) e in
    cc (nat_equal x y p.0, codes_equal a b p.1)

mutual
  pub equal_only : (t u : Term) → order t u ≡ Equal → t ≡ u
  equal_only (integer m) (integer n) e = ap integer (int_equal m n e)
  equal_only (atom a) (atom b) e = ap atom (codes_equal a b e)
  equal_only (fun f ts) (fun g us) e =
      let p : (nat_cmp f g ≡ Equal) × (order_all ts us ≡ Equal) = both_equal (nat_cmp f g) (order_all ts us) e in
      cc (nat_equal f g p.0, all_equal ts us p.1)
  equal_only (tuple ts) (tuple us) e = ap tuple (all_equal ts us ((both_equal (nat_cmp (count ts) (count us)) (order_all ts us) e).1))
  equal_only (cons a b) (cons c d) e =
      let p : (order a c ≡ Equal) × (order b d ≡ Equal) = both_equal (order a c) (order b d) e in
      cc (equal_only a c p.0, equal_only b d p.1)
  equal_only nil nil e = refl
  equal_only t u e = cc

  all_equal : (ts us : Terms) → order_all ts us ≡ Equal → ts ≡ us
  all_equal none none e = refl
  all_equal none (more u us) e = cc
  all_equal (more t ts) none e = cc
  all_equal (more t ts) (more u us) e =
      let p : (order t u ≡ Equal) × (order_all ts us ≡ Equal) = both_equal (order t u) (order_all ts us) e in
      cc (equal_only t u p.0, all_equal ts us p.1)

-- ---- the other way round

flipped : (r s q p : Ordering) → r ≡ ordering_reverse q → s ≡ ordering_reverse p → ordering_then r s ≡ ordering_reverse (ordering_then q p)
flipped r s q p e f = ap (λ x. ordering_then x s) e ∙ ap (ordering_then (ordering_reverse q)) f ∙ then_flip q p

mutual
  pub turned : (t u : Term) → order t u ≡ ordering_reverse (order u t)
  turned (integer m) (integer n) = int_cmp_total.antisymm m n
  turned (atom a) (atom b) = nat_list_cmp_total.antisymm a b
  turned (fun f ts) (fun g us) = flipped (nat_cmp f g) (order_all ts us) (nat_cmp g f) (order_all us ts) (nat_cmp_total.antisymm f g) (all_turned ts us)
  turned (tuple ts) (tuple us) =
      flipped (nat_cmp (count ts) (count us)) (order_all ts us) (nat_cmp (count us) (count ts)) (order_all us ts) (nat_cmp_total.antisymm (count ts) (count us)) (all_turned ts us)
  turned (cons a b) (cons c d) = flipped (order a c) (order b d) (order c a) (order d b) (turned a c) (turned b d)
  turned nil nil = refl
  turned t u = refl

  all_turned : (ts us : Terms) → order_all ts us ≡ ordering_reverse (order_all us ts)
  all_turned none none = refl
  all_turned none (more u us) = refl
  all_turned (more t ts) none = refl
  all_turned (more t ts) (more u us) = flipped (order t u) (order_all ts us) (order u t) (order_all us ts) (turned t u) (all_turned ts us)

-- what is its own other way round is equal
own_turn : (r : Ordering) → r ≡ ordering_reverse r → r ≡ Equal
own_turn Less e = cc
own_turn Equal e = refl
own_turn Greater e = cc

pub order_same : (t : Term) → order t t ≡ Equal
order_same t = own_turn (order t t) (turned t t)

-- ---- along a chain

-- the first part decides, or it is equal and the second decides
first_or_second : (r s : Ordering) → ordering_then r s ≡ Less → (r ≡ Less) ⊎ ((r ≡ Equal) × (s ≡ Less))
first_or_second Less s e = inl refl
first_or_second Equal s e = inr (refl, e)
first_or_second Greater s e = cc

-- Two parts of three values, where the parts' own orders are chains at these values, and equal only at equal parts.
module _ {A : Type 0} (R : A → A → Ordering) where
  chain : (a c e : A) (s q p : Ordering) → ((x y : A) → R x y ≡ Equal → x ≡ y) → (R a c ≡ Less → R c e ≡ Less → R a e ≡ Less) → R a a ≡ Equal → (s ≡ Less → q ≡ Less → p ≡ Less)
      → ordering_then (R a c) s ≡ Less → ordering_then (R c e) q ≡ Less → ordering_then (R a e) p ≡ Less
  chain a c e s q p tells first same second h k = by (first_or_second (R a c) s h) (first_or_second (R c e) q k)
    where
      by : (R a c ≡ Less) ⊎ ((R a c ≡ Equal) × (s ≡ Less)) → (R c e ≡ Less) ⊎ ((R c e ≡ Equal) × (q ≡ Less)) → ordering_then (R a e) p ≡ Less
      by (inl x) (inl y) = ap (λ r. ordering_then r p) (first x y)
      by (inl x) (inr y) = ap (λ r. ordering_then r p) (subst (λ z. R a z ≡ Less) (tells c e y.0) x)
      by (inr x) (inl y) = ap (λ r. ordering_then r p) (subst (λ z. R z e ≡ Less) (sym (tells a c x.0)) y)
      by (inr x) (inr y) =
          ap (λ r. ordering_then r p) (subst (λ z. R a z ≡ Equal) (tells a c x.0 ∙ tells c e y.0) same) ∙ second x.1 y.1

-- whether three terms are of one kind
abbrev one_kind : Term → Term → Term → Bool
one_kind t u v = nat_eq (rank t) (rank u) && nat_eq (rank u) (rank v)

at_most_rank : (t u : Term) → order t u ≡ Less → (rank u < rank t → ⊥)
at_most_rank t u e h = cc (kinds_less u t h, turned t u)

rising : (a b c : ℕ) → (nat_eq a b && nat_eq b c) ≡ false → (b < a → ⊥) → (c < b → ⊥) → a < c
rising a b c n h k = grind (arith, nat_tests)

by_kinds : (t u v : Term) → one_kind t u v ≡ false → order t u ≡ Less → order u v ≡ Less → order t v ≡ Less
by_kinds t u v n h k = kinds_less t v (rising (rank t) (rank u) (rank v) n (at_most_rank t u h) (at_most_rank u v k))

mutual
  chained : (t u v : Term) → order t u ≡ Less → order u v ≡ Less → order t v ≡ Less
  chained (integer m) (integer n) (integer k) h i = int_cmp_total.trans m n k h i
  chained (atom a) (atom b) (atom c) h i = nat_list_cmp_total.trans a b c h i
  chained (fun f ts) (fun g us) (fun k vs) h i =
      chain nat_cmp f g k (order_all ts us) (order_all us vs) (order_all ts vs) nat_equal (nat_cmp_total.trans f g k) (own_turn (nat_cmp f f) (nat_cmp_total.antisymm f f)) (all_chained ts us vs) h i
  chained (tuple ts) (tuple us) (tuple vs) h i =
      chain nat_cmp (count ts) (count us) (count vs) (order_all ts us) (order_all us vs) (order_all ts vs) nat_equal (nat_cmp_total.trans (count ts) (count us) (count vs))
      (own_turn (nat_cmp (count ts) (count ts)) (nat_cmp_total.antisymm (count ts) (count ts))) (all_chained ts us vs) h i
  chained (cons a b) (cons c d) (cons e f) h i =
      chain order a c e (order b d) (order d f) (order b f) equal_only (chained a c e) (order_same a) (chained b d f) h i
  chained nil nil nil h i = h
  chained t u v h i = by_kinds t u v refl h i

  all_chained : (ts us vs : Terms) → order_all ts us ≡ Less → order_all us vs ≡ Less → order_all ts vs ≡ Less
  all_chained none none none h i = h
  all_chained none none (more v vs) h i = cc
  all_chained none (more u us) none h i = cc
  all_chained none (more u us) (more v vs) h i = refl
  all_chained (more t ts) none vs h i = cc
  all_chained (more t ts) (more u us) none h i = cc
  all_chained (more t ts) (more u us) (more v vs) h i =
      chain order t u v (order_all ts us) (order_all us vs) (order_all ts vs) equal_only (chained t u v) (order_same t) (all_chained ts us vs) h i

pub order_is_total : OrderIsTotal
order_is_total = record {
  antisymm = turned;
  trans = chained;
  congr = λ t u v e. ap (λ x. order x v) (equal_only t u e);
}

pub order_tells_apart : OrderTellsApart
order_tells_apart t u = (equal_only t u, λ e. subst (λ x. order t x ≡ Equal) e (order_same t))
