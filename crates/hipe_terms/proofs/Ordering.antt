-- The order of terms of different kinds, of lists and of tuples.
use Rattle.std.proofs.Common.{◌≡◌, ℕ, suc, ◌<◌, List, [], ◌∷◌, length, refl, sym, ap, ◌∙◌, arith, nat_cmp}
use Rattle.std.proofs.lemmas.Bool.Decides.{nat_tests}
use Rattle.std.specs.Ordering.{ordering_then}
use Rattle.std.specs.declared.cmp.Ordering.{Ordering}
use Rattle.std.specs.declared.cmp.Ordering.TheVariants.{Less, Equal, Greater}
use Rattle.hipe_terms.specs.Terms.{Term, integer, atom, cons, tuple, fun, terms, count, cells}
use Rattle.hipe_terms.specs.Order.{order, order_all, order_common, rank}

-- ---- numbers

pub nat_less : (m n : ℕ) → m < n → nat_cmp m n ≡ Less
nat_less m n h = grind (arith, nat_tests)

pub nat_greater : (m n : ℕ) → n < m → nat_cmp m n ≡ Greater
nat_greater m n h = grind (arith, nat_tests)

pub nat_equal : (m n : ℕ) → nat_cmp m n ≡ Equal → m ≡ n
nat_equal m n h = grind (arith, nat_tests)

pub nat_suc : (m n : ℕ) → nat_cmp (suc m) (suc n) ≡ nat_cmp m n
nat_suc m n = grind (arith, nat_tests)

pub then_assoc : (r s t : Ordering) → ordering_then (ordering_then r s) t ≡ ordering_then r (ordering_then s t)
then_assoc Less s t = refl
then_assoc Equal s t = refl
then_assoc Greater s t = refl

then_when : (r s t : Ordering) → (r ≡ Equal → s ≡ t) → ordering_then r s ≡ ordering_then r t
then_when Less s t h = refl
then_when Equal s t h = h refl
then_when Greater s t h = refl

-- ---- two different kinds

pub kinds_less : (t u : Term) → rank t < rank u → order t u ≡ Less
kinds_less (integer m) (integer n) h = absurd (omega arith)
kinds_less (atom a) (atom b) h = absurd (omega arith)
kinds_less (fun f ts) (fun g us) h = absurd (omega arith)
kinds_less (tuple ts) (tuple us) h = absurd (omega arith)
kinds_less (cons a b) (cons c d) h = absurd (omega arith)
kinds_less t u h = nat_less (rank t) (rank u) h

pub kinds_greater : (t u : Term) → rank u < rank t → order t u ≡ Greater
kinds_greater (integer m) (integer n) h = absurd (omega arith)
kinds_greater (atom a) (atom b) h = absurd (omega arith)
kinds_greater (fun f ts) (fun g us) h = absurd (omega arith)
kinds_greater (tuple ts) (tuple us) h = absurd (omega arith)
kinds_greater (cons a b) (cons c d) h = absurd (omega arith)
kinds_greater t u h = nat_greater (rank t) (rank u) h

-- ---- lists

-- two lists: the first two that differ, else the longer one is greater, and else their tails
pub lists_order : (ts us : List Term) (t u : Term) → rank t < 5 → rank u < 5 → order (cells ts t) (cells us u) ≡ ordering_then (order_common ts us) (ordering_then (nat_cmp (length ts) (length us)) (order t u))
lists_order [] [] t u h k = refl
lists_order [] (v ∷ us) t u h k = kinds_less t (cons v (cells us u)) h ∙ ap (λ r. ordering_then r (order t u)) (sym (nat_less 0 (length (v ∷ us)) (omega arith)))
lists_order (v ∷ ts) [] t u h k = kinds_greater (cons v (cells ts t)) u k ∙ ap (λ r. ordering_then r (order t u)) (sym (nat_greater (length (v ∷ ts)) 0 (omega arith)))
lists_order (v ∷ ts) (w ∷ us) t u h k =
    ap (ordering_then (order v w)) (lists_order ts us t u h k)
    ∙ sym (then_assoc (order v w) (order_common ts us) (ordering_then (nat_cmp (length ts) (length us)) (order t u)))
    ∙ ap (λ r. ordering_then (ordering_then (order v w) (order_common ts us)) (ordering_then r (order t u))) (sym (nat_suc (length ts) (length us)))

-- ---- tuples

pub count_terms : (ts : List Term) → count (terms ts) ≡ length ts
count_terms [] = refl
count_terms (t ∷ ts) = ap suc (count_terms ts)

all_common : (ts us : List Term) → length ts ≡ length us → order_all (terms ts) (terms us) ≡ order_common ts us
all_common [] [] e = refl
all_common [] (u ∷ us) e = absurd (omega arith)
all_common (t ∷ ts) [] e = absurd (omega arith)
all_common (t ∷ ts) (u ∷ us) e = ap (ordering_then (order t u)) (all_common ts us (omega arith))

pub tuples_order : (ts us : List Term) → order (tuple (terms ts)) (tuple (terms us)) ≡ ordering_then (nat_cmp (length ts) (length us)) (order_common ts us)
tuples_order ts us =
    ap (λ m. ordering_then (nat_cmp m (count (terms us))) (order_all (terms ts) (terms us))) (count_terms ts)
    ∙ ap (λ n. ordering_then (nat_cmp (length ts) n) (order_all (terms ts) (terms us))) (count_terms us)
    ∙ then_when (nat_cmp (length ts) (length us)) (order_all (terms ts) (terms us)) (order_common ts us) (λ e. all_common ts us (nat_equal _ _ e))

-- ---- as many as both have

pub common_nil : (ts : List Term) → order_common ts [] ≡ Equal
common_nil [] = refl
common_nil (t ∷ ts) = refl
