-- The order of values in steps.
use Rattle.std.proofs.Common.{◌≡◌, ℕ, zero, suc, ◌<◌, ◌≤◌, List, [], ◌∷◌, ◌++◌, drop, length, refl, sym, ap, ◌∙◌, arith}
use Rattle.std.specs.Prelude.{ℤ}
use Rattle.std.specs.Ordering.{int_cmp, ordering_then}
use Rattle.std.specs.declared.cmp.Ordering.{Ordering}
use Rattle.std.specs.declared.cmp.Ordering.TheVariants.{Less, Equal, Greater}
use Rattle.hipe_terms.specs.Order.{order, order_all}
use Rattle.hipe_terms.specs.Terms.{Term, integer, atom, nil, cons, tuple, fun, terms}
use Rattle.hipe_terms.proofs.Ordering.{then_assoc}
use Rattle.eval_values.specs.declared.value.Value.{Value}
use Rattle.eval_values.specs.declared.value.Value.TheVariants as Made
use Rattle.eval_values.specs.Pairs.{first_order, kind_order, parts_order, order_last}
use Rattle.eval_values.specs.Values.{term_in, terms_in}
use Rattle.eval_values.proofs.Made.{int_is}
use Rattle.eval_values.proofs.Rules.{counted}

then_same : (r : Ordering) → ordering_then r Equal ≡ r
then_same Less = refl
then_same Equal = refl
then_same Greater = refl

pub then_other : (r s : Ordering) → (r ≡ Equal → ⊥) → r ≡ ordering_then r s
then_other Less s n = refl
then_other Equal s n = absurd (n refl)
then_other Greater s n = refl

first_equal : (r s : Ordering) → ordering_then r s ≡ Equal → r ≡ Equal
first_equal Less s e = cc
first_equal Equal s e = refl
first_equal Greater s e = cc

-- the order of two terms: what shows without their parts, and then what the parts add
pub order_split : (t u : Term) → order t u ≡ ordering_then (first_order t u) (parts_order t u)
order_split (integer m) (integer n2) = sym (then_same (int_cmp m n2))
order_split (integer m) (atom a2) = refl
order_split (integer m) nil = refl
order_split (integer m) (cons c2 d2) = refl
order_split (integer m) (tuple us2) = refl
order_split (integer m) (fun g2 us2) = refl
order_split (atom a) (integer n2) = refl
order_split (atom a) (atom a2) = sym (then_same (kind_order (atom a) (atom a2)))
order_split (atom a) nil = refl
order_split (atom a) (cons c2 d2) = refl
order_split (atom a) (tuple us2) = refl
order_split (atom a) (fun g2 us2) = refl
order_split nil (integer n2) = refl
order_split nil (atom a2) = refl
order_split nil nil = refl
order_split nil (cons c2 d2) = refl
order_split nil (tuple us2) = refl
order_split nil (fun g2 us2) = refl
order_split (cons a b) (integer n2) = refl
order_split (cons a b) (atom a2) = refl
order_split (cons a b) nil = refl
order_split (cons a b) (cons c2 d2) = refl
order_split (cons a b) (tuple us2) = refl
order_split (cons a b) (fun g2 us2) = refl
order_split (tuple ts) (integer n2) = refl
order_split (tuple ts) (atom a2) = refl
order_split (tuple ts) nil = refl
order_split (tuple ts) (cons c2 d2) = refl
order_split (tuple ts) (tuple us2) = refl
order_split (tuple ts) (fun g2 us2) = refl
order_split (fun f ts) (integer n2) = refl
order_split (fun f ts) (atom a2) = refl
order_split (fun f ts) nil = refl
order_split (fun f ts) (cons c2 d2) = refl
order_split (fun f ts) (tuple us2) = refl
order_split (fun f ts) (fun g2 us2) = refl

pub last_pushed : (ps : List (Value × Value)) (a b : Value) → order_last (ps ++ (a, b) ∷ []) ≡ ordering_then (order (term_in a) (term_in b)) (order_last ps)
last_pushed [] a b = sym (then_same (order (term_in a) (term_in b)))
last_pushed (p ∷ ps) a b = ap (λ r. ordering_then r (order (term_in p.0) (term_in p.1))) (last_pushed ps a b) ∙ then_assoc (order (term_in a) (term_in b)) (order_last ps) (order (term_in p.0) (term_in p.1))

pub int_term : (n : ℤ) → term_in (Made.Int n) ≡ integer n
int_term n = int_is (Made.Int n) n refl

-- two lists behind as many elements as both have
pub less_rest : (xs ys : List Value) → length xs < length ys → order_all (terms (terms_in (drop (length xs) xs))) (terms (terms_in (drop (length xs) ys))) ≡ Less
less_rest [] [] h = absurd (omega arith)
less_rest [] (y ∷ ys) h = refl
less_rest (x ∷ xs) [] h = absurd (omega arith)
less_rest (x ∷ xs) (y ∷ ys) h = less_rest xs ys (omega arith)

pub greater_rest : (xs ys : List Value) → length ys < length xs → order_all (terms (terms_in (drop (length ys) xs))) (terms (terms_in (drop (length ys) ys))) ≡ Greater
greater_rest [] [] h = absurd (omega arith)
greater_rest (x ∷ xs) [] h = refl
greater_rest [] (y ∷ ys) h = absurd (omega arith)
greater_rest (x ∷ xs) (y ∷ ys) h = greater_rest xs ys (omega arith)

pub equal_rest : (xs ys : List Value) → length xs ≡ length ys → order_all (terms (terms_in (drop (length xs) xs))) (terms (terms_in (drop (length xs) ys))) ≡ Equal
equal_rest [] [] h = refl
equal_rest (x ∷ xs) [] h = absurd (omega arith)
equal_rest [] (y ∷ ys) h = absurd (omega arith)
equal_rest (x ∷ xs) (y ∷ ys) h = equal_rest xs ys (omega arith)

pub from_first : (n : ℕ) (xs ys : List Value) (r s : Ordering) → n ≤ 0 → r ≡ ordering_then (order_all (terms (terms_in (drop n xs))) (terms (terms_in (drop n ys)))) s → r ≡ ordering_then (order_all (terms (terms_in xs)) (terms (terms_in ys))) s
from_first zero xs ys r s h e = e
from_first (suc n) xs ys r s h e = absurd (omega arith)

-- a pair is decided where it differs without its parts, and else its parts go on
pub decided : (r : Ordering) (x y : Value) (ps : List (Value × Value)) (all : Ordering) → r ≡ first_order (term_in x) (term_in y) → (r ≡ Equal → ⊥) → order_last (ps ++ (x, y) ∷ []) ≡ all → r ≡ all
decided r x y ps all e n is =
    then_other r (parts_order (term_in x) (term_in y)) n
    ∙ ap (λ q. ordering_then q (parts_order (term_in x) (term_in y))) e
    ∙ sym (order_split (term_in x) (term_in y))
    ∙ then_other (order (term_in x) (term_in y)) (order_last ps) (λ q. n (first_equal r (parts_order (term_in x) (term_in y)) (ap (λ q. ordering_then q (parts_order (term_in x) (term_in y))) e ∙ sym (order_split (term_in x) (term_in y)) ∙ q)))
    ∙ sym (last_pushed ps x y) ∙ is

pub goes_on : (r : Ordering) (x y : Value) (ps : List (Value × Value)) (all : Ordering) → r ≡ first_order (term_in x) (term_in y) → r ≡ Equal → order_last (ps ++ (x, y) ∷ []) ≡ all → ordering_then (parts_order (term_in x) (term_in y)) (order_last ps) ≡ all
goes_on r x y ps all e n is =
    ap (λ q. ordering_then (ordering_then q (parts_order (term_in x) (term_in y))) (order_last ps)) (sym n ∙ e)
    ∙ ap (λ q. ordering_then q (order_last ps)) (sym (order_split (term_in x) (term_in y)))
    ∙ sym (last_pushed ps x y) ∙ is

pub ruleset comparing = (order_split, last_pushed, counted, then_assoc, int_term, less_rest, greater_rest, equal_rest)
