-- Booleans, lists and tuples.
use Rattle.std.proofs.Common.{◌≡◌, ℕ, zero, suc, ◌-◌, ◌<◌, ◌≤◌, List, [], ◌∷◌, Some, None, option_map, length, refl, sym, ap, ◌∙◌, arith}
use Rattle.std.specs.Prelude.{ℤ, pos, negsuc, slice_get, slice_set, Bool}
use Rattle.hipe_terms.specs.Outcome.{builds, badarg, number, boolean_of, boolean, boolean_at, truth, elements, length_of, length_at, nth, with_nth, element_set_at}
use Rattle.hipe_terms.specs.Terms.{Term, integer, atom, nil, cons, tuple, fun, more, terms, count}
use Rattle.std.proofs.lemmas.List.{length-map}
use Rattle.eval_values.specs.declared.value.Value.{Value}
use Rattle.eval_values.specs.Integers.{integer_of, index_of}
use Rattle.eval_values.specs.Values.{term_in, terms_in}
use Rattle.hipe_terms.specs.Words.{tuple_words}
use Rattle.eval_values.proofs.Arithmetic.{first_one}

-- ---- Booleans

pub boolean_some : (f : Bool → Bool → Bool) (t u : Term) (a b : Bool) → boolean_of t ≡ Some a → boolean_of u ≡ Some b → boolean f t u ≡ truth (f a b)
boolean_some f t u a b e g = ap (λ o. boolean_at f o (boolean_of u)) e ∙ ap (boolean_at f (Some a)) g

pub boolean_first : (f : Bool → Bool → Bool) (t u : Term) → boolean_of t ≡ None → boolean f t u ≡ badarg
boolean_first f t u e = ap (λ o. boolean_at f o (boolean_of u)) e

pub boolean_second : (f : Bool → Bool → Bool) (t u : Term) (a : Bool) → boolean_of t ≡ Some a → boolean_of u ≡ None → boolean f t u ≡ badarg
boolean_second f t u a e g = ap (λ o. boolean_at f o (boolean_of u)) e ∙ ap (boolean_at f (Some a)) g

pub ruleset booleans = (boolean_some, boolean_first, boolean_second)

-- ---- lists

pub length_some : (t : Term) (vs : List Value) → Some (terms_in vs) ≡ elements t → length_of t ≡ number (pos (length vs))
length_some t vs e = ap length_at (sym e) ∙ ap (λ n. number (pos n)) (length-map vs term_in)

pub ruleset lists = (length_some, length-map)

-- ---- tuples

pub counted : (vs : List Value) → count (terms (terms_in vs)) ≡ length vs
counted [] = refl
counted (v ∷ vs) = ap suc (counted vs)

pub nth_is : (vs : List Value) (i : ℕ) → nth (terms (terms_in vs)) i ≡ option_map term_in (slice_get vs i)
nth_is [] i = refl
nth_is (v ∷ vs) zero = refl
nth_is (v ∷ vs) (suc i) = nth_is vs i

index_pos : (k : ℕ) → 0 < k → index_of (integer (pos k)) ≡ Some (k - 1)
index_pos zero h = absurd (omega arith)
index_pos (suc k) h = ap Some (omega arith)

pub with_nth_set : (vs : List Value) (i : ℕ) (c : Value) → i < length vs → with_nth (terms (terms_in vs)) i (term_in c) ≡ Some (terms (terms_in (slice_set vs i c)))
with_nth_set [] i c h = absurd (omega arith)
with_nth_set (v ∷ vs) zero c h = refl
with_nth_set (v ∷ vs) (suc i) c h = ap (option_map (λ us. more (term_in v) us)) (with_nth_set vs i c (omega arith))

pub with_nth_none : (vs : List Value) (i : ℕ) (t : Term) → length vs ≤ i → with_nth (terms (terms_in vs)) i t ≡ None
with_nth_none [] i t h = refl
with_nth_none (v ∷ vs) zero t h = absurd (omega arith)
with_nth_none (v ∷ vs) (suc i) t h = ap (option_map (λ us. more (term_in v) us)) (with_nth_none vs i t (omega arith))

pub set_counted : (vs : List Value) (i : ℕ) (c : Value) → i < length vs → element_set_at (with_nth (terms (terms_in vs)) i (term_in c)) ≡ builds (tuple_words (length (slice_set vs i c))) (tuple (terms (terms_in (slice_set vs i c))))
set_counted vs i c h = ap element_set_at (with_nth_set vs i c h) ∙ ap (λ n. builds (tuple_words n) (tuple (terms (terms_in (slice_set vs i c))))) (counted (slice_set vs i c))

pub index_some : (t : Term) (k : ℕ) → integer_of t ≡ Some (pos k) → 0 < k → index_of t ≡ Some (k - 1)
index_some t k e h = first_one t (pos k) (λ t. index_of t ≡ Some (k - 1)) e (index_pos k h)

pub index_zero : (t : Term) → integer_of t ≡ Some (pos 0) → index_of t ≡ None
index_zero t e = first_one t (pos 0) (λ t. index_of t ≡ None) e refl

pub index_none : (t : Term) → integer_of t ≡ None → index_of t ≡ None
index_none (integer a) e = absurd (cc)
index_none (atom a) e = refl
index_none nil e = refl
index_none (cons a c) e = refl
index_none (tuple a) e = refl
index_none (fun a c) e = refl

pub index_negative : (t : Term) (n : ℤ) → integer_of t ≡ Some n → ((k : ℕ) → n ≡ pos k → ⊥) → index_of t ≡ None
index_negative t (pos k) e h = absurd (h k refl)
index_negative t (negsuc k) e h = first_one t (negsuc k) (λ t. index_of t ≡ None) e refl

pub ruleset tuples = (counted, nth_is, with_nth_none, set_counted, index_some, index_zero, index_none, index_negative)
