-- What is done with values, one step at a time, where there are no limits.
use Rattle.std.proofs.Common.{◌≡◌, ◌≢◌, ℕ, ◌+◌, ◌*◌, append-nil, eq-eqb, inl, inr, List, [], ◌∷◌, ◌++◌, Some, None, length, refl, ap, arith}
use Rattle.std.specs.Prelude.{false, if◌then◌else◌, nat_eq, codes}
use Rattle.hipe_terms.specs.Terms.{Term, atom, nil, fun, terms, listed}
use Rattle.hipe_terms.specs.declared.class.Class.TheVariants.{Error, Exit, Throw}
use Rattle.hipe_terms.specs.Outcome.{Outcome}
use Rattle.core_ast.proofs.Levels.{levels}
use Rattle.core_meaning.specs.Procedures.{Program}
use Rattle.core_meaning.specs.Meaning.{State, Ending, Run, ends, Next, Handler, worked, printing, builds, pair, with_one, with_count, with_value, makes_fun, caught, comes_to, performs}
use Rattle.core_meaning.specs.Source.{unlimited}
use Rattle.std.proofs.lemmas.List.{length-map}
use Rattle.eval_values.proofs.Made.{made}
use Rattle.eval_values.specs.declared.value.Value.{Value}
use Rattle.eval_values.specs.Values.{term_in, terms_in}
use Rattle.std.proofs.lemmas.Bool.Decides.{eqb_tells}
use Rattle.eval_run.specs.Counting.{more_words}
use Rattle.eval_run.proofs.Contexts.{number_is, bound_is, scope_is}

pub value_some : (t : Term) (s : State) (k : Next) → with_value (Some t) s k ≡ k (t ∷ []) s
unfolding with_value
value_some t s k = refl

pub value_none : (s : State) (k : Next) → with_value None s k ≡ ends Ending.stuck s
unfolding with_value
value_none s k = refl

pub one_other : (ts : List Term) (s : State) (go : Term → State → Run) → length ts ≢ 1 → with_one ts s go ≡ ends Ending.stuck s
unfolding with_one
one_other [] s go ne = refl
one_other (t ∷ []) s go ne = absurd (ne refl)
one_other (t ∷ u ∷ ts) s go ne = refl

pub listed_is : (ts : List Term) → listed (terms ts) ≡ ts
listed_is [] = refl
listed_is (t ∷ ts) = ap (λ us. t ∷ us) (listed_is ts)

module _ (program : Program) where
  pub fun_made : (n : ℕ) (ts : List Term) (s : State) (k : Next) → makes_fun (unlimited program) n (Some ts) s k ≡ k (fun n (terms ts) ∷ []) (more_words (length ts + 2) (worked (length ts) s))
  unfolding makes_fun builds
  fun_made n ts s k = refl

  pub fun_none : (n : ℕ) (s : State) (k : Next) → makes_fun (unlimited program) n None s k ≡ ends Ending.stuck s
  unfolding makes_fun
  fun_none n s k = refl

  pub performed : (o : Outcome) (s : State) (r : Handler) (k : Next) → performs (unlimited program) o s r k ≡ comes_to o.end (more_words o.words (printing o.printed s)) r k
  unfolding performs builds
  performed o s r k = refl

  pub caught_throw : (t : Term) (s : State) (k : Next) → caught (unlimited program) Throw t s k ≡ k (t ∷ []) s
  unfolding caught
  caught_throw t s k = refl

  pub caught_exit : (t : Term) (s : State) (k : Next) → caught (unlimited program) Exit t s k ≡ k (pair (atom (codes "EXIT")) t ∷ []) (more_words 3 s)
  unfolding caught builds
  caught_exit t s k = refl

  pub caught_error : (t : Term) (s : State) (k : Next) → caught (unlimited program) Error t s k ≡ k (pair (atom (codes "EXIT")) (pair t nil) ∷ []) (more_words 6 s)
  unfolding caught builds
  caught_error t s k = refl

pub ruleset primitives = (made, length-map, value_some, value_none, fun_made, fun_none)

pub ruleset lambdas = (levels, number_is, bound_is, scope_is, fun_made, fun_none)

pub double : (n : ℕ) → n + n ≡ 2 * n
double n = omega arith

pub count_same : (n : ℕ) (ts : List Term) (s : State) (x : Run) → length ts ≡ n → with_count n ts s x ≡ x
unfolding with_count
count_same n ts s x is = ap (λ b. if b then x else ends Ending.stuck s) (eq-eqb (length ts) n is)

ne_eqb : (m n : ℕ) → m ≢ n → nat_eq m n ≡ false
ne_eqb m n ne = elim (eqb_tells m n) [ inl p ↦ absurd (ne p.1) | inr p ↦ p.0 ]

pub count_other : (n : ℕ) (ts : List Term) (s : State) (x : Run) → length ts ≢ n → with_count n ts s x ≡ ends Ending.stuck s
unfolding with_count
count_other n ts s x ne = ap (λ b. if b then x else ends Ending.stuck s) (ne_eqb (length ts) n ne)

pub printed_one : (vs : List Value) (v : Value) → terms_in (vs ++ v ∷ []) ≡ terms_in vs ++ term_in v ∷ []
printed_one [] v = refl
printed_one (u ∷ vs) v = ap (λ l. term_in u ∷ l) (printed_one vs v)

pub ruleset doubles = (double)

pub ruleset arguments = (double, length-map, made)

pub ruleset counts = (count_same, count_other, length-map)

pub ruleset catches = (made, caught_throw, caught_exit, caught_error)

pub ruleset printing_values = (printed_one, append-nil)

-- a list without elements
pub empty_list : {A : Type 0} (xs : List A) → length xs ≡ 0 → xs ≡ []
empty_list [] n = refl
empty_list (x ∷ xs) n = absurd (omega arith)

pub ruleset emptied = (empty_list)
