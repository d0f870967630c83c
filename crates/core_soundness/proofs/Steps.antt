-- The primitive steps of a run don't get stuck on good terms, in so many values as they want.
use Rattle.std.proofs.Common.{◌≡◌, ℕ, zero, suc, ◌+◌, ◌<◌, List, [], ◌∷◌, Option, Some, None, refl, sym, ap, ◌∙◌, subst, arith, inl, inr}
use Rattle.std.specs.Prelude.{Bool, true, false, if◌then◌else◌, ◌||◌, ◌&&◌, ◌⊎◌, ◌==◌, nat_eq, length, slice_get, codes, bytes_eq}
use Rattle.hipe_terms.specs.Terms.{Term, integer, atom, nil, cons, tuple, fun, terms, listed}
use Rattle.hipe_terms.specs.Bifs.{built_in}
use Rattle.hipe_terms.specs.declared.bif.Bif.{Bif}
use Rattle.hipe_terms.specs.declared.bif.Bif.TheVariants.{Error, Throw, Exit}
use Rattle.hipe_terms.specs.Outcome.{End, Outcome, bif_outcome}
use Rattle.hipe_terms.specs.declared.class.Class.{Class}
use Rattle.hipe_terms.specs.declared.primop.Primop.{Primop}
use Rattle.hipe_terms.specs.declared.primop.Primop.TheVariants.{Raise, MatchFail, BuildStacktrace}
use Rattle.hipe_terms.specs.Primops.{primop_named}
use Rattle.hipe_terms.specs.declared.class.Class.TheVariants as classes
use Rattle.core_ast.specs.declared.tree.FunName.{FunName}
use Rattle.core_ast.specs.Degrees.{is_raising_call, is_raising_primop, raises_only}
use Rattle.core_ast.specs.Rules.{is_primop, takes}
use Rattle.core_meaning.specs.Procedures.{Procedure, Program}
use Rattle.core_meaning.specs.Meaning.{State, Ending, Run, ends, Limits, Next, Handler, Calls, passes, worked, printing, builds, fails, with_one, with_count, with_value, class_of, class_atom, no_clause_for, makes_fun, makes_named, caught, causes, raises_as, raise, is_function_clause, match_fail, build_stacktrace, primop, operation, parameters_of, arity_of, own_function, exported, applies_named, comes_to, performs, applies, calls_own, calls}
use Rattle.core_soundness.proofs.Basics.{some_same, not_some, not_true, both_parts, same_bytes, same_numbers, numbers_same}
use Rattle.core_soundness.proofs.Modules.{if_there}
use Rattle.core_soundness.proofs.Terms.{Captures, GoodTerm, AllGood, terms_good, listed_good, cells_good, count_terms, length_listed}
use Rattle.core_soundness.proofs.BuiltIns.{GoodEnd, outcome_good}
use Rattle.core_soundness.proofs.Scopes.{Stands}
use Rattle.core_soundness.proofs.Matched.{Binds}
use Rattle.core_soundness.proofs.Fine.{SuitCauses}

-- an ending that isn't stuck, and has one value if it has values
abbrev pub IsSound : Ending → Type 0
IsSound (Ending.values ts) = length ts ≡ 1
IsSound (Ending.raised class reason) = Unit {0}
IsSound Ending.fuel_spent = Unit {0}
IsSound Ending.heap_full = Unit {0}
IsSound Ending.stack_full = Unit {0}
IsSound Ending.stuck = ⊥

pub record Sound (x : Run) : Type 0 where
  pub is : IsSound x.ending

pub cond_sound : (b : Bool) (x y : Run) → (b ≡ true → Sound x) → (b ≡ false → Sound y) → Sound (if b then x else y)
cond_sound true x y g h = g refl
cond_sound false x y g h = h refl

pub cond_true : (b : Bool) (x y : Run) → b ≡ true → Sound x → Sound (if b then x else y)
cond_true true x y is g = g
cond_true false x y is g = absurd (not_true is)

pub bool_sound : (b : Bool) (x y : Run) → Sound x → Sound y → Sound (elim b [ true ↦ x | false ↦ y ])
bool_sound true x y g h = g
bool_sound false x y g h = h

pub option_sound : {A : Type 0} (o : Option A) (x : Run) (y : A → Run) → (o ≡ None → Sound x) → ((a : A) → o ≡ Some a → Sound (y a)) → Sound (elim o [ None ↦ x | Some a ↦ y a ])
option_sound None x y g h = g refl
option_sound (Some a) x y g h = h a refl

pub builds_sound : (limits : Limits) (n : ℕ) (s : State) (go : State → Run) → ((s : State) → Sound (go s)) → Sound (builds limits n s go)
unfolding builds
builds_sound limits n s go g = cond_sound (passes (s.words + n) limits.heap) (ends Ending.heap_full s) (go (record s { words = s.words + n })) (λ _. record { is = tt }) (λ _. g (record s { words = s.words + n }))

pub count_sound : (n : ℕ) (ts : List Term) (s : State) (x : Run) → Some n ≡ Some (length ts) → Sound x → Sound (with_count n ts s x)
unfolding with_count
count_sound n ts s x is g = cond_true (nat_eq (length ts) n) x (ends Ending.stuck s) (numbers_same (length ts) n (sym (some_same n (length ts) is))) g

-- so many values are one
abbrev One : ℕ → Type 0
One n = ◌≡◌ {A = Option ℕ} (Some 1) (Some n)

not_one : (n : ℕ) → One (suc (suc n)) → ⊥
not_one n is = let e = some_same 1 (suc (suc n)) is in omega (arith, e)

not_one_of_none : One 0 → ⊥
not_one_of_none is = let e = some_same 1 0 is in omega (arith, e)

module _ (program : Program) where
  -- what comes next, where so many values come, and where a class is raised
  abbrev pub NextSound : Option ℕ → Next → Type 0
  NextSound d k = (ts : List Term) (s : State) → d ≡ Some (length ts) → AllGood program ts → Sound (k ts s)

  abbrev pub HandlerSound : Handler → Type 0
  HandlerSound r = (class : Class) (reason : Term) (s : State) → GoodTerm program reason → Sound (r class reason s)

  abbrev pub CallSound : Calls → Type 0
  CallSound call = (n : ℕ) (captured ts : List Term) (d : ℕ) (s : State) (r : Handler) (k : Next) (f : Procedure) → slice_get program.procedures n ≡ Some f → f.captured ≡ length captured → length f.parameters ≡ length ts
      → AllGood program captured → AllGood program ts → HandlerSound r → NextSound (Some 1) k → Sound (call n captured ts d s r k)

  pub match_sound : (m : Option (List Term)) (n : ℕ) (x : Run) (y : List Term → Run) → Binds program n m → Sound x → ((ts : List Term) → AllGood program ts → length ts ≡ n → Sound (y ts)) → Sound (elim m [ None ↦ x | Some ts ↦ y ts ])
  match_sound None n x y b g h = g
  match_sound (Some ts) n x y b g h = h ts b.0 b.1

  pub one_sound : (ts : List Term) (s : State) (go : Term → State → Run) → Some 1 ≡ Some (length ts) → AllGood program ts → ((t : Term) (s : State) → GoodTerm program t → Sound (go t s)) → Sound (with_one ts s go)
  unfolding with_one
  one_sound [] s go is g h = absurd (not_one_of_none is)
  one_sound (t ∷ []) s go is g h = h t s g.0
  one_sound (t ∷ u ∷ ts) s go is g h = absurd (not_one (length ts) is)

  pub value_sound : (o : Option Term) (t : Term) (s : State) (k : Next) → o ≡ Some t → GoodTerm program t → NextSound (Some 1) k → Sound (with_value o s k)
  unfolding with_value
  value_sound None t s k is g gk = absurd (not_some is)
  value_sound (Some u) t s k is g gk = gk (u ∷ []) s refl (subst (GoodTerm program) (sym (some_same u t is)) g, tt)

  pub no_clause_sound : (limits : Limits) (ts : List Term) (s : State) (r : Handler) → AllGood program ts → HandlerSound r → Sound (no_clause_for limits ts s r)
  unfolding no_clause_for
  no_clause_sound limits [] s r g gr = builds_sound limits _ s _ (λ s. gr classes.Error _ s (tt, (tt, tt)))
  no_clause_sound limits (t ∷ []) s r g gr = builds_sound limits _ s _ (λ s. gr classes.Error _ s (tt, (g.0, tt)))
  no_clause_sound limits (t ∷ u ∷ ts) s r g gr = builds_sound limits _ s _ (λ s. gr classes.Error _ s (tt, (terms_good program (t ∷ u ∷ ts) g, tt)))

  pub fun_sound : (limits : Limits) (n : ℕ) (o : Option (List Term)) (us : List Term) (s : State) (k : Next) → o ≡ Some us → Captures program n (length us) → AllGood program us → NextSound (Some 1) k → Sound (makes_fun limits n o s k)
  unfolding makes_fun
  fun_sound limits n None us s k is c g gk = absurd (not_some is)
  fun_sound limits n (Some ts) us s k is c g gk =
      let same_values = some_same ts us is in
      builds_sound limits (length ts + 2) (worked (length ts) s) (λ s. k (fun n (terms ts) ∷ []) s) (λ s. gk (fun n (terms ts) ∷ []) s refl
      ((subst (Captures program n) (ap length (sym same_values) ∙ sym (count_terms ts)) c, terms_good program ts (subst (AllGood program) (sym same_values) g)), tt))

  -- a function that can be applied, with the values that it captured
  pub record Applicable (o : Option (ℕ × List Term)) (arity : ℕ) : Type 0 where
    pub number : ℕ
    pub values : List Term
    pub is : o ≡ Some (number, values)
    pub procedure : Procedure
    pub found : slice_get program.procedures number ≡ Some procedure
    pub captured : procedure.captured ≡ length values
    pub parameters : length procedure.parameters ≡ arity
    pub good : AllGood program values

  pub named_sound : (limits : Limits) (o : Option (ℕ × List Term)) (arity : ℕ) (s : State) (k : Next) → Applicable o arity → NextSound (Some 1) k → Sound (makes_named limits o s k)
  named_sound limits o arity s k a gk = subst (λ o. Sound (makes_named limits o s k)) (sym a.is) (fun_sound limits a.number (Some a.values) a.values s k refl (a.procedure, a.found, a.captured) a.good gk)

  pub caught_sound : (limits : Limits) (class : Class) (t : Term) (s : State) (k : Next) → GoodTerm program t → NextSound (Some 1) k → Sound (caught limits class t s k)
  unfolding caught
  caught_sound limits classes.Error t s k g gk = builds_sound limits _ s _ (λ s. gk _ s refl ((tt, ((g, (tt, tt)), tt)), tt))
  caught_sound limits classes.Exit t s k g gk = builds_sound limits _ s _ (λ s. gk _ s refl ((tt, (g, tt)), tt))
  caught_sound limits classes.Throw t s k g gk = gk (t ∷ []) s refl (g, tt)

  class_good : (class : Class) → GoodTerm program (class_atom class)
  class_good classes.Error = tt
  class_good classes.Exit = tt
  class_good classes.Throw = tt

  no_causes : (n : ℕ) → SuitCauses n → (n ≡ 0) ⊎ ((n ≡ 1) ⊎ (3 < n)) → ⊥
  no_causes n (inl p) (inl q) = omega (arith, p, q)
  no_causes n (inl p) (inr (inl q)) = omega (arith, p, q)
  no_causes n (inl p) (inr (inr q)) = omega (arith, p, q)
  no_causes n (inr p) (inl q) = omega (arith, p, q)
  no_causes n (inr p) (inr (inl q)) = omega (arith, p, q)
  no_causes n (inr p) (inr (inr q)) = omega (arith, p, q)

  pub causes_sound : (class : Class) (reason : Term) (n : ℕ) (x : Run) (y : List Term → Run) → SuitCauses n → GoodTerm program reason → ((us : List Term) → length us ≡ n → AllGood program us → Sound (y us))
      → Sound (elim (causes class reason n) [ None ↦ x | Some us ↦ y us ])
  causes_sound class reason zero x y c g h = absurd (no_causes 0 c (inl refl))
  causes_sound class reason (suc zero) x y c g h = absurd (no_causes 1 c (inr (inl refl)))
  causes_sound class reason (suc (suc zero)) x y c g h = h (class_atom class ∷ reason ∷ []) refl (class_good class, (g, tt))
  causes_sound class reason (suc (suc (suc zero))) x y c g h = h (class_atom class ∷ reason ∷ class_atom class ∷ []) refl (class_good class, (g, (class_good class, tt)))
  causes_sound class reason (suc (suc (suc (suc n)))) x y c g h = absurd (no_causes (suc (suc (suc (suc n)))) c (inr (inr (omega arith))))

  -- ---- primitive operations

  raises_as_sound : (o : Option Class) (t : Term) (s : State) (r : Handler) → GoodTerm program t → HandlerSound r → Sound (raises_as o t s r)
  raises_as_sound None t s r g gr = gr classes.Error _ s tt
  raises_as_sound (Some class) t s r g gr = gr class t s g

  raise_sound : (ts : List Term) (s : State) (r : Handler) → length ts ≡ 2 → AllGood program ts → HandlerSound r → Sound (raise ts s r)
  raise_sound [] s r is g gr = absurd (let wrong : ⊥ = omega (arith, is) in wrong)
  raise_sound (t ∷ []) s r is g gr = absurd (let wrong : ⊥ = omega (arith, is) in wrong)
  raise_sound (t ∷ u ∷ []) s r is g gr = raises_as_sound (class_of t) u s r g.1.0 gr
  raise_sound (t ∷ u ∷ v ∷ ts) s r is g gr = absurd (let wrong : ⊥ = omega (arith, is) in wrong)

  match_fail_sound : (ts : List Term) (s : State) (r : Handler) → length ts ≡ 1 → AllGood program ts → HandlerSound r → Sound (match_fail ts s r)
  match_fail_sound [] s r is g gr = absurd (let wrong : ⊥ = omega (arith, is) in wrong)
  match_fail_sound (t ∷ []) s r is g gr = cond_sound (is_function_clause t) (fails (codes "function_clause") s r) (r classes.Error t s) (λ _. gr classes.Error _ s tt) (λ _. gr classes.Error t s g.0)
  match_fail_sound (t ∷ u ∷ ts) s r is g gr = absurd (let wrong : ⊥ = omega (arith, is) in wrong)

  stacktrace_sound : (ts : List Term) (s : State) (k : Next) → length ts ≡ 1 → NextSound (Some 1) k → Sound (build_stacktrace ts s k)
  stacktrace_sound [] s k is gk = absurd (let wrong : ⊥ = omega (arith, is) in wrong)
  stacktrace_sound (t ∷ []) s k is gk = gk (nil ∷ []) s refl (tt, tt)
  stacktrace_sound (t ∷ u ∷ ts) s k is gk = absurd (let wrong : ⊥ = omega (arith, is) in wrong)

  operation_sound : (o : Option Primop) (n : ℕ) (ts : List Term) (s : State) (r : Handler) (k : Next) → takes o n ≡ true → length ts ≡ n → AllGood program ts → HandlerSound r → NextSound (if raises_only o then None else Some 1) k
      → Sound (operation o ts s r k)
  operation_sound None n ts s r k known size g gr gk = absurd (not_true known)
  operation_sound (Some Raise) n ts s r k known size g gr gk = raise_sound ts s r (size ∙ same_numbers n 2 known) g gr
  operation_sound (Some MatchFail) n ts s r k known size g gr gk = match_fail_sound ts s r (size ∙ same_numbers n 1 known) g gr
  operation_sound (Some BuildStacktrace) n ts s r k known size g gr gk = stacktrace_sound ts s k (size ∙ same_numbers n 1 known) gk

  pub primop_sound : (f : List ℕ) (n : ℕ) (ts : List Term) (s : State) (r : Handler) (k : Next) → is_primop f n ≡ true → length ts ≡ n → AllGood program ts → HandlerSound r → NextSound (if is_raising_primop f then None else Some 1) k
      → Sound (primop f ts s r k)
  unfolding primop
  primop_sound f n ts s r k known size g gr gk = operation_sound (primop_named f) n ts s r k known size g gr gk

  -- ---- applications

  abbrev NeverGives : End → Type 0
  NeverGives (End.value t) = ⊥
  NeverGives (End.raised class reason) = Unit {0}

  -- a built-in function that only raises
  abbrev OnlyRaises : Bif → Type 0
  OnlyRaises b = (arities : ℕ → ℕ) (ts : List Term) → NeverGives (bif_outcome arities b ts).end

  error_raises : OnlyRaises Error
  error_raises arities [] = tt
  error_raises arities (t ∷ []) = tt
  error_raises arities (t ∷ u ∷ ts) = tt

  throw_raises : OnlyRaises Throw
  throw_raises arities [] = tt
  throw_raises arities (t ∷ []) = tt
  throw_raises arities (t ∷ u ∷ ts) = tt

  exit_raises : OnlyRaises Exit
  exit_raises arities [] = tt
  exit_raises arities (t ∷ []) = tt
  exit_raises arities (t ∷ u ∷ ts) = tt

  error_named : built_in (codes "erlang") (codes "error") 1 ≡ Some Error
  unfolding built_in
  error_named = refl

  throw_named : built_in (codes "erlang") (codes "throw") 1 ≡ Some Throw
  unfolding built_in
  throw_named = refl

  exit_named : built_in (codes "erlang") (codes "exit") 1 ≡ Some Exit
  unfolding built_in
  exit_named = refl

  abbrev Raises : Option Bif → Type 0
  Raises o = (b : Bif) × (o ≡ Some b) × OnlyRaises b

  raising_cases : (a b c : Bool) (f : List ℕ) → bytes_eq f (codes "error") ≡ a → bytes_eq f (codes "throw") ≡ b → bytes_eq f (codes "exit") ≡ c → ((a || b) || c) ≡ true → Raises (built_in (codes "erlang") f 1)
  raising_cases true b c f p q t is = subst (λ f. Raises (built_in (codes "erlang") f 1)) (sym (same_bytes f (codes "error") p)) (Error, error_named, error_raises)
  raising_cases false true c f p q t is = subst (λ f. Raises (built_in (codes "erlang") f 1)) (sym (same_bytes f (codes "throw") q)) (Throw, throw_named, throw_raises)
  raising_cases false false true f p q t is = subst (λ f. Raises (built_in (codes "erlang") f 1)) (sym (same_bytes f (codes "exit") t)) (Exit, exit_named, exit_raises)
  raising_cases false false false f p q t is = absurd (not_true is)

  raising_is : (m f : List ℕ) (n : ℕ) → is_raising_call m f n ≡ true → Raises (built_in m f n)
  raising_is m f n is =
      let names = bytes_eq f (codes "error") || bytes_eq f (codes "throw") || bytes_eq f (codes "exit") in
      let p = both_parts (bytes_eq m (codes "erlang") && names) (n == 1) is in
      let q = both_parts (bytes_eq m (codes "erlang")) names p.0 in
      subst (λ m. Raises (built_in m f n)) (sym (same_bytes m (codes "erlang") q.0))
      (subst (λ n. Raises (built_in (codes "erlang") f n)) (sym (same_numbers n 1 p.1))
      (raising_cases (bytes_eq f (codes "error")) (bytes_eq f (codes "throw")) (bytes_eq f (codes "exit")) f refl refl refl q.1))

  comes_to_sound : (d : Option ℕ) (e : End) (s : State) (r : Handler) (k : Next) → GoodEnd program e → NeverGives e ⊎ (d ≡ Some 1) → HandlerSound r → NextSound d k → Sound (comes_to e s r k)
  comes_to_sound d (End.value t) s r k g (inl never) gr gk = absurd never
  comes_to_sound d (End.value t) s r k g (inr is) gr gk = gk (t ∷ []) s is (g, tt)
  comes_to_sound d (End.raised class reason) s r k g c gr gk = gr class reason s g

  performs_sound : (limits : Limits) (d : Option ℕ) (o : Outcome) (s : State) (r : Handler) (k : Next) → GoodEnd program o.end → NeverGives o.end ⊎ (d ≡ Some 1) → HandlerSound r → NextSound d k → Sound (performs limits o s r k)
  unfolding performs
  performs_sound limits d o s r k g c gr gk = builds_sound limits o.words (printing o.printed s) (λ s. comes_to o.end s r k) (λ s. comes_to_sound d o.end s r k g c gr gk)

  -- an exported function has as many parameters as its name says, and captures nothing
  abbrev pub ExportsStand : Type 0
  ExportsStand = (f : FunName) (n : ℕ) → exported program f ≡ Some n → Stands program f (record { number = n; captured = [] })

  module _ (limits : Limits) (call : Calls) (call_sound : CallSound call) where
    pub applies_sound : (t : Term) (ts : List Term) (d : ℕ) (s : State) (r : Handler) (k : Next) → GoodTerm program t → AllGood program ts → HandlerSound r → NextSound (Some 1) k → Sound (applies program limits call t ts d s r k)
    unfolding applies
    applies_sound (fun n us) ts d s r k g h gr gk =
        let c = g.0 in
        cond_sound (nat_eq (arity_of program n) (length ts)) _ _
        (λ fits. call_sound n (listed us) ts d s r k c.0 c.1 (c.2 ∙ sym (length_listed us)) (sym (ap parameters_of c.1) ∙ same_numbers (arity_of program n) (length ts) fits) (listed_good program us g.1) h gr gk)
        (λ _. builds_sound limits _ s _ (λ s. gr classes.Error _ s (tt, ((g, (cells_good program ts nil h tt, tt)), tt))))
    applies_sound (integer i) ts d s r k g h gr gk = builds_sound limits _ s _ (λ s. gr classes.Error _ s (tt, (g, tt)))
    applies_sound (atom a) ts d s r k g h gr gk = builds_sound limits _ s _ (λ s. gr classes.Error _ s (tt, (g, tt)))
    applies_sound nil ts d s r k g h gr gk = builds_sound limits _ s _ (λ s. gr classes.Error _ s (tt, (g, tt)))
    applies_sound (cons a b) ts d s r k g h gr gk = builds_sound limits _ s _ (λ s. gr classes.Error _ s (tt, (g, tt)))
    applies_sound (tuple us) ts d s r k g h gr gk = builds_sound limits _ s _ (λ s. gr classes.Error _ s (tt, (g, tt)))

    pub applies_named_sound : (o : Option (ℕ × List Term)) (ts : List Term) (d : ℕ) (s : State) (r : Handler) (k : Next) → Applicable o (length ts) → AllGood program ts → HandlerSound r → NextSound (Some 1) k → Sound (applies_named call o ts d s r k)
    unfolding applies_named
    applies_named_sound o ts d s r k a g gr gk =
        subst (λ o. Sound (applies_named call o ts d s r k)) (sym a.is) (call_sound a.number a.values ts d s r k a.procedure a.found a.captured a.parameters a.good g gr gk)

    module _ (exports : ExportsStand) where
      own_sound : (m f : List ℕ) (o : Option ℕ) (ts : List Term) (d : ℕ) (s : State) (r : Handler) (k : Next) → own_function program m f (length ts) ≡ o → AllGood program ts → HandlerSound r → NextSound (Some 1) k → Sound (calls_own program limits call o ts d s r k)
      own_sound m f None ts d s r k is g gr gk = gr classes.Error _ s tt
      own_sound m f (Some n) ts d s r k is g gr gk =
          let h = exports (record { name = f; arity = length ts }) n (if_there (bytes_eq m program.name) (exported program (record { name = f; arity = length ts })) n is) in
          call_sound n [] ts d s r k h.procedure h.found h.captured h.parameters tt g gr gk

      calls_at : (b : Bool) (m f : List ℕ) (ts : List Term) (d : ℕ) (s : State) (r : Handler) (k : Next) → is_raising_call m f (length ts) ≡ b → AllGood program ts → HandlerSound r → NextSound (if b then None else Some 1) k
          → Sound (calls program limits call m f ts d s r k)
      unfolding calls
      calls_at true m f ts d s r k is g gr gk =
          let raises = raising_is m f (length ts) is in
          subst (λ o. Sound (elim o [ Some b ↦ performs limits (bif_outcome (arity_of program) b ts) s r k | None ↦ calls_own program limits call (own_function program m f (length ts)) ts d s r k ])) (sym raises.1)
          (performs_sound limits None (bif_outcome (arity_of program) raises.0 ts) s r k (outcome_good program (arity_of program) raises.0 ts g) (inl (raises.2 (arity_of program) ts)) gr gk)
      calls_at false m f ts d s r k is g gr gk =
          option_sound (built_in m f (length ts)) (calls_own program limits call (own_function program m f (length ts)) ts d s r k) (λ b. performs limits (bif_outcome (arity_of program) b ts) s r k)
          (λ _. own_sound m f (own_function program m f (length ts)) ts d s r k refl g gr gk)
          (λ b _. performs_sound limits (Some 1) (bif_outcome (arity_of program) b ts) s r k (outcome_good program (arity_of program) b ts g) (inr refl) gr gk)

      pub calls_sound : (m f : List ℕ) (n : ℕ) (ts : List Term) (d : ℕ) (s : State) (r : Handler) (k : Next) → length ts ≡ n → AllGood program ts → HandlerSound r → NextSound (if is_raising_call m f n then None else Some 1) k
          → Sound (calls program limits call m f ts d s r k)
      calls_sound m f n ts d s r k size g gr gk =
          calls_at (is_raising_call m f (length ts)) m f ts d s r k refl g gr (subst (λ n. NextSound (if is_raising_call m f n then None else Some 1) k) (sym size) gk)
