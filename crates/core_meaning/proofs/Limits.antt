-- The run under limits, and the whole run.
use Rattle.std.proofs.Common.{◌≡◌, ℕ, zero, suc, ◌+◌, ◌<◌, ◌≤◌, List, [], ◌++◌, Option, Some, None, refl, sym, ap, subst, arith}
use Rattle.std.specs.Prelude.{Bool, true, false, if◌then◌else◌, nat_lt, max, length, slice_get, sum, map, codes}
use Rattle.std.proofs.lemmas.Bool.Decides.{nat_tests}
use Rattle.hipe_terms.specs.declared.constant.Call.{Call}
use Rattle.hipe_terms.specs.Terms.{Term, atom, term_of}
use Rattle.hipe_terms.specs.Words.{words_of}
use Rattle.hipe_terms.specs.declared.class.Class.TheVariants.{Error}
use Rattle.core_ast.specs.Trees.{Module}
use Rattle.core_meaning.specs.Procedures.{Procedure, Program, program_of}
use Rattle.core_meaning.specs.Meaning.{State, Ending, Run, ends, Limits, Next, Handler, Calls, entering, builds, exported, eval, at_entry, enters, calls_within}
use Rattle.core_meaning.specs.Source.{unlimited, at_start, called_name, starts, run_within, source_run}
use Rattle.core_meaning.specs.Laws.{Prefix, Grown, IsPlain, Within, same, heap_full, stack_full, limited}
use Rattle.core_meaning.proofs.Growth.{grown_refl, grows, enters_grows, calls_within_grow}
use Rattle.core_meaning.proofs.Alike.{Handlers, Nexts, CallsAlike, Steps, count_alike, alike}

-- by whether a test holds
by_test : {P : Type 0} (b : Bool) → (b ≡ true → P) → (b ≡ false → P) → P
by_test true is not = is refl
by_test false is not = not refl

module _ (program : Program) (heap stack : ℕ) (frame : ℕ → ℕ) (least : (n : ℕ) → frame n ≤ (unlimited program).frame n) where
  abbrev L : Limits
  L = limited heap stack frame

  abbrev M : Limits
  M = unlimited program

  -- the same fuel, words and printed terms, with the words within the heap
  record Equal (x y : State) : Type 0 where
    fuel : x.fuel ≡ y.fuel
    words : x.words ≡ y.words
    printed : x.printed ≡ y.printed
    room : y.words ≤ heap

  -- the depth by real frames is at most the depth by claims
  abbrev Below : ℕ → ℕ → Type 0
  Below d e = d ≤ e

  abbrev Ends : Run → Run → Type 0
  Ends = Within heap stack

  same_at : (e : Ending) → IsPlain e → (x y : State) → Equal x y → Ends (ends e x) (ends e y)
  same_at e plain x y p = same refl plain p.fuel p.printed p.words p.room

  front : (x y : State) (z : Run) → Equal x y → Grown y z → Prefix x.printed z.state.printed
  front x y z p g = subst (λ ts. Prefix ts z.state.printed) (sym p.printed) g.later.printed

  -- the words are built, or the heap is full
  builds_within : (n : ℕ) (x y : State) (go to : State → Run) → Equal x y → ((x y : State) → Equal x y → Ends (go x) (to y)) → ((y : State) → Grown y (to y)) → Ends (builds L n x go) (builds M n y to)
  unfolding builds
  builds_within n x y go to p q g =
      by_test (nat_lt heap (x.words + n))
      (λ t. subst (λ b. Ends (if b then ends Ending.heap_full x else go (record x { words = x.words + n })) (to (record y { words = y.words + n }))) (sym t)
      (let lt : heap < x.words + n = grind (arith, nat_tests, t) in
      let grown = g (record y { words = y.words + n }) in
      let now : y.words + n ≤ (to (record y { words = y.words + n })).state.words = grown.later.words in
      heap_full refl (omega (arith, lt, now, p.words)) (subst (λ ts. Prefix ts (to (record y { words = y.words + n })).state.printed) (sym p.printed) grown.later.printed)))
      (λ t. subst (λ b. Ends (if b then ends Ending.heap_full x else go (record x { words = x.words + n })) (to (record y { words = y.words + n }))) (sym t)
      (let le : x.words + n ≤ heap = grind (arith, nat_tests, t) in
      q (record x { words = x.words + n }) (record y { words = y.words + n }) (record { fuel = p.fuel; words = ap (λ w. w + n) p.words; printed = p.printed; room = omega (arith, le, p.words) })))

  steps : Steps program L M Equal Below Ends
  steps =
      record {
        sticks = λ x y p. same_at Ending.stuck tt x y p;
        works = λ n x y p. record { fuel = p.fuel; words = p.words; printed = p.printed; room = p.room };
        prints = λ ts x y p. record { fuel = p.fuel; words = p.words; printed = ap (λ us. us ++ ts) p.printed; room = p.room };
        builds = builds_within;
      }

  abbrev WithinCalls : Calls → Calls → Type 0
  WithinCalls = CallsAlike program L M Equal Below Ends

  -- a function is entered, or the stack is full
  enters_within : (f g : Calls) → WithinCalls f g → (n : ℕ) (o : Option Procedure) (captured ts : List Term) (d e : ℕ) (x y : State) (r s : Handler) (k l : Next)
      → d ≤ e → Equal x y → Handlers program L M Equal Below Ends r s → Nexts program L M Equal Below Ends k l
      → Ends (enters program L f n o captured ts d x r k) (enters program M g n o captured ts e y s l)
  enters_within f g call n None captured ts d e x y r s k l i p h q = same_at Ending.stuck tt x y p
  enters_within f g call n (Some m) captured ts d e x y r s k l i p h q =
      let top = e + M.frame n in
      let here = d + frame n in
      let fits = least n in
      let body = eval program L f m.body (at_entry program L m captured ts here d) (entering here (length captured) x) r k in
      let whole = eval program M g m.body (at_entry program M m captured ts top e) (entering top (length captured) y) s l in
      let grown : Grown (entering top (length captured) y) whole = grows program M g call.grows m.body (at_entry program M m captured ts top e) (entering top (length captured) y) s l h.grows q.grows in
      count_alike program L M Equal Below Ends steps (length m.parameters) ts x y _ _ p
      (by_test (nat_lt stack here)
      (λ t. subst (λ b. Ends (if b then ends Ending.stack_full x else body) whole) (sym t)
      (let lt : stack < here = grind (arith, nat_tests, t) in
      let claim : max y.claim top ≤ whole.state.claim = grown.later.claim in
      let most : top ≤ max y.claim top = grind arith in
      stack_full refl (omega (arith, lt, claim, most, i, fits)) (front x (entering top (length captured) y) whole (record { fuel = p.fuel; words = p.words; printed = p.printed; room = p.room }) grown)))
      (λ t. subst (λ b. Ends (if b then ends Ending.stack_full x else body) whole) (sym t)
      (alike program L M Equal Below Ends steps f g call m.body (at_entry program L m captured ts here d) top e (entering here (length captured) x) (entering top (length captured) y) r s k l
      (omega (arith, i, fits)) i (record { fuel = p.fuel; words = p.words; printed = p.printed; room = p.room }) h q)))

  module _ (b : ℕ) (call : WithinCalls (calls_within program L b) (calls_within program M b)) (n : ℕ) (captured ts : List Term) (d e : ℕ) (x y : State) (r s : Handler) (k l : Next)
      (i : d ≤ e) (p : Equal x y) (h : Handlers program L M Equal Below Ends r s) (q : Nexts program L M Equal Below Ends k l) where
    spends : (fuel : ℕ) →
        Ends (elim fuel [ zero ↦ ends Ending.fuel_spent x | suc f ↦ enters program L (calls_within program L b) n (slice_get program.procedures n) captured ts d (record x { fuel = f }) r k ])
        (elim fuel [ zero ↦ ends Ending.fuel_spent y | suc f ↦ enters program M (calls_within program M b) n (slice_get program.procedures n) captured ts e (record y { fuel = f }) s l ])
    spends zero = same_at Ending.fuel_spent tt x y p
    spends (suc f) =
        enters_within (calls_within program L b) (calls_within program M b) call n (slice_get program.procedures n) captured ts d e (record x { fuel = f }) (record y { fuel = f }) r s k l i
        (record { fuel = refl; words = p.words; printed = p.printed; room = p.room }) h q

    spends_alike : Ends (calls_within program L (suc b) n captured ts d x r k) (calls_within program M (suc b) n captured ts e y s l)
    spends_alike =
        subst (λ fuel. Ends (calls_within program L (suc b) n captured ts d x r k) (elim fuel [ zero ↦ ends Ending.fuel_spent y | suc f ↦ enters program M (calls_within program M b) n (slice_get program.procedures n) captured ts e (record y { fuel = f }) s l ])) p.fuel
        (spends x.fuel)

  calls_alike : (b : ℕ) → WithinCalls (calls_within program L b) (calls_within program M b)
  calls_alike zero = record { alike = λ n captured ts d e x y r s k l i p h q. same_at Ending.fuel_spent tt x y p; grows = calls_within_grow program M zero }
  calls_alike (suc b) = record { alike = λ n captured ts d e x y r s k l i p h q. spends_alike b (calls_alike b) n captured ts d e x y r s k l i p h q; grows = calls_within_grow program M (suc b) }

  at_end_handler : Handlers program L M Equal Below Ends (λ class reason s. ends (Ending.raised class reason) s) (λ class reason s. ends (Ending.raised class reason) s)
  at_end_handler = record { alike = λ class reason x y p. same_at (Ending.raised class reason) tt x y p; grows = λ class reason s. grown_refl (Ending.raised class reason) s }

  at_end : Nexts program L M Equal Below Ends (λ us s. ends (Ending.values us) s) (λ us s. ends (Ending.values us) s)
  at_end = record { alike = λ us x y p. same_at (Ending.values us) tt x y p; grows = λ us s. grown_refl (Ending.values us) s }

  at_start_equal : (fuel arguments : ℕ) → Equal (at_start fuel arguments) (at_start fuel arguments)
  at_start_equal fuel arguments = record { fuel = refl; words = refl; printed = refl; room = omega arith }

  starts_within : (o : Option ℕ) (ts : List Term) (words fuel : ℕ) → Ends (starts program L o ts words fuel) (starts program M o ts words fuel)
  starts_within None ts words fuel = same_at (Ending.raised Error (atom (codes "undef"))) tt (at_start fuel (length ts)) (at_start fuel (length ts)) (at_start_equal fuel (length ts))
  starts_within (Some n) ts words fuel =
      builds_within words (at_start fuel (length ts)) (at_start fuel (length ts)) _ _ (at_start_equal fuel (length ts))
      (λ x y p. enters_within (calls_within program L fuel) (calls_within program M fuel) (calls_alike fuel) n (slice_get program.procedures n) [] ts 0 0 x y _ _ _ _ (omega arith) p at_end_handler at_end)
      (λ y. enters_grows program M (calls_within program M fuel) (calls_within_grow program M fuel) n (slice_get program.procedures n) [] ts 0 y _ _ (λ class reason s. grown_refl (Ending.raised class reason) s) (λ us s. grown_refl (Ending.values us) s))

pub limits_are_exact : (m : Module) (c : Call) (fuel heap stack : ℕ) (frame : ℕ → ℕ) → ((n : ℕ) → frame n ≤ (unlimited (program_of m)).frame n) → Within heap stack (run_within (program_of m) (limited heap stack frame) c fuel) (source_run m c fuel)
unfolding source_run
limits_are_exact m c fuel heap stack frame least = starts_within (program_of m) heap stack frame least (exported (program_of m) (called_name c)) (map term_of c.args) (sum (map words_of c.args)) fuel
