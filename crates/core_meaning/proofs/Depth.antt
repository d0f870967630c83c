-- How deep applications may go: fuel bounds it, so every bound that is at least the fuel gives the same run.
use Rattle.std.proofs.Common.{◌≡◌, ℕ, zero, suc, ◌+◌, ◌≤◌, List, [], Option, Some, None, refl, sym, ap, ◌∙◌, subst, arith}
use Rattle.std.specs.Prelude.{Bool, true, false, length, slice_get, sum, map}
use Rattle.std.proofs.lemmas.Bool.{false≢true}
use Rattle.hipe_terms.specs.declared.constant.Call.{Call}
use Rattle.hipe_terms.specs.Terms.{Term, term_of}
use Rattle.hipe_terms.specs.Words.{words_of}
use Rattle.core_ast.specs.Trees.{Module}
use Rattle.core_meaning.specs.Procedures.{Procedure, Program, program_of}
use Rattle.core_meaning.specs.Meaning.{State, Ending, Run, ends, Limits, Next, Handler, Calls, passes, worked, printing, entering, builds, exported, at_entry, enters, calls_within}
use Rattle.core_meaning.specs.Source.{unlimited, at_start, called_name, starts, source_run}
use Rattle.core_meaning.specs.Laws.{NextGrows, HandlerGrows}
use Rattle.core_meaning.proofs.Growth.{grown_refl, calls_within_grow}
use Rattle.core_meaning.proofs.Alike.{Handlers, Nexts, CallsAlike, Steps, cond_alike, count_alike, alike}

-- the same state, with so much fuel at most
abbrev pub Equal : ℕ → State → State → Type 0
Equal most x y = (x ≡ y) × (x.fuel ≤ most)

abbrev pub At : ℕ → ℕ → Type 0
At d e = d ≡ e

abbrev pub is_spent : Ending → Bool
is_spent Ending.fuel_spent = true
is_spent e = false

-- P holds of every run that ends otherwise than by spent fuel, and of one that ends so with no fuel left
module _ (P : Run → Type 0) (plain : (e : Ending) → is_spent e ≡ false → (s : State) → P (ends e s)) (gone : (s : State) → s.fuel ≡ 0 → P (ends Ending.fuel_spent s)) where
  -- the same run, of which P holds
  abbrev pub One : Run → Run → Type 0
  One x y = (x ≡ y) × P x

  one_at : (e : Ending) → is_spent e ≡ false → (x y : State) → x ≡ y → One (ends e x) (ends e y)
  one_at e is x y p = (ap (ends e) p, plain e is x)

  module _ (program : Program) (limits : Limits) where
    module _ (most : ℕ) where
      builds_once : (n : ℕ) (x : State) (go to : State → Run) → x.fuel ≤ most → ((x y : State) → Equal most x y → One (go x) (to y)) → One (builds limits n x go) (builds limits n x to)
      unfolding builds
      builds_once n x go to le q =
          cond_alike One (passes (x.words + n) limits.heap) _ _ _ _ (one_at Ending.heap_full refl x x refl) (q (record x { words = x.words + n }) (record x { words = x.words + n }) (refl, le))

      pub steps : Steps program limits limits (Equal most) At One
      steps =
          record {
            sticks = λ x y p. one_at Ending.stuck refl x y p.0;
            works = λ n x y p. (ap (worked n) p.0, p.1);
            prints = λ ts x y p. (ap (printing ts) p.0, p.1);
            builds = λ n x y go to p q g. subst (λ y. One (builds limits n x go) (builds limits n y to)) p.0 (builds_once n x go to p.1 q);
          }

    abbrev pub SameCalls : ℕ → Calls → Calls → Type 0
    SameCalls most = CallsAlike program limits limits (Equal most) At One

    abbrev pub SameHandlers : ℕ → Handler → Handler → Type 0
    SameHandlers most = Handlers program limits limits (Equal most) At One

    abbrev pub SameNexts : ℕ → Next → Next → Type 0
    SameNexts most = Nexts program limits limits (Equal most) At One

    -- what holds with more fuel holds with less
    fewer_handlers : (less most : ℕ) (r s : Handler) → less ≤ most → SameHandlers most r s → SameHandlers less r s
    fewer_handlers less most r s le h = record { alike = λ class reason x y p. h.alike class reason x y (p.0, omega (arith, le, p.1)); grows = h.grows }

    fewer_nexts : (less most : ℕ) (k l : Next) → less ≤ most → SameNexts most k l → SameNexts less k l
    fewer_nexts less most k l le h = record { alike = λ ts x y p. h.alike ts x y (p.0, omega (arith, le, p.1)); grows = h.grows }

    enters_same : (most : ℕ) (f g : Calls) → SameCalls most f g → (n : ℕ) (o : Option Procedure) (captured ts : List Term) (d : ℕ) (x y : State) (r s : Handler) (k l : Next)
        → Equal most x y → SameHandlers most r s → SameNexts most k l → One (enters program limits f n o captured ts d x r k) (enters program limits g n o captured ts d y s l)
    enters_same most f g call n None captured ts d x y r s k l p h q = one_at Ending.stuck refl x y p.0
    enters_same most f g call n (Some m) captured ts d x y r s k l p h q =
        count_alike program limits limits (Equal most) At One (steps most) (length m.parameters) ts x y _ _ p
        (cond_alike One (passes (d + limits.frame n) limits.stack) _ _ _ _ (one_at Ending.stack_full refl x y p.0)
        (alike program limits limits (Equal most) At One (steps most) f g call m.body (at_entry program limits m captured ts (d + limits.frame n) d) (d + limits.frame n) d
        (entering (d + limits.frame n) (length captured) x) (entering (d + limits.frame n) (length captured) y) r s k l refl refl (ap (entering (d + limits.frame n) (length captured)) p.0, p.1) h q))

    -- the application finds no fuel, or one unit less is left
    module _ (n : ℕ) (captured ts : List Term) (d : ℕ) (x : State) (r s : Handler) (k l : Next) where
      abbrev entry : ℕ → Handler → Next → ℕ → Run
      entry b r k fuel = enters program limits (calls_within program limits b) n (slice_get program.procedures n) captured ts d (record x { fuel = fuel }) r k

      none_left : (y : Run) → x.fuel ≡ 0 → y ≡ ends Ending.fuel_spent x → One (ends Ending.fuel_spent x) y
      none_left y is p = (sym p, gone x is)

      no_fuel : (b : ℕ) (r : Handler) (k : Next) → x.fuel ≡ 0 → calls_within program limits b n captured ts d x r k ≡ ends Ending.fuel_spent x
      no_fuel zero r k is = refl
      no_fuel (suc b) r k is = ap (λ fuel. elim fuel [ zero ↦ ends Ending.fuel_spent x | suc f ↦ entry b r k f ]) is

      one_less : (b fuel : ℕ) (r : Handler) (k : Next) → x.fuel ≡ suc fuel → calls_within program limits (suc b) n captured ts d x r k ≡ entry b r k fuel
      one_less b fuel r k is = ap (λ fuel. elim fuel [ zero ↦ ends Ending.fuel_spent x | suc f ↦ entry b r k f ]) is

      applied : (most b c fuel : ℕ) → x.fuel ≡ fuel → most ≤ b → most ≤ c → fuel ≤ most
          → ((less b c : ℕ) → suc less ≤ most → less ≤ b → less ≤ c → SameCalls less (calls_within program limits b) (calls_within program limits c))
          → SameHandlers most r s → SameNexts most k l → One (calls_within program limits b n captured ts d x r k) (calls_within program limits c n captured ts d x s l)
      applied most b c zero is lb lc le ih h q =
          subst (λ z. One z (calls_within program limits c n captured ts d x s l)) (sym (no_fuel b r k is)) (none_left (calls_within program limits c n captured ts d x s l) is (no_fuel c s l is))
      applied most zero c (suc fuel) is lb lc le ih h q = absurd (omega (arith, lb, le))
      applied most (suc b) zero (suc fuel) is lb lc le ih h q = absurd (omega (arith, lc, le))
      applied most (suc b) (suc c) (suc fuel) is lb lc le ih h q =
          subst (λ z. One z (calls_within program limits (suc c) n captured ts d x s l)) (sym (one_less b fuel r k is))
          (subst (λ z. One (entry b r k fuel) z) (sym (one_less c fuel s l is))
          (enters_same fuel (calls_within program limits b) (calls_within program limits c) (ih fuel b c le (omega (arith, lb, le)) (omega (arith, lc, le))) n (slice_get program.procedures n) captured ts d (record x { fuel = fuel }) (record x { fuel = fuel }) r s k l
          (refl, omega arith) (fewer_handlers fuel most r s (omega (arith, le)) h) (fewer_nexts fuel most k l (omega (arith, le)) q)))

    -- by the fuel that there is at most
    same_below : (bound most b c : ℕ) → most ≤ bound → most ≤ b → most ≤ c → SameCalls most (calls_within program limits b) (calls_within program limits c)
    same_below zero most b c lm lb lc =
        record {
          alike = λ n captured ts d e x y r s k l i p h q.
              subst (λ e. One (calls_within program limits b n captured ts d x r k) (calls_within program limits c n captured ts e y s l)) i
              (subst (λ y. One (calls_within program limits b n captured ts d x r k) (calls_within program limits c n captured ts d y s l)) p.0
              (applied n captured ts d x r s k l most b c x.fuel refl lb lc p.1 (λ less b c lt _ _. absurd (omega (arith, lt, lm))) h q));
          grows = calls_within_grow program limits c;
        }
    same_below (suc bound) most b c lm lb lc =
        record {
          alike = λ n captured ts d e x y r s k l i p h q.
              subst (λ e. One (calls_within program limits b n captured ts d x r k) (calls_within program limits c n captured ts e y s l)) i
              (subst (λ y. One (calls_within program limits b n captured ts d x r k) (calls_within program limits c n captured ts d y s l)) p.0
              (applied n captured ts d x r s k l most b c x.fuel refl lb lc p.1 (λ less b c lt lb lc. same_below bound less b c (omega (arith, lt, lm)) lb lc) h q));
          grows = calls_within_grow program limits c;
        }

    pub same_calls : (most b c : ℕ) → most ≤ b → most ≤ c → SameCalls most (calls_within program limits b) (calls_within program limits c)
    same_calls most b c lb lc = same_below most most b c (omega arith) lb lc

  -- the run of a call
  module _ (program : Program) (limits : Limits) where
    at_end_handler : (most : ℕ) → SameHandlers program limits most (λ class reason s. ends (Ending.raised class reason) s) (λ class reason s. ends (Ending.raised class reason) s)
    at_end_handler most = record { alike = λ class reason x y p. one_at (Ending.raised class reason) refl x y p.0; grows = λ class reason s. grown_refl (Ending.raised class reason) s }

    at_end : (most : ℕ) → SameNexts program limits most (λ us s. ends (Ending.values us) s) (λ us s. ends (Ending.values us) s)
    at_end most = record { alike = λ us x y p. one_at (Ending.values us) refl x y p.0; grows = λ us s. grown_refl (Ending.values us) s }

    starts_once : (o : Option ℕ) (ts : List Term) (words fuel : ℕ) → One (starts program limits o ts words fuel) (starts program limits o ts words fuel)
    starts_once None ts words fuel = one_at (Ending.raised _ _) refl _ _ refl
    starts_once (Some n) ts words fuel =
        builds_once program limits fuel words (at_start fuel (length ts)) _ _ (omega arith)
        (λ x y p. enters_same program limits fuel (calls_within program limits fuel) (calls_within program limits fuel) (same_calls program limits fuel fuel fuel (omega arith) (omega arith)) n (slice_get program.procedures n) [] ts 0 x y _ _ _ _ p (at_end_handler fuel) (at_end fuel))

-- ---- the laws that follow

abbrev Gone : Run → Type 0
Gone x = x.ending ≡ Ending.fuel_spent → x.state.fuel ≡ 0

plain_is_gone : (e : Ending) → is_spent e ≡ false → (s : State) → Gone (ends e s)
plain_is_gone e plain s is = absurd (false≢true (sym plain ∙ ap is_spent is))

pub spent_fuel_is_gone : (m : Module) (c : Call) (fuel : ℕ) → (source_run m c fuel).ending ≡ Ending.fuel_spent → (source_run m c fuel).state.fuel ≡ 0
unfolding source_run
spent_fuel_is_gone m c fuel = (starts_once Gone plain_is_gone (λ s is _. is) (program_of m) (unlimited (program_of m)) (exported (program_of m) (called_name c)) (map term_of c.args) (sum (map words_of c.args)) fuel).1

abbrev Any : Run → Type 0
Any x = Unit {0}

same_handler : (program : Program) (limits : Limits) (most : ℕ) (r : Handler) → HandlerGrows r → SameHandlers Any (λ e is s. tt) (λ s is. tt) program limits most r r
same_handler program limits most r grows = record { alike = λ class reason x y p. (ap (r class reason) p.0, tt); grows = grows }

same_next : (program : Program) (limits : Limits) (most : ℕ) (k : Next) → NextGrows k → SameNexts Any (λ e is s. tt) (λ s is. tt) program limits most k k
same_next program limits most k grows = record { alike = λ ts x y p. (ap (k ts) p.0, tt); grows = grows }

-- a function is entered in the same way under every bound that is at least the fuel
pub enough : (program : Program) (limits : Limits) (b c n : ℕ) (o : Option Procedure) (captured ts : List Term) (d : ℕ) (s : State) (r : Handler) (k : Next)
    → s.fuel ≤ b → s.fuel ≤ c → HandlerGrows r → NextGrows k
    → enters program limits (calls_within program limits b) n o captured ts d s r k ≡ enters program limits (calls_within program limits c) n o captured ts d s r k
enough program limits b c n o captured ts d s r k lb lc gr gk =
    (enters_same Any (λ e is s. tt) (λ s is. tt) program limits s.fuel (calls_within program limits b) (calls_within program limits c) (same_calls Any (λ e is s. tt) (λ s is. tt) program limits s.fuel b c lb lc) n o captured ts d s s r r k k
    (refl, omega arith) (same_handler program limits s.fuel r gr) (same_next program limits s.fuel k gk)).0
