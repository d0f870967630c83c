-- Applications, where each has at most as many below it as there is fuel.
use Rattle.std.proofs.Common.{◌≡◌, ℕ, ◌+◌, ◌≤◌, List, Option, Some, None, length, refl, ap, subst, arith}
use Rattle.hipe_terms.specs.Terms.{Term}
use Rattle.core_meaning.specs.Procedures.{Procedure, Program}
use Rattle.core_meaning.specs.Meaning.{State, Run, Next, Handler, entering, at_entry, enters, calls_within}
use Rattle.core_meaning.specs.Laws.{NextGrows, HandlerGrows}
use Rattle.core_meaning.specs.Source.{unlimited}
use Rattle.core_meaning.proofs.Growth.{calls_within_grow, CallGrows}
use Rattle.core_meaning.proofs.Alike.{Handlers, Nexts, CallsAlike, count_alike, alike}
use Rattle.core_meaning.proofs.Depth.{Equal, At, One, steps, same_calls}
use Rattle.eval_run.specs.Waiting.{calls_by_fuel}

abbrev Any : Run → Type 0
Any x = Unit {0}

-- the same run
abbrev Same : Run → Run → Type 0
Same = One Any (λ e is s. tt) (λ s is. tt)

module _ (program : Program) where
  abbrev SameHandlers : ℕ → Handler → Handler → Type 0
  SameHandlers most = Handlers program (unlimited program) (unlimited program) (Equal most) At Same

  abbrev SameNexts : ℕ → Next → Next → Type 0
  SameNexts most = Nexts program (unlimited program) (unlimited program) (Equal most) At Same

  fewer_handlers : (less most : ℕ) (r s : Handler) → less ≤ most → SameHandlers most r s → SameHandlers less r s
  fewer_handlers less most r s le h = record { alike = λ class reason x y p. h.alike class reason x y (p.0, omega (arith, le, p.1)); grows = h.grows }

  fewer_nexts : (less most : ℕ) (k l : Next) → less ≤ most → SameNexts most k l → SameNexts less k l
  fewer_nexts less most k l le h = record { alike = λ ts x y p. h.alike ts x y (p.0, omega (arith, le, p.1)); grows = h.grows }

  pub by_fuel_grows : CallGrows (calls_by_fuel program)
  unfolding calls_by_fuel
  by_fuel_grows n captured ts d s r k gr gk = calls_within_grow program (unlimited program) s.fuel n captured ts d s r k gr gk

  -- where there is at most so much fuel, the bound is enough
  same_by_fuel : (b most : ℕ) → most ≤ b → CallsAlike program (unlimited program) (unlimited program) (Equal most) At Same (calls_within program (unlimited program) b) (calls_by_fuel program)
  unfolding calls_by_fuel
  same_by_fuel b most le =
      record {
        alike = λ n captured ts d e x y r s k l i p h q.
            subst (λ m. Same (calls_within program (unlimited program) b n captured ts d x r k) (calls_within program (unlimited program) m n captured ts e y s l)) (ap (λ z. z.fuel) p.0)
            ((same_calls Any (λ e is s. tt) (λ s is. tt) program (unlimited program) x.fuel b x.fuel (omega (arith, le, p.1)) (omega arith)).alike n captured ts d e x y r s k l i (p.0, omega arith) (fewer_handlers x.fuel most r s p.1 h) (fewer_nexts x.fuel most k l p.1 q));
        grows = by_fuel_grows;
      }

  same_handler : (most : ℕ) (r : Handler) → HandlerGrows r → SameHandlers most r r
  same_handler most r grows = record { alike = λ class reason x y p. (ap (r class reason) p.0, tt); grows = grows }

  same_next : (most : ℕ) (k : Next) → NextGrows k → SameNexts most k k
  same_next most k grows = record { alike = λ ts x y p. (ap (k ts) p.0, tt); grows = grows }

  enters_same : (most b n : ℕ) (o : Option Procedure) (captured ts : List Term) (d : ℕ) (s : State) (r : Handler) (k : Next) → most ≤ b → s.fuel ≤ most → HandlerGrows r → NextGrows k
      → Same (enters program (unlimited program) (calls_within program (unlimited program) b) n o captured ts d s r k) (enters program (unlimited program) (calls_by_fuel program) n o captured ts d s r k)
  enters_same most b n None captured ts d s r k lb ls gr gk = (refl, tt)
  enters_same most b n (Some m) captured ts d s r k lb ls gr gk =
      count_alike program (unlimited program) (unlimited program) (Equal most) At Same (steps Any (λ e is s. tt) (λ s is. tt) program (unlimited program) most) (length m.parameters) ts s s _ _ (refl, ls)
      (alike program (unlimited program) (unlimited program) (Equal most) At Same (steps Any (λ e is s. tt) (λ s is. tt) program (unlimited program) most) (calls_within program (unlimited program) b) (calls_by_fuel program) (same_by_fuel b most lb)
      m.body (at_entry program (unlimited program) m captured ts (d + (unlimited program).frame n) d) (d + (unlimited program).frame n) d
      (entering (d + (unlimited program).frame n) (length captured) s) (entering (d + (unlimited program).frame n) (length captured) s) r r k k refl refl (refl, ls) (same_handler most r gr) (same_next most k gk))

  -- a function is entered in the same way
  pub enters_by_fuel : (b n : ℕ) (o : Option Procedure) (captured ts : List Term) (d : ℕ) (s : State) (r : Handler) (k : Next) → s.fuel ≤ b → HandlerGrows r → NextGrows k
      → enters program (unlimited program) (calls_within program (unlimited program) b) n o captured ts d s r k ≡ enters program (unlimited program) (calls_by_fuel program) n o captured ts d s r k
  enters_by_fuel b n o captured ts d s r k le gr gk = (enters_same s.fuel b n o captured ts d s r k le (omega arith) gr gk).0
