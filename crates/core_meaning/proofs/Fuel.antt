-- What more fuel changes.
use Rattle.std.proofs.Common.{◌≡◌, ℕ, zero, suc, ◌+◌, ◌≤◌, List, [], Option, Some, None, refl, sym, ap, ◌∙◌, subst, arith}
use Rattle.std.specs.Prelude.{length, slice_get, sum, map}
use Rattle.hipe_terms.specs.declared.constant.Call.{Call}
use Rattle.hipe_terms.specs.Terms.{Term, term_of}
use Rattle.hipe_terms.specs.Words.{words_of}
use Rattle.core_ast.specs.Trees.{Module}
use Rattle.core_meaning.specs.Procedures.{Procedure, Program, program_of}
use Rattle.core_meaning.specs.Meaning.{State, Ending, Run, ends, Limits, Next, Handler, Calls, passes, worked, printing, entering, builds, exported, at_entry, enters, calls_within}
use Rattle.core_meaning.specs.Source.{unlimited, at_start, called_name, starts, source_run}
use Rattle.core_meaning.specs.Laws.{Later, Grown, Agrees, same, spent}
use Rattle.core_meaning.proofs.Growth.{grown_refl, grown_then, spent_later, fuel_grows, enters_grows, calls_within_grow}
use Rattle.core_meaning.proofs.Alike.{Handlers, Nexts, CallsAlike, Steps, cond_alike, count_alike, alike}

-- the same but for fuel, of which the second has so much more
abbrev More : ℕ → State → State → Type 0
More extra x y = y ≡ record x { fuel = x.fuel + extra }

abbrev Equal : ℕ → ℕ → Type 0
Equal d e = d ≡ e

module _ (program : Program) (limits : Limits) (extra : ℕ) where
  abbrev Ends : Run → Run → Type 0
  Ends = Agrees extra

  abbrev MoreCalls : Calls → Calls → Type 0
  MoreCalls = CallsAlike program limits limits (More extra) Equal Ends

  spent_before : (x y : State) (z : Run) → More extra x y → Grown y z → Ends (ends Ending.fuel_spent x) z
  spent_before x y z p g =
      let l : Later (record x { fuel = x.fuel + extra }) z.state = subst (λ y. Later y z.state) p g.later in
      spent refl l.words l.claim l.work l.printed

  builds_more : (n : ℕ) (x : State) (go to : State → Run) → ((x y : State) → More extra x y → Ends (go x) (to y)) → Ends (builds limits n x go) (builds limits n (record x { fuel = x.fuel + extra }) to)
  unfolding builds
  builds_more n x go to q =
      cond_alike Ends (passes (x.words + n) limits.heap) _ _ _ _ (same refl refl) (q (record x { words = x.words + n }) (record x { words = x.words + n; fuel = x.fuel + extra }) refl)

  steps : Steps program limits limits (More extra) Equal Ends
  steps =
      record {
        sticks = λ x y p. same refl p;
        works = λ n x y p. ap (worked n) p;
        prints = λ ts x y p. ap (printing ts) p;
        builds = λ n x y go to p q g. subst (λ y. Ends (builds limits n x go) (builds limits n y to)) (sym p) (builds_more n x go to q);
      }

  enters_more : (f g : Calls) → MoreCalls f g → (n : ℕ) (o : Option Procedure) (captured ts : List Term) (d : ℕ) (x y : State) (r s : Handler) (k l : Next)
      → More extra x y → Handlers program limits limits (More extra) Equal Ends r s → Nexts program limits limits (More extra) Equal Ends k l
      → Ends (enters program limits f n o captured ts d x r k) (enters program limits g n o captured ts d y s l)
  enters_more f g call n None captured ts d x y r s k l p h q = same refl p
  enters_more f g call n (Some m) captured ts d x y r s k l p h q =
      count_alike program limits limits (More extra) Equal Ends steps (length m.parameters) ts x y _ _ p
      (cond_alike Ends (passes (d + limits.frame n) limits.stack) _ _ _ _ (same refl p)
      (alike program limits limits (More extra) Equal Ends steps f g call m.body (at_entry program limits m captured ts (d + limits.frame n) d) (d + limits.frame n) d
      (entering (d + limits.frame n) (length captured) x) (entering (d + limits.frame n) (length captured) y) r s k l refl refl
      (ap (entering (d + limits.frame n) (length captured)) p) h q))

  -- an application spends a unit of fuel, where there is one
  module _ (b c : ℕ) (call : MoreCalls (calls_within program limits b) (calls_within program limits c)) (n : ℕ) (captured ts : List Term) (d : ℕ) (x : State) (r s : Handler) (k l : Next)
      (h : Handlers program limits limits (More extra) Equal Ends r s) (q : Nexts program limits limits (More extra) Equal Ends k l) where
    abbrev left : ℕ → Run
    left fuel = enters program limits (calls_within program limits b) n (slice_get program.procedures n) captured ts d (record x { fuel = fuel }) r k

    abbrev right : ℕ → Run
    right fuel = enters program limits (calls_within program limits c) n (slice_get program.procedures n) captured ts d (record x { fuel = fuel }) s l

    abbrev y : State
    y = record x { fuel = x.fuel + extra }

    right_grows : (fuel : ℕ) → y.fuel ≡ fuel → Grown y (elim fuel [ zero ↦ ends Ending.fuel_spent y | suc f ↦ right f ])
    right_grows fuel is =
        fuel_grows program limits fuel y (ends Ending.fuel_spent y) right (grown_refl Ending.fuel_spent y)
        (λ f p. grown_then (spent_later f y (is ∙ p)) (enters_grows program limits (calls_within program limits c) (calls_within_grow program limits c) n (slice_get program.procedures n) captured ts d (record x { fuel = f }) s l h.grows q.grows))

    spends : (fuel : ℕ) → x.fuel ≡ fuel → Ends (elim fuel [ zero ↦ ends Ending.fuel_spent x | suc f ↦ left f ]) (elim (fuel + extra) [ zero ↦ ends Ending.fuel_spent y | suc f ↦ right f ])
    spends zero is = spent_before x y (elim (zero + extra) [ zero ↦ ends Ending.fuel_spent y | suc f ↦ right f ]) refl (right_grows (zero + extra) (ap (λ f. f + extra) is))
    spends (suc f) is =
        let p : suc f + extra ≡ suc (f + extra) = omega arith in
        subst (λ g. Ends (left f) (elim g [ zero ↦ ends Ending.fuel_spent y | suc f ↦ right f ])) (sym p)
        (enters_more (calls_within program limits b) (calls_within program limits c) call n (slice_get program.procedures n) captured ts d (record x { fuel = f }) (record x { fuel = f + extra }) r s k l refl h q)

  calls_more : (b c : ℕ) → b ≤ c → MoreCalls (calls_within program limits b) (calls_within program limits c)
  calls_more zero c le =
      record {
        alike = λ n captured ts d e x y r s k l i p h q. spent_before x y _ p (calls_within_grow program limits c n captured ts e y s l h.grows q.grows);
        grows = calls_within_grow program limits c;
      }
  calls_more (suc b) zero le = absurd (omega (arith, le))
  calls_more (suc b) (suc c) le =
      record {
        alike = λ n captured ts d e x y r s k l i p h q.
            subst (λ e. Ends (calls_within program limits (suc b) n captured ts d x r k) (calls_within program limits (suc c) n captured ts e y s l)) i
            (subst (λ y. Ends (calls_within program limits (suc b) n captured ts d x r k) (calls_within program limits (suc c) n captured ts d y s l)) (sym p)
            (spends b c (calls_more b c (omega (arith, le))) n captured ts d x r s k l h q x.fuel refl));
        grows = calls_within_grow program limits (suc c);
      }

  at_end_handlers : Handlers program limits limits (More extra) Equal Ends (λ class reason s. ends (Ending.raised class reason) s) (λ class reason s. ends (Ending.raised class reason) s)
  at_end_handlers = record { alike = λ class reason x y p. same refl p; grows = λ class reason s. grown_refl (Ending.raised class reason) s }

  at_end : Nexts program limits limits (More extra) Equal Ends (λ us s. ends (Ending.values us) s) (λ us s. ends (Ending.values us) s)
  at_end = record { alike = λ us x y p. same refl p; grows = λ us s. grown_refl (Ending.values us) s }

  starts_more : (o : Option ℕ) (ts : List Term) (words fuel : ℕ) → Ends (starts program limits o ts words fuel) (starts program limits o ts words (fuel + extra))
  starts_more None ts words fuel = same refl refl
  starts_more (Some n) ts words fuel =
      builds_more words (at_start fuel (length ts)) _ _
      (λ x y p. enters_more (calls_within program limits fuel) (calls_within program limits (fuel + extra)) (calls_more fuel (fuel + extra) (omega arith)) n (slice_get program.procedures n) [] ts 0 x y _ _ _ _ p at_end_handlers at_end)

pub more_fuel : (m : Module) (c : Call) (fuel extra : ℕ) → Agrees extra (source_run m c fuel) (source_run m c (fuel + extra))
unfolding source_run
more_fuel m c fuel extra = starts_more (program_of m) (unlimited (program_of m)) extra (exported (program_of m) (called_name c)) (map term_of c.args) (sum (map words_of c.args)) fuel
