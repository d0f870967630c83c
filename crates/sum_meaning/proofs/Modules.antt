-- The run of a module of a sum.
use Rattle.std.proofs.Common.{◌≡◌, ℕ, zero, suc, ◌≤◌, ℤ, Bool, true, false, ◌||◌, List, [], ◌∷◌, map, length, Some, None, Ok, refl, sym, ap, ◌∙◌, subst, arith, Contains}
use Rattle.std.specs.Prelude.{sum, if◌then◌else◌}
use Rattle.std.specs.List.{list_any}
use Rattle.std.proofs.Math.Bool.{or-true}
use Rattle.hipe_terms.specs.declared.place.Place.{Place}
use Rattle.hipe_terms.specs.declared.constant.Constant.{Constant}
use Rattle.hipe_terms.specs.declared.constant.Call.{Call}
use Rattle.hipe_terms.specs.Terms.{term_of}
use Rattle.hipe_terms.specs.Words.{words_of}
use Rattle.core_ast.specs.declared.tree.FunName.{FunName}
use Rattle.core_ast.specs.Trees.{Expression, no_definition, and_definition, Module}
use Rattle.core_ast.specs.Names.{is_named}
use Rattle.core_ast.specs.Good.{IsGood}
use Rattle.core_ast.specs.Places.{place_of}
use Rattle.core_sum.specs.declared.sum.Sum.{Sum}
use Rattle.core_sum.specs.Sums.{value, count_of, HasSmallIntegers}
use Rattle.core_sum.specs.Form.{main, IsSum, IsSumModule, Exports}
use Rattle.core_sum.specs.Made.{has_main, alone, sum_of_definitions}
use Rattle.core_sum.proofs.Forms.{there, small_integers}
use Rattle.core_sum.proofs.Modules.{answered, not_exported}
use Rattle.core_meaning.specs.Procedures.{Program, program_of}
use Rattle.core_meaning.specs.Meaning.{State, Ending, Run, builds, with_count, ends, exported, calls_within}
use Rattle.core_meaning.specs.Source.{called_name, unlimited, starts, source_run}
use Rattle.sum_meaning.specs.Returning.{Returns, SumsAreReturned}
use Rattle.sum_meaning.proofs.Runs.{GoesOn, evaluated}

-- the exports hold 'main'/0
main_exported : (m : Module) → Exports m main → has_main m.exports ≡ true
main_exported m h = go (has_main m.exports) refl where
  go : (b : Bool) → has_main m.exports ≡ b → b ≡ true
  go true is = refl
  go false is = absurd (not_exported m is h)

-- the call finds the function
any_main : (fs : List FunName) → Contains fs main → list_any (λ g. is_named main g) fs ≡ true
any_main [] h = absurd (omega (arith, h.1))
any_main (f ∷ fs) (zero, l, is) = ap (λ g. is_named main g || list_any (λ h. is_named main h) fs) is
any_main (f ∷ fs) (suc k, l, is) = ap (λ b. is_named main f || b) (any_main fs (k, omega (arith, l), is)) ∙ or-true (is_named main f)

few : (m : Module) → IsGood m → (e : Sum) → IsSumModule m e → count_of e ≤ 32768
few m good e is = (answered m good (main_exported m is.exported) (Ok e) (ap sum_of_definitions is.only ∙ ap (λ o. alone o (place_of is.body) no_definition) (there is.body e is.made))).3

no_arguments : (xs : List Constant) → length xs ≡ 0 → xs ≡ []
no_arguments [] h = refl
no_arguments (x ∷ xs) h = absurd (omega (arith, h))

returned : (run : Run) (s : State) (n : ℤ) → GoesOn run (λ us s. ends (Ending.values us) s) n s → s.printed ≡ [] → s.words ≡ 0 → Returns run n s.fuel
returned run s n (t, is, quiet) printed words =
    record {
      ending = ap (λ x. x.ending) is;
      printed = ap (λ x. x.state.printed) is ∙ quiet.printed ∙ printed;
      words = ap (λ x. x.state.words) is ∙ quiet.words ∙ words;
      fuel_left = ap (λ x. x.state.fuel) is ∙ quiet.fuel;
    }

module _ (m : Module) (p q : Place) (body : Expression) where
  -- the module with this function alone
  abbrev alone_in : Module
  alone_in = record { name = m.name; exports = m.exports; attributes = m.attributes; definitions = and_definition p main q [] body no_definition }

  abbrev program : Program
  program = program_of alone_in

  started : (e : Sum) (fuel : ℕ) → IsSum body e → HasSmallIntegers e → count_of e ≤ 32768 → Returns (starts program (unlimited program) (Some 0) [] 0 fuel) (value e) fuel
  unfolding builds with_count
  started e fuel made small few = returned _ _ (value e) (evaluated program (calls_within program (unlimited program) fuel) body e made small few _ _ _ _) refl refl

  runs : (c : Call) (fuel : ℕ) → Exports m main → called_name c ≡ main → source_run alone_in c fuel ≡ starts program (unlimited program) (Some 0) [] 0 fuel
  unfolding source_run
  runs c fuel exports named =
      ap (λ f. starts program (unlimited program) (exported program f) (map term_of c.args) (sum (map words_of c.args)) fuel) named
      ∙ ap (λ xs. starts program (unlimited program) (exported program main) (map term_of xs) (sum (map words_of xs)) fuel) (no_arguments c.args (ap (λ f. f.arity) named))
      ∙ ap (λ b. starts program (unlimited program) (if b then Some 0 else None) [] 0 fuel) (any_main (map (λ e. e.0) m.exports) exports)

  run_returns : (e : Sum) (c : Call) (fuel : ℕ) → IsSum body e → HasSmallIntegers e → count_of e ≤ 32768 → Exports m main → called_name c ≡ main → Returns (source_run alone_in c fuel) (value e) fuel
  run_returns e c fuel made small few exports named = subst (λ x. Returns x (value e) fuel) (sym (runs c fuel exports named)) (started e fuel made small few)

pub sums_are_returned : SumsAreReturned
sums_are_returned m good e is c named fuel =
    subst (λ ds. Returns (source_run (record { name = m.name; exports = m.exports; attributes = m.attributes; definitions = ds }) c fuel) (value e) fuel) (sym is.only)
    (run_returns m is.name_at is.fun_at is.body e c fuel is.made (small_integers is.body e is.made) (few m good e is) is.exported named)
