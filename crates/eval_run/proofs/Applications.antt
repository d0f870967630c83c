-- How functions are applied and entered.
use Rattle.std.proofs.Common.{◌≡◌, ℕ, zero, suc, ◌+◌, ◌-◌, ◌<◌, List, [], ◌∷◌, Option, Some, None, length, refl, sym, ap, ◌∙◌, arith}
use Rattle.std.specs.Prelude.{option_map, slice_get, sum, map}
use Rattle.hipe_terms.specs.declared.constant.Call.{Call}
use Rattle.hipe_terms.specs.Terms.{Term, term_of}
use Rattle.hipe_terms.specs.Words.{words_of}
use Rattle.hipe_terms.specs.Outcome.{bif_outcome}
use Rattle.core_ast.specs.Trees.{Module}
use Rattle.core_meaning.specs.Procedures.{Procedure, Program, claim_of, program_of}
use Rattle.core_meaning.specs.Meaning.{State, Ending, ends, with_count, entering, exported, own_function, arity_of, applies_named, calls, calls_own, performs, at_entry, enters, calls_within}
use Rattle.core_meaning.specs.Source.{unlimited, at_start, called_name, claim_if_any, starts, source_run}
use Rattle.std.proofs.lemmas.List.{length-map}
use Rattle.hipe_terms.specs.Bifs.{built_in}
use Rattle.hipe_terms.specs.declared.bif.Bif.{Bif}
use Rattle.eval_run.proofs.Contexts.{depth_is}
use Rattle.eval_run.specs.declared.frame.Frame.{Frame}
use Rattle.eval_values.specs.declared.value.Value.{Value}
use Rattle.eval_values.specs.Values.{term_in, terms_in}
use Rattle.eval_run.specs.Starts.{started}
use Rattle.eval_run.specs.Waiting.{Waiting, at_end, calls_by_fuel, enters_with, evaluates}
use Rattle.eval_run.specs.Configurations.{frames_wait, known}
use Rattle.eval_run.specs.declared.run.Evaluator.{Evaluator}
use Rattle.eval_procedures.specs.Shown.{procedure_in}
use Rattle.eval_run.proofs.Waits.{builds_more}
use Rattle.eval_run.specs.Counting.{more_words}
use Rattle.eval_run.proofs.Fuel.{enters_by_fuel}
use Rattle.eval_run.proofs.Grows.{end_grows, frames_grow}

module _ (program : Program) where
  pub enters_none : (n : ℕ) (captured ts : List Term) (d : ℕ) (s : State) (w : Waiting) → enters_with program n None captured ts d s w ≡ ends Ending.stuck s
  unfolding enters_with
  enters_none n captured ts d s w = refl

  pub enters_some : (n : ℕ) (f : Procedure) (captured ts : List Term) (d : ℕ) (s : State) (w : Waiting) → slice_get program.procedures n ≡ Some f
      → enters_with program n (Some f) captured ts d s w
      ≡ with_count (length f.parameters) ts s (evaluates program f.body (at_entry program (unlimited program) f captured ts (d + claim_of f) d) (entering (d + claim_of f) (length captured) s) w)
  unfolding enters_with evaluates
  enters_some n f captured ts d s w is =
      ap (λ o. with_count (length f.parameters) ts s (evaluates program f.body (at_entry program (unlimited program) f captured ts (d + claim_if_any o) d) (entering (d + claim_if_any o) (length captured) s) w)) is

  pub no_fuel : (n : ℕ) (captured ts : List Term) (d : ℕ) (s : State) (w : Waiting) → s.fuel ≡ 0 → calls_by_fuel program n captured ts d s w.handler w.next ≡ ends Ending.fuel_spent s
  unfolding calls_by_fuel
  no_fuel n captured ts d s w is = ap (λ b. calls_within program (unlimited program) b n captured ts d s w.handler w.next) is

  some_fuel : (f n : ℕ) (captured ts : List Term) (d : ℕ) (s : State) (w : Waiting) → s.fuel ≡ suc f
      → calls_by_fuel program n captured ts d s w.handler w.next
      ≡ enters program (unlimited program) (calls_within program (unlimited program) f) n (slice_get program.procedures n) captured ts d (record s { fuel = f }) w.handler w.next
  unfolding calls_by_fuel
  some_fuel f n captured ts d s w is =
      ap (λ b. calls_within program (unlimited program) b n captured ts d s w.handler w.next) is
      ∙ ap (λ b. elim b [ zero ↦ ends Ending.fuel_spent s | suc g ↦ enters program (unlimited program) (calls_within program (unlimited program) f) n (slice_get program.procedures n) captured ts d (record s { fuel = g }) w.handler w.next ]) is

  -- one unit of fuel is spent where a function is applied
  pub fuel_left : (n : ℕ) (captured ts : List Term) (d : ℕ) (s : State) (fs : List Frame) → 0 < s.fuel
      → calls_by_fuel program n captured ts d s (frames_wait program fs).handler (frames_wait program fs).next
      ≡ enters_with program n (slice_get program.procedures n) captured ts d (record s { fuel = s.fuel - 1 }) (frames_wait program fs)
  unfolding enters_with
  fuel_left n captured ts d s fs lt =
      some_fuel (s.fuel - 1) n captured ts d s (frames_wait program fs) (omega arith)
      ∙ enters_by_fuel program (s.fuel - 1) n (slice_get program.procedures n) captured ts d (record s { fuel = s.fuel - 1 }) (frames_wait program fs).handler (frames_wait program fs).next (omega arith) (frames_grow program fs).handler (frames_grow program fs).next

  starts_is : (o : Option ℕ) (ts : List Term) (words fuel : ℕ) → starts program (unlimited program) o ts words fuel ≡ started program o ts words (at_start fuel (length ts))
  unfolding enters_with
  starts_is None ts words fuel = refl
  starts_is (Some n) ts words fuel =
      builds_more program words (at_start fuel (length ts)) _
      ∙ enters_by_fuel program fuel n (slice_get program.procedures n) [] ts 0 (more_words words (at_start fuel (length ts))) at_end.handler at_end.next (omega arith) (end_grows program).handler (end_grows program).next

source_is : (m : Module) (c : Call) (fuel : ℕ) → source_run m c fuel ≡ started (program_of m) (exported (program_of m) (called_name c)) (map term_of c.args) (sum (map words_of c.args)) (at_start fuel (length (map term_of c.args)))
unfolding source_run
source_is m c fuel = starts_is (program_of m) (exported (program_of m) (called_name c)) (map term_of c.args) (sum (map words_of c.args)) fuel

-- the run of a call, where these values are its constants
pub started_is : (program : Program) (m : Module) (c : Call) (fuel : ℕ) (vs : List Value) → program ≡ program_of m → terms_in vs ≡ map term_of c.args
    → started program (exported program (record { name = c.name; arity = length vs })) (terms_in vs) (sum (map words_of c.args)) (at_start fuel (length vs)) ≡ source_run m c fuel
started_is program m c fuel vs is as_terms =
    let n : length vs ≡ length c.args = sym (length-map vs term_in) ∙ ap length as_terms ∙ length-map c.args term_of in
    let k : length c.args ≡ length (map term_of c.args) = sym (length-map c.args term_of) in
    ap (λ p. started p (exported p (record { name = c.name; arity = length vs })) (terms_in vs) (sum (map words_of c.args)) (at_start fuel (length vs))) is
    ∙ ap (λ l. started (program_of m) (exported (program_of m) (record { name = c.name; arity = l })) (terms_in vs) (sum (map words_of c.args)) (at_start fuel l)) n
    ∙ ap (λ ts. started (program_of m) (exported (program_of m) (called_name c)) ts (sum (map words_of c.args)) (at_start fuel (length c.args))) as_terms
    ∙ ap (λ l. started (program_of m) (exported (program_of m) (called_name c)) (map term_of c.args) (sum (map words_of c.args)) (at_start fuel l)) k
    ∙ sym (source_is m c fuel)

-- ---- calls

module _ (program : Program) where
  pub named_none : (ts : List Term) (d : ℕ) (s : State) (w : Waiting) → applies_named (calls_by_fuel program) None ts d s w.handler w.next ≡ ends Ending.stuck s
  unfolding applies_named
  named_none ts d s w = refl

  pub named_some : (n : ℕ) (us ts : List Term) (d : ℕ) (s : State) (w : Waiting) → applies_named (calls_by_fuel program) (Some (n, us)) ts d s w.handler w.next ≡ calls_by_fuel program n us ts d s w.handler w.next
  unfolding applies_named
  named_some n us ts d s w = refl

  pub called_bif : (m f : List ℕ) (b : Bif) (ts : List Term) (d : ℕ) (s : State) (w : Waiting) → built_in m f (length ts) ≡ Some b
      → calls program (unlimited program) (calls_by_fuel program) m f ts d s w.handler w.next ≡ performs (unlimited program) (bif_outcome (arity_of program) b ts) s w.handler w.next
  unfolding calls
  called_bif m f b ts d s w is =
      ap (λ o. elim o [ Some b ↦ performs (unlimited program) (bif_outcome (arity_of program) b ts) s w.handler w.next | None ↦ calls_own program (unlimited program) (calls_by_fuel program) (own_function program m f (length ts)) ts d s w.handler w.next ]) is

  pub called_own : (m f : List ℕ) (ts : List Term) (d : ℕ) (s : State) (w : Waiting) → built_in m f (length ts) ≡ None
      → calls program (unlimited program) (calls_by_fuel program) m f ts d s w.handler w.next ≡ calls_own program (unlimited program) (calls_by_fuel program) (own_function program m f (length ts)) ts d s w.handler w.next
  unfolding calls
  called_own m f ts d s w is =
      ap (λ o. elim o [ Some b ↦ performs (unlimited program) (bif_outcome (arity_of program) b ts) s w.handler w.next | None ↦ calls_own program (unlimited program) (calls_by_fuel program) (own_function program m f (length ts)) ts d s w.handler w.next ]) is

pub found_in : {A B : Type 0} (f : A → B) (xs : List A) (n : ℕ) → slice_get (map f xs) n ≡ option_map f (slice_get xs n)
found_in f [] n = refl
found_in f (x ∷ xs) zero = refl
found_in f (x ∷ xs) (suc n) = found_in f xs n

pub known_procedure : (m : Evaluator) (n : ℕ) → slice_get (known m).procedures n ≡ option_map procedure_in (slice_get m.program.now.procedures.now n)
unfolding known
known_procedure m n = found_in procedure_in m.program.now.procedures.now n

pub ruleset applying = (no_fuel, fuel_left)

module _ (program : Program) where
  pub entered_none : (n : ℕ) (captured ts : List Term) (d : ℕ) (s : State) (w : Waiting) → slice_get program.procedures n ≡ None → enters_with program n (slice_get program.procedures n) captured ts d s w ≡ ends Ending.stuck s
  entered_none n captured ts d s w is = ap (λ o. enters_with program n o captured ts d s w) is ∙ enters_none program n captured ts d s w

  pub entered_some : (n : ℕ) (f : Procedure) (captured ts : List Term) (d : ℕ) (s : State) (w : Waiting) → slice_get program.procedures n ≡ Some f
      → enters_with program n (slice_get program.procedures n) captured ts d s w
      ≡ with_count (length f.parameters) ts s (evaluates program f.body (at_entry program (unlimited program) f captured ts (d + claim_of f) d) (entering (d + claim_of f) (length captured) s) w)
  entered_some n f captured ts d s w is = ap (λ o. enters_with program n o captured ts d s w) is ∙ enters_some program n f captured ts d s w is

pub ruleset procedures = (known_procedure)

pub ruleset entering_functions = (entered_none, entered_some)

pub ruleset names_applied = (depth_is, named_none, named_some)

pub ruleset calling = (length-map, called_bif, called_own)
