-- The names of a module's definitions, in its tree and in what a run knows of it.
use Rattle.std.proofs.Common.{◌≡◌, ◌≢◌, ℕ, List, [], ◌∷◌, length, map, refl, sym, ap, ◌∙◌, subst, arith}
use Rattle.std.specs.Prelude.{IsSome, IfOk, Result, string_bytes}
use Rattle.hipe_terms.specs.Shown.{Names}
use Rattle.hipe_terms.specs.Terms.{Term}
use Rattle.core_ast.specs.declared.tree.FunDef.{FunDef}
use Rattle.core_ast.specs.Trees.{definition_of, definitions}
use Rattle.core_meaning.specs.Scopes.{function_names}
use Rattle.core_meaning.specs.Meaning as Meant
use Rattle.eval_run.specs.declared.frame.Ending.{Ending}
use Rattle.eval_run.specs.declared.frame.Ending.TheVariants as Endings
use Rattle.eval_run.specs.declared.run.Evaluation.{Evaluation}
use Rattle.eval_run.specs.Configurations.{ending_in}
use Rattle.eval_run.specs.Evaluations.{run_in}
use Rattle.eval_values.specs.Values.{terms_in}
use Rattle.core_soundness.specs.Laws.{NeverSticks}
use Rattle.eval_source.specs.declared.lines.Lines.{Lines}
use Rattle.eval_source.specs.Texts.{Writes, ending_line}
use Rattle.eval_text.specs.Named.{names_of}

pub same_names : (defs : List FunDef) → map (λ f. (f.name, f.arity)) (function_names (definitions (map definition_of defs))) ≡ names_of defs
same_names [] = refl
same_names (d ∷ defs) = ap (λ ns. (((definition_of d).name).name, ((definition_of d).name).arity) ∷ ns) (same_names defs)

-- an evaluation that isn't stuck, and ends with one value where it ends with values, has a line for its end
ending_has_line : (names : Names) (e : Ending) → ending_in e ≢ Meant.Ending.stuck → ((ts : List Term) → ending_in e ≡ Meant.Ending.values ts → length ts ≡ 1) → IsSome (ending_line names (ending_in e))
ending_has_line names (Endings.Values []) n one = absurd (let h : 0 ≡ 1 = one [] refl in omega (arith, h))
ending_has_line names (Endings.Values (t ∷ [])) n one = refl
ending_has_line names (Endings.Values (t ∷ u ∷ ts)) n one = absurd (let h : length (terms_in (t ∷ u ∷ ts)) ≡ 1 = one (terms_in (t ∷ u ∷ ts)) refl in omega (arith, h))
ending_has_line names (Endings.Raised class reason) n one = refl
ending_has_line names Endings.FuelSpent n one = refl
ending_has_line names Endings.Stuck n one = absurd (n refl)

pub has_line : (names : Names) (v : Evaluation) (meant : Meant.Run) → run_in v ≡ meant → NeverSticks meant → IsSome (ending_line names (ending_in v.ending))
has_line names v meant is never = let k : NeverSticks (run_in v) = subst NeverSticks (sym is) never in ending_has_line names v.ending k.not_stuck k.one_value

pub names_are : (defs shown : List FunDef) → shown ≡ defs → names_of shown ≡ map (λ f. (f.name, f.arity)) (function_names (definitions (map definition_of defs)))
names_are defs shown e = ap names_of e ∙ sym (same_names defs)

pub writes_same : {E : Type 0} (result : Result Lines E) (names shown : Names) (fuel : ℕ) (run meant : Meant.Run) → names ≡ shown → run ≡ meant
    → IfOk result (λ l. Writes names fuel run (string_bytes l.text) l.status) → IfOk result (λ l. Writes shown fuel meant (string_bytes l.text) l.status)
writes_same result names shown fuel run meant n r w =
    subst (λ m. IfOk result (λ l. Writes m fuel meant (string_bytes l.text) l.status)) n (subst (λ x. IfOk result (λ l. Writes names fuel x (string_bytes l.text) l.status)) r w)
