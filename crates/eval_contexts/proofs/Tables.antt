-- What a run knows of a module.
use Rattle.std.proofs.Common.{◌≡◌, ℕ, zero, suc, List, [], ◌∷◌, map, length, refl, sym, ap, ◌∙◌}
use Rattle.std.specs.Prelude.{slice_get}
use Rattle.std.proofs.Math.Path.{fun_ext}
use Rattle.std.proofs.lemmas.List.{length-map}
use Rattle.core_meaning.specs.Meaning.{arity_of, parameters_of}
use Rattle.eval_procedures.specs.Shown.{procedures_in}
use Rattle.eval_procedures.specs.declared.procedure.Procedure.{Procedure}
use Rattle.eval_values.specs.Results.{arities_in}
use Rattle.eval_contexts.specs.Programs.{program_in}
use Rattle.eval_contexts.specs.declared.program.Program.{Program}

-- the number of parameters of each function
abbrev pub counts : List Procedure → List ℕ
counts fs = map (λ f. length f.parameters.now) fs

count_at : (fs : List Procedure) (n : ℕ) → arities_in (counts fs) n ≡ parameters_of (slice_get (procedures_in fs) n)
count_at [] n = refl
count_at (f ∷ fs) zero = sym (length-map f.parameters.now (λ x. x.name))
count_at (f ∷ fs) (suc n) = count_at fs n

pub arity_at : (p : Program) (n : ℕ) → arities_in p.arities.now n ≡ arity_of (program_in p) n
arity_at p n = ap (λ l. arities_in l n) p.counted ∙ count_at p.procedures.now n

pub arities_are : (p : Program) → arities_in p.arities.now ≡ arity_of (program_in p)
arities_are p = fun_ext (arity_at p)
