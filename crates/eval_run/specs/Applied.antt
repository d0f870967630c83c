-- Functions that are applied and entered.
use Rattle.std.specs.Prelude.{ℕ, ◌+◌, ◌*◌, ◌==◌, if◌then◌else◌, List, length, codes}
use Rattle.hipe_terms.specs.Terms.{Term, atom, nil, cells}
use Rattle.hipe_terms.specs.declared.class.Class.TheVariants.{Error}
use Rattle.core_meaning.specs.Meaning.{State, Run, arity_of, at_entry, entering, pair, with_count}
use Rattle.core_meaning.specs.Procedures.{Procedure, Program, claim_of}
use Rattle.core_meaning.specs.Source.{unlimited}
use Rattle.eval_run.specs.Counting.{more_words}
use Rattle.eval_run.specs.Waiting.{Waiting, calls_by_fuel, evaluates}

-- a fun is applied to another number of arguments than it has parameters
abbrev pub bad_arity : Term → List Term → State → Waiting → Run
bad_arity t ts s w = w.handler Error (pair (atom (codes "badarity")) (pair t (cells ts nil))) (more_words (6 + 2 * length ts) s)

module _ (program : Program) where
  -- a fun of the function of number n, which captured us, is applied at this depth
  abbrev pub applies_fun : Term → (n : ℕ) → (us ts : List Term) → (depth : ℕ) → State → Waiting → Run
  applies_fun t n us ts d s w = if arity_of program n == length ts then calls_by_fuel program n us ts d s w.handler w.next else bad_arity t ts s w

  -- the body of a function is entered at this depth: it claims its frame
  abbrev pub enters_body : Procedure → (captured ts : List Term) → (depth : ℕ) → State → Waiting → Run
  enters_body f captured ts d s w =
      evaluates program f.body (at_entry program (unlimited program) f captured ts (d + claim_of f) d) (entering (d + claim_of f) (length captured) s) w

  -- a function is entered with as many arguments as it has parameters
  abbrev pub enters_counted : Procedure → (captured ts : List Term) → (depth : ℕ) → State → Waiting → Run
  enters_counted f captured ts d s w = with_count (length f.parameters) ts s (enters_body f captured ts d s w)
