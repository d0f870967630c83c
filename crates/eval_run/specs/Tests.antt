-- Clauses that are tried.
use Rattle.std.specs.Prelude.{ℕ, ◌+◌, Bool, true, false, List, map, Option, Some, None}
use Rattle.hipe_terms.specs.Terms.{Term, terms}
use Rattle.core_ast.specs.declared.tree.Clause.{Clause}
use Rattle.core_ast.specs.declared.tree.Expr.{Expr}
use Rattle.core_ast.specs.Trees.{Expression, Clauses, clauses, clause_of, expression_of}
use Rattle.core_meaning.specs.Matching.{Match, matched_all}
use Rattle.core_meaning.specs.Meaning.{State, Run, Context, part, behind, with}
use Rattle.core_meaning.specs.Procedures.{Program}
use Rattle.core_meaning.specs.Scopes.{bound_by, funs}
use Rattle.eval_contexts.specs.declared.context.Context as Code
use Rattle.eval_contexts.specs.Contexts.{context_in}
use Rattle.eval_values.specs.declared.value.Value.{Value}
use Rattle.eval_values.specs.Values.{terms_in}
use Rattle.eval_run.specs.Waiting.{Waiting, evaluates, chooses, guard_waits}

module _ (program : Program) where
  -- the guard of a clause with this body is true or not
  abbrev pub guarded : Bool → Expression → Clauses → List Term → Context → Context → State → Waiting → Run
  guarded true body cs ts c d s w = evaluates program body d s w
  guarded false body cs ts c d s w = chooses program cs ts c s w

  -- the first clause, where its patterns match so
  abbrev pub tries : Option (List Term) → List (List ℕ) → (guard body : Expression) → Clauses → List Term → Context → State → Waiting → Run
  tries None xs guard body cs ts c s w = chooses program cs ts (behind (funs guard + funs body) c) s w
  tries (Some us) xs guard body cs ts c s w =
      evaluates program guard (part (with xs us c)) s (guard_waits program body cs ts (behind (funs guard + funs body) c) (with xs us (behind (funs guard) c)) w)

  -- the guard of a clause of the code is true or not, where these clauses stand behind it
  abbrev pub guarded_clause : Bool → Expr → List Clause → List Value → (behind inside : Code.Context) → State → Waiting → Run
  guarded_clause b body rest values c d s w = guarded b (expression_of body) (clauses (map clause_of rest)) (terms_in values) (context_in c) (context_in d) s w

  -- the first clause of the code, where its patterns match so and these clauses stand behind it
  abbrev pub tries_clause : Match → Clause → List Clause → List Value → Code.Context → State → Waiting → Run
  tries_clause bound first rest values c s w =
      tries bound (bound_by (clause_of first).patterns) (clause_of first).guard (clause_of first).body (clauses (map clause_of rest)) (terms_in values) (context_in c) s w

-- what the patterns of a clause bind, where each matches its value
abbrev pub matched_by : Clause → List Value → Match
matched_by first values = matched_all (clause_of first).patterns (terms (terms_in values))
