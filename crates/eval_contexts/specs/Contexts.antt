-- The contexts of expressions that those of the code stand for.
use Rattle.std.specs.Prelude.{ℕ, List}
use denote.Bor.{Bor}
use Rattle.hipe_terms.specs.Terms.{Term}
use Rattle.core_meaning.specs.Meaning as Meant
use Rattle.eval_procedures.specs.Shown.{scope_in}
use Rattle.eval_values.specs.declared.value.Value.{Value}
use Rattle.eval_values.specs.Values.{terms_in}
use Rattle.eval_contexts.specs.declared.context.Context.{Context}

-- the context of an expression
abbrev pub context_in : Context → Meant.Context
context_in c = record { scope = scope_in c.scope; bound = terms_in c.bound.now; number = c.number; inner = c.inner; depth = c.depth }

-- a function's number and the values that it captured
abbrev pub captured_in : ℕ × Bor (List Value) → ℕ × List Term
captured_in f = (f.0, terms_in (f.1).now)
