-- What a built-in function's result on values says of terms.
use Rattle.std.specs.Prelude.{ℕ, List, [], ◌∷◌, Option, Some, None, slice_get}
use Rattle.hipe_terms.specs.Outcome as Meant
use Rattle.hipe_terms.specs.Terms.{Term}
use Rattle.eval_values.specs.declared.value.Value.{Value}
use Rattle.eval_values.specs.declared.result.End as RustEnd
use Rattle.eval_values.specs.declared.result.End.TheVariants as Ends
use Rattle.eval_values.specs.declared.result.Outcome as RustOutcome
use Rattle.eval_values.specs.Values.{term_in}

-- how the call ends, with a value or a reason as a term
abbrev pub end_in : RustEnd.End → Meant.End
end_in (Ends.Value v) = Meant.End.value (term_in v)
end_in (Ends.Raised class reason) = Meant.End.raised class (term_in reason)

-- the term that is printed, if there is one
abbrev pub printed_in : Option Value → List Term
printed_in None = []
printed_in (Some v) = term_in v ∷ []

-- the outcome that a result stands for
abbrev pub outcome_in : RustOutcome.Outcome → Meant.Outcome
outcome_in o = record { end = end_in o.end; printed = printed_in o.printed; words = o.words }

-- the arity, and 0 where there is no function
abbrev pub arity_in : Option ℕ → ℕ
arity_in None = 0
arity_in (Some n) = n

-- the arity of each function by its number, and 0 for a number that no function has
abbrev pub arities_in : List ℕ → ℕ → ℕ
arities_in arities n = arity_in (slice_get arities n)
