use Rattle.std.proofs.Common.{◌≡◌, ◌++◌, option_map}
use Rattle.hipe_terms.specs.Outcome.{elements}
use Rattle.eval_values.specs.Values.{term_in, terms_in}
use Rattle.eval_values.proofs.list.elements.Given as goal

abbrev pub invariant-loop-rest : goal.invariant-loop-rest
invariant-loop-rest l = option_map (λ ts. terms_in l.found.items ++ ts) (elements (term_in l.rest)) ≡ elements (term_in l.fn.list)
