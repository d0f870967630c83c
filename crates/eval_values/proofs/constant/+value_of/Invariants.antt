use Rattle.std.proofs.Common.{◌≡◌, ◌++◌, drop, map}
use Rattle.hipe_terms.specs.Terms.{term_of}
use Rattle.eval_values.specs.Values.{terms_in}
use Rattle.eval_values.proofs.constant.+value_of.Given as goal

abbrev pub invariant-values_of-loop-part : goal.invariant-values_of-loop-part
invariant-values_of-loop-part l = terms_in l.values.items ++ map term_of (drop l.part-index l.parts) ≡ map term_of l.parts
