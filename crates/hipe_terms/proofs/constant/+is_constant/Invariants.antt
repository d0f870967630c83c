use Rattle.std.proofs.Common.{◌≡◌, map, drop}
use Rattle.hipe_terms.specs.Constants.{are_all_good, form_of}
use Rattle.hipe_terms.proofs.constant.+is_constant.Given as goal

abbrev pub invariant-are_constants-loop-part : goal.invariant-are_constants-loop-part
invariant-are_constants-loop-part l = are_all_good (map form_of (drop l.part-index l.parts)) ≡ are_all_good (map form_of l.parts)
