use Rattle.std.proofs.Common.{◌≡◌, ◌+◌, drop, sum, map}
use Rattle.hipe_terms.specs.Words.{words_of}
use Rattle.eval_values.proofs.constant.+words_of.Given as goal

abbrev pub invariant-words_of_all-loop-part : goal.invariant-words_of_all-loop-part
invariant-words_of_all-loop-part l = l.words + sum (map words_of (drop l.part-index l.parts)) ≡ sum (map words_of l.parts)
