use Rattle.std.proofs.Common.{◌≡◌, ◌+◌, drop, sum, map}
use Rattle.hipe_terms.specs.Words.{words_of}
use Rattle.hipe_terms.proofs.words.+words.Given as goal

abbrev pub invariant-words_of_each-loop-part : goal.invariant-words_of_each-loop-part
invariant-words_of_each-loop-part l = l.words + sum (map words_of (drop l.part-index l.parts)) ≡ sum (map words_of l.parts)
