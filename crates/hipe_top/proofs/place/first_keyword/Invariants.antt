use Rattle.std.proofs.Common.{◌≡◌, drop}
use Rattle.hipe_top.specs.Finding.{first_keyword}
use Rattle.hipe_top.proofs.place.first_keyword.Given as goal

abbrev pub invariant-loop-token : goal.invariant-loop-token
invariant-loop-token l = first_keyword l.text (drop l.token-index l.tokens) ≡ first_keyword l.text l.tokens
