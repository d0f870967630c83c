use Rattle.core_token.proofs.Cuts.{unique}
use Rattle.core_token.proofs.laws.tokens_are_unique.Goals as goal

pub returns : goal.returns
returns c = unique
