use Rattle.core_token.proofs.Longest.{longest}
use Rattle.core_token.proofs.laws.tokens_are_longest.Goals as goal

pub returns : goal.returns
returns c = longest
