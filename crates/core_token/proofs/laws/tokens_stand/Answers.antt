use Rattle.core_token.proofs.Valued.{stand, in_order}
use Rattle.core_token.proofs.laws.tokens_stand.Goals as goal

pub returns : goal.returns
returns c = record { stand = stand; in_order = in_order }
