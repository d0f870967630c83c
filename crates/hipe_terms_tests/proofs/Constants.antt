-- Constants by what they are made of.
use Rattle.hipe_terms.proofs.Levels.{levels}

pub ruleset constants = (levels)
