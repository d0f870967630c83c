use Rattle.core_token.proofs.Cuts.{tokens_read, tokens_there, fault_found, fault_held}
use Rattle.core_token.proofs.laws.tokens_are_read.Goals as goal

pub returns : goal.returns
returns c = record { tokens_read = tokens_read; tokens_there = tokens_there; fault_read = fault_found; fault_there = fault_held }
