use Rattle.core_reader.proofs.Meanings.{terminals_mean}
use Rattle.core_reader.proofs.laws.terminals_mean.Goals as goal

pub returns : goal.returns
returns c = terminals_mean
