use Rattle.eval_source.proofs.Answering.{some}
use Rattle.eval_source.proofs.Unique.{one}
use Rattle.eval_source.proofs.top.one_answer.Goals as goal

pub returns : goal.returns
returns c = record { some = some; one = one }
