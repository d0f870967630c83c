use Rattle.hipe_top.proofs.Answering.{some}
use Rattle.hipe_top.proofs.Unique.{one}
use Rattle.hipe_top.proofs.top.one_answer.Goals as goal

pub returns : goal.returns
returns c = record { some = some; one = one }
