use Rattle.core_parser.proofs.Answering.{some_call_answer}
use Rattle.core_parser.proofs.OneAnswer.{one_call_answer, refused_derives_no_call}
use Rattle.core_parser.proofs.laws.one_call_answer.Goals as goal

pub returns : goal.returns
returns c = record { some = some_call_answer; one = one_call_answer; none = refused_derives_no_call }
