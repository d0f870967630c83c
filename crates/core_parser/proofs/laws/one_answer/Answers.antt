use Rattle.core_parser.proofs.Answering.{some_module_answer}
use Rattle.core_parser.proofs.OneAnswer.{one_module_answer, refused_derives_no_module}
use Rattle.core_parser.proofs.laws.one_answer.Goals as goal

pub returns : goal.returns
returns c = record { some = some_module_answer; one = one_module_answer; none = refused_derives_no_module }
