use Rattle.core_reader.proofs.Answering.{some_call_answer}
use Rattle.core_reader.proofs.Unique.{one_call_answer, refused_reads_no_call}
use Rattle.core_reader.proofs.laws.one_call_answer.Goals as goal

pub returns : goal.returns
returns c = record { some = some_call_answer; one = one_call_answer; none = refused_reads_no_call }
