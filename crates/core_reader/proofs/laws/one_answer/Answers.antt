use Rattle.core_reader.proofs.Answering.{some_answer}
use Rattle.core_reader.proofs.Unique.{one_answer, refused_reads_none}
use Rattle.core_reader.proofs.laws.one_answer.Goals as goal

pub returns : goal.returns
returns c = record { some = some_answer; one = one_answer; none = refused_reads_none }
