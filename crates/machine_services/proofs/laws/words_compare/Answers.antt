use Rattle.machine_services.proofs.TermOrder.{words_compare}
use Rattle.machine_services.proofs.laws.words_compare.Goals as goal

pub returns : goal.returns
returns c = words_compare
