use Rattle.core_round_trip.proofs.RoundTrip.{reads_back}
use Rattle.core_round_trip.proofs.laws.printed_reads_back.Goals as goal

pub returns : goal.returns
returns c = reads_back
