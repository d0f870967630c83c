use Rattle.core_round_trip.proofs.RoundTrip.{fits_back}
use Rattle.core_round_trip.proofs.laws.within_limits_reads_back.Goals as goal

pub returns : goal.returns
returns c = fits_back
