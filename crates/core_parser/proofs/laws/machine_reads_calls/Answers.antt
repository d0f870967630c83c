use Rattle.core_parser.proofs.OneAnswer.{reads_derived_calls, derives_read_calls, stops_at_refused_calls, refused_calls_where_stops}
use Rattle.core_parser.proofs.laws.machine_reads_calls.Goals as goal

pub returns : goal.returns
returns c = record { derived = reads_derived_calls; read = derives_read_calls; refused = stops_at_refused_calls; stopped = refused_calls_where_stops }
