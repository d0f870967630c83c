use Rattle.core_parser.proofs.OneAnswer.{reads_derived_modules, derives_read_modules, stops_at_refused_modules, refused_modules_where_stops}
use Rattle.core_parser.proofs.laws.machine_reads_modules.Goals as goal

pub returns : goal.returns
returns c = record { derived = reads_derived_modules; read = derives_read_modules; refused = stops_at_refused_modules; stopped = refused_modules_where_stops }
