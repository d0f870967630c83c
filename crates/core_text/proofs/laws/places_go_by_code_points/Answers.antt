use Rattle.core_text.proofs.Columns.{by_points}
use Rattle.core_text.proofs.laws.places_go_by_code_points.Goals as goal

pub returns : goal.returns
returns c = by_points
