use Rattle.core_text.proofs.Points.{point_there, point_read}
use Rattle.core_text.proofs.Scalars.{point_scalar}
use Rattle.core_text.proofs.laws.code_points_are_read.Goals as goal

pub returns : goal.returns
returns c = record { read = point_there; spelled = point_read; scalar = point_scalar }
