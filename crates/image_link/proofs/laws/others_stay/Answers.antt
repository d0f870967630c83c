use Rattle.image_link.proofs.CallFields.{others_stay}
use Rattle.image_link.proofs.laws.others_stay.Goals as goal

pub returns : goal.returns
returns c = others_stay
