use Rattle.image_link.proofs.CallFields.{calls_lead}
use Rattle.image_link.proofs.laws.calls_lead.Goals as goal

pub returns : goal.returns
returns c = calls_lead
