use Rattle.image_load_tests.proofs.Parts.{all_fit}
use Rattle.image_load_tests.proofs.image.image.Goals as goal

pub link-requires-clause-parts : goal.link-requires-clause-parts
link-requires-clause-parts c = all_fit _ _ c.in_ok-parts.ensures.1
