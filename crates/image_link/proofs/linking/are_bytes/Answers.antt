use Rattle.std.proofs.Common.{◌<◌, ◌^◌, sym, subst}
use Rattle.std.proofs.Math.Facts.{Fits-lt-pow}
use Rattle.std.proofs.lemmas.List.{get_or_default}
use Rattle.image_link.proofs.linking.are_bytes.Goals as goal

pub returns : goal.returns
returns c k d below = subst (λ b. b < 2 ^ 8) (sym (get_or_default c.args.code.now k d 0 below)) (Fits-lt-pow (c.type_inv.code k))
