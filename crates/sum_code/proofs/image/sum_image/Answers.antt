use Rattle.std.proofs.Common.{subst, sym}
use Rattle.core_sum.specs.Sums.{value}
use Rattle.sum_code.specs.Code.{EndsWith}
use Rattle.sum_code.proofs.Meaning.{parts_are, fits, image_is, means}
use Rattle.sum_code.proofs.image.sum_image.Goals as goal

pub unreachable-requires : goal.unreachable-requires
unreachable-requires c =
    fits c.args.e.now c.push.new.self.items c.in_ok-names.names c.in-Err-TooLarge.field-0 c.in-Err-TooLarge.field-0-0
    (parts_are c.args.e.now c.new-parts.result.items c.in_ok-part_for.field-0 c.push.new.self.items (c.in_ok-push.ensures).items c.new-parts.ensures.items c.in_ok-part_for.ensures)
    c.in-Err-TooLarge.field-0-is c.in-Err-TooLarge.ensures c.requires.few

pub returns-in-Ok-clause-meaning : goal.returns-in-Ok-clause-meaning
returns-in-Ok-clause-meaning c =
    subst (λ image. EndsWith image (value c.args.e.now))
    (sym (image_is c.args.name.now c.args.e.now c.push.new.self.items c.in_ok-names.names c.in-Ok.image
    (parts_are c.args.e.now c.new-parts.result.items c.in_ok-part_for.field-0 c.push.new.self.items (c.in_ok-push.ensures).items c.new-parts.ensures.items c.in_ok-part_for.ensures)
    c.in_ok-names.ensures (c.in-Ok.ensures).0))
    (means c.args.name.now c.args.e.now c.requires.small c.requires.few)
