use Rattle.std.proofs.Common.{◌∙◌, ap, length, arith}
use Rattle.std.specs.Str.{chars}
use Rattle.sum_code.proofs.Names.{chars_of_main}
use Rattle.sum_code.proofs.image.main_name.Goals as goal

pub unreachable-requires : goal.unreachable-requires
unreachable-requires c =
    omega (arith, (c.in-Err.ensures).1, ap (λ t. length (chars t)) (c.in_ok-from_str.ensures).ok, ap length chars_of_main)

pub returns : goal.returns
returns c = c.in-Ok.ensures ∙ ap chars (c.in_ok-from_str.ensures).ok ∙ chars_of_main
