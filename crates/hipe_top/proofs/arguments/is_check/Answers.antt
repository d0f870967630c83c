use Rattle.std.specs.Prelude.{codes}
use Rattle.std.specs.String.{string_bytes}
use Rattle.hipe_top.proofs.Command.{first_decides}
use Rattle.hipe_top.proofs.arguments.is_check.Goals as goal

pub returns-in-len1 : goal.returns-in-len1
returns-in-len1 c =
    first_decides string_bytes c.args.arguments.now c.mode-item.result (codes "check") c.as_str.result.now c.eq.result
    c.in-len1.len_at_least c.in-len1.len_below c.mode-item.is c.as_str.ensures.value c.eq.ensures
