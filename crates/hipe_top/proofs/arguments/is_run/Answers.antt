use Rattle.std.specs.Prelude.{codes}
use Rattle.std.specs.String.{string_bytes}
use Rattle.hipe_top.proofs.Command.{two, second_decides}
use Rattle.hipe_top.proofs.arguments.is_run.Goals as goal

pub returns-then-eq : goal.returns-then-eq
returns-then-eq c =
    second_decides string_bytes c.args.arguments.now c.mode-item.result c.call-item.result (codes "run") (codes "'main'()") c.as_str.result.now c.as_str-then-eq.result.now c.eq.result c.eq-then-eq.result
    (two c.args.arguments.now c.mode-item.result c.call-item.result c.in-len2.len_at_least c.in-len2.len_below c.mode-item.is c.call-item.is)
    c.as_str.ensures.value c.as_str-then-eq.ensures.value c.eq.ensures c.eq-then-eq.ensures c.if-eq.true
