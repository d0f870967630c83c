use Rattle.hipe_top.proofs.Command.{no_mode, denied}
use Rattle.hipe_top.proofs.arguments.mode_of.Goals as goal

pub returns-else-is_run : goal.returns-else-is_run
returns-else-is_run c =
    no_mode _ (denied c.is_check.result c.is_check.ensures c.if-is_check.false) (denied c.is_run.result c.is_run.ensures c.if-is_run.false)
