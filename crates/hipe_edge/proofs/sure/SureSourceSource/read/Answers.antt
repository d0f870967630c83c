use Rattle.std.proofs.Common.{rules, sym, ◌∙◌}
use Rattle.hipe_edge.proofs.Known.{read_prefix}
use Rattle.hipe_edge.proofs.sure.SureSourceSource.read.Goals as goal

pub returns-clause-taken : goal.returns-clause-taken
returns-clause-taken c =
    sym c.self.view_is ∙ read_prefix c.min-n.result _ _ _ _ _ c.deref.ensures.value c.copy_from_slice.ensures.after (search rules)
