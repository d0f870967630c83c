use Rattle.std.proofs.Common.{ap, sym, ◌∙◌}
use Rattle.core_ast.specs.Trees.{expression_of, definition_of}
use Rattle.core_sum.specs.Made.{sum_in}
use Rattle.core_sum.proofs.Parts.{body_is, alone_is, other_is}
use Rattle.core_sum.proofs.module.alone.Goals as goal

pub returns-in-empty : goal.returns-in-empty
returns-in-empty c =
    alone_is (definition_of c.args.def.now).function.body c.in-Some.sum c.args.others.now
    (ap sum_in (body_is c.args.def.now ∙ ap expression_of (sym c.get-body.ensures)) ∙ sym c.in_ok-sum.ensures ∙ c.in-Some.is) c.in-empty.len_below

pub returns-in-len1-up : goal.returns-in-len1-up
returns-in-len1-up c =
    other_is (definition_of c.args.def.now).function.body c.in-Some.sum c.args.others.now c.other-item.result
    (ap sum_in (body_is c.args.def.now ∙ ap expression_of (sym c.get-body.ensures)) ∙ sym c.in_ok-sum.ensures ∙ c.in-Some.is) c.in-len1-up.len_at_least c.other-item.is
