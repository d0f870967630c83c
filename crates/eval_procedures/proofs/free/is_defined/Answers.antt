use Rattle.std.proofs.Common.{sym, ◌∙◌}
use Rattle.core_ast.specs.Names.{is_named}
use Rattle.eval_procedures.proofs.Referred.{named_here, named_later}
use Rattle.eval_procedures.proofs.free.is_defined.Goals as goal

pub returns-then-is_named : goal.returns-then-is_named
returns-then-is_named c = named_here (λ f. is_named f c.args.name.now) c.def-item.result c.args.defs.now c.loop-def.def-index _ c.loop-def-test.true c.def-item.is (sym c.is_named.ensures ∙ c.if-is_named.true) c.loop-def.invariant

pub loop-def-preserved : goal.loop-def-preserved
loop-def-preserved c = named_later (λ f. is_named f c.args.name.now) c.def-item.result c.args.defs.now c.loop-def.def-index _ c.loop-def-test.true c.def-item.is (sym c.is_named.ensures ∙ c.if-is_named.false) c.loop-def.invariant
