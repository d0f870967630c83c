use Rattle.std.proofs.Common.{◌∷◌, [], map, refl, arith}
use Rattle.core_ast.specs.Trees.{expression_of, expressions, clause_of, clauses, definition_of, definitions}
use Rattle.core_print.specs.Printed.{pieces, each, clauses_pieces, definitions_pieces}
use Rattle.core_print.proofs.Printing.{commas_step, commas_done, each_step, clauses_more, definitions_more}
use Rattle.core_print.proofs.expression.+expression.Goals as goal

pub expressions-loop-i-preserved : goal.expressions-loop-i-preserved
expressions-loop-i-preserved t c =
    commas_step (λ e. pieces c.args.level (expression_of e)) (λ es. each c.args.level (expressions (map expression_of es))) (λ e es. refl) c.args.list.now c.loop-i.i c.index-list-i.result _ c.loop-i-test.true c.index-list-i.is c.in_ok-comma.ensures c.in_ok-expression.ensures c.loop-i.invariant

pub expressions-returns : goal.expressions-returns
expressions-returns t c = commas_done (λ es. each c.args.level (expressions (map expression_of es))) refl c.args.list.now c.loop-i.i c.args.opening.now _ (omega arith) c.in_ok-sign.ensures c.loop-i.invariant

pub clauses-loop-c-preserved : goal.clauses-loop-c-preserved
clauses-loop-c-preserved t c =
    each_step (λ b. clauses_pieces c.args.level (clauses (clause_of b ∷ []))) (λ bs. clauses_pieces c.args.level (clauses (map clause_of bs))) (λ b bs. clauses_more c.args.level (clause_of b) (map clause_of bs)) c.args.list.now c.loop-c.c-index c.c-item.result _ c.loop-c-test.true c.c-item.is c.in_ok-clause.ensures c.loop-c.invariant

pub definitions-loop-def-preserved : goal.definitions-loop-def-preserved
definitions-loop-def-preserved t c =
    each_step (λ d. definitions_pieces c.args.level (definitions (definition_of d ∷ []))) (λ ds. definitions_pieces c.args.level (definitions (map definition_of ds))) (λ d ds. definitions_more c.args.level (definition_of d) (map definition_of ds)) c.args.list.now c.loop-def.def-index c.def-item.result _ c.loop-def-test.true c.def-item.is c.in_ok-definition.ensures c.loop-def.invariant
