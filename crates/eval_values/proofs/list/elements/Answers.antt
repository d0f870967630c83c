use Rattle.std.proofs.Common.{ap, ◌∙◌, ◌++◌, option_map}
use Rattle.hipe_terms.specs.Outcome.{elements}
use Rattle.eval_values.specs.Values.{term_in, terms_in}
use Rattle.eval_values.proofs.Spines.{elements_more, elements_done}
use Rattle.eval_values.proofs.list.elements.Goals as goal

pub loop-rest-preserved : goal.loop-rest-preserved
loop-rest-preserved c =
    ap (λ l. option_map (λ ts. terms_in l ++ ts) (elements (term_in (c.in-Cons.cell.now).tail))) (c.in_ok-push.ensures).items
    ∙ elements_more c.loop-rest.rest c.in-Cons.cell c.loop-rest.found.items (elements (term_in c.args.list)) c.in-Cons.is c.loop-rest.invariant

pub returns-in-Nil : goal.returns-in-Nil
returns-in-Nil c = elements_done c.loop-rest.rest c.loop-rest.found.items (elements (term_in c.args.list)) c.in-Nil.is c.loop-rest.invariant
