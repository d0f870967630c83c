use Rattle.hipe_terms.proofs.Texts.{after_three}
use Rattle.eval_text.proofs.Named.{named_function}
use Rattle.eval_text.proofs.fun.show_function.Goals as goal

pub returns-in_ok-show_number-in-Some : goal.returns-in_ok-show_number-in-Some
returns-in_ok-show_number-in-Some c =
    let (_, at, _, (within, _), _) = c.in-Some.ensures.lookup in
    after_three _ _ _ _ c.in_ok-show_atom-in-Some.ensures.ok c.in_ok-push_str-in-Some.ensures.bytes c.in_ok-show_number-in-Some.ensures
    (named_function c.args.defs.now c.args.n c.in-Some.def.now within at)
