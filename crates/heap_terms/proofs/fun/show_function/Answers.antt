use Rattle.std.proofs.Common.{map, sym, ap, ◌∙◌}
use Rattle.hipe_terms.specs.Shown.{function_text}
use Rattle.hipe_terms.proofs.Texts.{after_three}
use Rattle.heap_terms.specs.Seen.{name_of}
use Rattle.heap_terms.proofs.Named.{named_function}
use Rattle.heap_terms.proofs.fun.show_function.Goals as goal

pub returns-in_ok-show_number-in-Some : goal.returns-in_ok-show_number-in-Some
returns-in_ok-show_number-in-Some c =
    let (_, at, _, (within, _), _) = c.in-Some.ensures.lookup in
    after_three _ _ _ _ c.in_ok-show_atom-in-Some.ensures.ok c.in_ok-push_str-in-Some.ensures.bytes c.in_ok-show_number-in-Some.ensures
    (ap (λ ds. function_text (map name_of ds) c.args.n) (sym c.deref.ensures.value)
    ∙ named_function c.deref.result.now c.args.n c.in-Some.definition.now within at)
