use Rattle.std.proofs.Common.{◌≡◌, ap, ◌∙◌, length, map}
use Rattle.std.specs.Prelude.{sum}
use Rattle.hipe_terms.specs.Terms.{term_of}
use Rattle.hipe_terms.specs.Words.{words_of}
use Rattle.core_ast.specs.Trees.{module_of}
use Rattle.eval_contexts.specs.Programs.{program_in}
use Rattle.core_meaning.specs.Meaning.{State, exported}
use Rattle.eval_values.specs.Values.{terms_in}
use Rattle.eval_run.specs.Configurations.{known}
use Rattle.eval_run.specs.Starts.{started}
use Rattle.eval_run.proofs.Applications.{started_is}
use Rattle.eval_run.proofs.machine.eval_call.Goals as goal

pub returns : goal.returns
unfolding known
returns c =
    let p = program_in c.in_ok-program.program in
    let vs = c.as_slice-given.result.now in
    let e : terms_in vs ≡ map term_of c.args.call.now.args = ap terms_in c.as_slice-given.ensures.value ∙ c.in_ok-arguments.ensures ∙ ap (map term_of) c.as_slice.ensures in
    c.ended.ensures ∙ c.in_ok-ending.ensures
    ∙ ap (λ (s : State). started p (exported p (record { name = c.args.call.now.name; arity = length vs })) (terms_in vs) (sum (map words_of c.args.call.now.args)) s) c.at_start-run.ensures.state
    ∙ started_is p (module_of c.args.m.now) c.args.call.now c.args.fuel vs c.in_ok-program.ensures e
