use Rattle.core_ast.specs.Trees.{module_of}
use Rattle.eval_run.specs.Evaluations.{run_in}
use Rattle.core_meaning.specs.Output.{shown_names}
use Rattle.core_meaning.specs.Procedures.{program_of}
use Rattle.core_meaning.specs.Source.{source_run}
use Rattle.eval_text.specs.Named.{names_of}
use Rattle.eval_source.proofs.Naming.{has_line, names_are, writes_same}
use Rattle.eval_source.proofs.run.run_call.Goals as goal

pub lines_of-requires : goal.lines_of-requires
lines_of-requires c =
    let m = module_of c.args.good.now.tree in
    has_line (names_of c.as_slice.result.now) c.in_ok-run.run' (source_run m c.args.call.now c.args.fuel) c.in_ok-run.ensures
    (c.good_modules_never_stick.ensures.never m c.args.good.now.good c.args.call.now c.args.fuel)

pub returns : goal.returns
returns c =
    let m = module_of c.args.good.now.tree in
    writes_same c.lines_of.result (names_of c.as_slice.result.now) (shown_names (program_of m)) c.args.fuel (run_in c.in_ok-run.run') (source_run m c.args.call.now c.args.fuel)
    (names_are c.args.good.now.tree.defs c.as_slice.result.now c.as_slice.ensures) c.in_ok-run.ensures c.lines_of.ensures
